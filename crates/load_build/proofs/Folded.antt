-- The folds of rows by partition and bucket are what the base gets of them.
use Rattle.std.proofs.Common.{◌≡◌, ◌∙◌, ℕ, zero, suc, ◌+◌, Bool, true, false, cond, List, [], ◌∷◌, ◌++◌, None, Result, Ok, Err, IfOk, length, map, filter, flat_map, refl, sym, ap}
use Rattle.std.proofs.lemmas.List.{map-append}
use Rattle.std.proofs.lemmas.List.Elements.{filter-append}
use Rattle.std.specs.List.{list_any, range_with_len}
use Rattle.dl_values.specs.declared.cell.Cell.{Cell}
use Rattle.partitions.specs.LayoutView.{LayoutView}
use Rattle.partitions.specs.Places.{Place, buckets_at, lies_in}
use Rattle.schema_models.specs.ShapeView.{ShapeView}
use Rattle.shadow_writes.specs.declared.built.TabletRows.{TabletRows}
use Rattle.front_defs.specs.Indexes.{Index}
use Rattle.front_defs.specs.May.{SetsOf}
use Rattle.front_defs.specs.Stored.{PlacedRows, set_at}
use Rattle.load_build.specs.Folding.{AreFoldsOfParts, folds_from, part_folds}
use Rattle.load_build.specs.PartLists.{PartLists}
use Rattle.load_build.specs.Spreading.{part_at, rows_in, spread_rows}

module _ (s : ShapeView) (l : LayoutView) (rows : List (List Cell)) where
  abbrev base : Index
  base = record { shape = s; map = None }

  abbrev touched : Place → Bool
  touched w = list_any (lies_in l w.part) rows

  buckets_fold : (part a n : ℕ) → folds_from s part a (map (rows_in l rows part) (range_with_len a n)) ≡ map (set_at l base rows) (map (λ b. record { part = part; bucket = b }) (range_with_len a n))
  buckets_fold part a zero = refl
  buckets_fold part a (suc n) = ap (λ (x : List PlacedRows). set_at l base rows (record { part = part; bucket = a }) ∷ x) (buckets_fold part (a + 1) n)

  -- the buckets of a partition are touched together
  kept : (part a n : ℕ) (b : Bool) → list_any (lies_in l part) rows ≡ b → filter touched (map (λ c. record { part = part; bucket = c }) (range_with_len a n)) ≡ cond b (map (λ c. record { part = part; bucket = c }) (range_with_len a n)) []
  kept part a zero true e = refl
  kept part a zero false e = refl
  kept part a (suc n) true e = rw e (ap (λ (x : List Place). record { part = part; bucket = a } ∷ x) (kept part (a + 1) n true e))
  kept part a (suc n) false e = rw e (kept part (a + 1) n false e)

  part_fold : (part : ℕ) → part_folds s (part_at l rows part) ≡ map (set_at l base rows) (filter touched (buckets_at l.buckets part))
  part_fold part = go (list_any (lies_in l part) rows) refl
    where
      go : (b : Bool) → list_any (lies_in l part) rows ≡ b → folds_from s part 0 (cond b (map (rows_in l rows part) (range_with_len 0 l.buckets)) []) ≡ map (set_at l base rows) (filter touched (buckets_at l.buckets part))
      go true e = buckets_fold part 0 l.buckets ∙ sym (ap (map (set_at l base rows)) (kept part 0 l.buckets true e))
      go false e = sym (ap (map (set_at l base rows)) (kept part 0 l.buckets false e))

  parts_fold : (ps : List ℕ) → flat_map (part_folds s) (map (part_at l rows) ps) ≡ map (set_at l base rows) (filter touched (flat_map (buckets_at l.buckets) ps))
  parts_fold [] = refl
  parts_fold (p ∷ ps) =
      ap (λ (x : List PlacedRows). x ++ flat_map (part_folds s) (map (part_at l rows) ps)) (part_fold p)
      ∙ ap (λ (x : List PlacedRows). map (set_at l base rows) (filter touched (buckets_at l.buckets p)) ++ x) (parts_fold ps)
      ∙ sym (map-append (set_at l base rows) (filter touched (buckets_at l.buckets p)) (filter touched (flat_map (buckets_at l.buckets) ps)))
      ∙ sym (ap (map (set_at l base rows)) (filter-append touched (buckets_at l.buckets p) (flat_map (buckets_at l.buckets) ps)))

pub folds_are_sets : (s : ShapeView) (l : LayoutView) (rows : List (List Cell)) (parts : List PartLists) (sets : List TabletRows) → parts ≡ spread_rows l rows → AreFoldsOfParts s parts sets → SetsOf l (record { shape = s; map = None }) rows sets
folds_are_sets s l rows parts sets e are =
    record { made = are.made; folded = are.seen ∙ ap (flat_map (part_folds s)) e ∙ parts_fold s l rows (range_with_len 0 (length l.parts)) }

pub folds_give : {E : Type 0} (s : ShapeView) (l : LayoutView) (rows : List (List Cell)) (parts : List PartLists) (made : Result (List TabletRows) E) → parts ≡ spread_rows l rows → IfOk made (AreFoldsOfParts s parts) → IfOk made (SetsOf l (record { shape = s; map = None }) rows)
folds_give s l rows parts (Ok sets) e are = folds_are_sets s l rows parts sets e are
folds_give s l rows parts (Err x) e are = tt
