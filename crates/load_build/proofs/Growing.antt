-- A row more, put at its place, gives the rows by partition and bucket with that row.
use Rattle.std.proofs.Common.{◌≡◌, ◌∙◌, ℕ, zero, suc, ◌+◌, ◌<◌, Bool, true, false, cond, ◌&&◌, ◌||◌, List, [], ◌∷◌, ◌++◌, Option, Some, None, length, map, get_or, refl, sym, take, ap, arith, append-nil, nat_eq}
use Rattle.std.proofs.lemmas.Bool.Decides.{nat_tests}
use Rattle.std.proofs.lemmas.List.{take_more}
use Rattle.std.proofs.lemmas.List.Elements.{filter-append}
use Rattle.std.proofs.lemmas.List.FromFn.{get_or-map-range_with_len}
use Rattle.std.specs.List.{AllByRecursion, list_any, range_with_len}
use Rattle.dl_values.specs.declared.cell.Cell.{Cell}
use Rattle.fold_laws.proofs.Filters.{filter_keeps}
use Rattle.partitions.specs.LayoutView.{LayoutView}
use Rattle.partitions.specs.Places.{Place, is_at, is_in, lies_at, lies_in, place_for}
use Rattle.schema_models.specs.RowRules.{IsOfShape}
use Rattle.schema_models.specs.ShapeView.{ShapeView}
use Rattle.load_build.specs.PartLists.{AreShaped, PartLists, list_with, no_lists, no_rows, opened_lists, with_placed, with_row}
use Rattle.load_build.specs.Spreading.{lists_at, part_at, rows_in, spread_rows}
use Rattle.load_build.proofs.Ranges.{any_more, map_same, or_true, set_range}

abbrev place_at : ℕ → ℕ → Place
place_at part bucket = record { part = part; bucket = bucket }

-- ---- the rows of a bucket, with a row more

rows_more : (l : LayoutView) (rows : List (List Cell)) (row : List Cell) (part bucket : ℕ) (b : Bool) → lies_at l (place_at part bucket) row ≡ b → rows_in l (rows ++ row ∷ []) part bucket ≡ rows_in l rows part bucket ++ cond b (row ∷ []) []
rows_more l rows row part bucket b e =
    filter-append (lies_at l (place_at part bucket)) rows (row ∷ [])
    ∙ ap (λ (c : Bool). rows_in l rows part bucket ++ cond c (row ∷ []) []) e

rows_stay : (l : LayoutView) (rows : List (List Cell)) (row : List Cell) (part bucket : ℕ) → lies_at l (place_at part bucket) row ≡ false → rows_in l (rows ++ row ∷ []) part bucket ≡ rows_in l rows part bucket
rows_stay l rows row part bucket e = rows_more l rows row part bucket false e ∙ append-nil (rows_in l rows part bucket)

-- a row outside a partition is in none of its buckets
outside : (part bucket : ℕ) (o : Option Place) → is_in part o ≡ false → is_at (place_at part bucket) o ≡ false
outside part bucket None e = refl
outside part bucket (Some w) e = ap (λ (b : Bool). b && nat_eq w.bucket bucket) e

-- a partition that a row does not lie in stays as it is
part_stays : (l : LayoutView) (rows : List (List Cell)) (row : List Cell) (part : ℕ) → lies_in l part row ≡ false → part_at l rows part ≡ part_at l (rows ++ row ∷ []) part
part_stays l rows row part e =
    let any : list_any (lies_in l part) (rows ++ row ∷ []) ≡ list_any (lies_in l part) rows = any_more (lies_in l part) rows row ∙ ap (λ (b : Bool). list_any (lies_in l part) rows || b) e ∙ or_false (list_any (lies_in l part) rows) in
    let each : map (rows_in l rows part) (range_with_len 0 l.buckets) ≡ map (rows_in l (rows ++ row ∷ []) part) (range_with_len 0 l.buckets) =
    map_same (rows_in l rows part) (rows_in l (rows ++ row ∷ []) part) (λ b. sym (rows_stay l rows row part b (outside part b (place_for l row) e))) (range_with_len 0 l.buckets) in
    let test = sym any in
    λ i. record { part = part; lists = cond (test i) (each i) [] }
  where
    or_false : (b : Bool) → (b || false) ≡ b
    or_false true = refl
    or_false false = refl

-- ---- the partition that a row lies in

-- no row of a partition that got none is in one of its buckets
none_in : (l : LayoutView) (part bucket : ℕ) (rows : List (List Cell)) → list_any (lies_in l part) rows ≡ false → [] ≡ rows_in l rows part bucket
none_in l part bucket [] e = refl
none_in l part bucket (r ∷ rs) e = go (lies_in l part r) refl e (λ h. none_in l part bucket rs h)
  where
    go : (b : Bool) → lies_in l part r ≡ b → (b || list_any (lies_in l part) rs) ≡ false → (list_any (lies_in l part) rs ≡ false → [] ≡ rows_in l rs part bucket) → [] ≡ rows_in l (r ∷ rs) part bucket
    go true f h k = absurd (cc)
    go false f h k = k h ∙ sym (ap (λ (c : Bool). cond c (r ∷ rows_in l rs part bucket) (rows_in l rs part bucket)) (outside part bucket (place_for l r) f))

opened_same : (f : ℕ → List (List Cell)) (n : ℕ) → opened_lists n (map f (range_with_len 0 n)) ≡ map f (range_with_len 0 n)
opened_same f zero = refl
opened_same f (suc n) = refl

opened_at : (l : LayoutView) (rows : List (List Cell)) (part : ℕ) → opened_lists l.buckets (lists_at l rows part) ≡ map (rows_in l rows part) (range_with_len 0 l.buckets)
opened_at l rows part = go (list_any (lies_in l part) rows) refl
  where
    go : (b : Bool) → list_any (lies_in l part) rows ≡ b → opened_lists l.buckets (cond b (map (rows_in l rows part) (range_with_len 0 l.buckets)) []) ≡ map (rows_in l rows part) (range_with_len 0 l.buckets)
    go true e = opened_same (rows_in l rows part) l.buckets
    go false e = map_same no_rows (rows_in l rows part) (λ b. none_in l part b rows e) (range_with_len 0 l.buckets)

self_eq : (n : ℕ) → nat_eq n n ≡ true
self_eq n = grind (arith, nat_tests)

turned : (a b : ℕ) → nat_eq a b ≡ false → nat_eq b a ≡ false
turned a b e = grind (arith, nat_tests)

and_false : (a : Bool) → (a && false) ≡ false
and_false true = refl
and_false false = refl

lists_grow : (l : LayoutView) (rows : List (List Cell)) (row : List Cell) (w : Place) → place_for l row ≡ Some w
    → list_with w.bucket row (map (rows_in l rows w.part) (range_with_len 0 l.buckets)) ≡ map (rows_in l (rows ++ row ∷ []) w.part) (range_with_len 0 l.buckets)
lists_grow l rows row w at =
    set_range (rows_in l rows w.part) (rows_in l (rows ++ row ∷ []) w.part) w.bucket l.buckets (get_or (map (rows_in l rows w.part) (range_with_len 0 l.buckets)) w.bucket [] ++ row ∷ [])
    (λ b e. sym (rows_stay l rows row w.part b (other b e)))
    (λ within. ap (λ (x : List (List Cell)). x ++ row ∷ []) (get_or-map-range_with_len (rows_in l rows w.part) 0 l.buckets w.bucket w.bucket [] within (omega arith)) ∙ sym (rows_more l rows row w.part w.bucket true here))
  where
    other : (b : ℕ) → nat_eq b w.bucket ≡ false → lies_at l (place_at w.part b) row ≡ false
    other b e = ap (is_at (place_at w.part b)) at ∙ ap (λ (c : Bool). nat_eq w.part w.part && c) (turned b w.bucket e) ∙ and_false (nat_eq w.part w.part)

    here : lies_at l (place_at w.part w.bucket) row ≡ true
    here = ap (is_at (place_at w.part w.bucket)) at ∙ ap (λ (c : Bool). c && nat_eq w.bucket w.bucket) (self_eq w.part) ∙ self_eq w.bucket

part_grows : (l : LayoutView) (rows : List (List Cell)) (row : List Cell) (w : Place) → place_for l row ≡ Some w → with_row l.buckets w.bucket row (part_at l rows w.part) ≡ part_at l (rows ++ row ∷ []) w.part
part_grows l rows row w at =
    ap (λ (x : List (List (List Cell))). record { part = w.part; lists = x })
    (ap (list_with w.bucket row) (opened_at l rows w.part) ∙ lists_grow l rows row w at ∙ sym (ap (λ (b : Bool). cond b (map (rows_in l (rows ++ row ∷ []) w.part) (range_with_len 0 l.buckets)) []) touched))
  where
    touched : list_any (lies_in l w.part) (rows ++ row ∷ []) ≡ true
    touched = any_more (lies_in l w.part) rows row ∙ ap (λ (b : Bool). list_any (lies_in l w.part) rows || b) (ap (is_in w.part) at ∙ self_eq w.part) ∙ or_true (list_any (lies_in l w.part) rows)

-- ---- all partitions

pub grows : (l : LayoutView) (rows : List (List Cell)) (row : List Cell) (o : Option Place) → place_for l row ≡ o → with_placed l.buckets o row (spread_rows l rows) ≡ spread_rows l (rows ++ row ∷ [])
grows l rows row None at = map_same (part_at l rows) (part_at l (rows ++ row ∷ [])) (λ p. part_stays l rows row p (ap (is_in p) at)) (range_with_len 0 (length l.parts))
grows l rows row (Some w) at =
    set_range (part_at l rows) (part_at l (rows ++ row ∷ [])) w.part (length l.parts) (with_row l.buckets w.bucket row (get_or (spread_rows l rows) w.part (no_lists 0)))
    (λ p e. part_stays l rows row p (ap (is_in p) at ∙ turned p w.part e))
    (λ within. ap (with_row l.buckets w.bucket row) (get_or-map-range_with_len (part_at l rows) 0 (length l.parts) w.part w.part (no_lists 0) within (omega arith)) ∙ part_grows l rows row w at)

-- ---- rows of a shape

each_shaped : (s : ShapeView) (l : LayoutView) (rows : List (List Cell)) (part : ℕ) → AllByRecursion (IsOfShape s) rows → (bs : List ℕ) → AllByRecursion (AllByRecursion (IsOfShape s)) (map (rows_in l rows part) bs)
each_shaped s l rows part h [] = tt
each_shaped s l rows part h (b ∷ bs) = (filter_keeps (IsOfShape s) (lies_at l (place_at part b)) rows h, each_shaped s l rows part h bs)

lists_shaped : (s : ShapeView) (l : LayoutView) (rows : List (List Cell)) (part : ℕ) → AllByRecursion (IsOfShape s) rows → AllByRecursion (AllByRecursion (IsOfShape s)) (lists_at l rows part)
lists_shaped s l rows part h = go (list_any (lies_in l part) rows)
  where
    go : (b : Bool) → AllByRecursion (AllByRecursion (IsOfShape s)) (cond b (map (rows_in l rows part) (range_with_len 0 l.buckets)) [])
    go true = each_shaped s l rows part h (range_with_len 0 l.buckets)
    go false = tt

parts_shaped : (s : ShapeView) (l : LayoutView) (rows : List (List Cell)) → AllByRecursion (IsOfShape s) rows → (ps : List ℕ) → AreShaped s (map (part_at l rows) ps)
parts_shaped s l rows h [] = tt
parts_shaped s l rows h (p ∷ ps) = (lists_shaped s l rows p h, parts_shaped s l rows h ps)

pub spread_shaped : (s : ShapeView) (l : LayoutView) (rows : List (List Cell)) → AllByRecursion (IsOfShape s) rows → AreShaped s (spread_rows l rows)
spread_shaped s l rows h = parts_shaped s l rows h (range_with_len 0 (length l.parts))

-- the row at a place, behind those before it
pub next_row : (l : LayoutView) (rows : List (List Cell)) (place : ℕ) (row : List Cell) (parts new : List PartLists) → place < length rows → row ≡ get_or rows place []
    → parts ≡ spread_rows l (take place rows) → new ≡ with_placed l.buckets (place_for l row) row parts → new ≡ spread_rows l (take (place + 1) rows)
next_row l rows place row parts new h is before after =
    after
    ∙ ap (with_placed l.buckets (place_for l row) row) before
    ∙ grows l (take place rows) row (place_for l row) refl
    ∙ ap (λ (x : List Cell). spread_rows l (take place rows ++ x ∷ [])) is
    ∙ ap (spread_rows l) (sym (take_more rows place [] h))
