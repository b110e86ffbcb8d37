-- What a load was built with is what its Publish adds, also where a partition was added meanwhile.
use Rattle.std.proofs.Common.{◌≡◌, ℕ, zero, suc, ◌+◌, ◌<◌, ◌≤◌, Bool, true, false, cond, ◌&&◌, ◌||◌, List, [], ◌∷◌, ◌++◌, Option, Some, None, map, filter, flat_map, length, refl, sym, ◌∙◌, ap, arith, append-nil, length-append}
use Rattle.std.proofs.lemmas.Bool.Decides.{nat_tests}
use Rattle.std.proofs.lemmas.Grind.{flat_map-append}
use Rattle.std.proofs.lemmas.List.Elements.{filter-append}
use Rattle.std.specs.Prelude.{nat_eq, nat_lt}
use Rattle.std.specs.List.{list_any, range_with_len}
use Rattle.dl_values.specs.declared.cell.Cell.{Cell}
use Rattle.schema_models.specs.ShapeView.{ShapeView}
use Rattle.partitions.specs.LayoutView.{LayoutView}
use Rattle.partitions.specs.LayoutFaults.{with_part}
use Rattle.partitions.specs.LayoutRules.{IsLayout}
use Rattle.partitions.specs.declared.part_def.PartDef.{PartDef}
use Rattle.partitions.specs.Places.{AreInside, Place, buckets_at, is_in, lies_in, place_for, rows_at, tablets_of}
use Rattle.partitions.proofs.Places.{place_stays, place_within}
use Rattle.front_defs.specs.Indexes.{Index}
use Rattle.front_defs.specs.Stored.{indexed, PlacedRows, same_place, set_at, set_for, sets_of}
use Rattle.front_laws.proofs.Growing.{row_of, sets_keep, within}

-- ---- the tablets of a layout, by their places
and_false : (a : Bool) → (a && false) ≡ false
and_false true = refl
and_false false = refl

abbrev among : Place → List Place → Bool
among w ws = list_any (λ (v : Place). same_place w v) ws

among_append : (w : Place) (xs ys : List Place) → among w (xs ++ ys) ≡ (among w xs || among w ys)
among_append w [] ys = refl
among_append w (x ∷ xs) ys = go (same_place w x) (among_append w xs ys)
  where
    go : (b : Bool) → among w (xs ++ ys) ≡ (among w xs || among w ys) → (b || among w (xs ++ ys)) ≡ ((b || among w xs) || among w ys)
    go true h = refl
    go false h = h

among_row : (w : Place) (part a n : ℕ) → a ≤ w.bucket → among w (row_of part a n) ≡ (nat_eq part w.part && nat_lt w.bucket (a + n))
among_row w part a zero h = let e : nat_lt w.bucket (a + 0) ≡ false = grind (arith, nat_tests) in rw e (sym (and_false (nat_eq part w.part)))
among_row w part a (suc n) h = go (nat_eq part w.part) (nat_eq a w.bucket) refl refl (λ k. among_row w part (a + 1) n k)
  where
    go : (p b : Bool) → nat_eq part w.part ≡ p → nat_eq a w.bucket ≡ b → (a + 1 ≤ w.bucket → among w (row_of part (a + 1) n) ≡ (nat_eq part w.part && nat_lt w.bucket (a + 1 + n))) → ((p && b) || among w (row_of part (a + 1) n)) ≡ (p && nat_lt w.bucket (a + suc n))
    go true true e f k = let i : nat_lt w.bucket (a + suc n) ≡ true = grind (arith, nat_tests) in rw i refl
    go true false e f k = let i : a + 1 ≤ w.bucket = grind (arith, nat_tests) in k i ∙ ap (λ (b : Bool). b && nat_lt w.bucket (a + 1 + n)) e ∙ ap (nat_lt w.bucket) (let m : a + 1 + n ≡ a + suc n = omega arith in m)
    go false b e f k = none (a + 1) n
      where
        none : (c m : ℕ) → among w (row_of part c m) ≡ false
        none c zero = refl
        none c (suc m) = rw e (none (c + 1) m)

among_tablets : (w : Place) (buckets a n : ℕ) → a ≤ w.part → among w (flat_map (buckets_at buckets) (range_with_len a n)) ≡ (nat_lt w.part (a + n) && nat_lt w.bucket buckets)
among_tablets w buckets a zero h = let e : nat_lt w.part (a + 0) ≡ false = grind (arith, nat_tests) in rw e refl
among_tablets w buckets a (suc n) h =
    among_append w (buckets_at buckets a) (flat_map (buckets_at buckets) (range_with_len (a + 1) n))
    ∙ ap (λ (b : Bool). b || among w (flat_map (buckets_at buckets) (range_with_len (a + 1) n))) (among_row w a 0 buckets (omega arith) ∙ ap (λ (m : ℕ). nat_eq a w.part && nat_lt w.bucket m) (let m : 0 + buckets ≡ buckets = omega arith in m))
    ∙ go (nat_eq a w.part) refl (λ k. among_tablets w buckets (a + 1) n k)
  where
    past : (c m : ℕ) → w.part < c → among w (flat_map (buckets_at buckets) (range_with_len c m)) ≡ false
    past c zero k = refl
    past c (suc m) k =
        let e : nat_eq c w.part ≡ false = grind (arith, nat_tests) in
        among_append w (buckets_at buckets c) (flat_map (buckets_at buckets) (range_with_len (c + 1) m))
        ∙ ap (λ (b : Bool). b || among w (flat_map (buckets_at buckets) (range_with_len (c + 1) m))) (among_row w c 0 buckets (omega arith) ∙ ap (λ (b : Bool). b && nat_lt w.bucket (0 + buckets)) e)
        ∙ past (c + 1) m (omega arith)

    or_false : (b : Bool) → (b || false) ≡ b
    or_false true = refl
    or_false false = refl

    go : (p : Bool) → nat_eq a w.part ≡ p → (a + 1 ≤ w.part → among w (flat_map (buckets_at buckets) (range_with_len (a + 1) n)) ≡ (nat_lt w.part (a + 1 + n) && nat_lt w.bucket buckets))
        → ((p && nat_lt w.bucket buckets) || among w (flat_map (buckets_at buckets) (range_with_len (a + 1) n))) ≡ (nat_lt w.part (a + suc n) && nat_lt w.bucket buckets)
    go true e k =
        let i : nat_lt w.part (a + suc n) ≡ true = grind (arith, nat_tests) in
        let q : w.part < a + 1 = grind (arith, nat_tests) in
        ap (λ (b : Bool). nat_lt w.bucket buckets || b) (past (a + 1) n q) ∙ or_false (nat_lt w.bucket buckets) ∙ sym (ap (λ (b : Bool). b && nat_lt w.bucket buckets) i)
    go false e k = let i : a + 1 ≤ w.part = grind (arith, nat_tests) in k i ∙ ap (λ (m : ℕ). nat_lt w.part m && nat_lt w.bucket buckets) (let m : a + 1 + n ≡ a + suc n = omega arith in m)

-- ---- what is found among the sets of a load
same_is : (w v : Place) → same_place w v ≡ true → v ≡ w
same_is w v h = go (nat_eq v.part w.part) (nat_eq v.bucket w.bucket) refl refl h
  where
    go : (a b : Bool) → nat_eq v.part w.part ≡ a → nat_eq v.bucket w.bucket ≡ b → (a && b) ≡ true → v ≡ w
    go true true e f k = let p : v.part ≡ w.part = grind (arith, nat_tests) in let q : v.bucket ≡ w.bucket = grind (arith, nat_tests) in ap (λ (n : ℕ). record { part = n; bucket = v.bucket }) p ∙ ap (λ (n : ℕ). record { part = w.part; bucket = n }) q
    go true false e f k = absurd (cc)
    go false b e f k = absurd (cc)

module _ (rows : Place → List (List Cell)) (q : Place → Bool) where
  abbrev set : Place → PlacedRows
  set w = record { place = w; rows = rows w }

  abbrev wanted : Place → Bool → Option PlacedRows
  wanted w b = cond b (Some (set w)) None

  found : (w : Place) (ws : List Place) → set_for w (map set (filter q ws)) ≡ wanted w (q w && among w ws)
  found w [] = ap (wanted w) (sym (and_false (q w)))
  found w (v ∷ ws) = go (q v) (same_place w v) refl refl (found w ws)
    where
      go : (b c : Bool) → q v ≡ b → same_place w v ≡ c → set_for w (map set (filter q ws)) ≡ wanted w (q w && among w ws) → set_for w (map set (cond b (v ∷ filter q ws) (filter q ws))) ≡ wanted w (q w && (c || among w ws))
      go true true e f h = let i = same_is w v f in let g : q w ≡ true = ap q (sym i) ∙ e in rw f (ap (λ (x : Place). Some (set x)) i ∙ sym (ap (λ (b : Bool). wanted w (b && true)) g))
      go true false e f h = rw f h
      go false true e f h = let i = same_is w v f in let g : q w ≡ false = ap q (sym i) ∙ e in h ∙ ap (λ (b : Bool). wanted w (b && among w ws)) g ∙ sym (ap (λ (b : Bool). wanted w (b && true)) g)
      go false false e f h = h

pub set_found : (s : ShapeView) (l : LayoutView) (target : Index) → IsLayout s l → (rows : List (List Cell)) (w : Place)
    → set_for w (sets_of l target rows) ≡ cond (list_any (lies_in l w.part) rows && nat_lt w.bucket l.buckets) (Some (set_at l target rows w)) None
set_found s l target v rows w =
    found (λ x. indexed target (rows_at l x rows)) (λ x. list_any (lies_in l x.part) rows) w (tablets_of l)
    ∙ ap (λ (b : Bool). cond (list_any (lies_in l w.part) rows && b) (Some (set_at l target rows w)) None) (among_tablets w l.buckets 0 (length l.parts) (omega arith) ∙ ap (λ (n : ℕ). nat_lt w.part n && nat_lt w.bucket l.buckets) (let m : 0 + length l.parts ≡ length l.parts = omega arith in m))
    ∙ go (nat_lt w.part (length l.parts)) refl
  where
    go : (b : Bool) → nat_lt w.part (length l.parts) ≡ b → cond (list_any (lies_in l w.part) rows && (b && nat_lt w.bucket l.buckets)) (Some (set_at l target rows w)) None ≡ cond (list_any (lies_in l w.part) rows && nat_lt w.bucket l.buckets) (Some (set_at l target rows w)) None
    go true e = refl
    go false e = rw (within l w.part rows e) refl

pub sets_stay : (s : ShapeView) (l : LayoutView) (p : PartDef) (target : Index) → IsLayout s l → (rows : List (List Cell)) → AreInside l rows → sets_of (with_part p l) target rows ≡ sets_of l target rows
sets_stay s l p target v rows a = sets_keep l p target rows a
