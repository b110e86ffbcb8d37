-- A partition more gives the tablets the same rows of a load.
use Rattle.std.proofs.Common.{◌≡◌, ℕ, zero, suc, ◌+◌, ◌<◌, Bool, true, false, cond, ◌||◌, List, [], ◌∷◌, ◌++◌, Option, Some, None, map, filter, flat_map, length, refl, sym, ◌∙◌, ap, arith, append-nil, length-append}
use Rattle.std.proofs.lemmas.Bool.Decides.{nat_tests}
use Rattle.std.proofs.lemmas.Grind.{flat_map-append}
use Rattle.std.proofs.lemmas.List.Elements.{filter-append}
use Rattle.std.specs.Prelude.{nat_eq, nat_lt}
use Rattle.std.specs.List.{list_any, range_with_len}
use Rattle.dl_values.specs.declared.cell.Cell.{Cell}
use Rattle.partitions.specs.LayoutView.{LayoutView}
use Rattle.partitions.specs.LayoutFaults.{with_part}
use Rattle.partitions.specs.declared.part_def.PartDef.{PartDef}
use Rattle.partitions.specs.Places.{AreInside, Place, bucket_of, buckets_at, first_part, is_at, is_in, lies_at, lies_in, next_part, part_of, place_for, placed, rows_at, tablets_of}
use Rattle.partitions.proofs.Places.{place_stays}
use Rattle.front_defs.specs.Indexes.{Index}
use Rattle.front_defs.specs.Stored.{indexed, PlacedRows, sets_of}

abbrev pub row_of : ℕ → ℕ → ℕ → List Place
row_of part a n = map (λ b. record { part = part; bucket = b }) (range_with_len a n)

pub rows_stay : (l : LayoutView) (p : PartDef) (w : Place) (rows : List (List Cell)) → AreInside l rows → rows_at (with_part p l) w rows ≡ rows_at l w rows
rows_stay l p w [] a = refl
rows_stay l p w (r ∷ rs) a =
    ap (λ (o : Option Place). cond (is_at w o) (r ∷ rows_at (with_part p l) w rs) (rows_at (with_part p l) w rs)) (place_stays l p r a.0)
    ∙ ap (λ (x : List (List Cell)). cond (lies_at l w r) (r ∷ x) x) (rows_stay l p w rs a.1)

-- a partition that a row lies in is there
first_step : (b : Bool) (n : ℕ) (o : Option ℕ) (ps : List PartDef) → cond b (Some 0) (next_part o) ≡ Some n → ((m : ℕ) → o ≡ Some m → m < length ps) → n < suc (length ps)
first_step true n o ps e k = let i : 0 ≡ n = cc in omega (arith, i)
first_step false n None ps e k = absurd (cc)
first_step false n (Some m) ps e k = let i : m + 1 ≡ n = cc in let lt = k m refl in omega (arith, i, lt)

first_below : (test : PartDef → Bool) (ps : List PartDef) (n : ℕ) → first_part test ps ≡ Some n → n < length ps
first_below test [] n e = absurd (cc)
first_below test (p ∷ ps) n e = first_step (test p) n (first_part test ps) ps e (first_below test ps)

in_placed : (part bound : ℕ) (o : Option ℕ) (bucket : ℕ) → nat_lt part bound ≡ false → ((n : ℕ) → o ≡ Some n → n < bound) → is_in part (placed o bucket) ≡ false
in_placed part bound None bucket h k = refl
in_placed part bound (Some n) bucket h k = let lt = k n refl in grind (arith, nat_tests)

pub within : (l : LayoutView) (part : ℕ) (rows : List (List Cell)) → nat_lt part (length l.parts) ≡ false → list_any (lies_in l part) rows ≡ false
within l part [] h = refl
within l part (r ∷ rs) h = rw (in_placed part (length l.parts) (part_of l.columns l r) (bucket_of l.columns l r) h (λ n e. first_below _ l.parts n e)) (within l part rs h)

range_snoc : (a n : ℕ) → range_with_len a (suc n) ≡ range_with_len a n ++ (a + n) ∷ []
range_snoc a zero = ap (λ (m : ℕ). m ∷ []) (let m : a ≡ a + 0 = omega arith in m)
range_snoc a (suc n) = ap (λ (l : List ℕ). a ∷ l) (range_snoc (a + 1) n ∙ ap (λ (m : ℕ). range_with_len (a + 1) n ++ m ∷ []) (let m : a + 1 + n ≡ a + suc n = omega arith in m))

tablets_more : (l : LayoutView) (p : PartDef) → tablets_of (with_part p l) ≡ tablets_of l ++ buckets_at l.buckets (length l.parts)
tablets_more l p =
    ap (λ (n : ℕ). flat_map (buckets_at l.buckets) (range_with_len 0 n)) (length-append l.parts (p ∷ []) ∙ (let m : length l.parts + 1 ≡ suc (length l.parts) = omega arith in m))
    ∙ ap (flat_map (buckets_at l.buckets)) (range_snoc 0 (length l.parts) ∙ ap (λ (m : ℕ). range_with_len 0 (length l.parts) ++ m ∷ []) (let m : 0 + length l.parts ≡ length l.parts = omega arith in m))
    ∙ flat_map-append (buckets_at l.buckets) (range_with_len 0 (length l.parts)) (length l.parts ∷ [])
    ∙ ap (λ (x : List Place). tablets_of l ++ x) (append-nil (buckets_at l.buckets (length l.parts)))

pub lies_stay : (l : LayoutView) (p : PartDef) (part : ℕ) (rows : List (List Cell)) → AreInside l rows → list_any (lies_in (with_part p l) part) rows ≡ list_any (lies_in l part) rows
lies_stay l p part [] a = refl
lies_stay l p part (r ∷ rs) a =
    ap (λ (o : Option Place). is_in part o || list_any (lies_in (with_part p l) part) rs) (place_stays l p r a.0) ∙ ap (λ (b : Bool). lies_in l part r || b) (lies_stay l p part rs a.1)

map_same : (f g : Place → PlacedRows) → ((w : Place) → f w ≡ g w) → (ws : List Place) → map f ws ≡ map g ws
map_same f g e [] = refl
map_same f g e (w ∷ ws) = ap (λ (x : PlacedRows). x ∷ map f ws) (e w) ∙ ap (λ (l : List PlacedRows). g w ∷ l) (map_same f g e ws)

filter_same : (f g : Place → Bool) → ((w : Place) → f w ≡ g w) → (ws : List Place) → filter f ws ≡ filter g ws
filter_same f g e [] = refl
filter_same f g e (w ∷ ws) = ap (λ (b : Bool). cond b (w ∷ filter f ws) (filter f ws)) (e w) ∙ ap (λ (l : List Place). cond (g w) (w ∷ l) l) (filter_same f g e ws)

none_of : (q : Place → Bool) (part a n : ℕ) → ((b : ℕ) → q (record { part = part; bucket = b }) ≡ false) → filter q (row_of part a n) ≡ []
none_of q part a zero h = refl
none_of q part a (suc n) h = rw (h a) (none_of q part (a + 1) n h)

pub sets_keep : (l : LayoutView) (p : PartDef) (target : Index) (rows : List (List Cell)) → AreInside l rows → sets_of (with_part p l) target rows ≡ sets_of l target rows
sets_keep l p target rows a =
    let q : Place → Bool = λ w. list_any (lies_in l w.part) rows in
    let new : nat_lt (length l.parts) (length l.parts) ≡ false = grind (arith, nat_tests) in
    map_same (λ w. record { place = w; rows = indexed target (rows_at (with_part p l) w rows) }) (λ w. record { place = w; rows = indexed target (rows_at l w rows) }) (λ w. ap (λ (x : List (List Cell)). record { place = w; rows = indexed target x }) (rows_stay l p w rows a)) (filter (λ w. list_any (lies_in (with_part p l) w.part) rows) (tablets_of (with_part p l)))
    ∙ ap (map (λ w. record { place = w; rows = indexed target (rows_at l w rows) }))
    (filter_same (λ w. list_any (lies_in (with_part p l) w.part) rows) q (λ w. lies_stay l p w.part rows a) (tablets_of (with_part p l))
    ∙ ap (filter q) (tablets_more l p) ∙ filter-append q (tablets_of l) (buckets_at l.buckets (length l.parts))
    ∙ ap (λ (x : List Place). filter q (tablets_of l) ++ x) (none_of q (length l.parts) 0 l.buckets (λ b. within l (length l.parts) rows new)) ∙ append-nil (filter q (tablets_of l)))
