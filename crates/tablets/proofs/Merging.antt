-- The rowsets of a compaction, and what becomes of a tablet when they are merged.
use Rattle.std.proofs.Common.{◌≡◌, ℕ, zero, suc, ◌<◌, ◌≤◌, Bool, true, false, ◌&&◌, List, [], ◌∷◌, ◌++◌, map, length, drop, nat_eq, nat_lt, refl, sym, subst, arith}
use Rattle.std.proofs.lemmas.Bool.Decides.{nat_tests}
use Rattle.std.specs.List.{AllByRecursion}
use Rattle.dl_values.specs.declared.cell.Cell.{Cell}
use Rattle.merge_read.specs.Lists.{AreSortedLists, IsSortedList, joined}
use Rattle.rowsets.specs.RowsetView.{RowsetView, rowset_rows}
use Rattle.schema_models.specs.RowRules.{IsOfShape}
use Rattle.schema_models.specs.ShapeView.{ShapeView}
use Rattle.tablets.specs.Compactions.{are_there, last_from, last_version, stand_first}
use Rattle.tablets.specs.TabletView.{AreListsOf, Rises, StoredList, lists_past}
use Rattle.tablets.proofs.Versions.{past_short}

all_append : {X : Type 0} (P : X → Type 0) (xs ys : List X) → AllByRecursion P xs → AllByRecursion P ys → AllByRecursion P (xs ++ ys)
all_append P [] ys a b = b
all_append P (x ∷ xs) ys a b = (a.0, all_append P xs ys a.1 b)

pub joined_of_shape : (s : ShapeView) (lists : List (List (List Cell))) → AreSortedLists s lists → AllByRecursion (IsOfShape s) (joined lists)
joined_of_shape s [] a = tt
joined_of_shape s (l ∷ ls) a = all_append (IsOfShape s) l (joined ls) a.0.rows (joined_of_shape s ls a.1)

pub sorted_shared : {A : Type 0} (s : ShapeView) (value : A → RowsetView) (all : List A) (ls : List StoredList) → AreListsOf s ls → map value all ≡ map (λ l. l.rowset) ls → AreSortedLists s (map (λ x. rowset_rows (value x)) all)
sorted_shared s value [] ls a e = tt
sorted_shared s value (x ∷ xs) [] a e = absurd (cc)
sorted_shared s value (x ∷ xs) (l ∷ ls) a e =
    let h : l.rowset ≡ value x = cc in
    let t : map value xs ≡ map (λ l. l.rowset) ls = cc in
    (subst (λ (r : RowsetView). IsSortedList s (rowset_rows r)) h (record { rows = a.0.sorted.rows; rising = a.0.sorted.rising }), sorted_shared s value xs ls a.1 t)

pub none_left : (vs : List (ℕ × ℕ)) (ls : List StoredList) (i : ℕ) → i < length vs → length ls ≤ i → stand_first (drop i vs) (drop i ls) ≡ false
none_left [] ls i l e = absurd (omega arith)
none_left (v ∷ vs) [] zero l e = refl
none_left (v ∷ vs) (x ∷ ls) zero l e = absurd (omega arith)
none_left (v ∷ vs) [] (suc i) l e = none_after vs i (omega arith)
  where
    none_after : (ws : List (ℕ × ℕ)) (n : ℕ) → n < length ws → stand_first (drop n ws) [] ≡ false
    none_after [] n m = absurd (omega arith)
    none_after (w ∷ ws) zero m = refl
    none_after (w ∷ ws) (suc n) m = none_after ws n (omega arith)
none_left (v ∷ vs) (x ∷ ls) (suc i) l e = none_left vs ls i (omega arith) (omega arith)

and_left : (a b : Bool) → (a && b) ≡ true → a ≡ true
and_left true b h = refl
and_left false b h = h

and_right : (a b : Bool) → (a && b) ≡ true → b ≡ true
and_right true b h = h
and_right false b h = absurd (cc)

last_is : (v : ℕ × ℕ) (vs : List (ℕ × ℕ)) (l : StoredList) (ls : List StoredList) → stand_first (v ∷ vs) (l ∷ ls) ≡ true → v.1 ≡ l.last
last_is v vs l ls h = let k = and_right (nat_eq v.0 l.first) (nat_eq v.1 l.last) (and_left (nat_eq v.0 l.first && nat_eq v.1 l.last) (stand_first vs ls) h) in grind (arith, nat_tests, k)

lasts_rise : (n : ℕ) (vs : List (ℕ × ℕ)) (ls : List StoredList) → stand_first vs ls ≡ true → AllByRecursion (λ m. n < m.last) ls → Rises ls → n ≤ last_from n vs
lasts_rise n [] ls h a r = omega arith
lasts_rise n (v ∷ vs) [] h a r = absurd (cc)
lasts_rise n (v ∷ vs) (l ∷ ls) h a r =
    let e = last_is v vs l ls h in
    let k = lasts_rise v.1 vs ls (and_right (nat_eq v.0 l.first && nat_eq v.1 l.last) (stand_first vs ls) h) (subst (λ (x : ℕ). AllByRecursion (λ m. x < m.last) ls) (sym e) r.0) r.1 in
    let b = a.0 in
    omega (arith, e, k, b)

pub past_shorter : (vs : List (ℕ × ℕ)) (ls : List StoredList) → are_there vs ls ≡ true → Rises ls → length (lists_past (last_version vs) ls) < length ls
past_shorter [] ls h r = absurd (cc)
past_shorter (v ∷ vs) [] h r = absurd (cc)
past_shorter (v ∷ vs) (l ∷ ls) h r =
    let e = last_is v vs l ls h in
    let k = lasts_rise v.1 vs ls (and_right (nat_eq v.0 l.first && nat_eq v.1 l.last) (stand_first vs ls) h) (subst (λ (x : ℕ). AllByRecursion (λ m. x < m.last) ls) (sym e) r.0) r.1 in
    let f : nat_lt (last_from v.1 vs) l.last ≡ false = grind (arith, nat_tests, e, k) in
    let s = past_short (last_from v.1 vs) ls in
    rw f (omega (arith, s))
