-- What halving a list with ascending numbers finds is the first of its number, and the only one.
use Rattle.std.proofs.Common.{◌≡◌, ℕ, zero, suc, ◌+◌, ◌≤◌, ◌<◌, Bool, true, false, cond, List, [], ◌∷◌, length, get_or, Option, Some, None, Result, Ok, Err, find, refl, sym, ◌∙◌, ap, arith, position, nat_eq}
use Rattle.std.proofs.lemmas.Bool.Decides.{nat_tests}
use Rattle.std.proofs.lemmas.Cmp.{ranked}
use Rattle.std.proofs.lemmas.Iterator.Adapters.{position_from-zero}
use Rattle.std.proofs.lemmas.List.Quantifiers.{position-Some}
use Rattle.std.specs.Prelude.{nat_lt, MatchResult}
use Rattle.std.specs.List.{position_from}
use Rattle.std.specs.List.Sorted.{IsBinarySearchResult, IsSearchInRange}
use Rattle.std.specs.Ordering.{nat_cmp, ordering_index}
use Rattle.front_laws.specs.Tidy.{Each}
use Rattle.txn_core.specs.Seen.{AscendsBy}

each_index : {X : Type 0} (P : X → Type 0) (xs : List X) (i : ℕ) (d : X) → i < length xs → Each P xs → P (get_or xs i d)
each_index P [] i d lt e = absurd (omega arith)
each_index P (x ∷ xs) zero d lt e = e.0
each_index P (x ∷ xs) (suc i) d lt e = each_index P xs i d (omega arith) e.1

higher : (a b x : ℕ) → a ≤ b → ordering_index (nat_cmp a x) ≤ ordering_index (nat_cmp b x)
higher a b x le = grind (arith, nat_tests)

pub rises : {X : Type 0} (key : X → ℕ) (xs : List X) (i j : ℕ) (d : X) → AscendsBy key xs → i ≤ j → j < length xs → key (get_or xs i d) ≤ key (get_or xs j d)
rises key [] i j d a le lt = absurd (omega arith)
rises key (x ∷ xs) zero zero d a le lt = omega arith
rises key (x ∷ xs) zero (suc j) d a le lt = let h = each_index (λ v. key x < key v) xs j d (omega arith) a.0 in omega (arith, h)
rises key (x ∷ xs) (suc i) zero d a le lt = absurd (omega arith)
rises key (x ∷ xs) (suc i) (suc j) d a le lt = rises key xs i j d a.1 (omega arith) (omega arith)

found_from : {X : Type 0} (key : X → ℕ) (id n i : ℕ) (d : X) (xs : List X) → AscendsBy key xs → i < length xs → key (get_or xs i d) ≡ id → Some (n + i) ≡ position_from (λ x. nat_eq (key x) id) n xs
found_from key id n i d [] a lt e = absurd (omega arith)
found_from key id n zero d (x ∷ xs) a lt e =
    let hit : nat_eq (key x) id ≡ true = grind (arith, nat_tests) in
    let z : n + 0 ≡ n = omega arith in
    rw hit (ap (λ (m : ℕ). Some m) z)
found_from key id n (suc i) d (x ∷ xs) a lt e =
    let h = each_index (λ v. key x < key v) xs i d (omega arith) a.0 in
    let off : nat_eq (key x) id ≡ false = grind (arith, nat_tests) in
    let z : n + suc i ≡ (n + 1) + i = omega arith in
    rw off (ap (λ (m : ℕ). Some m) z ∙ found_from key id (n + 1) i d xs a.1 (omega arith) e)

none_from : {X : Type 0} (key : X → ℕ) (id n : ℕ) (xs : List X) → ((k : ℕ) (d : X) → k < length xs → nat_eq (key (get_or xs k d)) id ≡ false) → None ≡ position_from (λ x. nat_eq (key x) id) n xs
none_from key id n [] h = refl
none_from key id n (x ∷ xs) h = rw (h 0 x (omega arith)) (none_from key id (n + 1) xs (λ i d lt. h (suc i) d (omega (arith, lt))))

apart_by : (n id k i : ℕ) (b : Bool) → nat_lt k i ≡ b → (k < i → n < id) → (i ≤ k → id < n) → nat_eq n id ≡ false
apart_by n id k i true e below above = let l : k < i = grind (arith, nat_tests) in let h = below l in grind (arith, nat_tests)
apart_by n id k i false e below above = let l : i ≤ k = grind (arith, nat_tests) in let h = above l in grind (arith, nat_tests)

-- what a binary search answers is the first place
pub halved : {X : Type 0} (key : X → ℕ) (id : ℕ) (xs : List X) (r : Result ℕ ℕ) → AscendsBy key xs → IsSearchInRange r (length xs) → IsBinarySearchResult (λ y. nat_cmp (key y) id) xs r → MatchResult r (λ i. Some i ≡ position (λ x. nat_eq (key x) id) xs) (λ i. None ≡ position (λ x. nat_eq (key x) id) xs)
halved key id [] (Ok i) a lt h = absurd (omega arith)
halved key id (x ∷ xs) (Ok i) a lt h = let z : i ≡ 0 + i = omega arith in ap (λ (m : ℕ). Some m) z ∙ found_from key id 0 i x (x ∷ xs) a lt (ranked _ id _ (sym (h x))) ∙ sym (position_from-zero (λ x. nat_eq (key x) id) (x ∷ xs))
halved key id xs (Err i) a le h =
    let parted = h (λ m j d l lt. higher (key (get_or xs m d)) (key (get_or xs j d)) id (rises key xs m j d a l lt)) in
    none_from key id 0 xs (λ k d lt. apart_by (key (get_or xs k d)) id k i (nat_lt k i) refl (λ l. ranked _ id _ (sym (parted.0 k d (omega arith) l))) (λ l. ranked _ id _ (sym (parted.1 k d l lt)))) ∙ sym (position_from-zero (λ x. nat_eq (key x) id) xs)

-- what stands at the first place is found
found_at : {X : Type 0} (p : X → Bool) (d : X) (xs : List X) (i : ℕ) → i < length xs → p (get_or xs i d) ≡ true → ((k : ℕ) → k < i → p (get_or xs k d) ≡ false) → Some (get_or xs i d) ≡ find p xs
found_at p d [] i lt hit miss = absurd (omega arith)
found_at p d (x ∷ xs) zero lt hit miss = rw hit refl
found_at p d (x ∷ xs) (suc i) lt hit miss = rw (miss 0 (omega arith)) (found_at p d xs i (omega arith) hit (λ j h. miss (suc j) (omega (arith, h))))

pub find_at : {X : Type 0} (p : X → Bool) (xs : List X) (i : ℕ) (d : X) → Some i ≡ position p xs → d ≡ get_or xs i d → Some d ≡ find p xs
find_at p xs i d e at = let h = position-Some p xs i d (sym e) in ap (λ x. Some x) at ∙ found_at p d xs i h.0 h.1 h.2

none_step : {X : Type 0} (b : Bool) (n : ℕ) (r : Option ℕ) (x : X) (q : Option X) → cond b (Some n) r ≡ None → (r ≡ None → q ≡ None) → cond b (Some x) q ≡ None
none_step true n r x q e h = absurd (cc)
none_step false n r x q e h = h e

none_found : {X : Type 0} (p : X → Bool) (n : ℕ) (xs : List X) → position_from p n xs ≡ None → find p xs ≡ None
none_found p n [] e = refl
none_found p n (x ∷ xs) e = none_step (p x) n (position_from p (n + 1) xs) x (find p xs) e (none_found p (n + 1) xs)

pub find_none : {X : Type 0} (p : X → Bool) (xs : List X) → None ≡ position p xs → None ≡ find p xs
find_none p xs e = sym (none_found p 0 xs (sym (position_from-zero p xs) ∙ sym e))
