-- What halving finds: those that pass a test stand before the others.
use Rattle.std.proofs.Common.{◌≡◌, ℕ, zero, suc, ◌≤◌, ◌<◌, Bool, true, false, not, List, [], ◌∷◌, length, take, drop, get_or, refl, sym, ap, arith}
use Rattle.std.proofs.lemmas.Bool.Decides.{nat_tests}
use Rattle.std.specs.Prelude.{filter, nat_lt}
use Rattle.std.specs.List.Sorted.{IsPartitionPoint, IsPartitionedBy}
use Rattle.txn_core.specs.Seen.{AscendsBy}
use Rattle.txn_core.proofs.Halves.{rises}

none_pass : {X : Type 0} (p : X → Bool) (xs : List X) → ((k : ℕ) (d : X) → k < length xs → p (get_or xs k d) ≡ false) → filter p xs ≡ []
none_pass p [] h = refl
none_pass p (x ∷ xs) h = rw (h 0 x (omega arith)) (none_pass p xs (λ k d lt. h (suc k) d (omega (arith, lt))))

all_fail : {X : Type 0} (p : X → Bool) (xs : List X) → ((k : ℕ) (d : X) → k < length xs → p (get_or xs k d) ≡ false) → xs ≡ filter (λ (x : X). not (p x)) xs
all_fail p [] h = refl
all_fail {X} p (x ∷ xs) h = rw (h 0 x (omega arith)) (ap (λ (ys : List X). x ∷ ys) (all_fail p xs (λ k d lt. h (suc k) d (omega (arith, lt)))))

front_is : {X : Type 0} (p : X → Bool) (xs : List X) (i : ℕ) → i ≤ length xs → ((k : ℕ) (d : X) → k < i → p (get_or xs k d) ≡ true) → ((k : ℕ) (d : X) → i ≤ k → k < length xs → p (get_or xs k d) ≡ false) → take i xs ≡ filter p xs
front_is p [] zero le low high = refl
front_is p [] (suc i) le low high = refl
front_is p (x ∷ xs) zero le low high = sym (none_pass p (x ∷ xs) (λ k d lt. high k d (omega arith) lt))
front_is {X} p (x ∷ xs) (suc i) le low high = rw (low 0 x (omega arith)) (ap (λ (ys : List X). x ∷ ys) (front_is p xs i (omega (arith, le)) (λ k d lt. low (suc k) d (omega (arith, lt))) (λ k d l lt. high (suc k) d (omega (arith, l)) (omega (arith, lt)))))

back_is : {X : Type 0} (p : X → Bool) (xs : List X) (i : ℕ) → i ≤ length xs → ((k : ℕ) (d : X) → k < i → p (get_or xs k d) ≡ true) → ((k : ℕ) (d : X) → i ≤ k → k < length xs → p (get_or xs k d) ≡ false) → drop i xs ≡ filter (λ (x : X). not (p x)) xs
back_is p [] zero le low high = refl
back_is p [] (suc i) le low high = refl
back_is p (x ∷ xs) zero le low high = all_fail p (x ∷ xs) (λ k d lt. high k d (omega arith) lt)
back_is p (x ∷ xs) (suc i) le low high = rw (low 0 x (omega arith)) (back_is p xs i (omega (arith, le)) (λ k d lt. low (suc k) d (omega (arith, lt))) (λ k d l lt. high (suc k) d (omega (arith, l)) (omega (arith, lt))))

pub lower_front : {X : Type 0} (p : X → Bool) (xs : List X) (i : ℕ) → i ≤ length xs → IsPartitionPoint (λ y. p y ≡ true) (λ y. p y ≡ false) xs i → take i xs ≡ filter p xs
lower_front p xs i le h = front_is p xs i le (λ k d lt. h.0 k d (omega arith) lt) (λ k d l lt. h.1 k d l lt)

pub others_back : {X : Type 0} (p : X → Bool) (xs : List X) (i : ℕ) → i ≤ length xs → IsPartitionPoint (λ y. p y ≡ true) (λ y. p y ≡ false) xs i → drop i xs ≡ filter (λ (x : X). not (p x)) xs
others_back p xs i le h = back_is p xs i le (λ k d lt. h.0 k d (omega arith) lt) (λ k d l lt. h.1 k d l lt)

lower_still : (n m key : ℕ) → n ≤ m → nat_lt m key ≡ true → nat_lt n key ≡ true
lower_still n m key le h = grind (arith, nat_tests)

-- keys that ascend are parted by any key
pub parted_by : {X : Type 0} (key : X → ℕ) (n : ℕ) (xs : List X) → AscendsBy key xs → IsPartitionedBy (λ x. nat_lt (key x) n) xs
parted_by key n xs a = λ i j d le lt h. lower_still (key (get_or xs i d)) (key (get_or xs j d)) n (rises key xs i j d a le lt) h
