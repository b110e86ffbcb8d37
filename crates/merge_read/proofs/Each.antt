-- What holds of each member of a list, in any order.
use Rattle.std.proofs.Common.{◌≡◌, ℕ, zero, suc, ◌<◌, List, [], ◌∷◌, length, take, get_or, set, map, refl, ap, arith}
use Rattle.std.proofs.lemmas.List.Elements.{All-from_recursion, recursion_from_All}
use Rattle.std.proofs.lemmas.List.Sorted.{All-permutation}
use Rattle.std.specs.List.{AllByRecursion}
use Rattle.std.specs.List.Sorted.{IsPermutation}

pub all_moved : {X : Type 0} (P : X → Type 0) (xs ys : List X) → IsPermutation xs ys → AllByRecursion P xs → AllByRecursion P ys
all_moved P xs ys p a = recursion_from_All P ys (All-permutation P xs ys p (All-from_recursion P xs a))

-- what holds at each place below n
pub all_below : {X : Type 0} (P : X → Type 0) (n : ℕ) (xs : List X) (d : X) → ((i : ℕ) → i < n → i < length xs → P (get_or xs i d)) → AllByRecursion P (take n xs)
all_below P zero xs d h = tt
all_below P (suc n) [] d h = tt
all_below P (suc n) (x ∷ xs) d h = (h 0 (omega arith) (omega arith), all_below P n xs d (λ i l m. h (suc i) (omega arith) (omega arith)))

pub all_places : {X : Type 0} (P : X → Type 0) (xs : List X) (d : X) → ((i : ℕ) → i < length xs → P (get_or xs i d)) → AllByRecursion P xs
all_places P [] d h = tt
all_places P (x ∷ xs) d h = (h 0 (omega arith), all_places P xs d (λ i l. h (suc i) (omega arith)))

pub all_get : {X : Type 0} (P : X → Type 0) (n : ℕ) (xs : List X) (d : X) → n < length xs → AllByRecursion P xs → P (get_or xs n d)
all_get P zero [] d lt h = absurd (omega arith)
all_get P (suc n) [] d lt h = absurd (omega arith)
all_get P zero (y ∷ ys) d lt h = h.0
all_get P (suc n) (y ∷ ys) d lt h = all_get P n ys d (omega arith) h.1

pub all_set : {X : Type 0} (P : X → Type 0) (n : ℕ) (xs : List X) (x : X) → P x → AllByRecursion P xs → AllByRecursion P (set xs n x)
all_set P n [] x p h = tt
all_set P zero (y ∷ ys) x p h = (p, h.1)
all_set P (suc n) (y ∷ ys) x p h = (h.0, all_set P n ys x p h.1)

pub map_get : {X Y : Type 0} (f : X → Y) (n : ℕ) (xs : List X) (x : X) (d : Y) → n < length xs → x ≡ get_or xs n x → f x ≡ get_or (map f xs) n d
map_get f zero [] x d l e = absurd (omega arith)
map_get f (suc n) [] x d l e = absurd (omega arith)
map_get f zero (y ∷ ys) x d l e = ap f e
map_get f (suc n) (y ∷ ys) x d l e = map_get f n ys x d (omega arith) e

pub map_at : {X Y : Type 0} (f : X → Y) (n : ℕ) (xs : List X) (e : X) (d : Y) → n < length xs → f (get_or xs n e) ≡ get_or (map f xs) n d
map_at f zero [] e d l = absurd (omega arith)
map_at f (suc n) [] e d l = absurd (omega arith)
map_at f zero (y ∷ ys) e d l = refl
map_at f (suc n) (y ∷ ys) e d l = map_at f n ys e d (omega arith)
