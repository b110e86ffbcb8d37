-- What holds of each member of a list.
use Rattle.std.proofs.Common.{◌≡◌, ℕ, ◌+◌, ◌<◌, zero, suc, List, [], ◌∷◌, take, drop, length, get_or, subst, sym, arith}
use Rattle.std.proofs.lemmas.List.{drop_more}
use Rattle.std.specs.List.{AllByRecursion}

pub all_drop : {X : Type 0} (P : X → Type 0) (n : ℕ) (xs : List X) → AllByRecursion P xs → AllByRecursion P (drop n xs)
all_drop P zero xs h = h
all_drop P (suc n) [] h = tt
all_drop P (suc n) (x ∷ xs) h = all_drop P n xs h.1

pub all_at : {X : Type 0} (P : X → Type 0) (n : ℕ) (xs : List X) (x : X) → n < length xs → x ≡ get_or xs n x → AllByRecursion P xs → P x
all_at P zero [] x lt is h = let no : ⊥ = omega arith in absurd no
all_at P zero (y ∷ ys) x lt is h = subst P (sym is) h.0
all_at P (suc n) [] x lt is h = let no : ⊥ = omega arith in absurd no
all_at P (suc n) (y ∷ ys) x lt is h = all_at P n ys x (omega arith) is h.1

-- one member more in front
pub all_more : {X : Type 0} (P : X → Type 0) (n : ℕ) (xs : List X) (d : X) → n < length xs → P (get_or xs n d) → AllByRecursion P (drop (n + 1) xs) → AllByRecursion P (drop n xs)
all_more P n xs d lt p rest = subst (AllByRecursion P) (sym (drop_more xs n d lt)) (p, rest)

pub all_take : {X : Type 0} (P : X → Type 0) (n : ℕ) (xs : List X) → AllByRecursion P xs → AllByRecursion P (take n xs)
all_take P zero xs h = tt
all_take P (suc n) [] h = tt
all_take P (suc n) (x ∷ xs) h = (h.0, all_take P n xs h.1)

pub all_imply : {X : Type 0} (P Q : X → Type 0) → ((x : X) → P x → Q x) → (xs : List X) → AllByRecursion P xs → AllByRecursion Q xs
all_imply P Q f [] h = tt
all_imply P Q f (x ∷ xs) h = (f x h.0, all_imply P Q f xs h.1)

pub all_get : {X : Type 0} (P : X → Type 0) (n : ℕ) (xs : List X) (d : X) → n < length xs → AllByRecursion P xs → P (get_or xs n d)
all_get P zero [] d lt h = let no : ⊥ = omega arith in absurd no
all_get P (suc n) [] d lt h = let no : ⊥ = omega arith in absurd no
all_get P zero (y ∷ ys) d lt h = h.0
all_get P (suc n) (y ∷ ys) d lt h = all_get P n ys d (omega arith) h.1
