-- Histories that many seats make, the newest entry first. What an entry is, only the engine knows: here it is asked for the name of the seat that called, and a record that was told has none.
use Rattle.std.specs.Prelude.{◌≡◌, ℕ, ◌-◌, Bool, true, false, ◌&&◌, ◌==◌, cond, List, [], ◌∷◌, ◌++◌, length, take, Option, Some, None}

abbrev pub same_name : List ℕ → List ℕ → Bool
same_name [] [] = true
same_name [] (y ∷ ys) = false
same_name (x ∷ xs) [] = false
same_name (x ∷ xs) (y ∷ ys) = (x == y) && same_name xs ys

abbrev pub is_named : List ℕ → Option (List ℕ) → Bool
is_named name None = false
is_named name (Some other) = same_name name other

-- the entries of the seat with this name, in their order
abbrev pub entries_by : {N : Type 0} → (N → Option (List ℕ)) → List ℕ → List N → List N
entries_by seat_of name [] = []
entries_by seat_of name (e ∷ es) = cond (is_named name (seat_of e)) (e ∷ entries_by seat_of name es) (entries_by seat_of name es)

-- no entry is of the seat with this name
abbrev pub HasNone : {N : Type 0} → (N → Option (List ℕ)) → List ℕ → List N → Type 0
HasNone seat_of name log = entries_by seat_of name log ≡ []

-- a list goes on from an older one: it has further entries, and then that one
abbrev pub GoesOn : {A : Type 0} → List A → List A → Type 0
GoesOn {A} all seen = (more : List A) × (all ≡ more ++ seen)

-- of two lists of which the longer goes on from the other, the longer: what the second has beyond the first, and then the first
abbrev pub longer : {A : Type 0} → List A → List A → List A
longer xs ys = take (length ys - length xs) ys ++ xs
