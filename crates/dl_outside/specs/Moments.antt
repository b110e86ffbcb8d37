-- The moments that a clock gives: this project's own.
use Rattle.std.specs.Prelude.{◌≡◌, ◌-◌, ◌^◌, ℕ, zero, suc, min, ltb, List, [], ◌∷◌, ◌++◌, length, slice_index_or, Option, Some, None, ⊤, cond}

-- the clock gave this moment: where it still tells what it gave, it told it before, and this moment is the one added
abbrev pub GivesMoment : Option (List ℕ) → Option (List ℕ) → ℕ → Type 0
GivesMoment old None moment = ⊤
GivesMoment None (Some now) moment = ⊥
GivesMoment (Some before) (Some now) moment = now ≡ before ++ moment ∷ []

-- what contracts see of a clock in memory: its list, and how many moments it has given
pub record ListClockView : Type 0 where
  pub moments : List ℕ
  pub calls : ℕ

-- the moment at a place of a list whose last one repeats, 0 where the list is empty
abbrev pub moment_at : List ℕ → ℕ → ℕ
moment_at moments n = slice_index_or moments (min n (length moments - 1)) 0

-- the first n moments of such a list
abbrev pub first_moments : List ℕ → ℕ → List ℕ
first_moments moments zero = []
first_moments moments (suc n) = first_moments moments n ++ moment_at moments n ∷ []

-- a clock in memory tells what it has given until its count of 64 bits is at its end
abbrev pub told_moments : ListClockView → Option (List ℕ)
told_moments c = cond (ltb c.calls (2 ^ 64 - 1)) (Some (first_moments c.moments c.calls)) None
