-- Refusals as lists: what may be refused, in the order in which it is looked for.
use Rattle.std.specs.Prelude.{Bool, true, false, List, [], ◌∷◌, Option, Some, None}

-- this refusal, where the test says so
abbrev pub refuse_if : {E : Type 0} → Bool → E → Option E
refuse_if true e = Some e
refuse_if false e = None

-- the first refusal of a list, if there is one
abbrev pub first_of : {E : Type 0} → List (Option E) → Option E
first_of [] = None
first_of (Some e ∷ es) = Some e
first_of (None ∷ es) = first_of es
