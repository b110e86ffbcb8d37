-- Names one by one.
use Rattle.std.proofs.Common.{◌≡◌, ◌+◌, ◌<◌, ◌∙◌, ℕ, true, false, cond, Some, List, ◌∷◌, map, drop, get_or, length, sym, ap, add-one}
use Rattle.std.specs.Str.{str_eq_ignore_ascii_case}
use Rattle.std.proofs.Math.Seq.{drop-cons}
use Rattle.load_requests.specs.LoadFields.{named_in}

cut : {X : Type 0} (f : X → List ℕ) (names : List X) (i : ℕ) (d : X) → i < length names → map f (drop i names) ≡ f (get_or names i d) ∷ map f (drop (i + 1) names)
cut f names i d h = rw add-one (ap (map f) (drop-cons names i d h))

-- the name is this one
pub this_one : {X : Type 0} (f : X → List ℕ) (names : List X) (i : ℕ) (d : X) (name : List ℕ) → i < length names → str_eq_ignore_ascii_case name (f (get_or names i d)) ≡ true
    → named_in (map f (drop i names)) name ≡ named_in (map f names) name → Some (f (get_or names i d)) ≡ named_in (map f names) name
this_one f names i d name h passes so =
    sym (ap (λ ns. named_in ns name) (cut f names i d h) ∙ ap (λ b. cond b (Some (f (get_or names i d))) (named_in (map f (drop (i + 1) names)) name)) passes) ∙ so

-- or another
pub another : {X : Type 0} (f : X → List ℕ) (names : List X) (i : ℕ) (d : X) (name : List ℕ) → i < length names → str_eq_ignore_ascii_case name (f (get_or names i d)) ≡ false
    → named_in (map f (drop i names)) name ≡ named_in (map f names) name → named_in (map f (drop (i + 1) names)) name ≡ named_in (map f names) name
another f names i d name h fails so =
    sym (ap (λ ns. named_in ns name) (cut f names i d h) ∙ ap (λ b. cond b (Some (f (get_or names i d))) (named_in (map f (drop (i + 1) names)) name)) fails) ∙ so
