-- Whether the index or shadow of a number is there, tested index by index, is whether the number is among those of the marks.
use Rattle.std.proofs.Common.{◌≡◌, ℕ, Bool, ◌&&◌, ◌||◌, List, [], ◌∷◌, nat_eq, refl, ap}
use Rattle.std.specs.List.{cons_option, list_any}
use Rattle.std.specs.Prelude.{Option, Some, None, is_none}
use Rattle.tablets.specs.SetView.{IndexView}
use Rattle.tablets.specs.Shadows.{aim, aims, is_among, is_number, marks_of, numbers, plain, plains}
use Rattle.tablets.specs.declared.shadow.Shadow.{Shadow}

pub any_number : (n : ℕ) (is : List IndexView) → list_any (λ i. nat_eq i.number n) is ≡ is_among (numbers (marks_of is)) n
any_number n [] = refl
any_number n (i ∷ is) = ap (λ b. nat_eq i.number n || b) (any_number n is)

pub any_plain : (n : ℕ) (is : List IndexView) → list_any (λ i. is_none i.shadow && nat_eq i.number n) is ≡ is_among (plains (marks_of is)) n
any_plain n [] = refl
any_plain n (i ∷ is) = go i.shadow (any_plain n is)
  where
    rest : Bool
    rest = list_any (λ i. is_none i.shadow && nat_eq i.number n) is

    go : (o : Option Shadow) → rest ≡ is_among (plains (marks_of is)) n → ((is_none o && nat_eq i.number n) || rest) ≡ is_among (cons_option (plain o i.number) (plains (marks_of is))) n
    go None e = ap (λ b. nat_eq i.number n || b) e
    go (Some s) e = e

pub any_aim : (n : ℕ) (is : List IndexView) → list_any (λ i. is_number n (aim i.shadow)) is ≡ is_among (aims (marks_of is)) n
any_aim n [] = refl
any_aim n (i ∷ is) = go (aim i.shadow) (any_aim n is)
  where
    rest : Bool
    rest = list_any (λ i. is_number n (aim i.shadow)) is

    go : (o : Option ℕ) → rest ≡ is_among (aims (marks_of is)) n → (is_number n o || rest) ≡ is_among (cons_option o (aims (marks_of is))) n
    go None e = e
    go (Some m) e = ap (λ b. nat_eq m n || b) e
