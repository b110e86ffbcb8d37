-- The cells of a group of which the first have a row more, and the others not yet.
use Rattle.std.proofs.Common.{◌≡◌, ℕ, ◌<◌, ◌≤◌, ◌⊎◌, inl, inr, List, [], ◌∷◌, ◌++◌, take, drop, length, min, refl, sym, ap, ap₂, ◌∙◌, append-nil, arith}
use Rattle.std.proofs.Math.ListN.{drop_of_length-le}
use Rattle.std.proofs.lemmas.Bool.{cases_lt}
use Rattle.std.proofs.lemmas.List.{take-append-drop, take_all}
use Rattle.dl_values.specs.declared.cell.Cell.{Cell}
use Rattle.select_eval.specs.Outputs.{grown}
use Rattle.select_eval.specs.declared.output.Output.{Output}

of_none : (xs row : List Cell) → grown [] xs row ≡ xs
of_none [] row = refl
of_none (x ∷ xs) row = refl

pub all_grown : (os : List Output) (xs row whole : List Cell) (i : ℕ) → i ≡ min (length xs) (length os) → take i xs ++ grown (drop i os) (drop i xs) row ≡ whole → xs ≡ whole
all_grown os xs row whole i e h = go (cases_lt (length xs) (length os))
  where
    go : (length xs < length os) ⊎ (length os ≤ length xs) → xs ≡ whole
    go (inl l) = sym (ap₂ (λ (a b : List Cell). a ++ grown (drop i os) b row) (take_all i xs (omega arith)) (drop_of_length-le xs (omega arith)) ∙ append-nil xs) ∙ h
    go (inr l) = sym (ap (λ (a : List Output). take i xs ++ grown a (drop i xs) row) (drop_of_length-le os (omega arith)) ∙ ap (λ l. take i xs ++ l) (of_none (drop i xs) row) ∙ take-append-drop i xs) ∙ h
