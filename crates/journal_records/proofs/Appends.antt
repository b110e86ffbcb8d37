-- Writing one field after the other.
use Rattle.std.proofs.Common.{◌≡◌, ℕ, List, ◌++◌, ap, subst, ◌∙◌, append_assoc}
use Rattle.journal_records.specs.Spelling.{text}

-- a was written, and then the rest
pub then : (o p q a rest : List ℕ) → p ≡ o ++ a → q ≡ p ++ rest → q ≡ o ++ (a ++ rest)
then o p q a rest first second = second ∙ ap (λ (l : List ℕ). l ++ rest) first ∙ append_assoc o a rest

pub of_text : (o p t u : List ℕ) → t ≡ u → p ≡ o ++ text t → p ≡ o ++ text u
of_text o p t u same e = subst (λ (x : List ℕ). p ≡ o ++ text x) same e
