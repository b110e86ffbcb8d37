-- Whether bytes are UTF-8, as a test.
use Rattle.std.proofs.Common.{◌≡◌, refl, sym, Bool, true, false, ℕ, List, IsUtf8}
use Rattle.std.specs.Str.{is_utf8}
use Rattle.std.proofs.lemmas.Str.{IsUtf8-from_is_utf8, is_utf8-from_IsUtf8}

pub is_text : (bs : List ℕ) → IsUtf8 bs → true ≡ is_utf8 bs
is_text bs h = sym (is_utf8-from_IsUtf8 bs h)

pub is_no_text : (bs : List ℕ) → ¬ (IsUtf8 bs) → false ≡ is_utf8 bs
is_no_text bs n = go (is_utf8 bs) (λ t. n (IsUtf8-from_is_utf8 bs t))
  where
    go : (b : Bool) → (b ≡ true → ⊥) → false ≡ b
    go true h = absurd (h refl)
    go false h = refl
