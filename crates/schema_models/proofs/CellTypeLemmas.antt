-- Which texts a VARCHAR column takes.
use Rattle.std.proofs.Common.{◌≡◌, ℕ, ◌≤◌, List, Bool, true, false, length, refl, sym, arith}
use Rattle.std.specs.Prelude.{nat_le}
use Rattle.std.specs.Str.{IsUtf8, is_utf8}
use Rattle.std.proofs.lemmas.Str.{IsUtf8-from_is_utf8, is_utf8-from_IsUtf8}
use Rattle.std.proofs.lemmas.Bool.Decides.{nat_tests}
use Rattle.schema_models.specs.CellTypes.{is_text}

short : (m n : ℕ) → n ≤ m → nat_le n m ≡ true
short m n h = grind (arith, nat_tests)

pub text_fits : (m : ℕ) (t : List ℕ) → length t ≤ m → IsUtf8 t → true ≡ is_text m t
text_fits m t h u = rw (short m (length t) h, is_utf8-from_IsUtf8 t u) refl

pub text_is_none : (m : ℕ) (t : List ℕ) → length t ≤ m → (IsUtf8 t → ⊥) → false ≡ is_text m t
text_is_none m t h u = rw (short m (length t) h) (go (is_utf8 t) refl)
  where
    go : (b : Bool) → is_utf8 t ≡ b → false ≡ is_utf8 t
    go true e = absurd (u (IsUtf8-from_is_utf8 t e))
    go false e = sym e
