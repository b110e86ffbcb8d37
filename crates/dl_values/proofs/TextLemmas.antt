-- Which texts a VARCHAR column takes.
use Rattle.std.proofs.Common.{◌≡◌, ℕ, ◌≤◌, List, Bool, true, false, cond, ◌&&◌, length, Some, None, refl, arith}
use Rattle.std.specs.Prelude.{nat_le}
use Rattle.std.specs.Str.{IsUtf8, is_utf8}
use Rattle.std.proofs.lemmas.Str.{IsUtf8-from_is_utf8, is_utf8-from_IsUtf8}
use Rattle.std.proofs.lemmas.Bool.Decides.{nat_tests}
use Rattle.dl_values.specs.declared.cell.Cell.TheVariants as cell
use Rattle.dl_values.specs.Read.{text_cell}

short : (m n : ℕ) → n ≤ m → nat_le n m ≡ true
short m n h = grind (arith, nat_tests)

pub text_found : (m : ℕ) (cs : List ℕ) → IsUtf8 cs → length cs ≤ m → text_cell m cs ≡ Some (cell.Text cs)
text_found m cs u h = rw (is_utf8-from_IsUtf8 cs u, short m (length cs) h) refl

pub text_refused : (m : ℕ) (cs : List ℕ) → (IsUtf8 cs → ⊥) → text_cell m cs ≡ None
text_refused m cs u = go (is_utf8 cs) refl
  where
    go : (b : Bool) → is_utf8 cs ≡ b → cond (b && nat_le (length cs) m) (Some (cell.Text cs)) None ≡ None
    go true e = absurd (u (IsUtf8-from_is_utf8 cs e))
    go false e = refl
