-- A string that was written is read again.
use Rattle.std.proofs.Common.{◌≡◌, ℕ, ◌==◌, Bool, true, false, cond, List, [], ◌∷◌, ◌++◌, Option, Some, refl, sym, ap, ◌∙◌, append_assoc, codes, inl, inr}
use Rattle.std.specs.Prelude.{option_map}
use Rattle.std.proofs.lemmas.Bool.{eqb-true}
use Rattle.sql_tokens.specs.Strings.{with_first, string_at}
use Rattle.sql_tokens.specs.Tokens.{string, lexeme}
use Rattle.sql_tokens.specs.declared.token.TokenKind.TheVariants as kind
use Rattle.sql_print.specs.Printing.{escape, escapes}
use Rattle.sql_print.proofs.Runs.{IsStop}
use Rattle.sql_print.proofs.Begun.{Begins}

abbrev found : List ℕ → List ℕ → Option (List ℕ × List ℕ)
found v rest = Some (v, rest)

plain_again : (b : ℕ) (more : List ℕ) (x : List ℕ × List ℕ) → string_at 39 more ≡ Some x → (b == 39) ≡ false → (b == 92) ≡ false → string_at 39 (b ∷ more) ≡ Some (b ∷ x.0, x.1)
unfolding string_at
plain_again b [] x e h k = absurd cc
plain_again b (c ∷ cs) x e h k = rw (h, k) (ap (option_map (with_first b)) e)

one_again : (b : ℕ) (more : List ℕ) (x : List ℕ × List ℕ) → string_at 39 more ≡ Some x → string_at 39 (escape b ++ more) ≡ Some (b ∷ x.0, x.1)
unfolding string_at
one_again b more x e = quote (b == 39) refl
  where
    as_byte : (c : ℕ) → (b == c) ≡ true → option_map (with_first c) (string_at 39 more) ≡ found (b ∷ x.0) x.1
    as_byte c h = ap (option_map (with_first c)) e ∙ ap (λ y. found (y ∷ x.0) x.1) (sym (eqb-true b c h))

    cr : (b == 39) ≡ false → (b == 92) ≡ false → (r : Bool) → (b == 13) ≡ r → string_at 39 (cond r (92 ∷ 114 ∷ []) (b ∷ []) ++ more) ≡ found (b ∷ x.0) x.1
    cr h k true m = as_byte 13 m
    cr h k false m = plain_again b more x e h k

    tab : (b == 39) ≡ false → (b == 92) ≡ false → (r : Bool) → (b == 9) ≡ r → string_at 39 (cond r (92 ∷ 116 ∷ []) (cond (b == 13) (92 ∷ 114 ∷ []) (b ∷ [])) ++ more) ≡ found (b ∷ x.0) x.1
    tab h k true m = as_byte 9 m
    tab h k false m = cr h k (b == 13) refl

    lf : (b == 39) ≡ false → (b == 92) ≡ false → (r : Bool) → (b == 10) ≡ r → string_at 39 (cond r (92 ∷ 110 ∷ []) (cond (b == 9) (92 ∷ 116 ∷ []) (cond (b == 13) (92 ∷ 114 ∷ []) (b ∷ []))) ++ more) ≡ found (b ∷ x.0) x.1
    lf h k true m = as_byte 10 m
    lf h k false m = tab h k (b == 9) refl

    slash : (b == 39) ≡ false → (r : Bool) → (b == 92) ≡ r → string_at 39 (cond r (92 ∷ 92 ∷ []) (cond (b == 10) (92 ∷ 110 ∷ []) (cond (b == 9) (92 ∷ 116 ∷ []) (cond (b == 13) (92 ∷ 114 ∷ []) (b ∷ [])))) ++ more) ≡ found (b ∷ x.0) x.1
    slash h true m = as_byte 92 m
    slash h false m = lf h m (b == 10) refl

    quote : (r : Bool) → (b == 39) ≡ r → string_at 39 (cond r (92 ∷ 39 ∷ []) (cond (b == 92) (92 ∷ 92 ∷ []) (cond (b == 10) (92 ∷ 110 ∷ []) (cond (b == 9) (92 ∷ 116 ∷ []) (cond (b == 13) (92 ∷ 114 ∷ []) (b ∷ []))))) ++ more) ≡ found (b ∷ x.0) x.1
    quote true m = as_byte 39 m
    quote false m = slash m (b == 92) refl

ends_at : (rest : List ℕ) → IsStop rest → string_at 39 (39 ∷ rest) ≡ found [] rest
unfolding string_at
ends_at [] h = refl
ends_at (c ∷ cs) (inl (inl e)) = rw e refl
ends_at (c ∷ cs) (inl (inr e)) = rw e refl
ends_at (c ∷ cs) (inr e) = rw e refl

text_again : (v rest : List ℕ) → IsStop rest → string_at 39 (escapes v ++ 39 ∷ rest) ≡ found v rest
unfolding escapes
text_again [] rest h = ends_at rest h
text_again (b ∷ bs) rest h = ap (string_at 39) (append_assoc (escape b) (escapes bs) (39 ∷ rest)) ∙ one_again b (escapes bs ++ 39 ∷ rest) (bs, rest) (text_again bs rest h)

pub string_begins : (v rest : List ℕ) → IsStop rest → Begins (kind.Text v) (codes "'" ++ (escapes v ++ codes "'") ++ rest) rest
unfolding lexeme
string_begins v rest stop = record {
  first = 39;
  more = (escapes v ++ 39 ∷ []) ++ rest;
  parts = refl;
  dark = refl;
  lexes = ap (lexeme 39) (append_assoc (escapes v) (39 ∷ []) rest) ∙ ap string (text_again v rest stop);
}
