-- Tokens are written in parts.
use Rattle.std.proofs.Common.{◌≡◌, ◌+◌, ◌<◌, ℕ, Bool, true, length, drop, slice_index_or, List, [], ◌∷◌, ◌++◌, refl, sym, ap, ◌∙◌, append_assoc}
use Rattle.std.proofs.lemmas.List.{append-nil, at_drop_more}
use Rattle.sql_tokens.specs.declared.token.TokenKind.{TokenKind}
use Rattle.sql_print.specs.Printing.{gap, spelled, is_open, behind, printed}
use Rattle.sql_print.specs.Steps.{is_glued, put}

glued_append : (glued : Bool) (a b : List TokenKind) → is_glued glued (a ++ b) ≡ is_glued (is_glued glued a) b
unfolding is_glued
glued_append glued [] b = refl
glued_append glued (t ∷ ts) b = glued_append (is_open t) ts b

pub behind_append : (glued : Bool) (a b : List TokenKind) → behind glued (a ++ b) ≡ behind glued a ++ behind (is_glued glued a) b
unfolding behind is_glued
behind_append glued [] b = refl
behind_append glued (t ∷ ts) b =
    ap (λ x. gap glued t ++ (spelled t ++ x)) (behind_append (is_open t) ts b)
    ∙ ap (λ x. gap glued t ++ x) (sym (append_assoc (spelled t) (behind (is_open t) ts) (behind (is_glued (is_open t) ts) b)))
    ∙ sym (append_assoc (gap glued t) (spelled t ++ behind (is_open t) ts) (behind (is_glued (is_open t) ts) b))

pub put_append : (w : List ℕ × Bool) (a b : List TokenKind) → put w (a ++ b) ≡ put (put w a) b
unfolding put
put_append w a b =
    ap (λ x. (w.0 ++ x, is_glued w.1 (a ++ b))) (behind_append w.1 a b)
    ∙ ap (λ x. (w.0 ++ (behind w.1 a ++ behind (is_glued w.1 a) b), x)) (glued_append w.1 a b)
    ∙ ap (λ x. (x, is_glued (is_glued w.1 a) b)) (sym (append_assoc w.0 (behind w.1 a) (behind (is_glued w.1 a) b)))

pub put_nil : (w : List ℕ × Bool) → put w [] ≡ w
unfolding put behind is_glued
put_nil w = ap (λ x. (x, w.1)) (append-nil w.0)

pub put_first : (w : List ℕ × Bool) (t : TokenKind) (ts : List TokenKind) → put w (t ∷ ts) ≡ put (put w (t ∷ [])) ts
put_first w t ts = put_append w (t ∷ []) ts

pub put_next : (w v z : List ℕ × Bool) (ts : List TokenKind) (i : ℕ) (t : TokenKind) → i < length ts → t ≡ slice_index_or ts i t → v ≡ put w (t ∷ []) → put w (drop i ts) ≡ z → put v (drop (i + 1) ts) ≡ z
put_next w v z ts i t l e p h = ap (λ x. put x (drop (i + 1) ts)) p ∙ sym (put_first w t (drop (i + 1) ts)) ∙ ap (λ x. put w (x ∷ drop (i + 1) ts)) e ∙ sym (at_drop_more (put w) ts i t l) ∙ h

-- what is written from nothing is the text
pub all_put : (w : List ℕ × Bool) (ts : List TokenKind) → w ≡ put ([], true) ts → w.0 ≡ printed ts
unfolding put
all_put w ts e = ap (λ x. x.0) e

-- two steps of writing are one
pub put_put : (w : List ℕ × Bool) (a b : List TokenKind) → put (put w a) b ≡ put w (a ++ b)
put_put w a b = sym (put_append w a b)

-- the same, of equations
pub then_put : (w v z : List ℕ × Bool) (a b : List TokenKind) → v ≡ put w a → z ≡ put v b → z ≡ put w (a ++ b)
then_put w v z a b p q = q ∙ ap (λ x. put x b) p ∙ put_put w a b
