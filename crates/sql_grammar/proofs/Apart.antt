-- Marks that are apart have no token in common.
use Rattle.std.proofs.Common.{◌≡◌, ℕ, Bool, true, false, not, ◌&&◌, ◌||◌, ◌==◌, List, [], ◌∷◌, ◌++◌, refl, sym, ap, ◌∙◌, rules}
use Rattle.std.specs.Str.{bytes_eq}
use Rattle.std.proofs.lemmas.Bool.{eqb-true}
use Rattle.std.proofs.lemmas.Slice.Eq.{bytes_eq-Decides}
use Rattle.sql_tokens.specs.declared.token.Token.{Token}
use Rattle.sql_tokens.specs.declared.token.TokenKind.{TokenKind}
use Rattle.sql_tokens.specs.declared.token.TokenKind.TheVariants as kind
use Rattle.sql_grammar.specs.Marks.{Mark, marked_word, marked_sign, marked_name, lower, is_reserved, sign_code, kind_is, mark_is, matches, marks_apart, apart_from, are_apart}

or-assoc : (a b c : Bool) → ((a || b) || c) ≡ (a || (b || c))
or-assoc true b c = refl
or-assoc false b c = refl

or-false : (a : Bool) → (a || false) ≡ a
or-false true = refl
or-false false = refl

-- matches by its first mark
matches-cons : (m : Mark) (ms : List Mark) (t : Token) → matches (m ∷ ms) t ≡ (mark_is m t || matches ms t)
matches-cons m [] t = sym (or-false (mark_is m t))
matches-cons m (n ∷ ms) t = refl

pub matches-append : (a b : List Mark) (t : Token) → matches (a ++ b) t ≡ (matches a t || matches b t)
matches-append [] b t = refl
matches-append (m ∷ a) b t = matches-cons m (a ++ b) t ∙ ap (λ (x : Bool). mark_is m t || x) (matches-append a b t) ∙ sym (or-assoc (mark_is m t) (matches a t) (matches b t)) ∙ ap (λ (x : Bool). x || matches b t) (sym (matches-cons m a t))

not_true : (b : Bool) → not b ≡ true → b ≡ false
not_true true h = absurd cc
not_true false h = refl

-- the bytes are one word, and so not another
one_word : (v a b : List ℕ) → not (bytes_eq a b) ≡ true → bytes_eq v a ≡ true → bytes_eq v b ≡ false
one_word v a b h k =
    let e : v ≡ a = search (rules, bytes_eq-Decides, k) in
    ap (λ (x : List ℕ). bytes_eq x b) e ∙ not_true (bytes_eq a b) h

word_reserved : (v a : List ℕ) → is_reserved a ≡ true → bytes_eq v a ≡ true → not (is_reserved v) ≡ false
word_reserved v a h k =
    let e : v ≡ a = search (rules, bytes_eq-Decides, k) in
    ap (λ (x : List ℕ). not (is_reserved x)) e ∙ ap not h

name_no_word : (v b : List ℕ) → is_reserved b ≡ true → not (is_reserved v) ≡ true → bytes_eq v b ≡ false
name_no_word v b h k = go (bytes_eq v b) refl
  where
    go : (x : Bool) → bytes_eq v b ≡ x → bytes_eq v b ≡ false
    go false e = e
    go true e = absurd (let z = word_reserved v b h e in cc)

one_sign : (v a b : ℕ) → not (a == b) ≡ true → (v == a) ≡ true → (v == b) ≡ false
one_sign v a b h k =
    let e : v ≡ a = eqb-true v a k in
    ap (λ (x : ℕ). x == b) e ∙ not_true (a == b) h

kind_apart : (m n : Mark) (w : TokenKind) → marks_apart m n ≡ true → kind_is m w ≡ true → kind_is n w ≡ false
kind_apart (marked_word a) (marked_word b) (kind.Word v) h k = one_word (lower v) (lower a) (lower b) h k
kind_apart (marked_word a) marked_name (kind.Word v) h k = word_reserved (lower v) (lower a) h k
kind_apart marked_name (marked_word b) (kind.Word v) h k = name_no_word (lower v) (lower b) h k
kind_apart (marked_sign a) (marked_sign b) (kind.Sign v) h k = one_sign (sign_code v) (sign_code a) (sign_code b) h k
kind_apart m n (kind.Word v) h k = first_of (search rules, cc)
kind_apart m n (kind.Quoted v) h k = first_of (search rules, cc)
kind_apart m n (kind.Int v) h k = first_of (search rules, cc)
kind_apart m n kind.Beyond h k = first_of (search rules, cc)
kind_apart m n (kind.Text v) h k = first_of (search rules, cc)
kind_apart m n (kind.Sign v) h k = first_of (search rules, cc)
kind_apart m n kind.Stray h k = first_of (search rules, cc)

and_first : (a b : Bool) → (a && b) ≡ true → a ≡ true
and_first true b h = refl
and_first false b h = h

and_second : (a b : Bool) → (a && b) ≡ true → b ≡ true
and_second true b h = h
and_second false b h = absurd cc

one_apart : (m : Mark) (ns : List Mark) (t : Token) → apart_from m ns ≡ true → mark_is m t ≡ true → matches ns t ≡ false
one_apart m [] t h k = refl
one_apart m (n ∷ ns) t h k = matches-cons n ns t ∙ rw (kind_apart m n t.kind (and_first (marks_apart m n) (apart_from m ns) h) k) (one_apart m ns t (and_second (marks_apart m n) (apart_from m ns) h) k)

pub apart_sound : (ms ns : List Mark) → are_apart ms ns ≡ true → (t : Token) → matches ms t ≡ true → matches ns t ≡ false
apart_sound [] ns h t k = absurd cc
apart_sound (m ∷ ms) ns h t k = go (mark_is m t) refl (λ e. apart_sound ms ns (and_second (apart_from m ns) (are_apart ms ns) h) t (sym (ap (λ (x : Bool). x || matches ms t) e) ∙ sym (matches-cons m ms t) ∙ k))
  where
    go : (b : Bool) → mark_is m t ≡ b → (mark_is m t ≡ false → matches ns t ≡ false) → matches ns t ≡ false
    go true e others = one_apart m ns t (and_first (apart_from m ns) (are_apart ms ns) h) e
    go false e others = others e
