-- The first token of a text.
use Rattle.std.proofs.Common.{◌≡◌, ◌+◌, ◌-◌, ◌<◌, ◌≤◌, arith, ℕ, zero, suc, Bool, true, false, cond, Option, Some, None, List, [], ◌∷◌, take, drop, length, sym, ap, refl, subst, MatchOption, ◌==◌, ◌&&◌, ◌||◌, nat_lt, ◌∙◌}
use Rattle.std.proofs.Math.Seq.{drop-length}
use Rattle.std.specs.Prelude.{IfSome}
use Rattle.std.specs.List.{prefix_len}
use Rattle.std.specs.Str.Parse.{digits_value}
use Rattle.dl_values.specs.Read.{minus}
use Rattle.sql_tokens.specs.Bytes.{is_blank, begins_word, is_digit, in_word, in_quotes}
use Rattle.sql_tokens.specs.Strings.{string_at}
use Rattle.sql_tokens.specs.Signs.{followed, or_else, long_sign_of, sign_of, sign_at}
use Rattle.sql_tokens.specs.declared.token.Token.{Token}
use Rattle.sql_tokens.specs.declared.token.TokenKind.{TokenKind}
use Rattle.sql_tokens.specs.declared.token.TokenKind.TheVariants as kind
use Rattle.sql_tokens.specs.declared.token.Sign.{Sign}
use Rattle.sql_tokens.specs.Tokens.{Lexeme, word, number, negative, quoted, string, signed, stray, integer, lexeme, front, tokens_behind}
use Rattle.sql_tokens.proofs.Rests.{IsEnd, back_to, no_longer, shorter, string_end}

stray_end : (bs : List ℕ) → IsEnd [] bs
stray_end bs = record { count = length bs; is = sym (drop-length bs) }

dropped : (n : ℕ) (bs : List ℕ) → IsEnd (drop n bs) bs
dropped n bs = record { count = n; is = refl }

negative_end : (n : ℕ) (bs : List ℕ) → IsEnd (negative n bs).1 bs
negative_end n bs = go (nat_lt 0 n)
  where
    go : (r : Bool) → IsEnd (cond r (integer (minus (digits_value 10 (take n bs))), drop n bs) stray).1 bs
    go true = dropped n bs
    go false = stray_end bs

quoted_end : (n : ℕ) (bs : List ℕ) → IsEnd (quoted n bs).1 bs
quoted_end n bs = go (nat_lt 0 n && nat_lt n (length bs))
  where
    go : (r : Bool) → IsEnd (cond r (kind.Quoted (take n bs), drop (n + 1) bs) stray).1 bs
    go true = dropped (n + 1) bs
    go false = stray_end bs

string_is_end : (bs : List ℕ) (o : Option (List ℕ × List ℕ)) → IfSome o (λ x. IsEnd x.1 bs) → IsEnd (string o).1 bs
string_is_end bs None h = stray_end bs
string_is_end bs (Some x) h = h

followed_end : (o : Option Sign) (bs : List ℕ) → IfSome (followed o bs) (λ x. IsEnd x.1 bs)
followed_end None bs = tt
followed_end (Some s) bs = record { count = 0; is = refl }

signed_end : (b : ℕ) (bs : List ℕ) → IsEnd (signed (sign_at b bs)).1 bs
signed_end b bs = go bs
  where
    last : (o : Option (Sign × List ℕ)) (cs : List ℕ) → IfSome o (λ x. IsEnd x.1 cs) → IsEnd (signed o).1 cs
    last None cs h = stray_end cs
    last (Some x) cs h = h

    two : (o : Option Sign) (c : ℕ) (cs : List ℕ) → IsEnd (signed (or_else (followed o cs) (followed (sign_of b) (c ∷ cs)))).1 (c ∷ cs)
    two None c cs = last (followed (sign_of b) (c ∷ cs)) (c ∷ cs) (followed_end (sign_of b) (c ∷ cs))
    two (Some s) c cs = record { count = 1; is = refl }

    go : (cs : List ℕ) → IsEnd (signed (sign_at b cs)).1 cs
    go [] = last (followed (sign_of b) []) [] (followed_end (sign_of b) [])
    go (c ∷ cs) = two (long_sign_of b c) c cs

pub lexeme_end : (b : ℕ) (bs : List ℕ) → IsEnd (lexeme b bs).1 bs
unfolding lexeme
lexeme_end b bs = go (begins_word b) (is_digit b) (b == 45) (b == 96) ((b == 39) || (b == 34))
  where
    go : (a d m q s : Bool) → IsEnd (cond a (word (prefix_len in_word bs) b bs) (cond d (number (prefix_len is_digit bs) b bs) (cond m (negative (prefix_len is_digit bs) bs) (cond q (quoted (prefix_len in_quotes bs) bs) (cond s (string (string_at b bs)) (signed (sign_at b bs))))))).1 bs
    go true d m q s = dropped _ bs
    go false true m q s = dropped _ bs
    go false false true q s = negative_end _ bs
    go false false false true s = quoted_end _ bs
    go false false false false true = string_is_end bs (string_at b bs) (string_end b bs)
    go false false false false false = signed_end b bs

-- ---- the tokens behind so many bytes are those of the rest

pub rest_of : (all n : ℕ) (bs : List ℕ) → tokens_behind all n bs ≡ tokens_behind all 0 (drop n bs)
unfolding tokens_behind
rest_of all zero bs = refl
rest_of all (suc n) [] = refl
rest_of all (suc n) (b ∷ bs) = rest_of all n bs

pub behind : (all b : ℕ) (bs : List ℕ) → tokens_behind all (length bs - length (lexeme b bs).1) bs ≡ tokens_behind all 0 (lexeme b bs).1
behind all b bs = rest_of all (length bs - length (lexeme b bs).1) bs ∙ ap (tokens_behind all 0) (back_to (lexeme b bs).1 bs (lexeme_end b bs))

-- these are the tokens, by the text without its first blanks
abbrev pub Starts : ℕ → List Token → List ℕ → Type 0
Starts all tokens text = MatchOption (front text) (tokens ≡ []) (λ x. tokens ≡ record { at = all - length text; kind = x.0 } ∷ tokens_behind all 0 x.1)

step : (all b : ℕ) (bs : List ℕ) (blank : Bool) (n : ℕ) → Starts all (tokens_behind all 0 bs) (drop n bs)
    → Starts all (cond blank (tokens_behind all 0 bs) (record { at = all - length (b ∷ bs); kind = (lexeme b bs).0 } ∷ tokens_behind all (length bs - length (lexeme b bs).1) bs)) (drop (cond blank (1 + n) 0) (b ∷ bs))
step all b bs true n so = let e : 1 + n ≡ suc n = omega arith in rw e so
step all b bs false n so = ap (λ rest. record { at = all - length (b ∷ bs); kind = (lexeme b bs).0 } ∷ rest) (behind all b bs)

pub starts : (all : ℕ) (text : List ℕ) → Starts all (tokens_behind all 0 text) (drop (prefix_len is_blank text) text)
unfolding tokens_behind
starts all [] = refl
starts all (b ∷ bs) = step all b bs (is_blank b) (prefix_len is_blank bs) (starts all bs)

starts_at : (all : ℕ) (left text : List ℕ) (n : ℕ) → n ≡ prefix_len is_blank left → text ≡ drop n left → Starts all (tokens_behind all 0 left) text
starts_at all left text n e r = subst (Starts all (tokens_behind all 0 left)) (ap (λ k. drop k left) (sym e) ∙ sym r) (starts all left)

by_front : (all : ℕ) (tokens : List Token) (text : List ℕ) (o : Option Lexeme) → o ≡ front text → Starts all tokens text → MatchOption o (tokens ≡ []) (λ x. tokens ≡ record { at = all - length text; kind = x.0 } ∷ tokens_behind all 0 x.1)
by_front all tokens text o e h = subst (λ f. MatchOption f (tokens ≡ []) (λ x. tokens ≡ record { at = all - length text; kind = x.0 } ∷ tokens_behind all 0 x.1)) (sym e) h

pub no_token : (all : ℕ) (left text : List ℕ) (n : ℕ) → n ≡ prefix_len is_blank left → text ≡ drop n left → None ≡ front text → tokens_behind all 0 left ≡ []
no_token all left text n e r f = by_front all (tokens_behind all 0 left) text None f (starts_at all left text n e r)

pub a_token : (all : ℕ) (left text rest : List ℕ) (k : TokenKind) (n : ℕ) → n ≡ prefix_len is_blank left → text ≡ drop n left → Some (k, rest) ≡ front text
    → tokens_behind all 0 left ≡ record { at = all - length text; kind = k } ∷ tokens_behind all 0 rest
a_token all left text rest k n e r f = by_front all (tokens_behind all 0 left) text (Some (k, rest)) f (starts_at all left text n e r)

front_shorter : (text : List ℕ) (o : Option Lexeme) → o ≡ front text → IfSome o (λ x. length x.1 < length text)
front_shorter text o e = subst (λ f. IfSome f (λ x. length x.1 < length text)) (sym e) (go text)
  where
    go : (cs : List ℕ) → IfSome (front cs) (λ x. length x.1 < length cs)
    go [] = tt
    go (b ∷ bs) = let h : length (lexeme b bs).1 ≤ length bs = no_longer (lexeme b bs).1 bs (lexeme_end b bs) in omega arith

pub token_shorter : (left text rest : List ℕ) (k : TokenKind) (n : ℕ) → text ≡ drop n left → Some (k, rest) ≡ front text → length rest < length left
token_shorter left text rest k n r f =
    let h : length rest < length text = front_shorter text (Some (k, rest)) f in
    let s : length (drop n left) ≤ length left = shorter n left in
    omega (arith, ap length r)
