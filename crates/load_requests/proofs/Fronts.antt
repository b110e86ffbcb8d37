-- The first token of a text.
use Rattle.std.proofs.Common.{◌≡◌, ◌+◌, arith, ℕ, zero, suc, Bool, true, false, cond, Option, Some, None, List, [], ◌∷◌, drop, sym, ap, refl, subst, MatchOption, option_map}
use Rattle.std.specs.List.{prefix_len}
use Rattle.load_requests.specs.Bytes.{is_blank}
use Rattle.load_requests.specs.declared.token.Kind.{Kind}
use Rattle.load_requests.specs.Tokens.{Token, lexeme, front, tokens_behind, tokens_of}

-- the tokens behind so many bytes are those of the rest
pub rest_of : (n : ℕ) (bs : List ℕ) → tokens_behind n bs ≡ tokens_of (drop n bs)
unfolding tokens_behind
rest_of zero bs = refl
rest_of (suc n) [] = refl
rest_of (suc n) (b ∷ bs) = rest_of n bs

-- these are the tokens, by the first of them and what stands behind it
abbrev pub Starts : List Token → Option (Kind × List ℕ × List ℕ) → Type 0
Starts tokens found = MatchOption found (tokens ≡ []) (λ x. tokens ≡ (x.0, x.1) ∷ tokens_of x.2)

step : (b : ℕ) (bs : List ℕ) (blank : Bool) (n : ℕ) → Starts (tokens_of bs) (front (drop n bs))
    → Starts (cond blank (tokens_of bs) (((lexeme b bs).0, (lexeme b bs).1) ∷ tokens_behind (lexeme b bs).2 bs)) (front (drop (cond blank (1 + n) 0) (b ∷ bs)))
step b bs true n so = let e : 1 + n ≡ suc n = omega arith in rw e so
step b bs false n so = ap (λ rest. ((lexeme b bs).0, (lexeme b bs).1) ∷ rest) (rest_of (lexeme b bs).2 bs)

pub starts : (text : List ℕ) → Starts (tokens_of text) (front (drop (prefix_len is_blank text) text))
unfolding tokens_behind
starts [] = refl
starts (b ∷ bs) = step b bs (is_blank b) (prefix_len is_blank bs) (starts bs)

pub starts_at : (text rest : List ℕ) (n : ℕ) → n ≡ prefix_len is_blank text → rest ≡ drop n text → Starts (tokens_of text) (front rest)
starts_at text rest n e r = rw (r, e) (starts text)

-- the same, as a function's answer shows it
pub seen_by : {X : Type 0} (view : X → Kind × List ℕ × List ℕ) (r : Option X) (m : Option (Kind × List ℕ × List ℕ)) (tokens : List Token) → option_map view r ≡ m → Starts tokens m → MatchOption r (tokens ≡ []) (λ x. tokens ≡ ((view x).0, (view x).1) ∷ tokens_of (view x).2)
seen_by view None m tokens e h = subst (Starts tokens) (sym e) h
seen_by view (Some x) m tokens e h = subst (Starts tokens) (sym e) h
