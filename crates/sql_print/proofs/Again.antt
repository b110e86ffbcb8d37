-- The tokens of the text of tokens are these.
use Rattle.std.proofs.Common.{◌≡◌, ℕ, Bool, true, false, cond, List, [], ◌∷◌, ◌++◌, length, map, refl, sym, ap, subst, ◌∙◌, ◌||◌, inl, inr}
use Rattle.sql_tokens.specs.Bytes.{is_blank}
use Rattle.sql_tokens.specs.declared.token.Token.{Token}
use Rattle.sql_tokens.specs.declared.token.Sign.TheVariants as sign
use Rattle.sql_tokens.specs.declared.token.TokenKind.{TokenKind}
use Rattle.sql_tokens.specs.declared.token.TokenKind.TheVariants as kind
use Rattle.sql_tokens.specs.Tokens.{lexeme, tokens_behind, tokens_of}
use Rattle.sql_tokens.proofs.Fronts.{behind as rest_of_tokens}
use Rattle.sql_print.specs.Printing.{gap, spelled, is_open, leans, behind, printed}
use Rattle.sql_print.specs.Writable.{IsWritable, AreWritable}
use Rattle.sql_print.proofs.Runs.{IsStop}
use Rattle.sql_print.proofs.Begun.{Begins, word_begins, name_begins, integer_begins}
use Rattle.sql_print.proofs.Signs.{open_begins, sign_begins}
use Rattle.sql_print.proofs.Strings.{string_begins}

abbrev pub kinds : List Token → List TokenKind
kinds ts = map (λ t. t.kind) ts

first_is : (all b : ℕ) (bs rest : List ℕ) (t : TokenKind) → is_blank b ≡ false → lexeme b bs ≡ (t, rest) → kinds (tokens_behind all 0 (b ∷ bs)) ≡ t ∷ kinds (tokens_behind all 0 rest)
unfolding tokens_behind
first_is all b bs rest t dark e = rw dark (ap (λ x. (lexeme b bs).0 ∷ kinds x) (rest_of_tokens all b bs) ∙ ap (λ x. x.0 ∷ kinds (tokens_behind all 0 x.1)) e)

begun : (all : ℕ) (t : TokenKind) (text rest : List ℕ) → Begins t text rest → kinds (tokens_behind all 0 text) ≡ t ∷ kinds (tokens_behind all 0 rest)
begun all t text rest h = ap (λ x. kinds (tokens_behind all 0 x)) h.parts ∙ first_is all h.first h.more rest t h.dark h.lexes

-- a gap is no token
behind_gap : (all : ℕ) (glued : Bool) (t : TokenKind) (text : List ℕ) → kinds (tokens_behind all 0 (gap glued t ++ text)) ≡ kinds (tokens_behind all 0 text)
unfolding tokens_behind
behind_gap all glued t text = go (glued || leans t)
  where
    go : (r : Bool) → kinds (tokens_behind all 0 (cond r [] (32 ∷ []) ++ text)) ≡ kinds (tokens_behind all 0 text)
    go true = refl
    go false = refl

-- behind a token other than `(` stands a stop
stops : (ts : List TokenKind) → IsStop (behind false ts)
unfolding behind
stops [] = tt
stops (kind.Word w ∷ ts) = inl (inl refl)
stops (kind.Quoted n ∷ ts) = inl (inl refl)
stops (kind.Int z ∷ ts) = inl (inl refl)
stops (kind.Text v ∷ ts) = inl (inl refl)
stops (kind.Beyond ∷ ts) = inl (inl refl)
stops (kind.Stray ∷ ts) = inl (inl refl)
stops (kind.Sign sign.Comma ∷ ts) = inl (inr refl)
stops (kind.Sign sign.Close ∷ ts) = inr refl
stops (kind.Sign sign.Open ∷ ts) = inl (inl refl)
stops (kind.Sign sign.OpenRange ∷ ts) = inl (inl refl)
stops (kind.Sign sign.End ∷ ts) = inl (inl refl)
stops (kind.Sign sign.Equal ∷ ts) = inl (inl refl)
stops (kind.Sign sign.Less ∷ ts) = inl (inl refl)
stops (kind.Sign sign.Greater ∷ ts) = inl (inl refl)
stops (kind.Sign sign.AtMost ∷ ts) = inl (inl refl)
stops (kind.Sign sign.AtLeast ∷ ts) = inl (inl refl)
stops (kind.Sign sign.Unequal ∷ ts) = inl (inl refl)
stops (kind.Sign sign.Star ∷ ts) = inl (inl refl)

token_begins : (t : TokenKind) (rest : List ℕ) → IsWritable t → (is_open t ≡ false → IsStop rest) → Begins t (spelled t ++ rest) rest
token_begins (kind.Word []) rest w stop = absurd w
token_begins (kind.Word (b ∷ bs)) rest w stop = word_begins b bs rest w.0 w.1 (stop refl)
token_begins (kind.Quoted n) rest w stop = name_begins n rest w
token_begins (kind.Int z) rest w stop = integer_begins z rest w (stop refl)
token_begins (kind.Text v) rest w stop = string_begins v rest (stop refl)
token_begins kind.Beyond rest w stop = absurd w
token_begins kind.Stray rest w stop = absurd w
token_begins (kind.Sign sign.Open) rest w stop = open_begins rest
token_begins (kind.Sign sign.Close) rest w stop = sign_begins sign.Close rest (stop refl)
token_begins (kind.Sign sign.OpenRange) rest w stop = sign_begins sign.OpenRange rest (stop refl)
token_begins (kind.Sign sign.Comma) rest w stop = sign_begins sign.Comma rest (stop refl)
token_begins (kind.Sign sign.End) rest w stop = sign_begins sign.End rest (stop refl)
token_begins (kind.Sign sign.Equal) rest w stop = sign_begins sign.Equal rest (stop refl)
token_begins (kind.Sign sign.Less) rest w stop = sign_begins sign.Less rest (stop refl)
token_begins (kind.Sign sign.Greater) rest w stop = sign_begins sign.Greater rest (stop refl)
token_begins (kind.Sign sign.AtMost) rest w stop = sign_begins sign.AtMost rest (stop refl)
token_begins (kind.Sign sign.AtLeast) rest w stop = sign_begins sign.AtLeast rest (stop refl)
token_begins (kind.Sign sign.Unequal) rest w stop = sign_begins sign.Unequal rest (stop refl)
token_begins (kind.Sign sign.Star) rest w stop = sign_begins sign.Star rest (stop refl)

pub behind_again : (all : ℕ) (glued : Bool) (ts : List TokenKind) → AreWritable ts → kinds (tokens_behind all 0 (behind glued ts)) ≡ ts
unfolding behind AreWritable tokens_behind
behind_again all glued [] w = refl
behind_again all glued (t ∷ ts) w =
    let rest : List ℕ = behind (is_open t) ts in
    let stop : is_open t ≡ false → IsStop rest = λ e. subst (λ r. IsStop (behind r ts)) (sym e) (stops ts) in
    behind_gap all glued t (spelled t ++ rest) ∙ begun all t (spelled t ++ rest) rest (token_begins t rest w.0 stop) ∙ ap (λ x. t ∷ x) (behind_again all (is_open t) ts w.1)

pub read_again : (ts : List TokenKind) → AreWritable ts → kinds (tokens_of (printed ts)) ≡ ts
read_again ts w = behind_again (length (printed ts)) true ts w
