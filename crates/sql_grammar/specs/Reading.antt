-- Reading from left to right, by the next token alone.
use Rattle.std.specs.Prelude.{codes, ◌≡◌, ℕ, ℤ, zero, suc, Bool, false, List, [], ◌∷◌, length, Option, Some, None, Result, Ok, Err, if◌then◌else◌}
use Rattle.sql_tokens.specs.declared.token.Token.{Token}
use Rattle.sql_tokens.specs.declared.token.Sign.{Sign}
use Rattle.sql_tokens.specs.declared.token.Sign.TheVariants as sign
use Rattle.sql_grammar.specs.declared.stop.Stop.{Stop}
use Rattle.sql_grammar.specs.declared.stop.Stop.TheVariants as stop
use Rattle.sql_grammar.specs.declared.separator.Separator.{Separator}
use Rattle.sql_grammar.specs.declared.separator.Separator.TheVariants as separator
use Rattle.sql_grammar.specs.Marks.{Mark, marked_word, marked_sign, matches, a_word, a_sign, a_name, an_integer, a_count, a_text}

-- a reader gives a value and the tokens after it, or how many tokens are left at the fault
abbrev pub Reader : Type 0 → Type 0
Reader A = List Token → Result (A × List Token) ℕ

abbrev pub bind : {A B : Type 0} → Result (A × List Token) ℕ → (A → Reader B) → Result (B × List Token) ℕ
bind (Ok x) f = f x.0 x.1
bind (Err n) f = Err n

abbrev pub next : {A B : Type 0} → Reader A → (A → Reader B) → Reader B
next f g tokens = bind (f tokens) g

abbrev pub is : {A : Type 0} → A → Reader A
is x tokens = Ok (x, tokens)

abbrev pub of_option : {A : Type 0} → Option A → Token → List Token → Result (A × List Token) ℕ
of_option None t rest = Err (length (t ∷ rest))
of_option (Some x) t rest = Ok (x, rest)

abbrev pub tok : {A : Type 0} → (Token → Option A) → Reader A
tok class [] = Err 0
tok class (t ∷ rest) = of_option (class t) t rest

-- whether the next token is of the class
abbrev pub heads : (Token → Bool) → List Token → Bool
heads first [] = false
heads first (t ∷ rest) = first t

abbrev pub either : {A : Type 0} → (Token → Bool) → Reader A → Reader A → Reader A
either first f g tokens = if heads first tokens then f tokens else g tokens

abbrev pub maybe : {A : Type 0} → (Token → Bool) → Reader A → Reader (Option A)
maybe first f tokens = if heads first tokens then bind (f tokens) (λ x. is (Some x)) else Ok (None, tokens)

-- at most fuel times
abbrev pub many : {A : Type 0} → (Token → Bool) → Reader A → ℕ → Reader (List A)
many first f zero tokens = Ok ([], tokens)
many first f (suc fuel) tokens = if heads first tokens then bind (f tokens) (λ x rest. bind (many first f fuel rest) (λ xs. is (x ∷ xs))) else Ok ([], tokens)

infixl 10 ◌>>=◌
abbrev pub ◌>>=◌ : {A B : Type 0} → Reader A → (A → Reader B) → Reader B
f >>= g = next f g

infixl 10 ◌>>◌
abbrev pub ◌>>◌ : {A B : Type 0} → Reader A → Reader B → Reader B
f >> g = next f (λ _. g)

-- What a function returned, seen by view, is what reading gives, unless memory ran out.
abbrev pub Fails : {Y : Type 0} → Stop → Result Y ℕ → Type 0
Fails stop.Memory read = Unit {0}
Fails (stop.Left n) read = read ≡ Err n

abbrev pub Gives : {X Y : Type 0} → (X → Y) → Result X Stop → Result Y ℕ → Type 0
Gives view (Ok x) read = read ≡ Ok (view x)
Gives view (Err e) read = Fails e read

-- ---- the readers of single tokens, and of lists

unfoldable pub word_at : List ℕ → Reader (Unit {0})
word_at w = tok (a_word w)

unfoldable pub sign_at : Sign → Reader (Unit {0})
sign_at s = tok (a_sign s)

unfoldable pub name_at : Reader (List ℕ)
name_at = tok a_name

unfoldable pub integer_at : Reader ℤ
integer_at = tok an_integer

unfoldable pub count_at : Reader ℕ
count_at = tok a_count

unfoldable pub text_at : Reader (List ℕ)
text_at = tok a_text

-- the word stands for the value
abbrev pub means_at : {A : Type 0} → List ℕ → A → Reader A
means_at w x = word_at w >> is x

-- the sign stands for the value
abbrev pub stands_at : {A : Type 0} → Sign → A → Reader A
stands_at s x = sign_at s >> is x

abbrev pub one : Mark → Token → Bool
one m = matches (m ∷ [])

unfoldable pub more_of : {A : Type 0} → Mark → Reader A → Reader (List A)
more_of mark f tokens = many (one mark) f (length tokens) tokens

-- more of them after separators, where the first was read
abbrev pub list_from : {A : Type 0} → Mark → Reader (Unit {0}) → Reader A → A → Reader (List A)
list_from mark separator f x = more_of mark (separator >> f) >>= λ xs. is (x ∷ xs)

abbrev pub list_of : {A : Type 0} → Mark → Reader (Unit {0}) → Reader A → Reader (List A)
list_of mark separator f = f >>= λ x. list_from mark separator f x

abbrev pub commas_at : {A : Type 0} → Reader A → Reader (List A)
commas_at f = list_of (marked_sign sign.Comma) (sign_at sign.Comma) f

abbrev pub mark_of : Separator → Mark
mark_of separator.Comma = marked_sign sign.Comma
mark_of separator.And = marked_word (codes "AND")

abbrev pub separator_at : Separator → Reader (Unit {0})
separator_at separator.Comma = sign_at sign.Comma
separator_at separator.And = word_at (codes "AND")

-- ---- all of the tokens

abbrev pub ended : {A : Type 0} → A → List Token → Result A ℕ
ended x [] = Ok x
ended x (t ∷ rest) = Err (length (t ∷ rest))

abbrev pub to_end : {A : Type 0} → Result (A × List Token) ℕ → Result A ℕ
to_end (Ok x) = ended x.0 x.1
to_end (Err n) = Err n
