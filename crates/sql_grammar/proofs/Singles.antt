-- Single tokens, and lists with separators, are read by their readers.
use Rattle.std.proofs.Common.{◌≡◌, ◌<◌, length, ℕ, ℤ, pos, Bool, true, false, not, List, [], ◌∷◌, ◌++◌, Option, Some, None, Result, refl, ap}
use Rattle.sql_tokens.specs.declared.token.Token.{Token}
use Rattle.sql_tokens.specs.declared.token.TokenKind.{TokenKind}
use Rattle.sql_tokens.specs.declared.token.TokenKind.TheVariants as kind
use Rattle.sql_tokens.specs.declared.token.Sign.{Sign}
use Rattle.sql_tokens.specs.declared.token.Sign.TheVariants as sign
use Rattle.std.specs.Prelude.{IfOk}
use Rattle.sql_grammar.specs.declared.stop.Stop.{Stop}
use Rattle.sql_grammar.specs.Marks.{Mark, marked_word, marked_sign, marked_name, marked_integer, marked_text, lower, is_reserved, kind_is, mark_is, are_apart, whether, a_word, a_sign, name_in, a_name, count_in, a_count, text_in, a_text, integer_in, an_integer}
use Rattle.sql_grammar.specs.Lang.{Tok, ListOf, Commas, Word, Sign_, Means, Stands}
use Rattle.sql_grammar.specs.Reading.{Gives, more_of, list_of, commas_at, word_at, sign_at, name_at, integer_at, count_at, text_at, means_at, stands_at}
use Rattle.sql_grammar.proofs.Laws.{Reads, leaves_less, tok_reads, is_reads, next_reads, many_reads}

pub whether_some : (b : Bool) (x : Unit {0}) → whether b ≡ Some x → b ≡ true
whether_some true x e = refl
whether_some false x e = absurd cc

abbrev made : TokenKind → Token
made k = record { kind = k; at = 0 }

pub word_reads : (w : List ℕ) → kind_is (marked_word w) (kind.Word w) ≡ true → Reads (Word w) (word_at w) (marked_word w ∷ []) [] false
unfolding word_at
word_reads w h = tok_reads (a_word w) (marked_word w ∷ []) (made (kind.Word w)) tt (ap whether h) (λ t x e. whether_some (mark_is (marked_word w) t) x e)

pub sign_reads : (s : Sign) → kind_is (marked_sign s) (kind.Sign s) ≡ true → Reads (Sign_ s) (sign_at s) (marked_sign s ∷ []) [] false
unfolding sign_at
sign_reads s h = tok_reads (a_sign s) (marked_sign s ∷ []) (made (kind.Sign s)) tt (ap whether h) (λ t x e. whether_some (mark_is (marked_sign s) t) x e)

pub means_reads : {A : Type 0} (w : List ℕ) (x : A) → kind_is (marked_word w) (kind.Word w) ≡ true → Reads (Means w x) (means_at w x) (marked_word w ∷ []) [] false
means_reads w x h = next_reads (word_reads w h) (λ _. is_reads x) refl

pub stands_reads : {A : Type 0} (s : Sign) (x : A) → kind_is (marked_sign s) (kind.Sign s) ≡ true → Reads (Stands s x) (stands_at s x) (marked_sign s ∷ []) [] false
stands_reads s x h = next_reads (sign_reads s h) (λ _. is_reads x) refl

name_starts : (k : TokenKind) (x : List ℕ) → name_in k ≡ Some x → kind_is marked_name k ≡ true
name_starts (kind.Word v) x e = go (is_reserved (lower v)) refl
  where
    go : (b : Bool) → is_reserved (lower v) ≡ b → not (is_reserved (lower v)) ≡ true
    go false h = ap not h
    go true h = absurd (let k : name_in (kind.Word v) ≡ None = rw h refl in cc)
name_starts (kind.Quoted v) x e = refl
name_starts k x e = absurd cc

pub name_reads : Reads (Tok a_name) name_at (marked_name ∷ []) [] false
unfolding name_at
name_reads = tok_reads a_name (marked_name ∷ []) (made (kind.Quoted [])) [] refl (λ t x e. name_starts t.kind x e)

pub name_leaves_less : {B : Type 0} (view : B → List ℕ × List Token) (tokens : List Token) (r : Result B Stop) → Gives view r (name_at tokens) → IfOk r (λ x. length (view x).1 < length tokens)
name_leaves_less view tokens r given = leaves_less name_reads view tokens r given

integer_starts : (k : TokenKind) (x : ℤ) → integer_in k ≡ Some x → kind_is marked_integer k ≡ true
integer_starts (kind.Int v) x e = refl
integer_starts k x e = absurd cc

pub integer_reads : Reads (Tok an_integer) integer_at (marked_integer ∷ []) [] false
unfolding integer_at
integer_reads = tok_reads an_integer (marked_integer ∷ []) (made (kind.Int (pos 0))) (pos 0) refl (λ t x e. integer_starts t.kind x e)

count_starts : (k : TokenKind) (x : ℕ) → count_in k ≡ Some x → kind_is marked_integer k ≡ true
count_starts (kind.Int v) x e = refl
count_starts k x e = absurd cc

pub count_reads : Reads (Tok a_count) count_at (marked_integer ∷ []) [] false
unfolding count_at
count_reads = tok_reads a_count (marked_integer ∷ []) (made (kind.Int (pos 0))) 0 refl (λ t x e. count_starts t.kind x e)

text_starts : (k : TokenKind) (x : List ℕ) → text_in k ≡ Some x → kind_is marked_text k ≡ true
text_starts (kind.Text v) x e = refl
text_starts k x e = absurd cc

pub text_reads : Reads (Tok a_text) text_at (marked_text ∷ []) [] false
unfolding text_at
text_reads = tok_reads a_text (marked_text ∷ []) (made (kind.Text [])) [] refl (λ t x e. text_starts t.kind x e)

-- ---- lists

pub list_reads : {A : Type 0} {P : A → List Token → Type 0} {f : List Token → Result (A × List Token) ℕ} {fp mp : List Mark} (mark : Mark) (class : Token → Option (Unit {0})) (separator : List Token → Result (Unit {0} × List Token) ℕ)
    → Reads (Tok class) separator (mark ∷ []) [] false → Reads P f fp mp false → are_apart (mark ∷ []) mp ≡ true → are_apart fp [] ≡ true → Reads (ListOf class P) (list_of mark separator f) fp ((mp ++ mark ∷ []) ++ mp) false
unfolding more_of
list_reads mark class separator rs rp separate plain = next_reads rp (λ x. next_reads (many_reads (next_reads rs (λ _. rp) plain) separate) (λ xs. is_reads (x ∷ xs)) refl) separate

pub commas_read : {A : Type 0} {P : A → List Token → Type 0} {f : List Token → Result (A × List Token) ℕ} {fp mp : List Mark} → Reads P f fp mp false → are_apart (marked_sign sign.Comma ∷ []) mp ≡ true → are_apart fp [] ≡ true → Reads (Commas P) (commas_at f) fp ((mp ++ marked_sign sign.Comma ∷ []) ++ mp) false
commas_read rp separate plain = list_reads (marked_sign sign.Comma) (a_sign sign.Comma) (sign_at sign.Comma) (sign_reads sign.Comma refl) rp separate plain
