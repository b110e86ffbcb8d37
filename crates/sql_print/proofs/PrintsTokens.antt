-- Single tokens are written so that they are read again.
use Rattle.std.proofs.Common.{◌≡◌, arith, ℕ, ℤ, pos, negsuc, Bool, true, false, cond, Option, Some, None, List, [], ◌∷◌, refl, sym, ap, subst, ◌∙◌, ◌==◌}
use Rattle.std.proofs.lemmas.List.{append-nil}
use Rattle.std.specs.List.{list_all}
use Rattle.std.specs.Str.{IsUtf8, bytes_eq}
use Rattle.std.proofs.lemmas.Bool.Decides.{nat_tests}
use Rattle.dl_values.specs.Read.{is_within}
use Rattle.sql_tokens.specs.Bytes.{begins_word, in_word, in_quotes}
use Rattle.sql_tokens.specs.declared.token.Token.{Token}
use Rattle.sql_tokens.specs.declared.token.Sign.{Sign}
use Rattle.sql_tokens.specs.declared.token.TokenKind.{TokenKind}
use Rattle.sql_tokens.specs.declared.token.TokenKind.TheVariants as kind
use Rattle.sql_grammar.specs.Lang.{Tok, Is, Then}
use Rattle.sql_grammar.specs.Marks.{lower, is_reserved, sign_code, kind_is, marked_word, marked_sign, whether, a_word, a_sign, name_in, a_name, integer_in, an_integer, count_in, a_count, text_in, a_text}
use Rattle.sql_text.specs.Names.{Name, Count, String}
use Rattle.sql_print.specs.Writable.{IsWord, IsQuotable, AreWritable}
use Rattle.sql_print.specs.Fit.{IsFit}
use Rattle.sql_print.specs.Parts.{name, count, string}
use Rattle.sql_print.proofs.Runs.{left_true, right_true}
use Rattle.sql_print.proofs.Utf8.{word_text}
use Rattle.sql_print.proofs.Prints.{Prints, Printed, By, tok, is, part, single}

abbrev found : {A : Type 0} → A → Option A
found x = Some x

some_is : {A : Type 0} (x y : A) → found x ≡ found y → x ≡ y
some_is x y e = cc

-- ---- words and signs

eqb_refl : (n : ℕ) → (n == n) ≡ true
eqb_refl n = grind (arith, nat_tests)

bytes_same : (w : List ℕ) → bytes_eq w w ≡ true
bytes_same [] = refl
bytes_same (b ∷ bs) = rw (eqb_refl b, bytes_same bs) refl

pub word_prints : (w : List ℕ) → IsWord w → Prints (Tok (a_word w)) (By (λ _. kind.Word w ∷ []))
word_prints w good = tok (a_word w) (λ _. kind.Word w) (λ t x e fit. good) (λ t x e u k. ap (λ y. whether (kind_is (marked_word w) y)) k ∙ ap whether (bytes_same (lower w)))

pub sign_prints : (s : Sign) → Prints (Tok (a_sign s)) (By (λ _. kind.Sign s ∷ []))
sign_prints s = tok (a_sign s) (λ _. kind.Sign s) (λ t x e fit. tt) (λ t x e u k. ap (λ y. whether (kind_is (marked_sign s) y)) k ∙ ap whether (eqb_refl (sign_code s)))

pub word : {A : Type 0} {Q : A → List Token → Type 0} {R : A → List TokenKind → Type 0} (w : List ℕ) → IsWord w → Prints Q (λ y js. R y (kind.Word w ∷ js)) → Prints (Then (Tok (a_word w)) (λ _. Q)) R
word w good q = part (word_prints w good) (λ _. q)

pub sign_then : {A : Type 0} {Q : A → List Token → Type 0} {R : A → List TokenKind → Type 0} (s : Sign) → Prints Q (λ y js. R y (kind.Sign s ∷ js)) → Prints (Then (Tok (a_sign s)) (λ _. Q)) R
sign_then s q = part (sign_prints s) (λ _. q)

pub means : {A : Type 0} {R : A → List TokenKind → Type 0} (w : List ℕ) → IsWord w → (x : A) → R x (kind.Word w ∷ []) → Prints (Then (Tok (a_word w)) (λ _. Is x)) R
means {R = R} w good x r = word w good (is (λ y js. R y (kind.Word w ∷ js)) x r)

pub stands : {A : Type 0} {R : A → List TokenKind → Type 0} (s : Sign) (x : A) → R x (kind.Sign s ∷ []) → Prints (Then (Tok (a_sign s)) (λ _. Is x)) R
stands {R = R} s x r = sign_then s (is (λ y js. R y (kind.Sign s ∷ js)) x r)

-- ---- names

word_in_quotes : (b : ℕ) → in_word b ≡ true → in_quotes b ≡ true
word_in_quotes b h = grind (arith, nat_tests)

begins_in_quotes : (b : ℕ) → begins_word b ≡ true → in_quotes b ≡ true
begins_in_quotes b h = grind (arith, nat_tests)

run_in_quotes : (bs : List ℕ) → list_all in_word bs ≡ true → list_all in_quotes bs ≡ true
run_in_quotes [] h = refl
run_in_quotes (b ∷ bs) h = rw (word_in_quotes b (left_true (in_word b) (list_all in_word bs) h), run_in_quotes bs (right_true (in_word b) (list_all in_word bs) h)) refl

pub word_quotable : (w : List ℕ) → IsWord w → IsQuotable w
word_quotable [] w = absurd w
word_quotable (b ∷ bs) w = record { some = omega arith; plain = rw (begins_in_quotes b w.0, run_in_quotes bs w.1) refl; text = word_text (b ∷ bs) w }

name_fits : (k : TokenKind) (x : List ℕ) → name_in k ≡ Some x → IsFit k → IsQuotable x
name_fits (kind.Word v) x e fit = go (is_reserved (lower v)) e
  where
    go : (r : Bool) → cond r None (Some v) ≡ Some x → IsQuotable x
    go true e = absurd cc
    go false e = subst IsQuotable (some_is v x e) (word_quotable v fit)
name_fits (kind.Quoted v) x e fit = subst IsQuotable (some_is v x e) fit
name_fits (kind.Int n) x e fit = absurd cc
name_fits kind.Beyond x e fit = absurd cc
name_fits (kind.Text v) x e fit = absurd cc
name_fits (kind.Sign s) x e fit = absurd cc
name_fits kind.Stray x e fit = absurd cc

pub name_prints : Prints Name (By name)
unfolding Name
name_prints = tok a_name kind.Quoted (λ t x e fit. name_fits t.kind x e fit) (λ t x e u k. ap name_in k)

-- ---- integers and strings

integer_fits : (k : TokenKind) (x : ℤ) → integer_in k ≡ Some x → IsFit k → is_within 9223372036854775808 x ≡ true
integer_fits (kind.Word v) x e fit = absurd cc
integer_fits (kind.Quoted v) x e fit = absurd cc
integer_fits (kind.Int n) x e fit = subst (λ z. is_within 9223372036854775808 z ≡ true) (some_is n x e) fit
integer_fits kind.Beyond x e fit = absurd cc
integer_fits (kind.Text v) x e fit = absurd cc
integer_fits (kind.Sign s) x e fit = absurd cc
integer_fits kind.Stray x e fit = absurd cc

pub integer_prints : Prints (Tok an_integer) (By (λ n. kind.Int n ∷ []))
integer_prints = tok an_integer kind.Int (λ t x e fit. integer_fits t.kind x e fit) (λ t x e u k. ap integer_in k)

count_fits : (k : TokenKind) (x : ℕ) → count_in k ≡ Some x → IsFit k → is_within 9223372036854775808 (pos x) ≡ true
count_fits (kind.Word v) x e fit = absurd cc
count_fits (kind.Quoted v) x e fit = absurd cc
count_fits (kind.Int (pos n)) x e fit = subst (λ z. is_within 9223372036854775808 (pos z) ≡ true) (some_is n x e) fit
count_fits (kind.Int (negsuc n)) x e fit = absurd cc
count_fits kind.Beyond x e fit = absurd cc
count_fits (kind.Text v) x e fit = absurd cc
count_fits (kind.Sign s) x e fit = absurd cc
count_fits kind.Stray x e fit = absurd cc

pub count_prints : Prints Count (By count)
unfolding Count
count_prints = tok a_count (λ n. kind.Int (pos n)) (λ t x e fit. count_fits t.kind x e fit) (λ t x e u k. ap count_in k)

text_fits : (k : TokenKind) (x : List ℕ) → text_in k ≡ Some x → IsFit k → IsUtf8 x
text_fits (kind.Word v) x e fit = absurd cc
text_fits (kind.Quoted v) x e fit = absurd cc
text_fits (kind.Int n) x e fit = absurd cc
text_fits kind.Beyond x e fit = absurd cc
text_fits (kind.Text v) x e fit = subst IsUtf8 (some_is v x e) fit
text_fits (kind.Sign s) x e fit = absurd cc
text_fits kind.Stray x e fit = absurd cc

pub string_prints : Prints String (By string)
unfolding String
string_prints = tok a_text kind.Text (λ t x e fit. text_fits t.kind x e fit) (λ t x e u k. ap text_in k)

-- a word that stands for a value
pub word_shown : {A : Type 0} {R : A → List TokenKind → Type 0} (w : List ℕ) → IsWord w → (x : A) → R x (kind.Word w ∷ []) → Printed (Then (Tok (a_word w)) (λ _. Is x)) R x
unfolding AreWritable
word_shown w good x r = record {
  tokens = kind.Word w ∷ [];
  right = r;
  writable = (good, tt);
  spelled = λ us e. let s = single (kind.Word w) us e in record {
    value = tt;
    front = us;
    back = [];
    parts = sym (append-nil us);
    first = (s.0, s.1, ap (λ y. whether (kind_is (marked_word w) y)) s.2 ∙ ap whether (bytes_same (lower w)));
    second = (refl, refl);
  };
}
