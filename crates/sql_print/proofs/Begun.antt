-- A text begins with a written token.
use Rattle.std.proofs.Common.{◌≡◌, ◌<◌, ◌^◌, arith, ℕ, ℤ, pos, negsuc, suc, true, false, List, [], ◌∷◌, ◌++◌, length, refl, ap, ◌∙◌, nat_lt, append_assoc, length-append, codes}
use Rattle.std.proofs.Math.Seq.{take-append_seam, drop-append_seam, drop-append-add}
use Rattle.std.proofs.lemmas.Bool.{lt-ltb}
use Rattle.std.proofs.lemmas.Bool.Decides.{nat_tests}
use Rattle.std.proofs.lemmas.Fmt.{decimal_is_IsNumeral}
use Rattle.std.proofs.lemmas.Str.Parse.{digit_at}
use Rattle.std.specs.Fmt.{decimal, signed_decimal}
use Rattle.std.specs.Int.{IsInRange}
use Rattle.std.specs.List.{prefix_len, list_all}
use Rattle.std.specs.Str.Parse.{digits_value, AllDigits, IsNumeral}
use Rattle.dl_values.specs.Read.{is_within, minus}
use Rattle.sql_tokens.specs.Bytes.{is_blank, begins_word, in_word, is_digit, in_quotes}
use Rattle.sql_tokens.specs.Tokens.{Lexeme, integer, lexeme}
use Rattle.sql_tokens.specs.declared.token.TokenKind.{TokenKind}
use Rattle.sql_tokens.specs.declared.token.TokenKind.TheVariants as kind
use Rattle.sql_print.specs.Writable.{IsQuotable}
use Rattle.sql_print.proofs.Runs.{IsStop, at_stop, run}

-- the token is read from these bytes, which are more than blanks, and the rest stands behind it
pub record Begins (t : TokenKind) (text rest : List ℕ) : Type 0 where
  pub first : ℕ
  pub more : List ℕ
  pub parts : text ≡ first ∷ more
  pub dark : is_blank first ≡ false
  pub lexes : lexeme first more ≡ (t, rest)

abbrev lexed : TokenKind → List ℕ → Lexeme
lexed t rest = (t, rest)

-- ---- words

word_is_dark : (b : ℕ) → begins_word b ≡ true → is_blank b ≡ false
word_is_dark b h = grind (arith, nat_tests)

pub word_begins : (b : ℕ) (bs rest : List ℕ) → begins_word b ≡ true → list_all in_word bs ≡ true → IsStop rest → Begins (kind.Word (b ∷ bs)) (b ∷ bs ++ rest) rest
unfolding lexeme
word_begins b bs rest h all stop = record {
  first = b;
  more = bs ++ rest;
  parts = refl;
  dark = word_is_dark b h;
  lexes = let n : prefix_len in_word (bs ++ rest) ≡ length bs = run in_word bs rest all (at_stop in_word refl refl refl rest stop) in rw (h, n, take-append_seam bs rest, drop-append_seam bs rest) refl;
}

-- ---- names

pub name_begins : (name rest : List ℕ) → IsQuotable name → Begins (kind.Quoted name) (codes "`" ++ (name ++ codes "`") ++ rest) rest
unfolding lexeme
name_begins name rest q = record {
  first = 96;
  more = (name ++ 96 ∷ []) ++ rest;
  parts = refl;
  dark = refl;
  lexes = ap (lexeme 96) (append_assoc name (96 ∷ []) rest) ∙ go (run in_quotes name (96 ∷ rest) q.plain refl);
}
  where
    go : prefix_len in_quotes (name ++ 96 ∷ rest) ≡ length name → lexeme 96 (name ++ 96 ∷ rest) ≡ lexed (kind.Quoted name) rest
    go n =
        let some : nat_lt 0 (length name) ≡ true = lt-ltb 0 (length name) q.some in
        let within : nat_lt (length name) (length (name ++ 96 ∷ rest)) ≡ true = lt-ltb (length name) (length (name ++ 96 ∷ rest)) (omega (arith, length-append name (96 ∷ rest))) in
        rw (n, some, within, take-append_seam name (96 ∷ rest), drop-append-add name (96 ∷ rest) 1) refl

-- ---- integers

in_range : (c : ℕ) → IsInRange 48 57 c → is_digit c ≡ true
in_range c h = grind (arith, nat_tests)

pub digits_are : (ds : List ℕ) → AllDigits 10 ds → list_all is_digit ds ≡ true
digits_are [] h = refl
digits_are (c ∷ cs) h = let r : is_digit c ≡ true = in_range c (digit_at (c ∷ cs) 0 h (omega arith)) in rw (r, digits_are cs h.1) refl

no_word : (c : ℕ) → is_digit c ≡ true → begins_word c ≡ false
no_word c h = grind (arith, nat_tests)

no_blank : (c : ℕ) → is_digit c ≡ true → is_blank c ≡ false
no_blank c h = grind (arith, nat_tests)

below : (n : ℕ) → nat_lt n 9223372036854775808 ≡ true → n < 2 ^ 64
below n h = grind (arith, nat_tests)

integer_is : (z : ℤ) → is_within 9223372036854775808 z ≡ true → integer z ≡ kind.Int z
integer_is z h = rw h refl

number_begins : (ds rest : List ℕ) (n : ℕ) → IsNumeral 10 ds → digits_value 10 ds ≡ n → nat_lt n 9223372036854775808 ≡ true → IsStop rest → Begins (kind.Int (pos n)) (ds ++ rest) rest
unfolding lexeme
number_begins [] rest n d v w stop = absurd (omega (arith, d.0))
number_begins (c ∷ cs) rest n d v w stop =
    let all : list_all is_digit cs ≡ true = digits_are cs d.1.1 in
    let r : is_digit c ≡ true = in_range c (digit_at (c ∷ cs) 0 d.1 (omega arith)) in
    let m : prefix_len is_digit (cs ++ rest) ≡ length cs = run is_digit cs rest all (at_stop is_digit refl refl refl rest stop) in
    record {
      first = c;
      more = cs ++ rest;
      parts = refl;
      dark = no_blank c r;
      lexes = rw (no_word c r, r, m, take-append_seam cs rest, drop-append_seam cs rest) (ap (λ k. lexed (integer (pos k)) rest) v ∙ ap (λ k. lexed k rest) (integer_is (pos n) w));
    }

negative_begins : (ds rest : List ℕ) (n : ℕ) → IsNumeral 10 ds → digits_value 10 ds ≡ suc n → nat_lt n 9223372036854775808 ≡ true → IsStop rest → Begins (kind.Int (negsuc n)) (45 ∷ ds ++ rest) rest
unfolding lexeme
negative_begins ds rest n d v w stop =
    let all : list_all is_digit ds ≡ true = digits_are ds d.1 in
    let m : prefix_len is_digit (ds ++ rest) ≡ length ds = run is_digit ds rest all (at_stop is_digit refl refl refl rest stop) in
    let some : nat_lt 0 (length ds) ≡ true = lt-ltb 0 (length ds) d.0 in
    record {
      first = 45;
      more = ds ++ rest;
      parts = refl;
      dark = refl;
      lexes = rw (m, some, take-append_seam ds rest, drop-append_seam ds rest) (ap (λ k. lexed (integer (minus k)) rest) v ∙ ap (λ k. lexed k rest) (integer_is (negsuc n) w));
    }

pub integer_begins : (z : ℤ) (rest : List ℕ) → is_within 9223372036854775808 z ≡ true → IsStop rest → Begins (kind.Int z) (signed_decimal z ++ rest) rest
integer_begins (pos n) rest w stop = let d = decimal_is_IsNumeral n (below n w) in number_begins (decimal n) rest n d.0 d.1 w stop
integer_begins (negsuc n) rest w stop = let d = decimal_is_IsNumeral (suc n) (grind (arith, nat_tests)) in negative_begins (decimal (suc n)) rest n d.0 d.1 w stop
