-- The text of tokens is UTF-8.
use Rattle.std.proofs.Common.{◌≡◌, ℕ, ℤ, pos, negsuc, suc, ◌==◌, ◌<◌, ◌≤◌, ◌^◌, Bool, true, false, cond, ◌&&◌, ◌||◌, nat_lt, List, [], ◌∷◌, ◌++◌, length, get_or, IsUtf8, inl, inr, refl, sym, ap, ap₂, ◌∙◌, subst, arith, append_assoc, append-nil, codes}
use Rattle.std.proofs.lemmas.Bool.{and_parts, cases_lt, ltb-true}
use Rattle.std.proofs.lemmas.Bool.Decides.{nat_tests}
use Rattle.std.proofs.lemmas.Fmt.{decimal_is_IsNumeral, IsAscii-from_digits}
use Rattle.std.proofs.lemmas.Str.{IsUtf8-append, IsUtf8-nil, IsUtf8-encode, IsUtf8-from_ascii, encode_ascii, inside_one, utf8_lossy-IsUtf8}
use Rattle.std.specs.Fmt.{decimal, signed_decimal}
use Rattle.std.specs.List.{list_all}
use Rattle.std.specs.Str.Lossy.{utf8_lossy}
use lib.Utf8.{scalar, scalars, encode, encodes, low_scalar}
use Rattle.dl_values.specs.Read.{is_within}
use Rattle.sql_tokens.specs.Bytes.{begins_word, in_word}
use Rattle.sql_tokens.specs.declared.token.Sign.{Sign}
use Rattle.sql_tokens.specs.declared.token.Sign.TheVariants as sign
use Rattle.sql_tokens.specs.declared.token.TokenKind.{TokenKind}
use Rattle.sql_tokens.specs.declared.token.TokenKind.TheVariants as kind
use Rattle.sql_print.specs.Printing.{sign_text, escape, escapes, spelled, is_open, leans, gap, behind, printed}
use Rattle.sql_print.specs.Writable.{IsWord, IsWritable, AreWritable}
use Rattle.sql_print.proofs.Runs.{left_true, right_true}

pub ascii_then : (x : ℕ) (xs : List ℕ) → x < 128 → IsUtf8 xs → IsUtf8 (x ∷ xs)
ascii_then x xs small u = IsUtf8-append (x ∷ []) xs (subst IsUtf8 (encode_ascii x small) (IsUtf8-encode x (low_scalar x (omega arith)))) u

abbrev pub are_ascii : List ℕ → Bool
are_ascii [] = true
are_ascii (x ∷ xs) = nat_lt x 128 && are_ascii xs

pub all_ascii : (xs : List ℕ) → are_ascii xs ≡ true → IsUtf8 xs
all_ascii [] e = IsUtf8-nil
all_ascii (x ∷ xs) e = let p = and_parts _ _ e in ascii_then x xs (ltb-true _ _ p.0) (all_ascii xs p.1)

-- ---- strings

escapes_append : (xs ys : List ℕ) → escapes (xs ++ ys) ≡ escapes xs ++ escapes ys
unfolding escapes
escapes_append [] ys = refl
escapes_append (x ∷ xs) ys = ap (λ l. escape x ++ l) (escapes_append xs ys) ∙ sym (append_assoc (escape x) (escapes xs) (escapes ys))

escape_high : (x : ℕ) → 128 ≤ x → escape x ≡ x ∷ []
escape_high x h = go (x == 39) refl (x == 92) refl (x == 10) refl (x == 9) refl (x == 13) refl
  where
    go : (a : Bool) → (x == 39) ≡ a → (b : Bool) → (x == 92) ≡ b → (c : Bool) → (x == 10) ≡ c → (d : Bool) → (x == 9) ≡ d → (e : Bool) → (x == 13) ≡ e
        → cond a (92 ∷ 39 ∷ []) (cond b (92 ∷ 92 ∷ []) (cond c (92 ∷ 110 ∷ []) (cond d (92 ∷ 116 ∷ []) (cond e (92 ∷ 114 ∷ []) (x ∷ []))))) ≡ x ∷ []
    go false _ false _ false _ false _ false _ = refl
    go true p b _ c _ d _ e _ = absurd (grind (arith, nat_tests))
    go false _ true p c _ d _ e _ = absurd (grind (arith, nat_tests))
    go false _ false _ true p d _ e _ = absurd (grind (arith, nat_tests))
    go false _ false _ false _ true p e _ = absurd (grind (arith, nat_tests))
    go false _ false _ false _ false _ true p = absurd (grind (arith, nat_tests))

escapes_high : (xs : List ℕ) → ((k : ℕ) → k < length xs → 128 ≤ get_or xs k 0) → escapes xs ≡ xs
unfolding escapes
escapes_high [] h = refl
escapes_high (x ∷ xs) h = ap₂ (λ (a b : List ℕ). a ++ b) (escape_high x (h 0 (omega arith))) (escapes_high xs (λ k below. h (suc k) (omega arith)))

escape_low : (x : ℕ) → x < 128 → IsUtf8 (escape x)
escape_low x h = go (x == 39) (x == 92) (x == 10) (x == 9) (x == 13)
  where
    go : (a b c d e : Bool) → IsUtf8 (cond a (92 ∷ 39 ∷ []) (cond b (92 ∷ 92 ∷ []) (cond c (92 ∷ 110 ∷ []) (cond d (92 ∷ 116 ∷ []) (cond e (92 ∷ 114 ∷ []) (x ∷ []))))))
    go true b c d e = all_ascii (92 ∷ 39 ∷ []) refl
    go false true c d e = all_ascii (92 ∷ 92 ∷ []) refl
    go false false true d e = all_ascii (92 ∷ 110 ∷ []) refl
    go false false false true e = all_ascii (92 ∷ 116 ∷ []) refl
    go false false false false true = all_ascii (92 ∷ 114 ∷ []) refl
    go false false false false false = ascii_then x [] h IsUtf8-nil

-- the bytes of a character beyond ASCII
pub bytes_are_high : (c : ℕ) → 128 ≤ c → (k : ℕ) → k < length (encode c) → 128 ≤ get_or (encode c) k 0
bytes_are_high c big k below = elim (cases_lt (get_or (encode c) k 0) 128) [
  | inl low ↦ absurd (omega (arith, inside_one c [] (encode c) k (sym (append-nil _)) below low))
  | inr h ↦ h
]

one_char : (c : ℕ) → scalar c ≡ true → IsUtf8 (escapes (encode c))
unfolding escapes
one_char c ok = elim (cases_lt c 128) [
  | inl small ↦ rw (encode_ascii c small) (IsUtf8-append (escape c) [] (escape_low c small) IsUtf8-nil)
  | inr big ↦ subst IsUtf8 (sym (escapes_high (encode c) (bytes_are_high c big))) (IsUtf8-encode c ok)
]

all_chars : (cs : List ℕ) → scalars cs ≡ true → IsUtf8 (escapes (encodes cs))
unfolding escapes
all_chars [] e = IsUtf8-nil
all_chars (c ∷ cs) e =
    let p = and_parts _ _ e in
    subst IsUtf8 (sym (escapes_append (encode c) (encodes cs))) (IsUtf8-append _ _ (one_char c p.0) (all_chars cs p.1))

escapes_text : (v : List ℕ) → IsUtf8 v → IsUtf8 (escapes v)
escapes_text v u = subst (λ l. IsUtf8 (escapes l)) u.1.1 (all_chars u.0 u.1.0)

-- ---- tokens

in_word_ascii : (b : ℕ) → in_word b ≡ true → b < 128
in_word_ascii b h = grind (arith, nat_tests)

begins_word_ascii : (b : ℕ) → begins_word b ≡ true → b < 128
begins_word_ascii b h = grind (arith, nat_tests)

run_text : (bs : List ℕ) → list_all in_word bs ≡ true → IsUtf8 bs
run_text [] h = IsUtf8-nil
run_text (b ∷ bs) h = ascii_then b bs (in_word_ascii b (left_true _ _ h)) (run_text bs (right_true _ _ h))

pub word_text : (word : List ℕ) → IsWord word → IsUtf8 word
word_text [] w = absurd w
word_text (b ∷ bs) w = ascii_then b bs (begins_word_ascii b w.0) (run_text bs w.1)

digits_text : (n : ℕ) → n < 2 ^ 64 → IsUtf8 (decimal n)
digits_text n h = IsUtf8-from_ascii (decimal n) (IsAscii-from_digits (decimal n) (decimal_is_IsNumeral n h).0.1)

integer_text : (z : ℤ) → is_within 9223372036854775808 z ≡ true → IsUtf8 (signed_decimal z)
integer_text (pos n) w = digits_text n (grind (arith, nat_tests))
integer_text (negsuc n) w = ascii_then 45 (decimal (suc n)) (omega arith) (digits_text (suc n) (grind (arith, nat_tests)))

sign_is_text : (s : Sign) → IsUtf8 (sign_text s)
sign_is_text sign.Open = all_ascii (codes "(") refl
sign_is_text sign.Close = all_ascii (codes ")") refl
sign_is_text sign.OpenRange = all_ascii (codes "[") refl
sign_is_text sign.Comma = all_ascii (codes ",") refl
sign_is_text sign.End = all_ascii (codes ";") refl
sign_is_text sign.Equal = all_ascii (codes "=") refl
sign_is_text sign.Less = all_ascii (codes "<") refl
sign_is_text sign.Greater = all_ascii (codes ">") refl
sign_is_text sign.AtMost = all_ascii (codes "<=") refl
sign_is_text sign.AtLeast = all_ascii (codes ">=") refl
sign_is_text sign.Unequal = all_ascii (codes "<>") refl
sign_is_text sign.Star = all_ascii (codes "*") refl

token_text : (t : TokenKind) → IsWritable t → IsUtf8 (spelled t)
token_text (kind.Word word) w = word_text word w
token_text (kind.Quoted name) w = ascii_then 96 (name ++ 96 ∷ []) (omega arith) (IsUtf8-append name (96 ∷ []) w.text (all_ascii (96 ∷ []) refl))
token_text (kind.Int z) w = integer_text z w
token_text (kind.Text v) w = ascii_then 39 (escapes v ++ 39 ∷ []) (omega arith) (IsUtf8-append (escapes v) (39 ∷ []) (escapes_text v w) (all_ascii (39 ∷ []) refl))
token_text (kind.Sign s) w = sign_is_text s
token_text kind.Beyond w = absurd w
token_text kind.Stray w = absurd w

gap_text : (glued : Bool) (t : TokenKind) → IsUtf8 (gap glued t)
gap_text glued t = go (glued || leans t)
  where
    go : (r : Bool) → IsUtf8 (cond r [] (32 ∷ []))
    go true = IsUtf8-nil
    go false = all_ascii (32 ∷ []) refl

behind_text : (glued : Bool) (ts : List TokenKind) → AreWritable ts → IsUtf8 (behind glued ts)
unfolding behind AreWritable
behind_text glued [] w = IsUtf8-nil
behind_text glued (t ∷ ts) w = IsUtf8-append (gap glued t) (spelled t ++ behind (is_open t) ts) (gap_text glued t) (IsUtf8-append (spelled t) (behind (is_open t) ts) (token_text t w.0) (behind_text (is_open t) ts w.1))

pub printed_text : (ts : List TokenKind) → AreWritable ts → IsUtf8 (printed ts)
printed_text ts w = behind_text true ts w

pub lossless : (ts : List TokenKind) → AreWritable ts → utf8_lossy (printed ts) ≡ printed ts
lossless ts w = utf8_lossy-IsUtf8 (printed ts) (printed_text ts w)
