-- The tokens of a text can be written, but for what begins no token and for integers beyond 64 bits.
use Rattle.std.proofs.Common.{◌≡◌, ◌<◌, ◌≤◌, ◌+◌, ◌-◌, ◌⊎◌, inl, inr, ℕ, ℤ, pos, zero, suc, arith, Bool, true, false, cond, ◌==◌, ◌&&◌, ◌||◌, nat_lt, List, [], ◌∷◌, ◌++◌, length, take, drop, get_or, Option, Some, None, IsUtf8, length-append, refl, sym, subst}
use Rattle.std.proofs.Math.Seq.{take-append_seam, drop-append-add, get_or-append_seam}
use Rattle.std.specs.List.{prefix_len, list_all}
use Rattle.std.specs.Str.Parse.{digits_value}
use Rattle.std.proofs.lemmas.List.Sums.{prefix_len_stops}
use Rattle.std.proofs.lemmas.Bool.{cases_lt, ltb-true}
use Rattle.std.proofs.lemmas.Bool.Decides.{nat_tests}
use Rattle.std.proofs.lemmas.Str.{IsUtf8-nil, IsUtf8-take, IsUtf8-drop, IsCharBoundary-before_ascii, IsCharBoundary-after_ascii}
use Rattle.dl_values.specs.Read.{is_within, minus}
use Rattle.sql_tokens.specs.Bytes.{is_blank, begins_word, in_word, is_digit, in_quotes}
use Rattle.sql_tokens.specs.Strings.{string_at, IsString}
use Rattle.sql_tokens.specs.Signs.{followed, or_else, long_sign_of, sign_of, sign_at}
use Rattle.sql_tokens.specs.declared.token.TokenKind.TheVariants as kind
use Rattle.sql_tokens.specs.declared.token.Sign.{Sign}
use Rattle.sql_tokens.specs.declared.token.Sign.TheVariants as sign
use Rattle.sql_tokens.specs.Tokens.{Lexeme, word, number, negative, quoted, string, signed, stray, integer, lexeme, tokens_behind, tokens_of}
use Rattle.sql_tokens.proofs.Rests.{no_longer}
use Rattle.sql_tokens.proofs.Fronts.{lexeme_end, behind}
use Rattle.sql_tokens.proofs.Longest.{is_longest}
use Rattle.sql_print.specs.Writable.{IsQuotable}
use Rattle.sql_print.specs.Fit.{IsFit, AreFit}
use Rattle.sql_print.proofs.Runs.{right_true}
use Rattle.sql_print.proofs.Unescaped.{differs, unescaped_text}

-- a token that fits, and what stands behind it is UTF-8
Fits : Lexeme → Type 0
Fits x = IsFit x.0 × IsUtf8 x.1

tail : (b : ℕ) (bs : List ℕ) → b < 128 → IsUtf8 (b ∷ bs) → IsUtf8 bs
tail b bs low u = IsUtf8-drop (b ∷ bs) 1 u (IsCharBoundary-after_ascii (b ∷ bs) 0 u (omega arith) low)

stray_fits : Fits stray
unfolding Fits
stray_fits = (tt, IsUtf8-nil)

-- ---- runs

run_tail : (p : ℕ → Bool) → ((b : ℕ) → p b ≡ true → b < 128) → (bs : List ℕ) → IsUtf8 bs → IsUtf8 (drop (prefix_len p bs) bs)
run_tail p low [] u = u
run_tail p low (b ∷ bs) u = go (p b) refl (prefix_len p bs) (λ v. run_tail p low bs v)
  where
    go : (r : Bool) → p b ≡ r → (n : ℕ) → (IsUtf8 bs → IsUtf8 (drop n bs)) → IsUtf8 (drop (cond r (1 + n) 0) (b ∷ bs))
    go true e n more = let s : 1 + n ≡ suc n = omega arith in rw s (more (tail b bs (low b e) u))
    go false e n more = u

run_all : (p : ℕ → Bool) (bs : List ℕ) → list_all p (take (prefix_len p bs) bs) ≡ true
run_all p [] = refl
run_all p (b ∷ bs) = go (p b) refl (prefix_len p bs) (run_all p bs)
  where
    go : (r : Bool) → p b ≡ r → (n : ℕ) → list_all p (take n bs) ≡ true → list_all p (take (cond r (1 + n) 0) (b ∷ bs)) ≡ true
    go true e n h = let s : 1 + n ≡ suc n = omega arith in rw (s, e) h
    go false e n h = refl

-- ---- words, integers and names

word_low : (b : ℕ) → in_word b ≡ true → b < 128
word_low b h = grind (arith, nat_tests)

digit_low : (b : ℕ) → is_digit b ≡ true → b < 128
digit_low b h = grind (arith, nat_tests)

word_fits : (b : ℕ) (bs : List ℕ) → begins_word b ≡ true → IsUtf8 bs → Fits (word (prefix_len in_word bs) b bs)
unfolding Fits
word_fits b bs h u = ((h, run_all in_word bs), run_tail in_word word_low bs u)

integer_fits : (z : ℤ) → IsFit (integer z)
integer_fits z = go (is_within 9223372036854775808 z) refl
  where
    go : (r : Bool) → is_within 9223372036854775808 z ≡ r → IsFit (cond r (kind.Int z) kind.Beyond)
    go true e = e
    go false e = tt

number_fits : (b : ℕ) (bs : List ℕ) → IsUtf8 bs → Fits (number (prefix_len is_digit bs) b bs)
unfolding Fits
number_fits b bs u = (integer_fits (pos (digits_value 10 (b ∷ take (prefix_len is_digit bs) bs))), run_tail is_digit digit_low bs u)

negative_fits : (bs : List ℕ) → IsUtf8 bs → Fits (negative (prefix_len is_digit bs) bs)
unfolding Fits
negative_fits bs u = go (nat_lt 0 (prefix_len is_digit bs))
  where
    go : (r : Bool) → Fits (cond r (integer (minus (digits_value 10 (take (prefix_len is_digit bs) bs))), drop (prefix_len is_digit bs) bs) stray)
    go true = (integer_fits (minus (digits_value 10 (take (prefix_len is_digit bs) bs))), run_tail is_digit digit_low bs u)
    go false = stray_fits

quote_low : (b : ℕ) → in_quotes b ≡ false → b < 128
quote_low b h = grind (arith, nat_tests)

taken_length : (n : ℕ) (bs : List ℕ) → 0 < n → n < length bs → 0 < length (take n bs)
taken_length n [] p l = absurd (omega arith)
taken_length zero (b ∷ bs) p l = absurd (omega arith)
taken_length (suc n) (b ∷ bs) p l = omega arith

name_fits : (bs : List ℕ) (n : ℕ) → n ≡ prefix_len in_quotes bs → IsUtf8 bs → Fits (quoted n bs)
unfolding Fits
name_fits bs n is u = go (nat_lt 0 n) refl (nat_lt n (length bs)) refl
  where
    some : 0 < n → n < length bs → IsQuotable (take n bs) × IsUtf8 (drop (n + 1) bs)
    some p l =
        let low : get_or bs n 0 < 128 = quote_low (get_or bs n 0) (rw is (prefix_len_stops in_quotes bs 0 (rw (← is) l))) in
        (record { some = taken_length n bs p l; plain = rw is (run_all in_quotes bs); text = IsUtf8-take bs n u (IsCharBoundary-before_ascii bs n l low) }, IsUtf8-drop bs (n + 1) u (IsCharBoundary-after_ascii bs n u l low))

    go : (a : Bool) → nat_lt 0 n ≡ a → (c : Bool) → nat_lt n (length bs) ≡ c → Fits (cond (a && c) (kind.Quoted (take n bs), drop (n + 1) bs) stray)
    go true p true l = some (ltb-true 0 n p) (ltb-true n (length bs) l)
    go true p false l = stray_fits
    go false p c l = stray_fits

-- ---- strings

string_parts : (q : ℕ) (body rest : List ℕ) → q < 128 → IsUtf8 (body ++ q ∷ rest) → IsUtf8 body × IsUtf8 rest
string_parts q body rest low u =
    let within : length body < length (body ++ q ∷ rest) = omega (arith, length-append body (q ∷ rest)) in
    let at : get_or (body ++ q ∷ rest) (length body) 0 < 128 = rw (get_or-append_seam body q rest 0) low in (
      subst IsUtf8 (take-append_seam body (q ∷ rest)) (IsUtf8-take (body ++ q ∷ rest) (length body) u (IsCharBoundary-before_ascii (body ++ q ∷ rest) (length body) within at)),
      subst IsUtf8 (drop-append-add body (q ∷ rest) 1) (IsUtf8-drop (body ++ q ∷ rest) (length body + 1) u (IsCharBoundary-after_ascii (body ++ q ∷ rest) (length body) u within at)),
    )

string_fits : (q : ℕ) (bs : List ℕ) → q < 128 → IsUtf8 bs → Fits (string (string_at q bs))
unfolding Fits
string_fits q bs low u = go (string_at q bs) refl
  where
    go : (o : Option (List ℕ × List ℕ)) → string_at q bs ≡ o → Fits (string o)
    go None e = stray_fits
    go (Some x) e =
        let s : IsString q bs x.0 x.1 = (is_longest q bs x.0 x.1 e).is in
        let p = string_parts q s.body x.1 low (subst IsUtf8 s.parts u) in
        (unescaped_text q s.body x.0 low p.0 s.stands, p.1)

-- ---- signs

short_none : (b : ℕ) → 128 ≤ b → sign_of b ≡ None
unfolding sign_of
short_none b h =
    rw (differs b 40 (omega arith) h, differs b 41 (omega arith) h, differs b 91 (omega arith) h, differs b 44 (omega arith) h, differs b 59 (omega arith) h, differs b 61 (omega arith) h, differs b 60 (omega arith) h, differs b 62 (omega arith) h, differs b 42 (omega arith) h) refl

long_none : (b c : ℕ) → 128 ≤ b → long_sign_of b c ≡ None
unfolding long_sign_of
long_none b c h = rw (differs b 60 (omega arith) h, differs b 62 (omega arith) h, differs b 33 (omega arith) h) refl

is_low : (c k : ℕ) → k < 128 → (c == k) ≡ true → c < 128
is_low c k h e = grind (arith, nat_tests)

second_low : (b c : ℕ) (s : Sign) → long_sign_of b c ≡ Some s → c < 128
unfolding long_sign_of
second_low b c s e = go ((b == 60) && (c == 61)) refl ((b == 60) && (c == 62)) refl ((b == 62) && (c == 61)) refl ((b == 33) && (c == 61)) refl e
  where
    at : (a : Bool) (k : ℕ) → k < 128 → (a && (c == k)) ≡ true → c < 128
    at a k low h = is_low c k low (right_true a (c == k) h)

    go : (w : Bool) → ((b == 60) && (c == 61)) ≡ w → (x : Bool) → ((b == 60) && (c == 62)) ≡ x → (y : Bool) → ((b == 62) && (c == 61)) ≡ y → (z : Bool) → ((b == 33) && (c == 61)) ≡ z
        → cond w (Some sign.AtMost) (cond x (Some sign.Unequal) (cond y (Some sign.AtLeast) (cond z (Some sign.Unequal) None))) ≡ Some s → c < 128
    go true h x _ y _ z _ e = at (b == 60) 61 (omega arith) h
    go false _ true h y _ z _ e = at (b == 60) 62 (omega arith) h
    go false _ false _ true h z _ e = at (b == 62) 61 (omega arith) h
    go false _ false _ false _ true h e = at (b == 33) 61 (omega arith) h
    go false _ false _ false _ false _ e = absurd cc

sign_fits : (b : ℕ) (bs : List ℕ) → IsUtf8 (b ∷ bs) → Fits (signed (sign_at b bs))
unfolding Fits
sign_fits b bs u = by_size (cases_lt b 128) bs u
  where
    last : (o : Option Sign) (cs : List ℕ) → IsUtf8 cs → Fits (signed (followed o cs))
    last None cs u = stray_fits
    last (Some s) cs u = (tt, u)

    first : b < 128 → (c : ℕ) (cs : List ℕ) → IsUtf8 (c ∷ cs) → (o : Option Sign) → long_sign_of b c ≡ o → Fits (signed (or_else (followed o cs) (followed (sign_of b) (c ∷ cs))))
    first low c cs u None e = last (sign_of b) (c ∷ cs) u
    first low c cs u (Some s) e = (tt, tail c cs (second_low b c s e) u)

    by_size : (b < 128) ⊎ (128 ≤ b) → (cs : List ℕ) → IsUtf8 (b ∷ cs) → Fits (signed (sign_at b cs))
    by_size (inl low) [] u = last (sign_of b) [] IsUtf8-nil
    by_size (inl low) (c ∷ cs) u = first low c cs (tail b (c ∷ cs) low u) (long_sign_of b c) refl
    by_size (inr big) [] u = rw (short_none b big) stray_fits
    by_size (inr big) (c ∷ cs) u = rw (long_none b c big, short_none b big) stray_fits

-- ---- the tokens of a text

begins_low : (b : ℕ) → begins_word b ≡ true → b < 128
begins_low b h = grind (arith, nat_tests)

quotes_low : (b : ℕ) → ((b == 39) || (b == 34)) ≡ true → b < 128
quotes_low b h = grind (arith, nat_tests)

blank_low : (b : ℕ) → is_blank b ≡ true → b < 128
blank_low b h = grind (arith, nat_tests)

lexeme_fits : (b : ℕ) (bs : List ℕ) → IsUtf8 (b ∷ bs) → Fits (lexeme b bs)
unfolding lexeme
lexeme_fits b bs u = go (begins_word b) refl (is_digit b) refl (b == 45) refl (b == 96) refl ((b == 39) || (b == 34)) refl
  where
    go : (a : Bool) → begins_word b ≡ a → (d : Bool) → is_digit b ≡ d → (m : Bool) → (b == 45) ≡ m → (q : Bool) → (b == 96) ≡ q → (s : Bool) → ((b == 39) || (b == 34)) ≡ s
        → Fits (cond a (word (prefix_len in_word bs) b bs) (cond d (number (prefix_len is_digit bs) b bs) (cond m (negative (prefix_len is_digit bs) bs) (cond q (quoted (prefix_len in_quotes bs) bs) (cond s (string (string_at b bs)) (signed (sign_at b bs)))))))
    go true h d _ m _ q _ s _ = word_fits b bs h (tail b bs (begins_low b h) u)
    go false _ true h m _ q _ s _ = number_fits b bs (tail b bs (digit_low b h) u)
    go false _ false _ true h q _ s _ = negative_fits bs (tail b bs (is_low b 45 (omega arith) h) u)
    go false _ false _ false _ true h s _ = name_fits bs (prefix_len in_quotes bs) refl (tail b bs (is_low b 96 (omega arith) h) u)
    go false _ false _ false _ false _ true h = string_fits b bs (quotes_low b h) (tail b bs (quotes_low b h) u)
    go false _ false _ false _ false _ false h = sign_fits b bs u

fit_within : (n all : ℕ) (bs : List ℕ) → length bs ≤ n → IsUtf8 bs → AreFit (tokens_behind all 0 bs)
unfolding tokens_behind AreFit Fits
fit_within n all [] l u = tt
fit_within zero all (b ∷ bs) l u = absurd (omega arith)
fit_within (suc n) all (b ∷ bs) l u = go (is_blank b) refl (λ k v. fit_within n all bs k v) (λ k v. fit_within n all (lexeme b bs).1 k v)
  where
    go : (r : Bool) → is_blank b ≡ r → (length bs ≤ n → IsUtf8 bs → AreFit (tokens_behind all 0 bs)) → (length (lexeme b bs).1 ≤ n → IsUtf8 (lexeme b bs).1 → AreFit (tokens_behind all 0 (lexeme b bs).1))
        → AreFit (cond r (tokens_behind all 0 bs) (record { at = all - length (b ∷ bs); kind = (lexeme b bs).0 } ∷ tokens_behind all (length bs - length (lexeme b bs).1) bs))
    go true h blank more = blank (omega arith) (tail b bs (blank_low b h) u)
    go false h blank more =
        let f = lexeme_fits b bs u in
        let shorter : length (lexeme b bs).1 ≤ length bs = no_longer (lexeme b bs).1 bs (lexeme_end b bs) in
        (f.0, subst AreFit (sym (behind all b bs)) (more (omega arith) f.1))

pub are_fit : (text : List ℕ) → IsUtf8 text → AreFit (tokens_of text)
are_fit text u = fit_within (length text) (length text) text (omega arith) u
