-- The integer that digits spell is what their text is in a BIGINT column.
use Rattle.std.proofs.Common.{◌≡◌, ◌+◌, ◌-◌, ◌<◌, arith, ℕ, ℤ, pos, suc, Bool, true, false, cond, Some, None, List, [], ◌∷◌, ◌++◌, take, length, sym, ap, refl, ◌∙◌, ◌==◌, ◌&&◌, nat_lt, reverse, subst, append_assoc}
use Rattle.std.specs.List.{prefix_len}
use Rattle.std.specs.Char.{is_ascii_digit}
use Rattle.std.specs.Str.{all_ascii_digits}
use Rattle.std.specs.Str.Parse.{digits_value}
use Rattle.std.proofs.lemmas.List.{append-nil, reverse-append, reverse-reverse}
use Rattle.std.proofs.lemmas.Bool.{lt-ltb}
use Rattle.std.proofs.lemmas.Bool.Decides.{nat_tests}
use Rattle.dl_values.specs.Read.{strip_front, strip_back, without_blanks, number_of, signed_number, is_within, int_below, minus}
use Rattle.sql_tokens.specs.Bytes.{is_digit}
use Rattle.sql_tokens.specs.Steps.{by_cell, integer_of}
use Rattle.sql_tokens.specs.Tokens.{integer}

abbrev pub MOST : ℕ
MOST = 9223372036854775808

-- ---- no blank is taken off

-- no blank in front
abbrev Stays : List ℕ → Type 0
Stays [] = Unit {0}
Stays (c ∷ cs) = (c == 32) ≡ false

front_stays : (cs : List ℕ) → Stays cs → strip_front cs ≡ cs
unfolding strip_front
front_stays [] h = refl
front_stays (c ∷ cs) h = rw h refl

back_stays : (cs : List ℕ) → Stays (reverse cs) → strip_back cs ≡ cs
unfolding strip_back
back_stays cs h = ap reverse (front_stays (reverse cs) h) ∙ reverse-reverse cs

both_stay : (cs : List ℕ) → Stays cs → Stays (reverse cs) → without_blanks cs ≡ cs
both_stay cs f b = ap strip_back (front_stays cs f) ∙ back_stays cs b

-- ---- digits

no_blank : (c : ℕ) → is_ascii_digit c ≡ true → (c == 32) ≡ false
no_blank c h = grind (arith, nat_tests)

no_minus : (c : ℕ) → is_ascii_digit c ≡ true → (c == 45) ≡ false
no_minus c h = grind (arith, nat_tests)

no_plus : (c : ℕ) → is_ascii_digit c ≡ true → (c == 43) ≡ false
no_plus c h = grind (arith, nat_tests)

left_true : (a b : Bool) → (a && b) ≡ true → a ≡ true
left_true true b h = refl
left_true false b h = cc

right_true : (a b : Bool) → (a && b) ≡ true → b ≡ true
right_true true b h = h
right_true false b h = cc

-- the last of digits is no blank, whatever stands before them
last_stays : (front ds : List ℕ) → Stays (reverse front) → all_ascii_digits ds ≡ true → Stays (reverse (front ++ ds))
last_stays front [] h d = subst (λ cs. Stays (reverse cs)) (sym (append-nil front)) h
last_stays front (c ∷ cs) h d =
    let one : Stays (reverse (front ++ c ∷ [])) = subst Stays (sym (reverse-append front (c ∷ []))) (no_blank c (left_true (is_ascii_digit c) (all_ascii_digits cs) d)) in
    subst (λ xs. Stays (reverse xs)) (append_assoc front (c ∷ []) cs) (last_stays (front ++ c ∷ []) cs one (right_true (is_ascii_digit c) (all_ascii_digits cs) d))

-- ---- digits in front of a text

pub digits_in_front : (bs : List ℕ) → all_ascii_digits (take (prefix_len is_digit bs) bs) ≡ true
digits_in_front [] = refl
digits_in_front (b ∷ bs) = go (is_digit b) refl (prefix_len is_digit bs) (digits_in_front bs)
  where
    go : (r : Bool) → is_digit b ≡ r → (n : ℕ) → all_ascii_digits (take n bs) ≡ true → all_ascii_digits (take (cond r (1 + n) 0) (b ∷ bs)) ≡ true
    go true e n h = let s : 1 + n ≡ suc n = omega arith in rw (s, e) h
    go false e n h = refl

pub some_digits : (n : ℕ) (bs : List ℕ) → 0 < n → n ≡ prefix_len is_digit bs → 0 < length (take n bs)
some_digits n [] p e = absurd (omega arith)
some_digits n (b ∷ bs) p e = let s : n ≡ suc (n - 1) = omega arith in rw s (omega arith)

-- ---- the integer

within_once : (z : ℤ) → by_cell (int_below MOST (cond (is_within MOST z) (Some z) None)) ≡ integer z
within_once z = go (is_within MOST z) refl
  where
    go : (r : Bool) → is_within MOST z ≡ r → by_cell (int_below MOST (cond r (Some z) None)) ≡ integer z
    go true e = rw e refl
    go false e = rw e refl

signed_is : (sign : ℕ → ℤ) (ds : List ℕ) → 0 < length ds → all_ascii_digits ds ≡ true → by_cell (int_below MOST (signed_number sign ds)) ≡ integer (sign (digits_value 10 ds))
unfolding signed_number
signed_is sign ds p d = let q : nat_lt 0 (length ds) ≡ true = lt-ltb 0 (length ds) p in rw (q, d) (within_once (sign (digits_value 10 ds)))

pub plain_integer : (b : ℕ) (ds : List ℕ) → is_digit b ≡ true → all_ascii_digits ds ≡ true → integer_of (b ∷ ds) ≡ integer (pos (digits_value 10 (b ∷ ds)))
plain_integer b ds h d =
    let all : all_ascii_digits (b ∷ ds) ≡ true = rw h d in
    ap (λ cs. by_cell (int_below MOST (number_of cs))) (both_stay (b ∷ ds) (no_blank b h) (last_stays [] (b ∷ ds) tt all))
    ∙ rw (no_minus b h, no_plus b h) (signed_is pos (b ∷ ds) (omega arith) all)

pub negative_integer : (ds : List ℕ) → 0 < length ds → all_ascii_digits ds ≡ true → integer_of (45 ∷ ds) ≡ integer (minus (digits_value 10 ds))
negative_integer ds p d =
    ap (λ cs. by_cell (int_below MOST (number_of cs))) (both_stay (45 ∷ ds) refl (last_stays (45 ∷ []) ds refl d))
    ∙ signed_is minus ds p d
