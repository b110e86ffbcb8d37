-- The number of a few digits, and that such a text has no blanks and no sign.
use Rattle.std.proofs.Common.{◌≡◌, ◌≢◌, zero, ℕ, pos, suc, ◌+◌, ◌-◌, ◌*◌, ◌<◌, ◌≤◌, ◌^◌, ◌∙◌, List, [], ◌∷◌, Bool, true, false, cond, ◌&&◌, length, Some, None, refl, sym, ap, arith, nat_lt, take, get_or, subst, add-one}
use Rattle.std.proofs.Math.Nat.{pow-le-pow_right, pow-suc}
use Rattle.std.proofs.lemmas.Bool.{lt-ltb, ltb-true, ne_eqb}
use Rattle.std.specs.Prelude.{◌==◌}
use Rattle.std.proofs.lemmas.Bool.Decides.{nat_tests}
use mir.Syntax.{w64}
use mir.Val.{to_z}
use Rattle.std.specs.Char.{is_ascii_digit}
use Rattle.std.specs.Str.{all_ascii_digits}
use Rattle.std.specs.Str.Parse.{digits_value}
use Rattle.std.proofs.Math.Seq.{take-length}
use Rattle.dl_values.specs.PlainInt.{few_digits, int_limit}
use Rattle.dl_values.specs.Read.{Spells, int_below, minus, number_of, read, signed_number, strip_back, strip_front, without_blanks}
use Rattle.dl_values.specs.declared.cell.Cell.TheVariants as cell
use Rattle.dl_values.specs.declared.col_type.ColType.{ColType}
use Rattle.dl_values.specs.declared.col_type.ColType.TheVariants as kind
use Rattle.dl_values.proofs.BlankLemmas.{back-stops, front-stops}
use Rattle.dl_values.proofs.NumberLemmas.{MOST, IsReadTo, both_left, cut-at, plus_is, stored_plus}

pub few_is : (ds : List ℕ) (n : ℕ) → Spells ds n → length ds ≤ 18 → Some n ≡ few_digits ds
unfolding few_digits
few_is ds n s h = subst (λ k. Some n ≡ cond (nat_lt 0 (length ds) && nat_lt (length ds) 19 && all_ascii_digits ds) (Some k) None) s.value (go _ _ _ (lt-ltb 0 (length ds) s.some) (lt-ltb (length ds) 19 (omega arith)) s.digits)
  where
    go : (a b c : Bool) → a ≡ true → b ≡ true → c ≡ true → Some n ≡ cond (a && b && c) (Some n) None
    go true true true p q r = refl
    go true true false p q r = cc
    go true false c p q r = cc
    go false b c p q r = cc

pub few_none : (ds : List ℕ) → ((n : ℕ) → Spells ds n → length ds ≤ 18 → ⊥) → None ≡ few_digits ds
unfolding few_digits
few_none ds h = go _ _ _ refl refl refl
  where
    le : length ds < 19 → length ds ≤ 18
    le l = omega arith

    go : (a b c : Bool) → nat_lt 0 (length ds) ≡ a → nat_lt (length ds) 19 ≡ b → all_ascii_digits ds ≡ c → None ≡ cond (a && b && c) (Some (digits_value 10 ds)) None
    go true true true p q r = absurd (h (digits_value 10 ds) (record { some = ltb-true 0 (length ds) p; digits = r; value = refl }) (le (ltb-true (length ds) 19 q)))
    go true true false p q r = refl
    go true false c p q r = refl
    go false b c p q r = refl

pub no_digits : (ds : List ℕ) → (length ds == 0) ≡ true → None ≡ few_digits ds
no_digits ds e = few_none ds (λ n s h. go s.some e)
  where
    go : 0 < length ds → (length ds == 0) ≡ true → ⊥
    go a b = grind (arith, nat_tests)

pub many_digits : (ds : List ℕ) → 18 < length ds → None ≡ few_digits ds
many_digits ds l = few_none ds (λ n s h. go l h)
  where
    go : 18 < length ds → length ds ≤ 18 → ⊥
    go a b = omega arith

-- fewer digits make a lesser number
pub small : (v i : ℕ) → v < 10 ^ i → i ≤ 17 → v < 100000000000000000
small v i h l = let p : 10 ^ i ≤ 10 ^ 17 = pow-le-pow_right (omega arith) l in omega arith

pub small_next : (v i d : ℕ) → v < 10 ^ i → d ≤ 9 → v * 10 + d < 10 ^ (i + 1)
small_next v i d h l = rw (add-one, pow-suc 10 i) (omega arith)

pub other_byte : (ds : List ℕ) (i v : ℕ) → i < length ds → is_ascii_digit (get_or ds i 0) ≡ false → IsReadTo ds i v → None ≡ few_digits ds
other_byte ds i v h digit read = few_none ds (λ n s l. absurd (clash (both_left _ _ (ap all_ascii_digits (sym (cut-at ds i h)) ∙ read.digits ∙ s.digits))))
  where
    clash : is_ascii_digit (get_or ds i 0) ≡ true → ⊥
    clash e = cc

-- ---- what such a text is read as

few_spells : (ds : List ℕ) (n : ℕ) → few_digits ds ≡ Some n → Spells ds n
unfolding few_digits
few_spells ds n e = go _ _ _ refl refl refl e
  where
    only : (k : ℕ) → Some k ≡ Some n → n ≡ k
    only k e = cc

    go : (a b c : Bool) → nat_lt 0 (length ds) ≡ a → nat_lt (length ds) 19 ≡ b → all_ascii_digits ds ≡ c → cond (a && b && c) (Some (digits_value 10 ds)) None ≡ Some n → Spells ds n
    go true true true p q r e = record { some = ltb-true 0 (length ds) p; digits = r; value = only _ e }
    go true true false p q r e = cc
    go true false c p q r e = cc
    go false b c p q r e = cc

digit_at : (ds : List ℕ) (i : ℕ) → all_ascii_digits ds ≡ true → i < length ds → is_ascii_digit (get_or ds i 0) ≡ true
digit_at [] i a h = absurd (omega arith)
digit_at (c ∷ cs) zero a h = both_left _ _ a
digit_at (c ∷ cs) (suc i) a h = digit_at cs i (both_right _ _ a) (omega arith)
  where
    both_right : (x y : Bool) → (x && y) ≡ true → y ≡ true
    both_right true y e = e
    both_right false y e = cc

not_digit : (b c : ℕ) → is_ascii_digit b ≡ false → is_ascii_digit c ≡ true → c ≢ b
not_digit b c f t e = clash (sym (ap is_ascii_digit e ∙ f) ∙ t)
  where
    clash : false ≡ true → ⊥
    clash d = cc

digits_stay : (ds : List ℕ) (n : ℕ) → Spells ds n → without_blanks ds ≡ ds
digits_stay ds n s =
    let some : 0 < length ds = s.some in
    let last : length ds - 1 < length ds = omega arith in
    let front : ds ≡ strip_front ds = front-stops ds 0 some (not_digit 32 _ refl (digit_at ds 0 s.digits some)) in
    let back : take (length ds) ds ≡ strip_back (take (length ds) ds) = back-stops ds (length ds) some (omega arith) (not_digit 32 _ refl (digit_at ds (length ds - 1) s.digits last)) in
    ap strip_back (sym front) ∙ ap strip_back (sym (take-length ds)) ∙ sym back ∙ take-length ds

digits_number : (ds : List ℕ) (n : ℕ) → Spells ds n → n < MOST → number_of ds ≡ Some (pos n)
digits_number [] n s h = absurd (none s.some)
  where
    none : 0 < 0 → ⊥
    none l = omega arith
digits_number (c ∷ cs) n s h =
    let digit : is_ascii_digit c ≡ true = both_left _ _ s.digits in
    ap (λ b. cond b (signed_number minus cs) (cond (c == 43) (signed_number pos cs) (signed_number pos (c ∷ cs)))) (ne_eqb c 45 (not_digit 45 c refl digit))
    ∙ ap (λ b. cond b (signed_number pos cs) (signed_number pos (c ∷ cs))) (ne_eqb c 43 (not_digit 43 c refl digit))
    ∙ sym (plus_is (c ∷ cs) n s h)

below_is : (m n : ℕ) → n < m → int_below m (Some (pos n)) ≡ Some (cell.Int (pos n))
below_is m n h = ap (λ b. cond b (Some (cell.Int (pos n))) None) (lt-ltb n m h)

digits_below : (m : ℕ) (ds : List ℕ) (n : ℕ) → Spells ds n → n < m → m ≤ MOST → int_below m (number_of (without_blanks ds)) ≡ Some (cell.Int (pos n))
digits_below m ds n s h l = ap (λ t. int_below m (number_of t)) (digits_stay ds n s) ∙ ap (int_below m) (digits_number ds n s (omega arith)) ∙ below_is m n h

spelled_read : (k : ColType) (ds : List ℕ) (n : ℕ) → Spells ds n → n < int_limit k → read k ds ≡ Some (cell.Int (pos n))
spelled_read kind.TinyInt ds n s h = digits_below 128 ds n s h (omega arith)
spelled_read kind.SmallInt ds n s h = digits_below 32768 ds n s h (omega arith)
spelled_read kind.Int ds n s h = digits_below 2147483648 ds n s h (omega arith)
spelled_read kind.BigInt ds n s h = digits_below MOST ds n s h (omega arith)
spelled_read kind.Date ds n s h = absurd (omega arith)
spelled_read (kind.Varchar m) ds n s h = absurd (omega arith)

limit_most : (k : ColType) → int_limit k ≤ MOST
limit_most kind.TinyInt = omega arith
limit_most kind.SmallInt = omega arith
limit_most kind.Int = omega arith
limit_most kind.BigInt = omega arith
limit_most kind.Date = omega arith
limit_most (kind.Varchar m) = omega arith

pub few_read : (k : ColType) (ds : List ℕ) (n : ℕ) → few_digits ds ≡ Some n → n < int_limit k → read k ds ≡ Some (cell.Int (to_z w64 n))
few_read k ds n e h = let m : int_limit k ≤ MOST = limit_most k in spelled_read k ds n (few_spells ds n e) h ∙ ap (λ z. Some (cell.Int z)) (sym (stored_plus n (omega arith)))

pub some_digits : (ds : List ℕ) → (length ds == 0) ≡ false → 0 < length ds
some_digits ds e = grind (arith, nat_tests)
