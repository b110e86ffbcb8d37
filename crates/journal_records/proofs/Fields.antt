-- A reader of a field reads what is spelled, and what is spelled is read again.
use Rattle.std.proofs.Common.{◌≡◌, ℕ, ℤ, zero, suc, ◌+◌, ◌^◌, ◌<◌, ◌≤◌, Bool, true, false, cond, eqb, ltb, List, [], ◌∷◌, ◌++◌, length, get_or, take, drop, Option, Some, None, Result, Ok, Err, refl, sym, ap, subst, ◌∙◌, append_assoc, arith, inl, inr, ◌⊎◌}
use Rattle.std.specs.List.{flat_map, AllByRecursion}
use Rattle.std.specs.Str.{is_utf8}
use Rattle.std.specs.Int.{Width, w32, w64, byte_len, from_be_bytes, to_be_bytes, cast_unsigned, cast_signed}
use Rattle.std.specs.Int.RustNames.{FitsSigned}
use Rattle.std.proofs.lemmas.Bool.{cases_lt, ltb-false, le-ltb, eqb-true}
use Rattle.std.proofs.lemmas.List.{take_at, drop_at, take-append-drop, length-append, length-take, get_or-drop, get_or-take, get_or_past}
use Rattle.std.proofs.lemmas.List.Concat.{flat_map-cons}
use Rattle.std.proofs.lemmas.Nat.{be_bytes_4, be_bytes_8, from_be_bytes-to_be_bytes_4, from_be_bytes-to_be_bytes_8}
use Rattle.std.proofs.lemmas.Int.{to_z-of_z, of_z-to_z}
use mir.ValLaws.{to_z-Fits, of_z_fits}
use Rattle.schema_models.specs.CellTypes.{is_calendar_day}
use Rattle.journal_records.specs.Spelling.{number32, number64, integer, text, flag, optional, listed, pair}
use Rattle.journal_records.specs.Fitting.{Fits64, FitsText, FitsDay, FitsOption, FitsList, FitsPair}
use Rattle.journal_records.specs.Reading.{bind, ◌>>=◌, is, number_at, number64_at, integer_at, text_at, day_at, tagged, no_tag, flag_at, optional_at, times, listed_at, pair_at, job_at}

abbrev pub IsBytes : List ℕ → Type 0
IsBytes bytes = (i : ℕ) → get_or bytes i 0 < 256

IsBytes-drop : (n : ℕ) (bytes : List ℕ) → IsBytes bytes → IsBytes (drop n bytes)
IsBytes-drop n bytes h i = rw get_or-drop (h (n + i))

IsBytes-take : (n : ℕ) (bytes : List ℕ) → IsBytes bytes → IsBytes (take n bytes)
IsBytes-take n bytes h i =
    elim (cases_lt i n) [
      | inl lt ↦ rw (get_or-take n bytes i 0 lt) (h i)
      | inr le ↦ rw (get_or_past (take n bytes) i 0 (omega (arith, length-take n bytes))) (omega arith)
    ]

IsBytes-rest : (b : ℕ) (bytes : List ℕ) → IsBytes (b ∷ bytes) → IsBytes bytes
IsBytes-rest b bytes h i = h (suc i)

-- ---- steps that did not fail

pub bind_ok : {A B : Type 0} (r : Result (A × List ℕ) ℕ) (f : A → List ℕ → Result (B × List ℕ) ℕ) (y : B × List ℕ) → bind r f ≡ Ok y → (x : A) × (after : List ℕ) × (r ≡ Ok (x, after)) × (f x after ≡ Ok y)
bind_ok (Ok x) f y e = (x.0, x.1, refl, e)
bind_ok (Err n) f y e = absurd cc

pub chosen : {A : Type 0} (b : Bool) (x y z : A) → cond b x y ≡ z → ((b ≡ true) × (x ≡ z)) ⊎ ((b ≡ false) × (y ≡ z))
chosen true x y z e = inl (refl, e)
chosen false x y z e = inr (refl, e)

guard_ok : {A : Type 0} (b : Bool) (n : ℕ) (x : Result A ℕ) (y : A) → cond b (Err n) x ≡ Ok y → (b ≡ false) × (x ≡ Ok y)
guard_ok true n x y e = absurd cc
guard_ok false n x y e = (refl, e)

guard_holds : {A : Type 0} (b : Bool) (n : ℕ) (x y : A) → cond b (Ok x) (Err n) ≡ Ok y → (b ≡ true) × (x ≡ y)
guard_holds true n x y e = (refl, cc)
guard_holds false n x y e = absurd cc

abbrev pub done : {A : Type 0} → A → Result A ℕ
done x = Ok x

pub ok_is : {A : Type 0} (x y : A) → done x ≡ done y → x ≡ y
ok_is x y e = cc

-- what a reader took from the front
pub record Takes (bytes used rest : List ℕ) : Type 0 where
  pub parts : bytes ≡ used ++ rest
  pub rest_fits : IsBytes rest

pub Takes-then : (a x b y c : List ℕ) → Takes a x b → Takes b y c → Takes a (x ++ y) c
Takes-then a x b y c p q = record { parts = p.parts ∙ ap (λ (t : List ℕ). x ++ t) q.parts ∙ sym (append_assoc x y c); rest_fits = q.rest_fits }

-- what is read is spelled so, and what is spelled so is read
pub record Reads {A : Type 0} (w : A → List ℕ) (F : A → Type 0) (f : List ℕ → Result (A × List ℕ) ℕ) : Type 0 where
  pub takes : (bytes : List ℕ) (x : A) (rest : List ℕ) → IsBytes bytes → f bytes ≡ Ok (x, rest) → Takes bytes (w x) rest × F x
  pub again : (x : A) (rest : List ℕ) → F x → f (w x ++ rest) ≡ Ok (x, rest)

-- ---- the fields of a record one after the other: the rest of them, where K is known of the record

pub record Rest {S : Type 0} (K : S → Type 0) (w : S → List ℕ) (F : S → Type 0) (f : List ℕ → Result (S × List ℕ) ℕ) : Type 0 where
  pub takes : (bytes : List ℕ) (s : S) (rest : List ℕ) → IsBytes bytes → f bytes ≡ Ok (s, rest) → K s × Takes bytes (w s) rest × F s
  pub again : (s : S) (rest : List ℕ) → K s → F s → f (w s ++ rest) ≡ Ok (s, rest)

pub field : {S A : Type 0} {K : S → Type 0} {wa : A → List ℕ} {Fa : A → Type 0} {fa : List ℕ → Result (A × List ℕ) ℕ} {w : S → List ℕ} {F : S → Type 0} {g : A → List ℕ → Result (S × List ℕ) ℕ}
    (get : S → A) → Reads wa Fa fa → ((a : A) → Rest (λ s. K s × (get s ≡ a)) w F (g a)) → Rest K (λ s. wa (get s) ++ w s) (λ s. Fa (get s) × F s) (fa >>= g)
field {A = A} {wa = wa} {Fa = Fa} {fa = fa} {w = w} {g = g} get one more = record {
  takes = λ bytes s rest fits e.
      let a = bind_ok (fa bytes) g (s, rest) e in
      let t = one.takes bytes a.0 a.1 fits a.2 in
      let m = (more a.0).takes a.1 s rest t.0.rest_fits a.3 in
      let both = Takes-then bytes (wa a.0) a.1 (w s) rest t.0 m.1 in
      (m.0.0, subst (λ (x : A). Takes bytes (wa x ++ w s) rest) (sym m.0.1) both, (subst Fa (sym m.0.1) t.1, m.2));
  again = λ s rest known fits.
      ap (fa >>= g) (append_assoc (wa (get s)) (w s) rest) ∙ ap (λ r. bind r g) (one.again (get s) (w s ++ rest) fits.0) ∙ (more (get s)).again s rest (known, refl) fits.1;
}

pub last : {S A : Type 0} {K : S → Type 0} {wa : A → List ℕ} {Fa : A → Type 0} {fa : List ℕ → Result (A × List ℕ) ℕ}
    (get : S → A) (made : A → S) → Reads wa Fa fa → ((a : A) → K (made a) × (get (made a) ≡ a)) → ((s : S) → K s → made (get s) ≡ s) → Rest K (λ s. wa (get s)) (λ s. Fa (get s)) (fa >>= λ a. is (made a))
last {S = S} {A = A} {K = K} {wa = wa} {Fa = Fa} {fa = fa} get made one known whole = record {
  takes = λ bytes s rest fits e.
      let a = bind_ok (fa bytes) (λ x. is (made x)) (s, rest) e in
      let t = one.takes bytes a.0 a.1 fits a.2 in
      let k = known a.0 in
      subst (λ (z : S × List ℕ). K z.0 × Takes bytes (wa (get z.0)) z.1 × Fa (get z.0)) (ok_is (made a.0, a.1) (s, rest) a.3)
      (k.0, subst (λ (x : A). Takes bytes (wa x) a.1) (sym k.1) t.0, subst Fa (sym k.1) t.1);
  again = λ s rest k fits. ap (λ r. bind r (λ x. is (made x))) (one.again (get s) rest fits) ∙ ap (λ (z : S). done (z, rest)) (whole s k);
}

pub whole : {S : Type 0} {w : S → List ℕ} {F : S → Type 0} {f : List ℕ → Result (S × List ℕ) ℕ} → Rest (λ _. Unit {0}) w F f → Reads w F f
whole r = record { takes = λ bytes s rest fits e. let t = r.takes bytes s rest fits e in (t.1, t.2); again = λ s rest fits. r.again s rest tt fits }

-- ---- a byte that says which of several things comes

abbrev pub Sound : {S : Type 0} (w : S → List ℕ) (F : S → Type 0) (f : List ℕ → Result (S × List ℕ) ℕ) → Type 0
Sound {S} w F f = (bytes : List ℕ) (s : S) (rest : List ℕ) → IsBytes bytes → f bytes ≡ Ok (s, rest) → Takes bytes (w s) rest × F s

-- the same behind the byte n
abbrev pub Behind : {S : Type 0} (n : ℕ) (w : S → List ℕ) (F : S → Type 0) (f : List ℕ → Result (S × List ℕ) ℕ) → Type 0
Behind {S} n w F f = (bytes : List ℕ) (s : S) (rest : List ℕ) → IsBytes bytes → f bytes ≡ Ok (s, rest) → Takes (n ∷ bytes) (w s) rest × F s

pub none_sound : {S : Type 0} (w : S → List ℕ) (F : S → Type 0) → Sound w F no_tag
none_sound w F bytes s rest fits e = absurd cc

pub tag_sound : {S : Type 0} (n : ℕ) (w : S → List ℕ) (F : S → Type 0) (f g : List ℕ → Result (S × List ℕ) ℕ) → Behind n w F f → Sound w F g → Sound w F (tagged n f g)
tag_sound n w F f g one other [] s rest fits e = other [] s rest fits e
tag_sound n w F f g one other (b ∷ bs) s rest fits e =
    elim (chosen (eqb b n) (f bs) (g (b ∷ bs)) (Ok (s, rest)) e) [
      | inl h ↦ subst (λ (x : ℕ). Takes (x ∷ bs) (w s) rest × F s) (sym (eqb-true b n h.0)) (one bs s rest (IsBytes-rest b bs fits) h.1)
      | inr h ↦ other (b ∷ bs) s rest fits h.1
    ]

pub behind : {S A : Type 0} {wa : A → List ℕ} {Fa : A → Type 0} {fa : List ℕ → Result (A × List ℕ) ℕ} (n : ℕ) (w : S → List ℕ) (F : S → Type 0) (made : A → S) → Reads wa Fa fa
    → ((a : A) → w (made a) ≡ n ∷ wa a) → ((a : A) → Fa a → F (made a)) → Behind n w F (fa >>= λ a. is (made a))
behind {S = S} {wa = wa} {fa = fa} n w F made one spelled fit bytes s rest fits e =
    let a = bind_ok (fa bytes) (λ x. is (made x)) (s, rest) e in
    let t = one.takes bytes a.0 a.1 fits a.2 in
    let t2 : Takes (n ∷ bytes) (n ∷ wa a.0) a.1 = record { parts = ap (λ (l : List ℕ). n ∷ l) t.0.parts; rest_fits = t.0.rest_fits } in
    subst (λ (z : S × List ℕ). Takes (n ∷ bytes) (w z.0) z.1 × F z.0) (ok_is (made a.0, a.1) (s, rest) a.3) (subst (λ (l : List ℕ). Takes (n ∷ bytes) l a.1) (sym (spelled a.0)) t2, fit a.0 t.1)

pub alone : {S : Type 0} (n : ℕ) (w : S → List ℕ) (F : S → Type 0) (made : S) → w made ≡ n ∷ [] → F made → Behind n w F (is made)
alone {S = S} n w F made spelled fit bytes s rest fits e =
    subst (λ (z : S × List ℕ). Takes (n ∷ bytes) (w z.0) z.1 × F z.0) (ok_is (made, bytes) (s, rest) e)
    (subst (λ (l : List ℕ). Takes (n ∷ bytes) l bytes) (sym spelled) (record { parts = refl; rest_fits = fits }), fit)

-- what was made of a field is read again
pub made_again : {S A : Type 0} {wa : A → List ℕ} {Fa : A → Type 0} {fa : List ℕ → Result (A × List ℕ) ℕ} (made : A → S) → Reads wa Fa fa → (a : A) (rest : List ℕ) → Fa a → (fa >>= λ x. is (made x)) (wa a ++ rest) ≡ Ok (made a, rest)
made_again made one a rest fits = ap (λ r. bind r (λ x. is (made x))) (one.again a rest fits)

-- ---- numbers

pub record IsWide (w : Width) (limit : ℕ) : Type 0 where
  pub len : (n : ℕ) → length (to_be_bytes w n) ≡ byte_len w
  pub back : (bytes : List ℕ) → length bytes ≡ byte_len w → IsBytes bytes → to_be_bytes w (from_be_bytes w bytes) ≡ bytes
  pub again : (n : ℕ) → n < limit → from_be_bytes w (to_be_bytes w n) ≡ n
  pub below : (bytes : List ℕ) → IsBytes bytes → from_be_bytes w bytes < limit

wide32 : IsWide w32 (2 ^ 32)
wide32 = record {
  len = λ n. refl;
  back = λ bytes len fits. be_bytes_4 bytes _ len fits refl;
  again = λ n lt. from_be_bytes-to_be_bytes_4 n lt;
  below = λ bytes fits. omega (arith, fits 0, fits 1, fits 2, fits 3);
}

wide64 : IsWide w64 (2 ^ 64)
wide64 = record {
  len = λ n. refl;
  back = λ bytes len fits. be_bytes_8 bytes _ len fits refl;
  again = λ n lt. from_be_bytes-to_be_bytes_8 n lt;
  below = λ bytes fits. omega (arith, fits 0, fits 1, fits 2, fits 3, fits 4, fits 5, fits 6, fits 7);
}

number_takes : (w : Width) (limit : ℕ) (wide : IsWide w limit) (bytes : List ℕ) (n : ℕ) (rest : List ℕ) → IsBytes bytes → number_at w bytes ≡ Ok (n, rest) → Takes bytes (to_be_bytes w n) rest × (n < limit)
number_takes w limit wide bytes n rest fits e =
    let g = guard_ok (ltb (length bytes) (byte_len w)) (length bytes) (Ok (from_be_bytes w (take (byte_len w) bytes), drop (byte_len w) bytes)) (n, rest) e in
    let long : byte_len w ≤ length bytes = ltb-false _ _ g.0 in
    let same = ok_is (from_be_bytes w (take (byte_len w) bytes), drop (byte_len w) bytes) (n, rest) g.1 in
    let n-is : from_be_bytes w (take (byte_len w) bytes) ≡ n = ap (λ (p : ℕ × List ℕ). p.0) same in
    let rest-is : drop (byte_len w) bytes ≡ rest = ap (λ (p : ℕ × List ℕ). p.1) same in
    let front : to_be_bytes w n ≡ take (byte_len w) bytes = rw (← n-is) (wide.back (take (byte_len w) bytes) (omega (arith, length-take (byte_len w) bytes)) (IsBytes-take (byte_len w) bytes fits)) in
    (record { parts = rw (front, ← rest-is) (sym (take-append-drop (byte_len w) bytes)); rest_fits = rw (← rest-is) (IsBytes-drop (byte_len w) bytes fits) }, rw (← n-is) (wide.below (take (byte_len w) bytes) (IsBytes-take (byte_len w) bytes fits)))

number_again : (w : Width) (limit : ℕ) (wide : IsWide w limit) (n : ℕ) (rest : List ℕ) → n < limit → number_at w (to_be_bytes w n ++ rest) ≡ Ok (n, rest)
number_again w limit wide n rest lt =
    let len = wide.len n in
    let long : ltb (length (to_be_bytes w n ++ rest)) (byte_len w) ≡ false = le-ltb _ _ (omega (arith, length-append (to_be_bytes w n) rest)) in
    rw (long, take_at (to_be_bytes w n) rest (byte_len w) len, drop_at (to_be_bytes w n) rest (byte_len w) len, wide.again n lt) refl

pub number32_reads : Reads number32 (λ n. n < 2 ^ 32) (number_at w32)
number32_reads = record { takes = number_takes w32 (2 ^ 32) wide32; again = number_again w32 (2 ^ 32) wide32 }

pub number64_reads : Reads number64 Fits64 number64_at
unfolding number64_at number64
number64_reads = record { takes = number_takes w64 (2 ^ 64) wide64; again = number_again w64 (2 ^ 64) wide64 }

-- ---- two numbers

pub pair_reads : Reads pair FitsPair pair_at
unfolding pair_at pair
pair_reads = whole (field (λ p. p.0) number64_reads (λ a. last (λ p. p.1) (λ b. (a, b)) number64_reads (λ b. ((tt, refl), refl)) (λ p k. ap (λ (x : ℕ). (x, p.1)) (sym k.1))))

-- ---- integers

integer_takes : (bytes : List ℕ) (z : ℤ) (rest : List ℕ) → IsBytes bytes → integer_at bytes ≡ Ok (z, rest) → Takes bytes (integer z) rest × FitsSigned w64 z
unfolding integer_at number64
integer_takes bytes z rest fits e =
    let a = bind_ok (number_at w64 bytes) (λ n. is (cast_signed w64 n)) (z, rest) e in
    let t = number_takes w64 (2 ^ 64) wide64 bytes a.0 a.1 fits a.2 in
    let back : cast_unsigned w64 (cast_signed w64 a.0) ≡ a.0 = of_z-to_z w64 a.0 t.1 in
    subst (λ (y : ℤ × List ℕ). Takes bytes (integer y.0) y.1 × FitsSigned w64 y.0) (ok_is (cast_signed w64 a.0, a.1) (z, rest) a.3)
    (subst (λ (n : ℕ). Takes bytes (number64 n) a.1) (sym back) t.0, to_z-Fits w64 a.0 (record { fits = t.1 }))

integer_again : (z : ℤ) (rest : List ℕ) → FitsSigned w64 z → integer_at (integer z ++ rest) ≡ Ok (z, rest)
unfolding integer_at number64
integer_again z rest fits =
    ap (λ r. bind r (λ n. is (cast_signed w64 n))) (number_again w64 (2 ^ 64) wide64 (cast_unsigned w64 z) rest (of_z_fits w64 z fits).fits) ∙ ap (λ (y : ℤ). done (y, rest)) (to_z-of_z w64 z fits)

pub integer_reads : Reads integer (λ z. FitsSigned w64 z) integer_at
integer_reads = record { takes = integer_takes; again = integer_again }

-- ---- texts and days

text_takes : (bytes t rest : List ℕ) → IsBytes bytes → text_at bytes ≡ Ok (t, rest) → Takes bytes (text t) rest × FitsText t
unfolding text_at text
text_takes bytes t rest fits e =
    let b = bind_ok (number_at w32 bytes) (λ n after. cond (ltb (length after) n) (Err (length bytes)) (cond (is_utf8 (take n after)) (Ok (take n after, drop n after)) (Err (length bytes)))) (t, rest) e in
    let n = b.0 in
    let after = b.1 in
    let m = number_takes w32 (2 ^ 32) wide32 bytes n after fits b.2 in
    let g = guard_ok (ltb (length after) n) (length bytes) (cond (is_utf8 (take n after)) (Ok (take n after, drop n after)) (Err (length bytes))) (t, rest) b.3 in
    let u = guard_holds (is_utf8 (take n after)) (length bytes) (take n after, drop n after) (t, rest) g.1 in
    let long : n ≤ length after = ltb-false _ _ g.0 in
    let len : length (take n after) ≡ n = omega (arith, length-take n after) in
    let second : Takes after (take n after) (drop n after) = record { parts = sym (take-append-drop n after); rest_fits = IsBytes-drop n after m.0.rest_fits } in
    let both = Takes-then bytes (number32 n) after (take n after) (drop n after) m.0 second in
    let all : Takes bytes (text (take n after)) (drop n after) = subst (λ (k : ℕ). Takes bytes (number32 k ++ take n after) (drop n after)) (sym len) both in
    subst (λ (p : List ℕ × List ℕ). Takes bytes (text p.0) p.1 × FitsText p.0) u.1 (all, (omega (arith, m.1), u.0))

text_again : (t rest : List ℕ) → FitsText t → text_at (text t ++ rest) ≡ Ok (t, rest)
unfolding text_at text
text_again t rest fits =
    let long : ltb (length (t ++ rest)) (length t) ≡ false = le-ltb _ _ (omega (arith, length-append t rest)) in
    rw (number_again w32 (2 ^ 32) wide32 (length t) (t ++ rest) fits.0, long, take_at t rest (length t) refl, drop_at t rest (length t) refl, fits.1) refl

pub text_reads : Reads text FitsText text_at
text_reads = record { takes = text_takes; again = text_again }

day_takes : (bytes : List ℕ) (d : ℕ) (rest : List ℕ) → IsBytes bytes → day_at bytes ≡ Ok (d, rest) → Takes bytes (number32 d) rest × FitsDay d
unfolding day_at
day_takes bytes d rest fits e =
    let b = bind_ok (number_at w32 bytes) (λ n after. cond (is_calendar_day n) (Ok (n, after)) (Err (length bytes))) (d, rest) e in
    let m = number_takes w32 (2 ^ 32) wide32 bytes b.0 b.1 fits b.2 in
    let u = guard_holds (is_calendar_day b.0) (length bytes) (b.0, b.1) (d, rest) b.3 in
    subst (λ (p : ℕ × List ℕ). Takes bytes (number32 p.0) p.1 × FitsDay p.0) u.1 (m.0, (m.1, u.0))

day_again : (d : ℕ) (rest : List ℕ) → FitsDay d → day_at (number32 d ++ rest) ≡ Ok (d, rest)
unfolding day_at
day_again d rest fits = rw (number_again w32 (2 ^ 32) wide32 d rest fits.0, fits.1) refl

pub day_reads : Reads number32 FitsDay day_at
day_reads = record { takes = day_takes; again = day_again }

-- ---- flags and options

flag_again : (b : Bool) (rest : List ℕ) → Unit {0} → flag_at (flag b ++ rest) ≡ Ok (b, rest)
unfolding flag_at
flag_again false rest fits = refl
flag_again true rest fits = refl

pub flag_reads : Reads flag (λ _. Unit {0}) flag_at
unfolding flag_at
flag_reads = record {
  takes = tag_sound 0 flag (λ _. Unit {0}) (is false) (tagged 1 (is true) no_tag) (alone 0 flag (λ _. Unit {0}) false refl tt)
      (tag_sound 1 flag (λ _. Unit {0}) (is true) no_tag (alone 1 flag (λ _. Unit {0}) true refl tt) (none_sound flag (λ _. Unit {0})));
  again = flag_again;
}

option_again : {A : Type 0} {w : A → List ℕ} {F : A → Type 0} {f : List ℕ → Result (A × List ℕ) ℕ} → Reads w F f → (o : Option A) (rest : List ℕ) → FitsOption F o → optional_at f (optional w o ++ rest) ≡ Ok (o, rest)
option_again one None rest fits = refl
option_again {f = f} one (Some x) rest fits = made_again Some one x rest fits

pub option_reads : {A : Type 0} {w : A → List ℕ} {F : A → Type 0} {f : List ℕ → Result (A × List ℕ) ℕ} → Reads w F f → Reads (optional w) (FitsOption F) (optional_at f)
option_reads {w = w} {F = F} {f = f} one = record {
  takes = tag_sound 0 (optional w) (FitsOption F) (is None) (tagged 1 (f >>= λ x. is (Some x)) no_tag) (alone 0 (optional w) (FitsOption F) None refl tt)
      (tag_sound 1 (optional w) (FitsOption F) (f >>= λ x. is (Some x)) no_tag (behind 1 (optional w) (FitsOption F) Some one (λ a. refl) (λ a h. h)) (none_sound (optional w) (FitsOption F)));
  again = option_again one;
}

pub job_reads : Reads (optional number64) (FitsOption Fits64) job_at
unfolding job_at
job_reads = option_reads number64_reads

-- ---- lists

times_take : {A : Type 0} {w : A → List ℕ} {F : A → Type 0} {f : List ℕ → Result (A × List ℕ) ℕ} → Reads w F f → (n : ℕ) (bytes : List ℕ) (xs : List A) (rest : List ℕ) → IsBytes bytes → times n f bytes ≡ Ok (xs, rest)
    → Takes bytes (flat_map w xs) rest × (length xs ≡ n) × AllByRecursion F xs
times_take {A = A} {w = w} {F = F} one zero bytes xs rest fits e =
    subst (λ (y : List A × List ℕ). Takes bytes (flat_map w y.0) y.1 × (length y.0 ≡ 0) × AllByRecursion F y.0) (ok_is ([], bytes) (xs, rest) e) (record { parts = refl; rest_fits = fits }, refl, tt)
times_take {A = A} {w = w} {F = F} {f = f} one (suc n) bytes xs rest fits e =
    let a = bind_ok (f bytes) (λ x after. bind (times n f after) (λ ys. is (x ∷ ys))) (xs, rest) e in
    let b = bind_ok (times n f a.1) (λ ys. is (a.0 ∷ ys)) (xs, rest) a.3 in
    let first = one.takes bytes a.0 a.1 fits a.2 in
    let second = times_take one n a.1 b.0 b.1 first.0.rest_fits b.2 in
    let both = Takes-then bytes (w a.0) a.1 (flat_map w b.0) b.1 first.0 second.0 in
    subst (λ (y : List A × List ℕ). Takes bytes (flat_map w y.0) y.1 × (length y.0 ≡ suc n) × AllByRecursion F y.0) (ok_is (a.0 ∷ b.0, b.1) (xs, rest) b.3) (rw flat_map-cons both, ap suc second.1, (first.1, second.2))

times_again : {A : Type 0} {w : A → List ℕ} {F : A → Type 0} {f : List ℕ → Result (A × List ℕ) ℕ} → Reads w F f → (xs : List A) (rest : List ℕ) → AllByRecursion F xs → times (length xs) f (flat_map w xs ++ rest) ≡ Ok (xs, rest)
times_again one [] rest fits = refl
times_again {w = w} {f = f} one (x ∷ xs) rest fits =
    let regrouped : flat_map w (x ∷ xs) ++ rest ≡ w x ++ (flat_map w xs ++ rest) = ap (λ (l : List ℕ). l ++ rest) (flat_map-cons w x xs) ∙ append_assoc (w x) (flat_map w xs) rest in
    ap (times (suc (length xs)) f) regrouped ∙ ap (λ r. bind r (λ y after. bind (times (length xs) f after) (λ ys. is (y ∷ ys)))) (one.again x (flat_map w xs ++ rest) fits.0) ∙ ap (λ r. bind r (λ ys. is (x ∷ ys))) (times_again one xs rest fits.1)

list_takes : {A : Type 0} {w : A → List ℕ} {F : A → Type 0} {f : List ℕ → Result (A × List ℕ) ℕ} → Reads w F f → (bytes : List ℕ) (xs : List A) (rest : List ℕ) → IsBytes bytes → listed_at f bytes ≡ Ok (xs, rest) → Takes bytes (listed w xs) rest × FitsList F xs
list_takes {w = w} {f = f} one bytes xs rest fits e =
    let a = bind_ok (number_at w32 bytes) (λ n. times n f) (xs, rest) e in
    let first = number_takes w32 (2 ^ 32) wide32 bytes a.0 a.1 fits a.2 in
    let second = times_take one a.0 a.1 xs rest first.0.rest_fits a.3 in
    let both = Takes-then bytes (number32 a.0) a.1 (flat_map w xs) rest first.0 second.0 in
    (subst (λ (k : ℕ). Takes bytes (number32 k ++ flat_map w xs) rest) (sym second.1) both, (omega (arith, second.1, first.1), second.2))

list_again : {A : Type 0} {w : A → List ℕ} {F : A → Type 0} {f : List ℕ → Result (A × List ℕ) ℕ} → Reads w F f → (xs : List A) (rest : List ℕ) → FitsList F xs → listed_at f (listed w xs ++ rest) ≡ Ok (xs, rest)
list_again {w = w} {f = f} one xs rest fits =
    ap (listed_at f) (append_assoc (number32 (length xs)) (flat_map w xs) rest) ∙ ap (λ r. bind r (λ n. times n f)) (number_again w32 (2 ^ 32) wide32 (length xs) (flat_map w xs ++ rest) fits.0) ∙ times_again one xs rest fits.1

pub list_reads : {A : Type 0} {w : A → List ℕ} {F : A → Type 0} {f : List ℕ → Result (A × List ℕ) ℕ} → Reads w F f → Reads (listed w) (FitsList F) (listed_at f)
list_reads one = record { takes = list_takes one; again = list_again one }
