-- What a string stands for is UTF-8 where its body is.
use Rattle.std.proofs.Common.{◌≡◌, ◌<◌, ◌≤◌, ℕ, suc, arith, Bool, true, false, cond, ◌==◌, List, [], ◌∷◌, ◌++◌, length, get_or, Option, Some, None, IsUtf8, inl, inr, refl, sym, ap, subst, ◌∙◌}
use Rattle.std.specs.Prelude.{option_map}
use Rattle.std.proofs.lemmas.Bool.{and_parts, cases_lt}
use Rattle.std.proofs.lemmas.Bool.Decides.{nat_tests}
use Rattle.std.proofs.lemmas.Str.{IsUtf8-append, IsUtf8-nil, IsUtf8-encode, encode_ascii, length-encode, len_utf8_bounds}
use lib.Utf8.{scalar, scalars, encode, encodes}
use Rattle.sql_tokens.specs.Strings.{escaped, unescaped}
use Rattle.sql_print.proofs.Utf8.{ascii_then, bytes_are_high}

abbrev pub found : {A : Type 0} → A → Option A
found x = Some x

mapped : {A B : Type 0} (f : A → B) (o : Option A) (y : B) → option_map f o ≡ found y → (x : A) × (o ≡ found x) × (f x ≡ y)
mapped f None y e = absurd cc
mapped f (Some x) y e = let h : f x ≡ y = cc in (x, refl, h)

-- ---- one step

plain : (q b : ℕ) (body : List ℕ) → (b == q) ≡ false → (b == 92) ≡ false → unescaped q (b ∷ body) ≡ option_map (λ v. b ∷ v) (unescaped q body)
unfolding unescaped
plain q b [] h k = rw (h, k) refl
plain q b (c ∷ cs) h k = rw (h, k) refl

behind_slash : (q b c : ℕ) (body : List ℕ) → (b == q) ≡ false → (b == 92) ≡ true → unescaped q (b ∷ c ∷ body) ≡ option_map (λ v. escaped c ∷ v) (unescaped q body)
unfolding unescaped
behind_slash q b c body h k = rw (h, k) refl

doubled : (q b c : ℕ) (body : List ℕ) → (b == q) ≡ true → (c == q) ≡ true → unescaped q (b ∷ c ∷ body) ≡ option_map (λ v. q ∷ v) (unescaped q body)
unfolding unescaped
doubled q b c body h k = rw (h, k) refl

alone : (q b : ℕ) (v : List ℕ) → (b == q) ≡ true → unescaped q (b ∷ []) ≡ found v → ⊥
unfolding unescaped
alone q b v h e = let k : found v ≡ None = sym e ∙ rw h refl in absurd cc

slash_alone : (q b : ℕ) (v : List ℕ) → (b == q) ≡ false → (b == 92) ≡ true → unescaped q (b ∷ []) ≡ found v → ⊥
unfolding unescaped
slash_alone q b v h k e = let z : found v ≡ None = sym e ∙ rw (h, k) refl in absurd cc

not_doubled : (q b c : ℕ) (body v : List ℕ) → (b == q) ≡ true → (c == q) ≡ false → unescaped q (b ∷ c ∷ body) ≡ found v → ⊥
unfolding unescaped
not_doubled q b c body v h k e = let z : found v ≡ None = sym e ∙ rw (h, k) refl in absurd cc

-- ---- bytes beyond ASCII stand for themselves

pub differs : (x y : ℕ) → y < 128 → 128 ≤ x → (x == y) ≡ false
differs x y small big = grind (arith, nat_tests)

AreHigh : List ℕ → Type 0
AreHigh xs = (k : ℕ) → k < length xs → 128 ≤ get_or xs k 0

Behind : ℕ → List ℕ → List ℕ → List ℕ → Type 0
Behind q xs ys v = (w : List ℕ) × (unescaped q ys ≡ found w) × (v ≡ xs ++ w)

high_run : (q : ℕ) → q < 128 → (xs ys v : List ℕ) → AreHigh xs → unescaped q (xs ++ ys) ≡ found v → Behind q xs ys v
unfolding AreHigh Behind
high_run q small [] ys v h e = (v, e, refl)
high_run q small (x ∷ xs) ys v h e =
    let big : 128 ≤ x = h 0 (omega arith) in
    let m = mapped (λ w. x ∷ w) (unescaped q (xs ++ ys)) v (sym (plain q x (xs ++ ys) (differs x q small big) (differs x 92 (omega arith) big)) ∙ e) in
    let r = high_run q small xs ys m.0 (λ k below. h (suc k) (omega arith)) m.1 in
    (r.0, r.1, sym m.2 ∙ ap (λ w. x ∷ w) r.2)

escaped_low : (c : ℕ) → c < 128 → escaped c < 128
escaped_low c h = go (c == 110) (c == 116) (c == 114)
  where
    go : (x y z : Bool) → cond x 10 (cond y 9 (cond z 13 c)) < 128
    go true y z = omega arith
    go false true z = omega arith
    go false false true = omega arith
    go false false false = h

escaped_high : (c : ℕ) → 128 ≤ c → escaped c ≡ c
escaped_high c h =
    let a : (c == 110) ≡ false = differs c 110 (omega arith) h in
    let b : (c == 116) ≡ false = differs c 116 (omega arith) h in
    let d : (c == 114) ≡ false = differs c 114 (omega arith) h in
    rw (a, b, d) refl

-- ---- a character at a time

-- the text of what the rest stands for
IsGood : ℕ → List ℕ → Type 0
IsGood q bs = (v : List ℕ) → unescaped q bs ≡ found v → IsUtf8 v

some_bytes : (d : ℕ) → 0 < length (encode d)
some_bytes d = omega (arith, length-encode d, (len_utf8_bounds d).0)

high_char : (q d : ℕ) (ys : List ℕ) → q < 128 → scalar d ≡ true → 128 ≤ d → IsGood q ys → IsGood q (encode d ++ ys)
unfolding IsGood Behind AreHigh
high_char q d ys small ok big rest v e =
    let r = high_run q small (encode d) ys v (bytes_are_high d big) e in
    subst IsUtf8 (sym r.2) (IsUtf8-append (encode d) r.0 (IsUtf8-encode d ok) (rest r.0 r.1))

-- behind `\`
slash_high : (q b d : ℕ) (xs ys v : List ℕ) → q < 128 → (b == q) ≡ false → (b == 92) ≡ true → scalar d ≡ true → 128 ≤ d → xs ≡ encode d → IsGood q ys → unescaped q (b ∷ xs ++ ys) ≡ found v → IsUtf8 v
unfolding IsGood Behind AreHigh
slash_high q b d [] ys v small h k ok big x rest e = let n : 0 < length (encode d) = some_bytes d in absurd (omega (arith, ap length x))
slash_high q b d (x ∷ xs) ys v small h k ok big is rest e =
    let all : AreHigh (x ∷ xs) = subst AreHigh (sym is) (bytes_are_high d big) in
    let first : 128 ≤ x = all 0 (omega arith) in
    let m = mapped (λ w. escaped x ∷ w) (unescaped q (xs ++ ys)) v (sym (behind_slash q b x (xs ++ ys) h k) ∙ e) in
    let r = high_run q small xs ys m.0 (λ j below. all (suc j) (omega arith)) m.1 in
    let whole : (x ∷ xs) ++ r.0 ≡ v = ap (λ w. x ∷ w) (sym r.2) ∙ ap (λ y. y ∷ m.0) (sym (escaped_high x first)) ∙ m.2 in
    subst IsUtf8 whole (IsUtf8-append (x ∷ xs) r.0 (subst IsUtf8 (sym is) (IsUtf8-encode d ok)) (rest r.0 r.1))

quote_high : (q b d : ℕ) (xs ys v : List ℕ) → q < 128 → (b == q) ≡ true → 128 ≤ d → xs ≡ encode d → unescaped q (b ∷ xs ++ ys) ≡ found v → ⊥
unfolding AreHigh
quote_high q b d [] ys v small h big x e = let n : 0 < length (encode d) = some_bytes d in omega (arith, ap length x)
quote_high q b d (x ∷ xs) ys v small h big is e =
    let all : AreHigh (x ∷ xs) = subst AreHigh (sym is) (bytes_are_high d big) in
    not_doubled q b x (xs ++ ys) v h (differs x q small (all 0 (omega arith))) e

some_is : {A : Type 0} (x y : A) → found x ≡ found y → x ≡ y
some_is x y e = cc

low_last : (q c : ℕ) → c < 128 → IsGood q (c ∷ [])
unfolding IsGood unescaped
low_last q c low v e = by_quote (c == q) refl
  where
    by_slash : (c == q) ≡ false → (r : Bool) → (c == 92) ≡ r → IsUtf8 v
    by_slash h true k = absurd (slash_alone q c v h k e)
    by_slash h false k = subst IsUtf8 (some_is (c ∷ []) v (sym (plain q c [] h k) ∙ e)) (ascii_then c [] low IsUtf8-nil)

    by_quote : (r : Bool) → (c == q) ≡ r → IsUtf8 v
    by_quote true h = absurd (alone q c v h e)
    by_quote false h = by_slash h (c == 92) refl

low_low : (q c d : ℕ) (ys : List ℕ) → q < 128 → c < 128 → d < 128 → IsGood q ys → IsGood q (d ∷ ys) → IsGood q (c ∷ d ∷ ys)
unfolding IsGood
low_low q c d ys small low less two one v e = by_quote (c == q) refl
  where
    by_second : (c == q) ≡ true → (r : Bool) → (d == q) ≡ r → IsUtf8 v
    by_second h true k = let m = mapped (λ w. q ∷ w) (unescaped q ys) v (sym (doubled q c d ys h k) ∙ e) in subst IsUtf8 m.2 (ascii_then q m.0 small (two m.0 m.1))
    by_second h false k = absurd (not_doubled q c d ys v h k e)

    by_slash : (c == q) ≡ false → (r : Bool) → (c == 92) ≡ r → IsUtf8 v
    by_slash h true k = let m = mapped (λ w. escaped d ∷ w) (unescaped q ys) v (sym (behind_slash q c d ys h k) ∙ e) in subst IsUtf8 m.2 (ascii_then (escaped d) m.0 (escaped_low d less) (two m.0 m.1))
    by_slash h false k = let m = mapped (λ w. c ∷ w) (unescaped q (d ∷ ys)) v (sym (plain q c (d ∷ ys) h k) ∙ e) in subst IsUtf8 m.2 (ascii_then c m.0 low (one m.0 m.1))

    by_quote : (r : Bool) → (c == q) ≡ r → IsUtf8 v
    by_quote true h = by_second h (d == q) refl
    by_quote false h = by_slash h (c == 92) refl

low_high : (q c d : ℕ) (ys : List ℕ) → q < 128 → c < 128 → scalar d ≡ true → 128 ≤ d → IsGood q ys → IsGood q (encode d ++ ys) → IsGood q (c ∷ encode d ++ ys)
unfolding IsGood
low_high q c d ys small low ok big two one v e = by_quote (c == q) refl
  where
    by_slash : (c == q) ≡ false → (r : Bool) → (c == 92) ≡ r → IsUtf8 v
    by_slash h true k = slash_high q c d (encode d) ys v small h k ok big refl two e
    by_slash h false k = let m = mapped (λ w. c ∷ w) (unescaped q (encode d ++ ys)) v (sym (plain q c (encode d ++ ys) h k) ∙ e) in subst IsUtf8 m.2 (ascii_then c m.0 low (one m.0 m.1))

    by_quote : (r : Bool) → (c == q) ≡ r → IsUtf8 v
    by_quote true h = absurd (quote_high q c d (encode d) ys v small h big refl e)
    by_quote false h = by_slash h (c == 92) refl

low_then : (q c d : ℕ) (es : List ℕ) → q < 128 → c < 128 → scalar d ≡ true → IsGood q (encodes es) → IsGood q (encodes (d ∷ es)) → IsGood q (c ∷ encodes (d ∷ es))
low_then q c d es small low ok two one = elim (cases_lt d 128) [
  | inl less ↦
      let same : encodes (d ∷ es) ≡ d ∷ encodes es = ap (λ x. x ++ encodes es) (encode_ascii d less) in
      subst (λ x. IsGood q (c ∷ x)) (sym same) (low_low q c d (encodes es) small low less two (subst (IsGood q) same one))
  | inr big ↦ low_high q c d (encodes es) small low ok big two one
]

nothing : (q : ℕ) → IsGood q []
unfolding IsGood unescaped
nothing q v e = subst IsUtf8 (some_is [] v e) IsUtf8-nil

good : (q : ℕ) → q < 128 → (cs : List ℕ) → scalars cs ≡ true → IsGood q (encodes cs)
good q small [] ok = nothing q
good q small (c ∷ []) ok = let p = and_parts _ _ ok in elim (cases_lt c 128) [
  | inl low ↦ subst (λ x. IsGood q (x ++ [])) (sym (encode_ascii c low)) (low_last q c low)
  | inr big ↦ high_char q c [] small p.0 big (nothing q)
]
good q small (c ∷ d ∷ es) ok =
    let p = and_parts _ _ ok in
    let r = and_parts _ _ p.1 in
    let one : IsGood q (encodes (d ∷ es)) = good q small (d ∷ es) p.1 in
    elim (cases_lt c 128) [
      | inl low ↦ subst (λ x. IsGood q (x ++ encodes (d ∷ es))) (sym (encode_ascii c low)) (low_then q c d es small low r.0 (good q small es r.1) one)
      | inr big ↦ high_char q c (encodes (d ∷ es)) small p.0 big one
    ]

pub unescaped_text : (q : ℕ) (body v : List ℕ) → q < 128 → IsUtf8 body → unescaped q body ≡ found v → IsUtf8 v
unfolding IsGood
unescaped_text q body v small u e = good q small u.0 u.1.0 v (ap (unescaped q) u.1.1 ∙ e)
