-- Of rows of which only the first in an order are asked for, those beyond may be left out before others come.
use Rattle.std.proofs.Common.{◌≡◌, ℕ, zero, suc, List, [], ◌∷◌, ◌++◌, Bool, true, false, cond, take, drop, refl, sym, ap, ap₂, ◌∙◌, subst, filter, append_assoc, append-nil}
use Rattle.std.proofs.lemmas.List.{take-append-drop}
use Rattle.std.proofs.lemmas.List.Elements.{filter-append}
use Rattle.std.specs.Cmp.{IsTotalOrder}
use Rattle.std.specs.FinMap.{IsAntisymmetric}
use Rattle.std.specs.List.{AllByRecursion}
use Rattle.std.specs.Ordering.{is_eq, is_gt, is_lt, ordering_reverse}
use Rattle.std.specs.declared.cmp.Ordering.{Ordering}
use Rattle.std.specs.declared.cmp.Ordering.TheVariants.{Less, Equal, Greater}
use Rattle.fold_laws.specs.Fold.{AllOf, Ascends, From, folded, has_key}
use Rattle.fold_laws.proofs.Folds.{all_of, ascends_fold, fold_fixed, fold_is, fold_left, fold_stable, of_fold}
use Rattle.fold_laws.proofs.Streams.{gathers_all}
use Rattle.fold_laws.proofs.Unique.{all_weaker, filter_no, filter_yes, from_from, none_from}

-- ---- comparisons

is_less : (c : Ordering) → is_lt c ≡ true → c ≡ Less
is_less Less e = refl
is_less Equal e = cc
is_less Greater e = cc

is_equal : (c : Ordering) → is_eq c ≡ true → c ≡ Equal
is_equal Less e = cc
is_equal Equal e = refl
is_equal Greater e = cc

greater_back : (c : Ordering) → is_gt (ordering_reverse c) ≡ is_lt c
greater_back Less = refl
greater_back Equal = refl
greater_back Greater = refl

less_back : (c : Ordering) → is_lt (ordering_reverse c) ≡ is_gt c
less_back Less = refl
less_back Equal = refl
less_back Greater = refl

-- ---- lists

all_both : {X : Type 0} (P Q : X → Type 0) (xs : List X) → AllByRecursion P xs → AllByRecursion Q xs → AllByRecursion (λ x. P x × Q x) xs
all_both P Q [] a b = tt
all_both P Q (x ∷ xs) a b = ((a.0, b.0), all_both P Q xs a.1 b.1)

all_taken : {X : Type 0} (P : X → Type 0) (n : ℕ) (xs : List X) → AllByRecursion P xs → AllByRecursion P (take n xs)
all_taken P zero xs a = tt
all_taken P (suc n) [] a = tt
all_taken P (suc n) (x ∷ xs) a = (a.0, all_taken P n xs a.1)

all_dropped : {X : Type 0} (P : X → Type 0) (n : ℕ) (xs : List X) → AllByRecursion P xs → AllByRecursion P (drop n xs)
all_dropped P zero xs a = a
all_dropped P (suc n) [] a = tt
all_dropped P (suc n) (x ∷ xs) a = all_dropped P n xs a.1

all_there : {X : Type 0} (xs : List X) → AllByRecursion (λ x. Unit {0}) xs
all_there [] = tt
all_there (x ∷ xs) = (tt, all_there xs)

-- rows that are all as x
over : {X : Type 0} (x : X) (xs ys : List X) → AllByRecursion (λ r. x ≡ r) xs → xs ++ x ∷ ys ≡ x ∷ (xs ++ ys)
over x [] ys a = refl
over x (r ∷ rs) ys a = ap (λ l. r ∷ l) (over x rs ys a.1) ∙ ap₂ (λ p q. p ∷ q ∷ (rs ++ ys)) (sym a.0) a.0

module _ {A : Type 0} {cmp : A → A → Ordering} (o : IsTotalOrder cmp) (same : IsAntisymmetric cmp) where
  abbrev self : A → A
  self a = a

  abbrev of : A → List A → List A
  of k rows = filter (has_key cmp self k) rows

  abbrev Sorted : List A → List A
  Sorted rows = folded cmp self (λ l. l) rows

  -- ---- a row more at the end

  -- into rows that ascend, behind those that are not above it
  abbrev ins : A → List A → List A
  ins d [] = d ∷ []
  ins d (x ∷ xs) = cond (is_lt (cmp d x)) (d ∷ x ∷ xs) (x ∷ ins d xs)

  none_of : (k d x : A) (xs : List A) → has_key cmp self k d ≡ true → is_lt (cmp d x) ≡ true → From cmp self x xs → of k (x ∷ xs) ≡ []
  none_of k d x xs h e a =
      let l : cmp k x ≡ Less = o.congr k d x (is_equal (cmp k d) h) ∙ is_less (cmp d x) e in
      filter_no (has_key cmp self k) x xs (ap is_eq l) ∙ none_from o self k x xs l a

  of_ins : (k d : A) (xs : List A) → Ascends cmp self xs → of k (ins d xs) ≡ of k xs ++ of k (d ∷ [])
  of_ins k d [] a = refl
  of_ins k d (x ∷ xs) a = go (of_ins k d xs a.1) (is_lt (cmp d x)) refl
    where
      first : (c : Bool) → has_key cmp self k d ≡ c → is_lt (cmp d x) ≡ true → of k (d ∷ x ∷ xs) ≡ of k (x ∷ xs) ++ of k (d ∷ [])
      first true h e =
          let n = none_of k d x xs h e a.0 in
          filter_yes (has_key cmp self k) d (x ∷ xs) h ∙ ap (λ l. d ∷ l) n ∙ sym (ap₂ (λ l m. l ++ m) n (filter_yes (has_key cmp self k) d [] h))
      first false h e = filter_no (has_key cmp self k) d (x ∷ xs) h ∙ sym (ap (λ l. of k (x ∷ xs) ++ l) (filter_no (has_key cmp self k) d [] h) ∙ append-nil (of k (x ∷ xs)))

      later : of k (ins d xs) ≡ of k xs ++ of k (d ∷ []) → (c : Bool) → has_key cmp self k x ≡ c → of k (x ∷ ins d xs) ≡ of k (x ∷ xs) ++ of k (d ∷ [])
      later rest true h = filter_yes (has_key cmp self k) x (ins d xs) h ∙ ap (λ l. x ∷ l) rest ∙ sym (ap (λ l. l ++ of k (d ∷ [])) (filter_yes (has_key cmp self k) x xs h))
      later rest false h = filter_no (has_key cmp self k) x (ins d xs) h ∙ rest ∙ sym (ap (λ l. l ++ of k (d ∷ [])) (filter_no (has_key cmp self k) x xs h))

      go : of k (ins d xs) ≡ of k xs ++ of k (d ∷ []) → (b : Bool) → is_lt (cmp d x) ≡ b → of k (cond b (d ∷ x ∷ xs) (x ∷ ins d xs)) ≡ of k (x ∷ xs) ++ of k (d ∷ [])
      go rest true e = first (has_key cmp self k d) refl e
      go rest false e = later rest (has_key cmp self k x) refl

  from_ins : (x d : A) (xs : List A) → is_gt (cmp x d) ≡ false → From cmp self x xs → From cmp self x (ins d xs)
  from_ins x d [] h a = (h, tt)
  from_ins x d (y ∷ ys) h a = go (from_ins x d ys h a.1) (is_lt (cmp d y))
    where
      go : From cmp self x (ins d ys) → (b : Bool) → From cmp self x (cond b (d ∷ y ∷ ys) (y ∷ ins d ys))
      go rest true = (h, a)
      go rest false = (a.0, rest)

  ascends_ins : (d : A) (xs : List A) → Ascends cmp self xs → Ascends cmp self (ins d xs)
  ascends_ins d [] a = (tt, tt)
  ascends_ins d (x ∷ xs) a = go (ascends_ins d xs a.1) (is_lt (cmp d x)) refl
    where
      go : Ascends cmp self (ins d xs) → (b : Bool) → is_lt (cmp d x) ≡ b → Ascends cmp self (cond b (d ∷ x ∷ xs) (x ∷ ins d xs))
      go rest true e =
          let g : is_gt (cmp d x) ≡ false = ap is_gt (is_less (cmp d x) e) in
          ((g, all_weaker _ _ (λ r f. from_from o d x r g f) xs a.0), a)
      go rest false e = (from_ins x d xs (ap is_gt (o.antisymm x d) ∙ greater_back (cmp d x) ∙ e) a.0, rest)

  sorted_more : (xs : List A) (d : A) → Sorted (xs ++ d ∷ []) ≡ ins d (Sorted xs)
  sorted_more xs d =
      let a = ascends_fold o self same (gathers_all o self) xs in
      sym (fold_is o self same (gathers_all o self) (ins d (Sorted xs)) (xs ++ d ∷ []) (ascends_ins d (Sorted xs) a)
      (λ k. of_ins k d (Sorted xs) a ∙ ap (λ l. l ++ of k (d ∷ [])) (of_fold o self same (gathers_all o self) k xs) ∙ sym (filter-append (has_key cmp self k) xs (d ∷ []))))

  -- ---- rows that stand before d

  -- at least n of the first rows are not above d
  abbrev Low : ℕ → A → List A → Type 0
  Low zero d xs = Unit {0}
  Low (suc n) d [] = ⊥
  Low (suc n) d (x ∷ xs) = (is_lt (cmp d x) ≡ false) × Low n d xs

  low_less : (n : ℕ) (d : A) (xs : List A) → Low (suc n) d xs → Low n d xs
  low_less zero d xs l = tt
  low_less (suc n) d [] l = absurd l
  low_less (suc n) d (x ∷ xs) l = (l.0, low_less n d xs l.1)

  not_below : (d y x : A) → is_lt (cmp y x) ≡ true → is_lt (cmp d x) ≡ false → is_lt (cmp d y) ≡ false
  not_below d y x e h = go (cmp d y) refl
    where
      go : (c : Ordering) → cmp d y ≡ c → is_lt (cmp d y) ≡ false
      go Less f = let g = ap is_lt (o.trans d y x f (is_less (cmp y x) e)) in cc
      go Equal f = ap is_lt f
      go Greater f = ap is_lt f

  low_ins : (n : ℕ) (d y : A) (xs : List A) → Low n d xs → Low n d (ins y xs)
  low_ins zero d y xs l = tt
  low_ins (suc n) d y [] l = absurd l
  low_ins (suc n) d y (x ∷ xs) l = go (low_ins n d y xs l.1) (is_lt (cmp y x)) refl
    where
      go : Low n d (ins y xs) → (b : Bool) → is_lt (cmp y x) ≡ b → Low (suc n) d (cond b (y ∷ x ∷ xs) (x ∷ ins y xs))
      go rest true e = (not_below d y x e l.0, low_less n d (x ∷ xs) l)
      go rest false e = (l.0, rest)

  low_more : (n : ℕ) (d : A) (zs ys : List A) → Low n d (Sorted zs) → Low n d (Sorted (zs ++ ys))
  low_more n d zs [] l = subst (λ z. Low n d (Sorted z)) (sym (append-nil zs)) l
  low_more n d zs (y ∷ ys) l =
      subst (λ z. Low n d (Sorted z)) (append_assoc zs (y ∷ []) ys)
      (low_more n d (zs ++ y ∷ []) ys (subst (Low n d) (sym (sorted_more zs y)) (low_ins n d y (Sorted zs) l)))

  kept : (n : ℕ) (d : A) (xs : List A) → Low n d xs → take n (ins d xs) ≡ take n xs
  kept zero d xs l = refl
  kept (suc n) d [] l = absurd l
  kept (suc n) d (x ∷ xs) l = ap (λ b. take (suc n) (cond b (d ∷ x ∷ xs) (x ∷ ins d xs))) l.0 ∙ ap (λ m. x ∷ m) (kept n d xs l.1)

  -- rows that come behind the first n of the others
  behind : (n : ℕ) (zs ds : List A) → AllByRecursion (λ d. Low n d (Sorted zs)) ds → take n (Sorted (zs ++ ds)) ≡ take n (Sorted zs)
  behind n zs [] a = ap (λ l. take n (Sorted l)) (append-nil zs)
  behind n zs (d ∷ ds) a =
      ap (λ l. take n (Sorted l)) (sym (append_assoc zs (d ∷ []) ds))
      ∙ behind n (zs ++ d ∷ []) ds (all_weaker _ _ (λ e l. subst (Low n e) (sym (sorted_more zs d)) (low_ins n e d (Sorted zs) l)) ds a.1)
      ∙ ap (take n) (sorted_more zs d) ∙ kept n d (Sorted zs) a.0

  -- ---- the first n rows and the others

  low_dropped : (n : ℕ) (xs : List A) → Ascends cmp self xs → AllByRecursion (λ d. Low n d (take n xs)) (drop n xs)
  low_dropped zero xs a = all_there xs
  low_dropped (suc n) [] a = tt
  low_dropped (suc n) (x ∷ xs) a =
      all_both (λ d. is_lt (cmp d x) ≡ false) (λ d. Low n d (take n xs)) (drop n xs)
      (all_weaker _ _ (λ d f. ap is_lt (o.antisymm d x) ∙ less_back (cmp x d) ∙ f) (drop n xs) (all_dropped _ n xs a.0))
      (low_dropped n xs a.1)

  ascends_taken : (n : ℕ) (xs : List A) → Ascends cmp self xs → Ascends cmp self (take n xs)
  ascends_taken zero xs a = tt
  ascends_taken (suc n) [] a = tt
  ascends_taken (suc n) (x ∷ xs) a = (all_taken _ n xs a.0, ascends_taken n xs a.1)

  one_key : (k : A) (xs ys : List A) → AllOf cmp self k xs → AllOf cmp self k ys → xs ++ ys ≡ ys ++ xs
  one_key k [] ys a b = sym (append-nil ys)
  one_key k (x ∷ xs) ys a b =
      ap (λ l. x ∷ l) (one_key k xs ys a.1 b)
      ∙ sym (over x ys xs (all_weaker _ _ (λ r e. sym (same k x a.0) ∙ same k r e) ys b))

  changed : (zs xs ys : List A) → Sorted (zs ++ (xs ++ ys)) ≡ Sorted (zs ++ (ys ++ xs))
  changed zs xs ys = fold_stable o self same (gathers_all o self) (zs ++ (xs ++ ys)) (zs ++ (ys ++ xs))
      (λ k. filter-append (has_key cmp self k) zs (xs ++ ys)
      ∙ ap (λ l. of k zs ++ l) (filter-append (has_key cmp self k) xs ys ∙ one_key k (of k xs) (of k ys) (all_of o self k xs) (all_of o self k ys) ∙ sym (filter-append (has_key cmp self k) ys xs))
      ∙ sym (filter-append (has_key cmp self k) zs (ys ++ xs)))

  pub first_rows : (n : ℕ) (xs ys : List A) → take n (Sorted (take n (Sorted xs) ++ ys)) ≡ take n (Sorted (xs ++ ys))
  first_rows n xs ys =
      let first = take n (Sorted xs) in
      let others = drop n (Sorted xs) in
      let a = ascends_fold o self same (gathers_all o self) xs in
      let fixed : Sorted first ≡ first = fold_fixed o self same (gathers_all o self) first (ascends_taken n (Sorted xs) a) (λ k. refl) in
      sym (ap (take n)
      (sym (fold_left o self same (gathers_all o self) xs ys)
      ∙ ap (λ l. Sorted (l ++ ys)) (sym (take-append-drop n (Sorted xs)))
      ∙ ap Sorted (append_assoc first others ys)
      ∙ changed first others ys
      ∙ ap Sorted (sym (append_assoc first ys others)))
      ∙ behind n (first ++ ys) others (all_weaker _ _ (λ d l. low_more n d first ys (subst (Low n d) (sym fixed) l)) others (low_dropped n (Sorted xs) a)))
