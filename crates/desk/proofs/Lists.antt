-- Lists: places, members, and lists that go on from older ones.
use Rattle.std.proofs.Common.{◌≡◌, ◌⊎◌, ℕ, zero, suc, ◌≤◌, ◌-◌, All, List, [], ◌∷◌, ◌++◌, length, take, map, set, refl, sym, ap, ◌∙◌, subst, inl, inr, ⊎_elim, arith, append_assoc, length-append, Some, Option}
use mathlib.Core.Option.{some, some-injective, some-ne-none}
use lib.ListN.{get_elem?}
use Rattle.desk.specs.History.{longer, GoesOn}
use Rattle.desk.specs.Names.{In}

either_way : (m n : ℕ) → (m ≤ n) ⊎ (n ≤ m)
either_way zero n = inl (omega arith)
either_way (suc m) zero = inr (omega arith)
either_way (suc m) (suc n) = ⊎_elim (λ (h : m ≤ n). inl (omega arith)) (λ (h : n ≤ m). inr (omega arith)) (either_way m n)

module _ {A : Type 0} where
  pub the_one : (v : A) (id : ℕ) (w : A) → get_elem? (v ∷ []) id ≡ some w → (id ≡ 0) × (v ≡ w)
  the_one v zero w e = (refl, some-injective v w e)
  the_one v (suc id) w e = absurd (some-ne-none w (sym e))

  -- what stands in a list that is longer by one at its end
  pub at_end : (l : List A) (a b : A) (j : ℕ) → get_elem? (l ++ a ∷ []) j ≡ some b → (get_elem? l j ≡ some b) ⊎ ((a ≡ b) × (j ≡ length l))
  at_end [] a b zero e = inr (some-injective a b e, refl)
  at_end [] a b (suc j) e = absurd (some-ne-none b (sym e))
  at_end (x ∷ xs) a b zero e = inl e
  at_end (x ∷ xs) a b (suc j) e = ⊎_elim (λ (t : get_elem? xs j ≡ some b). inl t) (λ (t : (a ≡ b) × (j ≡ length xs)). inr (t.0, ap suc t.1)) (at_end xs a b j e)

  pub each_end : (P : ℕ → A → Type 0) (l : List A) (a : A) → ((k : ℕ) (u : A) → get_elem? l k ≡ some u → P k u) → P (length l) a → (k : ℕ) (u : A) → get_elem? (l ++ a ∷ []) k ≡ some u → P k u
  each_end P l a front last k u e = ⊎_elim (front k u) (λ (t : (a ≡ u) × (k ≡ length l)). subst (λ (x : ℕ × A). P x.0 x.1) (λ i. (sym t.1 i, t.0 i)) last) (at_end l a u k e)

  pub set_here : (l : List A) (i : ℕ) (a b : A) → get_elem? l i ≡ some b → get_elem? (set l i a) i ≡ some a
  set_here [] i a b e = absurd (some-ne-none b (sym e))
  set_here (x ∷ xs) zero a b e = refl
  set_here (x ∷ xs) (suc i) a b e = set_here xs i a b e

  -- members
  pub place_of : (x : A) (l : List A) → In x l → (k : ℕ) × (get_elem? l k ≡ some x)
  place_of x (y ∷ ys) (inl e) = (0, ap some (sym e))
  place_of x (y ∷ ys) (inr i) = let t = place_of x ys i in (suc t.0, t.1)
  place_of x [] i = absurd i

  pub in_append : (x : A) (l m : List A) → In x (l ++ m) → In x l ⊎ In x m
  in_append x [] m i = inr i
  in_append x (y ∷ l) m (inl e) = inl (inl e)
  in_append x (y ∷ l) m (inr i) = ⊎_elim (λ (t : In x l). inl (inr t)) (λ (t : In x m). inr t) (in_append x l m i)

  pub in_left : (x : A) (l m : List A) → In x l → In x (l ++ m)
  in_left x (y ∷ l) m (inl e) = inl e
  in_left x (y ∷ l) m (inr i) = inr (in_left x l m i)
  in_left x [] m i = absurd i

  pub in_right : (x : A) (l m : List A) → In x m → In x (l ++ m)
  in_right x [] m i = i
  in_right x (y ∷ l) m i = inr (in_right x l m i)

  pub in_map : {B : Type 0} (f : A → B) (x : A) (l : List A) → In x l → In (f x) (map f l)
  in_map f x (y ∷ l) (inl e) = inl (ap f e)
  in_map f x (y ∷ l) (inr i) = inr (in_map f x l i)
  in_map f x [] i = absurd i

  pub of_map : {B : Type 0} (f : A → B) (y : B) (l : List A) → In y (map f l) → (x : A) × In x l × (y ≡ f x)
  of_map f y (x ∷ l) (inl e) = (x, inl refl, e)
  of_map f y (x ∷ l) (inr i) = let t = of_map f y l i in (t.0, inr t.1, t.2)
  of_map f y [] i = absurd i

  -- of two lists whose images are equal, an element has its partner
  pub partner : {B : Type 0} (f : A → Option B) (l : List A) (m : List B) → map f l ≡ map Some m → (x : A) → In x l → (i : ℕ) × (y : B) × (f x ≡ Some y) × (get_elem? m i ≡ some y)
  partner f (z ∷ l) [] h x i = absurd (cc)
  partner f (z ∷ l) (y ∷ m) h x (inl e) = let head : f z ≡ Some y = cc in (0, y, ap f e ∙ head, refl)
  partner f (z ∷ l) (y ∷ m) h x (inr i) = let tail : map f l ≡ map Some m = cc in let t = partner f l m tail x i in (suc t.0, t.1, t.2, t.3)
  partner f [] m h x i = absurd i

  -- a list goes on
  pub goes_by : (all seen : List A) (e : A) → GoesOn all seen → GoesOn (e ∷ all) seen
  goes_by all seen e s = (e ∷ s.0, ap (λ l. e ∷ l) s.1)

  pub goes_same : (l : List A) → GoesOn l l
  goes_same l = ([], refl)

  pub goes_through : (all mid seen : List A) → GoesOn all mid → GoesOn mid seen → GoesOn all seen
  goes_through all mid seen s t = (s.0 ++ t.0, s.1 ∙ ap (λ l. s.0 ++ l) t.1 ∙ sym (append_assoc s.0 t.0 seen))

  -- the longer of two
  take_front : (m l : List A) → take (length m) (m ++ l) ≡ m
  take_front [] l = refl
  take_front (x ∷ m) l = ap (λ t. x ∷ t) (take_front m l)

  longer_second : (a m : List A) → longer a (m ++ a) ≡ m ++ a
  longer_second a m =
      let n = length-append m a in
      let count : length (m ++ a) - length a ≡ length m = omega arith in
      ap (λ k. take k (m ++ a) ++ a) count ∙ ap (λ l. l ++ a) (take_front m a)

  longer_own : (m b : List A) → longer (m ++ b) b ≡ m ++ b
  longer_own m b =
      let n = length-append m b in
      let count : length b - length (m ++ b) ≡ 0 = omega arith in
      ap (λ k. take k b ++ (m ++ b)) count

  -- of two ends of one list, the longer goes on from the other
  ends_go : (m a n b : List A) → m ++ a ≡ n ++ b → length a ≤ length b → GoesOn b a
  ends_go m a [] b e short = (m, sym e)
  ends_go [] a (x ∷ n) b e short = let k : length a ≡ length (x ∷ (n ++ b)) = ap length e in let t = length-append n b in absurd (omega arith)
  ends_go (y ∷ m) a (x ∷ n) b e short = let tail : m ++ a ≡ n ++ b = cc in ends_go m a n b tail short

  pub longer_first : (a b : List A) → GoesOn (longer a b) a
  longer_first a b = (take (length b - length a) b, refl)

  pub longer_of : (l a b : List A) → GoesOn l a → GoesOn l b → GoesOn l (longer a b) × GoesOn (longer a b) b
  longer_of l a b s t = ⊎_elim
      (λ (h : length a ≤ length b).
      let g = ends_go s.0 a t.0 b (sym s.1 ∙ t.1) h in
      let is : longer a b ≡ b = ap (longer a) g.1 ∙ longer_second a g.0 ∙ sym g.1 in
      (subst (GoesOn l) (sym is) t, subst (λ x. GoesOn x b) (sym is) (goes_same b)))
      (λ (h : length b ≤ length a).
      let g = ends_go t.0 b s.0 a (sym t.1 ∙ s.1) h in
      let is : longer a b ≡ a = ap (λ x. longer x b) g.1 ∙ longer_own g.0 b ∙ sym g.1 in
      (subst (GoesOn l) (sym is) s, subst (λ x. GoesOn x b) (sym is) g))
      (either_way (length a) (length b))

  pub none_front : (l m : List A) → l ++ m ≡ [] → l ≡ []
  none_front [] m h = refl
  none_front (x ∷ l) m h = absurd (cc)

  pub none_back : (l m : List A) → l ++ m ≡ [] → m ≡ []
  none_back [] m h = h
  none_back (x ∷ l) m h = absurd (cc)

  pub nothing_more : (m l : List A) → m ++ l ≡ l → m ≡ []
  nothing_more [] l h = refl
  nothing_more (x ∷ m) l h = let n = length-append (x ∷ m) l in let k = ap (λ (t : List A). length t) h in absurd (omega arith)

  -- a list that ends with an element, in two ways
  pub last_of_two : (xs ys : List A) (x y : A) → xs ++ x ∷ [] ≡ ys ++ y ∷ [] → (xs ≡ ys) × (x ≡ y)
  last_of_two [] [] x y h = (refl, cc)
  last_of_two [] (b ∷ []) x y h = absurd (cc)
  last_of_two [] (b ∷ c ∷ ys) x y h = absurd (cc)
  last_of_two (a ∷ []) [] x y h = absurd (cc)
  last_of_two (a ∷ d ∷ xs) [] x y h = absurd (cc)
  last_of_two (a ∷ xs) (b ∷ ys) x y h =
      let head : a ≡ b = cc in
      let tail : xs ++ x ∷ [] ≡ ys ++ y ∷ [] = cc in
      let t = last_of_two xs ys x y tail in
      ((λ i. head i ∷ t.0 i), t.1)

  -- a list is empty, or ends with an element
  pub last_of : (xs : List A) → (xs ≡ []) ⊎ ((ys : List A) × (y : A) × (xs ≡ ys ++ y ∷ []))
  last_of [] = inl refl
  last_of (x ∷ xs) = ⊎_elim (λ (e : xs ≡ []). inr ([], x, ap (λ l. x ∷ l) e)) (λ (t : (ys : List A) × (y : A) × (xs ≡ ys ++ y ∷ [])). inr (x ∷ t.0, t.1, ap (λ l. x ∷ l) t.2)) (last_of xs)

-- facts of each element
module _ {A : Type 0} (P : A → Type 0) where
  pub all_front : (xs ys : List A) → All P (xs ++ ys) → All P xs
  all_front [] ys h k d l = absurd (omega arith)
  all_front (x ∷ xs) ys h zero d l = h zero d (omega arith)
  all_front (x ∷ xs) ys h (suc k) d l = all_front xs ys (λ j y m. h (suc j) y (omega arith)) k d (omega arith)

pub too_long : (xs rest : List ℕ) (k : ℕ) → xs ≡ (xs ++ k ∷ []) ++ rest → ⊥
too_long xs rest k h = let n : length xs ≡ length ((xs ++ k ∷ []) ++ rest) = ap length h in
    let m = length-append (xs ++ k ∷ []) rest in let p = length-append xs (k ∷ []) in omega arith
