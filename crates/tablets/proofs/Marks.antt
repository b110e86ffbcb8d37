-- What the numbers and shadows of a set keep, under each change of its list of indexes.
use Rattle.std.proofs.Common.{◌≡◌, ℕ, zero, suc, Bool, true, false, cond, ◌||◌, List, [], ◌∷◌, ◌++◌, map, replicate, set, nat_eq, refl, sym, ap, ◌∙◌, subst, arith, append-nil}
use Rattle.std.proofs.lemmas.Bool.Decides.{nat_tests}
use Rattle.std.specs.List.{AllByRecursion, filter, filter_map, cons_option}
use Rattle.std.specs.Prelude.{Option, Some, None, slice_get}
use Rattle.tablets.specs.SetView.{IndexView}
use Rattle.tablets.specs.Shadows.{AreApart, AreMarks, Mark, MayAim, aim, aims, is_among, mark_of, marks_of, numbers, plain, plains}
use Rattle.tablets.specs.declared.shadow.Shadow.{Shadow}

-- what holds of each, of lists

pub all_append : {X : Type 0} (P : X → Type 0) (xs ys : List X) → AllByRecursion P xs → AllByRecursion P ys → AllByRecursion P (xs ++ ys)
all_append P [] ys a b = b
all_append P (x ∷ xs) ys a b = (a.0, all_append P xs ys a.1 b)

pub all_replicate : {X : Type 0} (P : X → Type 0) (n : ℕ) (x : X) → P x → AllByRecursion P (replicate n x)
all_replicate P zero x p = tt
all_replicate P (suc n) x p = (p, all_replicate P n x p)

pub all_left : {X : Type 0} (P : X → Type 0) (xs ys : List X) → AllByRecursion P (xs ++ ys) → AllByRecursion P xs
all_left P [] ys a = tt
all_left P (x ∷ xs) ys a = (a.0, all_left P xs ys a.1)

pub all_right : {X : Type 0} (P : X → Type 0) (xs ys : List X) → AllByRecursion P (xs ++ ys) → AllByRecursion P ys
all_right P [] ys a = a
all_right P (x ∷ xs) ys a = all_right P xs ys a.1

pub all_map : {X : Type 0} (P Q : X → Type 0) (f : X → X) → ((x : X) → P x → Q (f x)) → (xs : List X) → AllByRecursion P xs → AllByRecursion Q (map f xs)
all_map P Q f h [] a = tt
all_map P Q f h (x ∷ xs) a = (h x a.0, all_map P Q f h xs a.1)

pub all_weaker : {X : Type 0} (P Q : X → Type 0) → ((x : X) → P x → Q x) → (xs : List X) → AllByRecursion P xs → AllByRecursion Q xs
all_weaker P Q h [] a = tt
all_weaker P Q h (x ∷ xs) a = (h x a.0, all_weaker P Q h xs a.1)

pub all_filter : {X : Type 0} (P : X → Type 0) (keep : X → Bool) (xs : List X) → AllByRecursion P xs → AllByRecursion P (filter keep xs)
all_filter P keep [] a = tt
all_filter P keep (x ∷ xs) a = go (keep x) (all_filter P keep xs a.1)
  where
    go : (b : Bool) → AllByRecursion P (filter keep xs) → AllByRecursion P (cond b (x ∷ filter keep xs) (filter keep xs))
    go true r = (a.0, r)
    go false r = r

pub all_at : {X : Type 0} (P : X → Type 0) (xs : List X) (n : ℕ) (x : X) → AllByRecursion P xs → slice_get xs n ≡ Some x → P x
all_at P [] n x a h = absurd (cc)
all_at P (y ∷ ys) zero x a h = let s : y ≡ x = cc in subst P s a.0
all_at P (y ∷ ys) (suc n) x a h = all_at P ys n x a.1 h

pub all_set : {X : Type 0} (P : X → Type 0) (xs : List X) (n : ℕ) (x : X) → AllByRecursion P xs → P x → AllByRecursion P (set xs n x)
all_set P [] n x a p = tt
all_set P (y ∷ ys) zero x a p = (p, a.1)
all_set P (y ∷ ys) (suc n) x a p = (a.0, all_set P ys n x a.1 p)

pub map_append : {X Y : Type 0} (f : X → Y) (xs ys : List X) → map f (xs ++ ys) ≡ map f xs ++ map f ys
map_append f [] ys = refl
map_append f (x ∷ xs) ys = ap (λ zs. f x ∷ zs) (map_append f xs ys)

cons_append : {X : Type 0} (o : Option X) (xs ys : List X) → cons_option o (xs ++ ys) ≡ cons_option o xs ++ ys
cons_append None xs ys = refl
cons_append (Some x) xs ys = refl

pub filter_map_append : {X Y : Type 0} (f : X → Option Y) (xs ys : List X) → filter_map f (xs ++ ys) ≡ filter_map f xs ++ filter_map f ys
filter_map_append f [] ys = refl
filter_map_append f (x ∷ xs) ys = ap (λ zs. cons_option (f x) zs) (filter_map_append f xs ys) ∙ cons_append (f x) (filter_map f xs) (filter_map f ys)

-- numbers that differ

eq_false : (m n : ℕ) → nat_eq m n ≡ false → nat_eq n m ≡ false
eq_false m n h = grind (arith, nat_tests, h)

among_push : (ns : List ℕ) (k n : ℕ) → is_among ns k ≡ false → nat_eq n k ≡ false → is_among (ns ++ n ∷ []) k ≡ false
among_push [] k n h e = rw e refl
among_push (m ∷ ms) k n h e = go (nat_eq m k) h (λ f. among_push ms k n f e)
  where
    go : (b : Bool) → (b || is_among ms k) ≡ false → (is_among ms k ≡ false → is_among (ms ++ n ∷ []) k ≡ false) → (b || is_among (ms ++ n ∷ []) k) ≡ false
    go true f r = absurd (cc)
    go false f r = r f

pub apart_push : (ns : List ℕ) (n : ℕ) → AreApart ns → is_among ns n ≡ false → AreApart (ns ++ n ∷ [])
apart_push [] n a h = (refl, tt)
apart_push (m ∷ ms) n a h = go (nat_eq m n) refl h (apart_push ms n a.1)
  where
    go : (b : Bool) → nat_eq m n ≡ b → (b || is_among ms n) ≡ false → (is_among ms n ≡ false → AreApart (ms ++ n ∷ [])) → AreApart (m ∷ (ms ++ n ∷ []))
    go true e f r = absurd (cc)
    go false e f r = (among_push ms m n a.0 (eq_false m n e), r f)

among_without : (ns : List ℕ) (n : ℕ) (ms : List ℕ) (k : ℕ) → is_among (ns ++ n ∷ ms) k ≡ false → is_among (ns ++ ms) k ≡ false
among_without [] n ms k h = go (nat_eq n k) h
  where
    go : (b : Bool) → (b || is_among ms k) ≡ false → is_among ms k ≡ false
    go true f = absurd (cc)
    go false f = f
among_without (m ∷ ns) n ms k h = go (nat_eq m k) h (among_without ns n ms k)
  where
    go : (b : Bool) → (b || is_among (ns ++ n ∷ ms) k) ≡ false → (is_among (ns ++ n ∷ ms) k ≡ false → is_among (ns ++ ms) k ≡ false) → (b || is_among (ns ++ ms) k) ≡ false
    go true f r = absurd (cc)
    go false f r = r f

pub apart_without : (ns : List ℕ) (n : ℕ) (ms : List ℕ) → AreApart (ns ++ n ∷ ms) → AreApart (ns ++ ms)
apart_without [] n ms a = a.1
apart_without (m ∷ ns) n ms a = (among_without ns n ms m a.0, apart_without ns n ms a.1)

hit : (ns : List ℕ) (n : ℕ) (ms : List ℕ) → is_among (ns ++ n ∷ ms) n ≡ true
hit [] n ms = let e : nat_eq n n ≡ true = grind (arith, nat_tests) in rw e refl
hit (k ∷ ns) n ms = go (nat_eq k n) (hit ns n ms)
  where
    go : (b : Bool) → is_among (ns ++ n ∷ ms) n ≡ true → (b || is_among (ns ++ n ∷ ms) n) ≡ true
    go true f = refl
    go false f = f

pub among_apart : (ns : List ℕ) (n : ℕ) (ms : List ℕ) → AreApart (ns ++ n ∷ ms) → is_among (ns ++ ms) n ≡ false
among_apart [] n ms a = a.0
among_apart (m ∷ ns) n ms a = go (nat_eq m n) refl (among_apart ns n ms a.1)
  where
    go : (b : Bool) → nat_eq m n ≡ b → is_among (ns ++ ms) n ≡ false → (b || is_among (ns ++ ms) n) ≡ false
    go true e r =
        let s : m ≡ n = grind (arith, nat_tests, e) in
        let f = subst (λ (j : ℕ). is_among (ns ++ n ∷ ms) j ≡ false) s a.0 in
        let t = hit ns n ms in
        absurd (cc)
    go false e r = r

-- an index whose shadow mark is this

pub plain_from : (i : IndexView) (ms : List IndexView) → i.shadow ≡ None → plains (marks_of (i ∷ ms)) ≡ i.number ∷ plains (marks_of ms)
plain_from i ms e = rw e refl

pub shadow_none : (i : IndexView) (s : Shadow) (ms : List IndexView) → i.shadow ≡ Some s → plains (marks_of (i ∷ ms)) ≡ plains (marks_of ms)
shadow_none i s ms e = rw e refl

-- one index written with the same mark
pub marks_set : (is : List IndexView) (n : ℕ) (x y : IndexView) → slice_get is n ≡ Some x → mark_of y ≡ mark_of x → marks_of (set is n y) ≡ marks_of is
marks_set [] n x y h e = absurd (cc)
marks_set (i ∷ is) zero x y h e = let s : i ≡ x = cc in ap (λ m. m ∷ marks_of is) (e ∙ ap (λ z. mark_of z) (sym s))
marks_set (i ∷ is) (suc n) x y h e = ap (λ ms. mark_of i ∷ ms) (marks_set is n x y h e)

pub marks_map : (f : IndexView → IndexView) → ((i : IndexView) → mark_of (f i) ≡ mark_of i) → (is : List IndexView) → marks_of (map f is) ≡ marks_of is
marks_map f h [] = refl
marks_map f h (i ∷ is) = ap (λ m. m ∷ marks_of (map f is)) (h i) ∙ ap (λ ms. mark_of i ∷ ms) (marks_map f h is)

-- a shadow more
pub marks_push : (ms : List Mark) (number : ℕ) (s : Shadow) → AreMarks ms → is_among (numbers ms) number ≡ false → MayAim ms s.replaces → AreMarks (ms ++ record { number = number; shadow = Some s } ∷ [])
marks_push ms number s m f a = record {
  numbers_apart = subst AreApart (sym (map_append (λ (x : Mark). x.number) ms (new ∷ []))) (apart_push (numbers ms) number m.numbers_apart f);
  aims_apart = subst AreApart (sym (filter_map_append (λ (x : Mark). aim x.shadow) ms (new ∷ []))) (apart s.replaces a);
  aims_there = rw same_plains (subst (AllByRecursion (λ n. is_among (plains ms) n ≡ true)) (sym (filter_map_append (λ (x : Mark). aim x.shadow) ms (new ∷ []))) (there s.replaces a));
}
  where
    new : Mark
    new = record { number = number; shadow = Some s }

    apart : (o : Option ℕ) → MayAim ms o → AreApart (aims ms ++ cons_option o [])
    apart None b = rw append-nil m.aims_apart
    apart (Some n) b = apart_push (aims ms) n m.aims_apart b.1

    there : (o : Option ℕ) → MayAim ms o → AllByRecursion (λ n. is_among (plains ms) n ≡ true) (aims ms ++ cons_option o [])
    there None b = rw append-nil m.aims_there
    there (Some n) b = all_append (λ k. is_among (plains ms) k ≡ true) (aims ms) (n ∷ []) m.aims_there (b.0, tt)

    same_plains : plains (ms ++ new ∷ []) ≡ plains ms
    same_plains = filter_map_append (λ (x : Mark). plain x.shadow x.number) ms (new ∷ []) ∙ append-nil (plains ms)

-- some shadows go

among_filter : (keep : IndexView → Bool) (is : List IndexView) (n : ℕ) → is_among (numbers (marks_of is)) n ≡ false → is_among (numbers (marks_of (filter keep is))) n ≡ false
among_filter keep [] n h = refl
among_filter keep (i ∷ is) n h = go (nat_eq i.number n) (keep i) refl h (among_filter keep is n)
  where
    go : (b c : Bool) → nat_eq i.number n ≡ b → (b || is_among (numbers (marks_of is)) n) ≡ false → (is_among (numbers (marks_of is)) n ≡ false → is_among (numbers (marks_of (filter keep is))) n ≡ false) → is_among (numbers (marks_of (cond c (i ∷ filter keep is) (filter keep is)))) n ≡ false
    go true c e f r = absurd (cc)
    go false true e f r = rw e (r f)
    go false false e f r = r f

apart_filter : (keep : IndexView → Bool) (is : List IndexView) → AreApart (numbers (marks_of is)) → AreApart (numbers (marks_of (filter keep is)))
apart_filter keep [] a = tt
apart_filter keep (i ∷ is) a = go (keep i) (apart_filter keep is a.1)
  where
    go : (b : Bool) → AreApart (numbers (marks_of (filter keep is))) → AreApart (numbers (marks_of (cond b (i ∷ filter keep is) (filter keep is))))
    go true r = (among_filter keep is i.number a.0, r)
    go false r = r

aim_among_filter : (keep : IndexView → Bool) (is : List IndexView) (n : ℕ) → is_among (aims (marks_of is)) n ≡ false → is_among (aims (marks_of (filter keep is))) n ≡ false
aim_among_filter keep [] n h = refl
aim_among_filter keep (i ∷ is) n h = go (aim i.shadow) (keep i) refl h (aim_among_filter keep is n)
  where
    go3 : (b c : Bool) (m : ℕ) → aim i.shadow ≡ Some m → nat_eq m n ≡ b → (b || is_among (aims (marks_of is)) n) ≡ false → (is_among (aims (marks_of is)) n ≡ false → is_among (aims (marks_of (filter keep is))) n ≡ false) → is_among (aims (marks_of (cond c (i ∷ filter keep is) (filter keep is)))) n ≡ false
    go3 true c m e k f r = absurd (cc)
    go3 false true m e k f r = rw (e, k) (r f)
    go3 false false m e k f r = r f

    go : (o : Option ℕ) (c : Bool) → aim i.shadow ≡ o → is_among (cons_option o (aims (marks_of is))) n ≡ false → (is_among (aims (marks_of is)) n ≡ false → is_among (aims (marks_of (filter keep is))) n ≡ false) → is_among (aims (marks_of (cond c (i ∷ filter keep is) (filter keep is)))) n ≡ false
    go None true e f r = rw e (r f)
    go None false e f r = r f
    go (Some m) c e f r = go3 (nat_eq m n) c m e refl f r

aims_filter_apart : (keep : IndexView → Bool) (is : List IndexView) → AreApart (aims (marks_of is)) → AreApart (aims (marks_of (filter keep is)))
aims_filter_apart keep [] a = tt
aims_filter_apart keep (i ∷ is) a = go (aim i.shadow) (keep i) refl a (aims_filter_apart keep is)
  where
    go : (o : Option ℕ) (c : Bool) → aim i.shadow ≡ o → AreApart (cons_option o (aims (marks_of is))) → (AreApart (aims (marks_of is)) → AreApart (aims (marks_of (filter keep is)))) → AreApart (aims (marks_of (cond c (i ∷ filter keep is) (filter keep is))))
    go None true e b r = rw e (r b)
    go None false e b r = r b
    go (Some m) true e b r = rw e (aim_among_filter keep is m b.0, r b.1)
    go (Some m) false e b r = r b.1

aims_filter_all : (P : ℕ → Type 0) (keep : IndexView → Bool) (is : List IndexView) → AllByRecursion P (aims (marks_of is)) → AllByRecursion P (aims (marks_of (filter keep is)))
aims_filter_all P keep [] a = tt
aims_filter_all P keep (i ∷ is) a = go (aim i.shadow) (keep i) refl a (aims_filter_all P keep is)
  where
    go : (o : Option ℕ) (c : Bool) → aim i.shadow ≡ o → AllByRecursion P (cons_option o (aims (marks_of is))) → (AllByRecursion P (aims (marks_of is)) → AllByRecursion P (aims (marks_of (filter keep is)))) → AllByRecursion P (aims (marks_of (cond c (i ∷ filter keep is) (filter keep is))))
    go None true e b r = rw e (r b)
    go None false e b r = r b
    go (Some m) true e b r = rw e (b.0, r b.1)
    go (Some m) false e b r = r b.1

plains_filter : (keep : IndexView → Bool) → ((i : IndexView) → i.shadow ≡ None → keep i ≡ true) → (is : List IndexView) → plains (marks_of (filter keep is)) ≡ plains (marks_of is)
plains_filter keep k [] = refl
plains_filter keep k (i ∷ is) = go i.shadow refl (plains_filter keep k is)
  where
    go : (o : Option Shadow) → i.shadow ≡ o → plains (marks_of (filter keep is)) ≡ plains (marks_of is) → plains (marks_of (cond (keep i) (i ∷ filter keep is) (filter keep is))) ≡ plains (marks_of (i ∷ is))
    go None e r = let t = k i e in rw t (plain_from i (filter keep is) e ∙ ap (λ ns. i.number ∷ ns) r ∙ sym (plain_from i is e))
    go (Some s) e r = go2 (keep i) ∙ sym (shadow_none i s is e)
      where
        go2 : (c : Bool) → plains (marks_of (cond c (i ∷ filter keep is) (filter keep is))) ≡ plains (marks_of is)
        go2 true = shadow_none i s (filter keep is) e ∙ r
        go2 false = r

pub marks_filter : (keep : IndexView → Bool) → ((i : IndexView) → i.shadow ≡ None → keep i ≡ true) → (is : List IndexView) → AreMarks (marks_of is) → AreMarks (marks_of (filter keep is))
marks_filter keep k is m = record {
  numbers_apart = apart_filter keep is m.numbers_apart;
  aims_apart = aims_filter_apart keep is m.aims_apart;
  aims_there = rw (plains_filter keep k is) (aims_filter_all (λ n. is_among (plains (marks_of is)) n ≡ true) keep is m.aims_there);
}
