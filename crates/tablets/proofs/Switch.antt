-- Shadows of a job take their places, one after another.
use Rattle.std.proofs.Common.{◌≡◌, ℕ, Bool, true, false, cond, not, ◌||◌, List, [], ◌∷◌, ◌++◌, map, set, nat_eq, refl, sym, ap, ◌∙◌, subst, arith}
use Rattle.std.proofs.lemmas.Bool.Decides.{nat_tests}
use Rattle.std.specs.List.{AllByRecursion, cons_option}
use Rattle.std.specs.Prelude.{None, Option, Some, is_some, slice_get}
use Rattle.tablets.specs.Parting.{IsWithout, put_for}
use Rattle.tablets.specs.SetView.{IndexView, SetView, index_at, is_numbered}
use Rattle.tablets.specs.Shadows.{AreApart, AreMarks, IsIndexOf, IsTabletSet, Mark, aim, aims, is_among, is_number, is_of_job, is_shadow_of, mark_of, marks_of, numbers, plain, plain_as, plains, takes, without_job}
use Rattle.tablets.specs.declared.shadow.Shadow.{Shadow}
use Rattle.tablets.proofs.Marks.{all_append, all_filter, all_left, all_map, all_right, among_apart, apart_without, filter_map_append, map_append, marks_filter}
use Rattle.tablets.proofs.Sets.{found_passes, set_one}

pub or_left : (a b : Bool) → (a || b) ≡ false → a ≡ false
or_left true b h = absurd (cc)
or_left false b h = refl

pub or_right : (a b : Bool) → (a || b) ≡ false → b ≡ false
or_right true b h = absurd (cc)
or_right false b h = h

-- the shadows of a job go

keeps_plain : (job : ℕ) (i : IndexView) → i.shadow ≡ None → not (is_shadow_of job i) ≡ true
keeps_plain job i e = rw e refl

pub without_is_set : (s : SetView) (job : ℕ) → IsTabletSet s → IsTabletSet (without_job job s)
without_is_set s job m = record {
  marks = marks_filter (λ i. not (is_shadow_of job i)) (keeps_plain job) s.indexes m.marks;
  indexes = all_filter (IsIndexOf s.parts s.buckets) (λ i. not (is_shadow_of job i)) s.indexes m.indexes;
}

-- lists of marks, joined

numbers_append : (xs ys : List IndexView) → numbers (marks_of (xs ++ ys)) ≡ numbers (marks_of xs) ++ numbers (marks_of ys)
numbers_append xs ys = ap numbers (map_append (λ i. mark_of i) xs ys) ∙ map_append (λ (m : Mark). m.number) (marks_of xs) (marks_of ys)

aims_append : (xs ys : List IndexView) → aims (marks_of (xs ++ ys)) ≡ aims (marks_of xs) ++ aims (marks_of ys)
aims_append xs ys = ap aims (map_append (λ i. mark_of i) xs ys) ∙ filter_map_append (λ (m : Mark). aim m.shadow) (marks_of xs) (marks_of ys)

plains_append : (xs ys : List IndexView) → plains (marks_of (xs ++ ys)) ≡ plains (marks_of xs) ++ plains (marks_of ys)
plains_append xs ys = ap plains (map_append (λ i. mark_of i) xs ys) ∙ filter_map_append (λ (m : Mark). plain m.shadow m.number) (marks_of xs) (marks_of ys)

-- a shadow that is to take a place

pub number_is : (n : ℕ) (o : Option ℕ) → is_number n o ≡ true → o ≡ Some n
number_is n None h = absurd (cc)
number_is n (Some m) h = let e : m ≡ n = grind (arith, nat_tests, h) in ap (λ k. Some k) e

pub takes_aims : (job n : ℕ) (i : IndexView) → takes job n i ≡ true → (aim i.shadow ≡ Some n) × (plain i.shadow i.number ≡ None)
takes_aims job n i h = go i.shadow h
  where
    one : (b : Bool) (r : Option ℕ) → is_number n (cond b r None) ≡ true → r ≡ Some n
    one true r k = number_is n r k
    one false r k = absurd (cc)

    go : (o : Option Shadow) → is_number n (cond (is_of_job job o) (aim o) None) ≡ true → (aim o ≡ Some n) × (plain o i.number ≡ None)
    go None k = absurd (plain_takes_none (is_of_job job None) k)
      where
        plain_takes_none : (b : Bool) → is_number n (cond b None None) ≡ true → ⊥
        plain_takes_none true f = absurd (cc)
        plain_takes_none false f = absurd (cc)
    go (Some s) k = (one (nat_eq s.job job) s.replaces k, refl)

pub takes_not_plain : (job n : ℕ) (i : IndexView) → i.shadow ≡ None → takes job n i ≡ false
takes_not_plain job n i e = rw e refl

-- a list without one of its shadows
pub marks_without : (job n : ℕ) (s : IndexView) (old new : List IndexView) → IsWithout s old new → takes job n s ≡ true → AreMarks (marks_of old) → AreMarks (marks_of new) × (is_among (plains (marks_of new)) n ≡ true) × (is_among (aims (marks_of new)) n ≡ false)
marks_without job n s old new w t m =
    let h = takes_aims job n s t in
    let had_numbers : numbers (marks_of old) ≡ numbers (marks_of w.before) ++ s.number ∷ numbers (marks_of w.after) = ap (λ (is : List IndexView). numbers (marks_of is)) w.had ∙ numbers_append w.before (s ∷ w.after) in
    let has_numbers : numbers (marks_of new) ≡ numbers (marks_of w.before) ++ numbers (marks_of w.after) = ap (λ (is : List IndexView). numbers (marks_of is)) w.has ∙ numbers_append w.before w.after in
    let had_aims : aims (marks_of old) ≡ aims (marks_of w.before) ++ n ∷ aims (marks_of w.after) = ap (λ (is : List IndexView). aims (marks_of is)) w.had ∙ (aims_append w.before (s ∷ w.after) ∙ ap (λ (o : Option ℕ). aims (marks_of w.before) ++ cons_option o (aims (marks_of w.after))) h.0) in
    let has_aims : aims (marks_of new) ≡ aims (marks_of w.before) ++ aims (marks_of w.after) = ap (λ (is : List IndexView). aims (marks_of is)) w.has ∙ aims_append w.before w.after in
    let had_plains : plains (marks_of old) ≡ plains (marks_of w.before) ++ plains (marks_of w.after) = ap (λ (is : List IndexView). plains (marks_of is)) w.had ∙ (plains_append w.before (s ∷ w.after) ∙ ap (λ (o : Option ℕ). plains (marks_of w.before) ++ cons_option o (plains (marks_of w.after))) h.1) in
    let has_plains : plains (marks_of new) ≡ plains (marks_of w.before) ++ plains (marks_of w.after) = ap (λ (is : List IndexView). plains (marks_of is)) w.has ∙ plains_append w.before w.after in
    let same : plains (marks_of old) ≡ plains (marks_of new) = had_plains ∙ sym has_plains in
    let apart = subst AreApart had_aims m.aims_apart in
    let there = subst (AllByRecursion (λ k. is_among (plains (marks_of old)) k ≡ true)) had_aims m.aims_there in
    let P : ℕ → Type 0 = λ k. is_among (plains (marks_of new)) k ≡ true in
    let there2 : AllByRecursion P (aims (marks_of w.before) ++ n ∷ aims (marks_of w.after)) = subst (λ (ps : List ℕ). AllByRecursion (λ k. is_among ps k ≡ true) (aims (marks_of w.before) ++ n ∷ aims (marks_of w.after))) same there in
    let right = all_right P (aims (marks_of w.before)) (n ∷ aims (marks_of w.after)) there2 in (
      record {
        numbers_apart = subst AreApart (sym has_numbers) (apart_without (numbers (marks_of w.before)) s.number (numbers (marks_of w.after)) (subst AreApart had_numbers m.numbers_apart));
        aims_apart = subst AreApart (sym has_aims) (apart_without (aims (marks_of w.before)) n (aims (marks_of w.after)) apart);
        aims_there = subst (AllByRecursion P) (sym has_aims) (all_append P (aims (marks_of w.before)) (aims (marks_of w.after)) (all_left P (aims (marks_of w.before)) (n ∷ aims (marks_of w.after)) there2) right.1);
      },
      right.0,
      subst (λ (ns : List ℕ). is_among ns n ≡ false) (sym has_aims) (among_apart (aims (marks_of w.before)) n (aims (marks_of w.after)) apart),
    )

-- the index whose place is taken is plain

plains_are_numbers : (is : List IndexView) (n : ℕ) → is_among (plains (marks_of is)) n ≡ true → is_among (numbers (marks_of is)) n ≡ true
plains_are_numbers [] n h = h
plains_are_numbers (i ∷ is) n h = go i.shadow (nat_eq i.number n) refl h (plains_are_numbers is n)
  where
    go : (o : Option Shadow) (b : Bool) → nat_eq i.number n ≡ b → is_among (cons_option (plain o i.number) (plains (marks_of is))) n ≡ true → (is_among (plains (marks_of is)) n ≡ true → is_among (numbers (marks_of is)) n ≡ true) → (b || is_among (numbers (marks_of is)) n) ≡ true
    go o true e k r = refl
    go None false e k r = r (rw e at k)
    go (Some s) false e k r = r k

AllPlain : ℕ → List IndexView → Type 0
AllPlain n is = AllByRecursion (λ i. is_numbered n i ≡ true → i.shadow ≡ None) is

none_numbered : (n : ℕ) (is : List IndexView) → is_among (numbers (marks_of is)) n ≡ false → AllByRecursion (λ i. is_numbered n i ≡ true → i.shadow ≡ None) is
none_numbered n [] h = tt
none_numbered n (i ∷ is) h = (λ e. absurd (let f = or_left (nat_eq i.number n) (is_among (numbers (marks_of is)) n) h in cc), none_numbered n is (or_right (nat_eq i.number n) (is_among (numbers (marks_of is)) n) h))

pub all_plain : (n : ℕ) (is : List IndexView) → AreApart (numbers (marks_of is)) → is_among (plains (marks_of is)) n ≡ true → AllByRecursion (λ i. is_numbered n i ≡ true → i.shadow ≡ None) is
all_plain n [] a h = tt
all_plain n (i ∷ is) a h = go i.shadow refl (nat_eq i.number n) refl h (all_plain n is a.1)
  where
    not_here : nat_eq i.number n ≡ true → is_among (numbers (marks_of is)) n ≡ false
    not_here e = let s : i.number ≡ n = grind (arith, nat_tests, e) in subst (λ (k : ℕ). is_among (numbers (marks_of is)) k ≡ false) s a.0

    go : (o : Option Shadow) → i.shadow ≡ o → (b : Bool) → nat_eq i.number n ≡ b → is_among (cons_option (plain o i.number) (plains (marks_of is))) n ≡ true → (is_among (plains (marks_of is)) n ≡ true → AllByRecursion (λ j. is_numbered n j ≡ true → j.shadow ≡ None) is) → (is_numbered n i ≡ true → i.shadow ≡ None) × AllByRecursion (λ j. is_numbered n j ≡ true → j.shadow ≡ None) is
    go None e true f k r = (λ _. e, none_numbered n is (not_here f))
    go None e false f k r = (λ _. e, r (rw f at k))
    go (Some s) e true f k r = absurd (let x = not_here f in let y = plains_are_numbers is n k in cc)
    go (Some s) e false f k r = (λ g. absurd (cc), r k)

pub index_is_there : (n : ℕ) (is : List IndexView) → is_among (plains (marks_of is)) n ≡ true → is_some (index_at n is) ≡ true
index_is_there n is h = go is (plains_are_numbers is n h)
  where
    go : (js : List IndexView) → is_among (numbers (marks_of js)) n ≡ true → is_some (index_at n js) ≡ true
    go [] k = absurd (cc)
    go (j ∷ js) k = one (nat_eq j.number n) k (go js)
      where
        one : (b : Bool) → (b || is_among (numbers (marks_of js)) n) ≡ true → (is_among (numbers (marks_of js)) n ≡ true → is_some (index_at n js) ≡ true) → is_some (cond b (Some j) (index_at n js)) ≡ true
        one true f r = refl
        one false f r = r f

-- a shadow in the place of a plain index

pub put_is : (is : List IndexView) (n place : ℕ) (s : IndexView) → AreApart (numbers (marks_of is)) → is_some (index_at n is) ≡ true → slice_get is place ≡ index_at n is → set is place (plain_as n s) ≡ map (put_for n s) is
put_is is n place s a h e = go (index_at n is) refl h
  where
    go : (o : Option IndexView) → index_at n is ≡ o → is_some o ≡ true → set is place (plain_as n s) ≡ map (put_for n s) is
    go None f k = absurd (cc)
    go (Some x) f k = set_one n (λ _. plain_as n s) is place x a (e ∙ f) (found_passes (is_numbered n) is x f)

pub marks_put : (n : ℕ) (s : IndexView) (is : List IndexView) → AllByRecursion (λ i. is_numbered n i ≡ true → i.shadow ≡ None) is → marks_of (map (put_for n s) is) ≡ marks_of is
marks_put n s [] a = refl
marks_put n s (i ∷ is) a = go (nat_eq i.number n) refl (marks_put n s is a.1)
  where
    go : (b : Bool) → nat_eq i.number n ≡ b → marks_of (map (put_for n s) is) ≡ marks_of is → mark_of (cond b (plain_as n s) i) ∷ marks_of (map (put_for n s) is) ≡ mark_of i ∷ marks_of is
    go true e r =
        let k : n ≡ i.number = grind (arith, nat_tests, e) in
        let o : None ≡ i.shadow = sym (a.0 e) in
        ap (λ (m : ℕ). record { number = m; shadow = None } ∷ marks_of (map (put_for n s) is)) k ∙ (ap (λ (z : Option Shadow). record { number = i.number; shadow = z } ∷ marks_of (map (put_for n s) is)) o ∙ ap (λ ms. mark_of i ∷ ms) r)
    go false e r = ap (λ ms. mark_of i ∷ ms) r

pub sized_put : (parts buckets n : ℕ) (s : IndexView) (is : List IndexView) → IsIndexOf parts buckets s → AllByRecursion (IsIndexOf parts buckets) is → AllByRecursion (IsIndexOf parts buckets) (map (put_for n s) is)
sized_put parts buckets n s is h a = all_map (IsIndexOf parts buckets) (IsIndexOf parts buckets) (put_for n s) (λ i k. one i (is_numbered n i) k) is a
  where
    one : (i : IndexView) (b : Bool) → IsIndexOf parts buckets i → IsIndexOf parts buckets (cond b (plain_as n s) i)
    one i true k = record { many = h.many; each = h.each }
    one i false k = k
