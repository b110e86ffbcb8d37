-- What a switch leaves is the same before and after one shadow has taken its place.
use Rattle.std.proofs.Common.{◌≡◌, ℕ, zero, suc, ◌+◌, Bool, true, false, cond, not, ◌||◌, List, [], ◌∷◌, ◌++◌, map, length, take, drop, nat_eq, refl, sym, ap, ◌∙◌, subst, arith, length-append}
use Rattle.std.proofs.lemmas.Bool.Decides.{nat_tests}
use Rattle.std.specs.List.{AllByRecursion, cons_option, filter, find, list_any}
use Rattle.std.specs.Prelude.{None, Option, Some, is_some, remove, slice_get}
use Rattle.tablets.specs.Parting.{IsWithout, put_for}
use Rattle.tablets.specs.SetView.{IndexView, is_numbered}
use Rattle.tablets.specs.Shadows.{AreApart, AreMarks, IsIndexOf, aim, aim_of, aims, gives_way, is_among, is_number, is_shadow_of, marks_of, numbers, or_itself, plain, plain_as, plains, stands_for, switched_in, takes, unmarked}
use Rattle.tablets.specs.declared.shadow.Shadow.{Shadow}
use Rattle.tablets.proofs.Marks.{all_append, all_left, all_map, all_right}
use Rattle.tablets.proofs.Switch.{all_plain, marks_without, number_is, or_left, or_right, takes_aims, takes_not_plain}

-- who is to take a place

find_put : (job n k : ℕ) (s : IndexView) (is : List IndexView) → AllByRecursion (λ i. is_numbered n i ≡ true → i.shadow ≡ None) is → find (takes job k) (map (put_for n s) is) ≡ find (takes job k) is
find_put job n k s [] a = refl
find_put job n k s (i ∷ is) a = go (nat_eq i.number n) refl (find_put job n k s is a.1)
  where
    go : (b : Bool) → nat_eq i.number n ≡ b → find (takes job k) (map (put_for n s) is) ≡ find (takes job k) is → find (takes job k) (cond b (plain_as n s) i ∷ map (put_for n s) is) ≡ find (takes job k) (i ∷ is)
    go true e r = let t = takes_not_plain job k i (a.0 e) in r ∙ sym (ap (λ (c : Bool). cond c (Some i) (find (takes job k) is)) t)
    go false e r = ap (λ (o : Option IndexView). cond (takes job k i) (Some i) o) r

find_other : {X : Type 0} (test : X → Bool) (x : X) (xs ys : List X) → test x ≡ false → find test (xs ++ x ∷ ys) ≡ find test (xs ++ ys)
find_other test x [] ys h = ap (λ c. cond c (Some x) (find test ys)) h
find_other test x (z ∷ xs) ys h = ap (λ o. cond (test z) (Some z) o) (find_other test x xs ys h)

find_this : {X : Type 0} (test : X → Bool) (x : X) (xs ys : List X) → test x ≡ true → find test (xs ++ ys) ≡ None → find test (xs ++ x ∷ ys) ≡ Some x
find_this test x [] ys h f = ap (λ c. cond c (Some x) (find test ys)) h
find_this test x (z ∷ xs) ys h f = go (test z) f (find_this test x xs ys h)
  where
    go : (b : Bool) → cond b (Some z) (find test (xs ++ ys)) ≡ None → (find test (xs ++ ys) ≡ None → find test (xs ++ x ∷ ys) ≡ Some x) → cond b (Some z) (find test (xs ++ x ∷ ys)) ≡ Some x
    go true k r = absurd (cc)
    go false k r = r k

none_takes : (job n : ℕ) (is : List IndexView) → is_among (aims (marks_of is)) n ≡ false → find (takes job n) is ≡ None
none_takes job n [] h = refl
none_takes job n (i ∷ is) h = go (takes job n i) refl (aim i.shadow) refl h (none_takes job n is)
  where
    same : nat_eq n n ≡ true
    same = grind (arith, nat_tests)

    go : (b : Bool) → takes job n i ≡ b → (o : Option ℕ) → aim i.shadow ≡ o → is_among (cons_option o (aims (marks_of is))) n ≡ false → (is_among (aims (marks_of is)) n ≡ false → find (takes job n) is ≡ None) → cond b (Some i) (find (takes job n) is) ≡ None
    go true e None f k r = absurd (let h = takes_aims job n i e in let x = h.0 in cc)
    go true e (Some m) f k r = absurd (
        let h = takes_aims job n i e in
        let x = h.0 in
        let y : m ≡ n = cc in
        let z : nat_eq m n ≡ true = subst (λ (j : ℕ). nat_eq j n ≡ true) (sym y) same in
        let v = or_left (nat_eq m n) (is_among (aims (marks_of is)) n) k in
        cc)
    go false e None f k r = r k
    go false e (Some m) f k r = r (or_right (nat_eq m n) (is_among (aims (marks_of is)) n) k)

takes_is : (job n : ℕ) (s : IndexView) → takes job n s ≡ true → aim_of job s ≡ Some n
takes_is job n s h = number_is n (aim_of job s) h

takes_no_other : (job n k : ℕ) (s : IndexView) → takes job n s ≡ true → nat_eq k n ≡ false → takes job k s ≡ false
takes_no_other job n k s h e =
    let f : nat_eq n k ≡ false = grind (arith, nat_tests, e) in
    ap (λ (o : Option ℕ). is_number k o) (takes_is job n s h) ∙ f

-- who stays

stays_plain : (job : ℕ) (i : IndexView) → i.shadow ≡ None → not (gives_way job i) ≡ true
stays_plain job i e = rw e refl

filter_put : (job n : ℕ) (s : IndexView) (is : List IndexView) → AllByRecursion (λ i. is_numbered n i ≡ true → i.shadow ≡ None) is → filter (λ i. not (gives_way job i)) (map (put_for n s) is) ≡ map (put_for n s) (filter (λ i. not (gives_way job i)) is)
filter_put job n s [] a = refl
filter_put job n s (i ∷ is) a = go (nat_eq i.number n) refl (filter_put job n s is a.1)
  where
    keep : IndexView → Bool
    keep j = not (gives_way job j)

    other : (c : Bool) → nat_eq i.number n ≡ false → filter (λ j. not (gives_way job j)) (map (put_for n s) is) ≡ map (put_for n s) (filter (λ j. not (gives_way job j)) is) → cond c (i ∷ filter (λ j. not (gives_way job j)) (map (put_for n s) is)) (filter (λ j. not (gives_way job j)) (map (put_for n s) is)) ≡ map (put_for n s) (cond c (i ∷ filter (λ j. not (gives_way job j)) is) (filter (λ j. not (gives_way job j)) is))
    other true e r = ap (λ js. i ∷ js) r ∙ ap (λ (b : Bool). cond b (plain_as n s) i ∷ map (put_for n s) (filter (λ j. not (gives_way job j)) is)) (sym e)
    other false e r = r

    go : (b : Bool) → nat_eq i.number n ≡ b → filter (λ j. not (gives_way job j)) (map (put_for n s) is) ≡ map (put_for n s) (filter (λ j. not (gives_way job j)) is) → filter (λ j. not (gives_way job j)) (cond b (plain_as n s) i ∷ map (put_for n s) is) ≡ map (put_for n s) (filter (λ j. not (gives_way job j)) (i ∷ is))
    go true e r =
        ap (λ js. plain_as n s ∷ js) r
        ∙ (ap (λ (b : Bool). cond b (plain_as n s) i ∷ map (put_for n s) (filter (λ j. not (gives_way job j)) is)) (sym e)
        ∙ ap (λ (c : Bool). map (put_for n s) (cond c (i ∷ filter (λ j. not (gives_way job j)) is) (filter (λ j. not (gives_way job j)) is))) (sym (stays_plain job i (a.0 e))))
    go false e r = other (not (gives_way job i)) e r

filter_without : {X : Type 0} (test : X → Bool) (x : X) (xs ys : List X) → test x ≡ false → filter test (xs ++ x ∷ ys) ≡ filter test (xs ++ ys)
filter_without test x [] ys h = ap (λ c. cond c (x ∷ filter test ys) (filter test ys)) h
filter_without test x (z ∷ xs) ys h = ap (λ zs. cond (test z) (z ∷ zs) zs) (filter_without test x xs ys h)

-- who stands in a place

stands_same : (job n : ℕ) (s : IndexView) (old mid : List IndexView) (i : IndexView) → takes job n s ≡ true → find (takes job n) old ≡ Some s → find (takes job n) mid ≡ None → ((k : ℕ) → nat_eq k n ≡ false → find (takes job k) old ≡ find (takes job k) mid) → AllByRecursion (λ j. is_numbered n j ≡ true → j.shadow ≡ None) mid → stands_for job (map (put_for n s) mid) (put_for n s i) ≡ stands_for job old i
stands_same job n s old mid i t f g o a = go (nat_eq i.number n) refl
  where
    go : (b : Bool) → nat_eq i.number n ≡ b → stands_for job (map (put_for n s) mid) (cond b (plain_as n s) i) ≡ stands_for job old i
    go true e =
        let k : i.number ≡ n = grind (arith, nat_tests, e) in
        ap (λ (x : Option IndexView). or_itself job (plain_as n s) x) (find_put job n n s mid a ∙ g)
        ∙ (ap (λ (m : ℕ). plain_as m s) (sym k) ∙ ap (λ (x : Option IndexView). or_itself job i x) (sym (ap (λ (m : ℕ). find (takes job m) old) k ∙ f)))
    go false e = ap (λ (x : Option IndexView). or_itself job i x) (find_put job n i.number s mid a ∙ sym (o i.number e))

map_two : (f g h : IndexView → IndexView) (xs : List IndexView) → ((x : IndexView) → f (g x) ≡ h x) → map f (map g xs) ≡ map h xs
map_two f g h [] e = refl
map_two f g h (x ∷ xs) e = ap (λ z. z ∷ map f (map g xs)) (e x) ∙ ap (λ zs. h x ∷ zs) (map_two f g h xs e)

pub step_same : (job n : ℕ) (s : IndexView) (old new : List IndexView) → IsWithout s old new → takes job n s ≡ true → AreMarks (marks_of old) → switched_in job (map (put_for n s) new) ≡ switched_in job old
step_same job n s old new w t m =
    let k = marks_without job n s old new w t m in
    let a = all_plain n new k.0.numbers_apart k.1 in
    let none : find (takes job n) new ≡ None = none_takes job n new k.2 in
    let none_in : find (takes job n) (w.before ++ w.after) ≡ None = ap (λ (is : List IndexView). find (takes job n) is) (sym w.has) ∙ none in
    let this : find (takes job n) old ≡ Some s = ap (λ (is : List IndexView). find (takes job n) is) w.had ∙ find_this (takes job n) s w.before w.after t none_in in
    let others = λ (j : ℕ) (e : nat_eq j n ≡ false). ap (λ (is : List IndexView). find (takes job j) is) w.had ∙ (find_other (takes job j) s w.before w.after (takes_no_other job n j s t e) ∙ ap (λ (is : List IndexView). find (takes job j) is) (sym w.has)) in
    let gone : not (gives_way job s) ≡ false = ap (λ (o : Option ℕ). not (is_some o)) (takes_is job n s t) in
    let stay : filter (λ i. not (gives_way job i)) old ≡ filter (λ i. not (gives_way job i)) new = ap (λ (is : List IndexView). filter (λ i. not (gives_way job i)) is) w.had ∙ (filter_without (λ i. not (gives_way job i)) s w.before w.after gone ∙ ap (λ (is : List IndexView). filter (λ i. not (gives_way job i)) is) (sym w.has)) in
    ap (λ (is : List IndexView). map (stands_for job (map (put_for n s) new)) is) (filter_put job n s new a)
    ∙ (map_two (stands_for job (map (put_for n s) new)) (put_for n s) (stands_for job old) (filter (λ i. not (gives_way job i)) new) (λ i. stands_same job n s old new i t this none others a)
    ∙ ap (λ (is : List IndexView). map (stands_for job old) is) (sym stay))

-- where none is to take a place

none_way : (job : ℕ) (i : IndexView) → gives_way job i ≡ false → aim_of job i ≡ None
none_way job i h = go (aim_of job i) h
  where
    go : (o : Option ℕ) → is_some o ≡ false → o ≡ None
    go None k = refl
    go (Some x) k = absurd (cc)

none_found : (job k : ℕ) (is : List IndexView) → list_any (gives_way job) is ≡ false → find (takes job k) is ≡ None
none_found job k [] h = refl
none_found job k (i ∷ is) h =
    let e = none_way job i (or_left (gives_way job i) (list_any (gives_way job) is) h) in
    ap (λ (o : Option ℕ). cond (is_number k o) (Some i) (find (takes job k) is)) e ∙ none_found job k is (or_right (gives_way job i) (list_any (gives_way job) is) h)

all_stay : (job : ℕ) (is : List IndexView) → list_any (gives_way job) is ≡ false → filter (λ i. not (gives_way job i)) is ≡ is
all_stay job [] h = refl
all_stay job (i ∷ is) h =
    ap (λ (c : Bool). cond (not c) (i ∷ filter (λ j. not (gives_way job j)) is) (filter (λ j. not (gives_way job j)) is)) (or_left (gives_way job i) (list_any (gives_way job) is) h)
    ∙ ap (λ js. i ∷ js) (all_stay job is (or_right (gives_way job i) (list_any (gives_way job) is) h))

map_as : (f g : IndexView → IndexView) (xs : List IndexView) → ((x : IndexView) → f x ≡ g x) → map f xs ≡ map g xs
map_as f g [] e = refl
map_as f g (x ∷ xs) e = ap (λ z. z ∷ map f xs) (e x) ∙ ap (λ zs. g x ∷ zs) (map_as f g xs e)

pub end_same : (job : ℕ) (is : List IndexView) → list_any (gives_way job) is ≡ false → map (unmarked job) is ≡ switched_in job is
end_same job is h = sym (
    ap (λ (js : List IndexView). map (stands_for job is) js) (all_stay job is h)
    ∙ map_as (stands_for job is) (unmarked job) is (λ i. ap (λ (o : Option IndexView). or_itself job i o) (none_found job i.number is h)))

-- the shadows of a job, no shadows any more

numbers_unmarked : (job : ℕ) (is : List IndexView) → numbers (marks_of (map (unmarked job) is)) ≡ numbers (marks_of is)
numbers_unmarked job [] = refl
numbers_unmarked job (i ∷ is) = go (is_shadow_of job i) (numbers_unmarked job is)
  where
    go : (b : Bool) → numbers (marks_of (map (unmarked job) is)) ≡ numbers (marks_of is) → numbers (marks_of (cond b (plain_as i.number i) i ∷ map (unmarked job) is)) ≡ numbers (marks_of (i ∷ is))
    go true r = ap (λ ns. i.number ∷ ns) r
    go false r = ap (λ ns. i.number ∷ ns) r

aims_unmarked : (job : ℕ) (is : List IndexView) → list_any (gives_way job) is ≡ false → aims (marks_of (map (unmarked job) is)) ≡ aims (marks_of is)
aims_unmarked job [] h = refl
aims_unmarked job (i ∷ is) h = go (is_shadow_of job i) refl (aims_unmarked job is (or_right (gives_way job i) (list_any (gives_way job) is) h))
  where
    go : (b : Bool) → is_shadow_of job i ≡ b → aims (marks_of (map (unmarked job) is)) ≡ aims (marks_of is) → aims (marks_of (cond b (plain_as i.number i) i ∷ map (unmarked job) is)) ≡ aims (marks_of (i ∷ is))
    go true e r =
        let w = none_way job i (or_left (gives_way job i) (list_any (gives_way job) is) h) in
        let a : aim i.shadow ≡ None = ap (λ (b : Bool). cond b (aim i.shadow) None) (sym e) ∙ w in
        r ∙ ap (λ (o : Option ℕ). cons_option o (aims (marks_of is))) (sym a)
    go false e r = ap (λ ns. cons_option (aim i.shadow) ns) r

plains_more : (job : ℕ) (is : List IndexView) (n : ℕ) → is_among (plains (marks_of is)) n ≡ true → is_among (plains (marks_of (map (unmarked job) is))) n ≡ true
plains_more job [] n h = h
plains_more job (i ∷ is) n h = go i.shadow refl h (plains_more job is n)
  where
    one : (b : Bool) → (b || is_among (plains (marks_of is)) n) ≡ true → (is_among (plains (marks_of is)) n ≡ true → is_among (plains (marks_of (map (unmarked job) is))) n ≡ true) → (b || is_among (plains (marks_of (map (unmarked job) is))) n) ≡ true
    one true k r = refl
    one false k r = r k

    two : (b : Bool) → is_among (plains (marks_of (map (unmarked job) is))) n ≡ true → (b || is_among (plains (marks_of (map (unmarked job) is))) n) ≡ true
    two true k = refl
    two false k = k

    three : (b : Bool) (s : Shadow) → i.shadow ≡ Some s → is_among (plains (marks_of (map (unmarked job) is))) n ≡ true → is_among (plains (marks_of (cond b (plain_as i.number i) i ∷ map (unmarked job) is))) n ≡ true
    three true s e k = two (nat_eq i.number n) k
    three false s e k = rw e k

    go : (o : Option Shadow) → i.shadow ≡ o → is_among (cons_option (plain o i.number) (plains (marks_of is))) n ≡ true → (is_among (plains (marks_of is)) n ≡ true → is_among (plains (marks_of (map (unmarked job) is))) n ≡ true) → is_among (plains (marks_of (map (unmarked job) (i ∷ is)))) n ≡ true
    go None e k r = rw e (one (nat_eq i.number n) k r)
    go (Some s) e k r = three (is_shadow_of job i) s e (r k)

all_weak : (P Q : ℕ → Type 0) → ((n : ℕ) → P n → Q n) → (ns : List ℕ) → AllByRecursion P ns → AllByRecursion Q ns
all_weak P Q h [] a = tt
all_weak P Q h (n ∷ ns) a = (h n a.0, all_weak P Q h ns a.1)

pub marks_unmarked : (job : ℕ) (is : List IndexView) → list_any (gives_way job) is ≡ false → AreMarks (marks_of is) → AreMarks (marks_of (map (unmarked job) is))
marks_unmarked job is h m = record {
  numbers_apart = subst AreApart (sym (numbers_unmarked job is)) m.numbers_apart;
  aims_apart = subst AreApart (sym (aims_unmarked job is h)) m.aims_apart;
  aims_there = subst (AllByRecursion (λ n. is_among (plains (marks_of (map (unmarked job) is))) n ≡ true)) (sym (aims_unmarked job is h)) (all_weak (λ n. is_among (plains (marks_of is)) n ≡ true) (λ n. is_among (plains (marks_of (map (unmarked job) is))) n ≡ true) (plains_more job is) (aims (marks_of is)) m.aims_there);
}

pub sized_unmarked : (parts buckets job : ℕ) (is : List IndexView) → AllByRecursion (IsIndexOf parts buckets) is → AllByRecursion (IsIndexOf parts buckets) (map (unmarked job) is)
sized_unmarked parts buckets job is a = all_map (IsIndexOf parts buckets) (IsIndexOf parts buckets) (unmarked job) (λ i k. one i (is_shadow_of job i) k) is a
  where
    one : (i : IndexView) (b : Bool) → IsIndexOf parts buckets i → IsIndexOf parts buckets (cond b (plain_as i.number i) i)
    one i true k = record { many = k.many; each = k.each }
    one i false k = k

-- what of one taken out

pub sized_without : (parts buckets : ℕ) (s : IndexView) (old new : List IndexView) → IsWithout s old new → AllByRecursion (IsIndexOf parts buckets) old → IsIndexOf parts buckets s × AllByRecursion (IsIndexOf parts buckets) new
sized_without parts buckets s old new w a =
    let P : IndexView → Type 0 = IsIndexOf parts buckets in
    let b = subst (AllByRecursion P) w.had a in
    let r = all_right P w.before (s ∷ w.after) b in
    (r.0, subst (AllByRecursion P) (sym w.has) (all_append P w.before w.after (all_left P w.before (s ∷ w.after) b) r.1))

pub length_without : (s : IndexView) (old new : List IndexView) → IsWithout s old new → length old ≡ length new + 1
length_without s old new w =
    let a = ap (λ (is : List IndexView). length is) w.had in
    let b = ap (λ (is : List IndexView). length is) w.has in
    let c = length-append w.before (s ∷ w.after) in
    let d = length-append w.before w.after in
    omega (arith, a, b, c, d)

pub without_at : (is : List IndexView) (n : ℕ) (x : IndexView) → slice_get is n ≡ Some x → IsWithout x is (remove is n)
without_at is n x h = record { before = take n is; after = drop (suc n) is; had = split is n h; has = refl }
  where
    split : (js : List IndexView) (k : ℕ) → slice_get js k ≡ Some x → js ≡ take k js ++ x ∷ drop (suc k) js
    split [] k e = absurd (cc)
    split (j ∷ js) zero e = let s : j ≡ x = cc in ap (λ z. z ∷ js) s
    split (j ∷ js) (suc k) e = ap (λ zs. j ∷ zs) (split js k e)
