-- Steps of loops over the indexes of a set.
use Rattle.std.proofs.Common.{◌≡◌, ℕ, zero, suc, ◌+◌, ◌<◌, true, List, [], ◌∷◌, ◌++◌, map, length, take, drop, get_or, set, refl, sym, ap, ◌∙◌, subst, arith}
use Rattle.std.proofs.lemmas.List.{length-map}
use Rattle.std.specs.List.{AllByRecursion}
use Rattle.std.specs.Prelude.{Err, MatchOption, None, Ok, OnErr, Option, Result, Some, remove, slice_get}
use Rattle.std.proofs.lemmas.Option.{get_or_from_slice_get}
use Rattle.tablets.specs.Parting.{IsOnTheWay, IsWithout, cut_to, put_for}
use Rattle.tablets.specs.SetView.{IndexView, with_part}
use Rattle.tablets.specs.Shadows.{AreMarks, IsIndexOf, marks_of, switched_in, takes}
use Rattle.tablets.specs.TabletView.{TabletView}
use Rattle.tablets.proofs.Steps.{length_without, sized_without, step_same, without_at}
use Rattle.tablets.proofs.Switch.{all_plain, marks_put, marks_without, sized_put}

at_place : {X : Type 0} (f : X → X) (old : List X) (k : ℕ) (x : X) → k < length old → x ≡ get_or (map f (take k old) ++ drop k old) k x → set (map f (take k old) ++ drop k old) k (f x) ≡ map f (take (suc k) old) ++ drop (suc k) old
at_place f [] k x l e = absurd (omega arith)
at_place f (z ∷ zs) zero x l e = ap (λ y. f y ∷ zs) e
at_place f (z ∷ zs) (suc k) x l e = ap (λ ys. f z ∷ ys) (at_place f zs k x (omega arith) e)

-- one more is what f makes of it
pub mapped_more : {X : Type 0} (f : X → X) (old now : List X) (k : ℕ) (x y : X) → now ≡ map f (take k old) ++ drop k old → k < length old → x ≡ get_or now k x → y ≡ f (get_or now k x) → set now k y ≡ map f (take (k + 1) old) ++ drop (k + 1) old
mapped_more {X} f old now k x y e l r h =
    let s : k + 1 ≡ suc k = omega arith in
    ap (λ (z : X). set now k z) (h ∙ ap f (sym r))
    ∙ (ap (λ (zs : List X). set zs k (f x)) e
    ∙ (at_place f old k x l (subst (λ (zs : List X). x ≡ get_or zs k x) e r)
    ∙ ap (λ (n : ℕ). map f (take n old) ++ drop n old) (sym s)))

pub set_read : {X : Type 0} (xs : List X) (k : ℕ) (x : X) → x ≡ get_or xs k x → set xs k x ≡ xs
set_read [] k x e = refl
set_read (z ∷ zs) zero x e = ap (λ y. y ∷ zs) e
set_read (z ∷ zs) (suc k) x e = ap (λ ys. z ∷ ys) (set_read zs k x e)

pub on_err_any : {A E : Type 0} (r : Result A E) (P : Type 0) → P → OnErr r P
on_err_any (Ok x) P p = tt
on_err_any (Err e) P p = p

-- partitions cut off again

take_front : {X : Type 0} (n : ℕ) (xs ys : List X) → length xs ≡ n → take n (xs ++ ys) ≡ xs
take_front zero [] ys e = refl
take_front zero (x ∷ xs) ys e = absurd (omega (arith, e))
take_front (suc n) [] ys e = absurd (omega (arith, e))
take_front (suc n) (x ∷ xs) ys e = ap (λ zs. x ∷ zs) (take_front n xs ys (omega (arith, e)))

take_whole : {X : Type 0} (n : ℕ) (xs : List X) → length xs ≡ n → take n xs ≡ xs
take_whole zero [] e = refl
take_whole zero (x ∷ xs) e = absurd (omega (arith, e))
take_whole (suc n) [] e = absurd (omega (arith, e))
take_whole (suc n) (x ∷ xs) e = ap (λ zs. x ∷ zs) (take_whole n xs (omega (arith, e)))

cut_same : (n : ℕ) (is : List IndexView) → AllByRecursion (λ i. length i.parts ≡ n) is → map (cut_to n) is ≡ is
cut_same n [] a = refl
cut_same n (i ∷ is) a = ap (λ (ps : List (List TabletView)). record i { parts = ps } ∷ map (cut_to n) is) (take_whole n i.parts a.0) ∙ ap (λ js. i ∷ js) (cut_same n is a.1)

pub cut_back : (n buckets : ℕ) (is : List IndexView) (k : ℕ) → AllByRecursion (λ i. length i.parts ≡ n) is → map (cut_to n) (map (with_part buckets) (take k is) ++ drop k is) ≡ is
cut_back n buckets [] zero a = refl
cut_back n buckets [] (suc k) a = refl
cut_back n buckets (i ∷ is) zero a = cut_same n (i ∷ is) a
cut_back n buckets (i ∷ is) (suc k) a =
    let p = with_part buckets i in
    ap (λ (ps : List (List TabletView)). record i { parts = ps } ∷ map (cut_to n) (map (with_part buckets) (take k is) ++ drop k is)) (take_front n i.parts _ a.0)
    ∙ ap (λ js. i ∷ js) (cut_back n buckets is k a.1)

pub cut_all : (n buckets : ℕ) (is : List IndexView) → AllByRecursion (IsIndexOf n buckets) is → AllByRecursion (λ i. length i.parts ≡ n) is
cut_all n buckets [] a = tt
cut_all n buckets (i ∷ is) a = (a.0.many, cut_all n buckets is a.1)

-- one shadow taken out

pub taken : (all is new : List IndexView) (n job number : ℕ) (x : IndexView) → all ≡ is → MatchOption (slice_get all n) ⊥ (λ i. takes job number i ≡ true) → x ≡ get_or is n x → new ≡ remove is n → (takes job number x ≡ true) × IsWithout x is new
taken all is new n job number x e m g r = go (slice_get is n) refl (subst (λ (js : List IndexView). MatchOption (slice_get js n) ⊥ (λ i. takes job number i ≡ true)) e m)
  where
    go : (o : Option IndexView) → slice_get is n ≡ o → MatchOption o ⊥ (λ i. takes job number i ≡ true) → (takes job number x ≡ true) × IsWithout x is new
    go None h k = absurd k
    go (Some y) h k =
        let s : x ≡ y = g ∙ get_or_from_slice_get is n y x h in
        let t : slice_get is n ≡ Some x = h ∙ ap (λ z. Some z) (sym s) in
        (subst (λ (z : IndexView). takes job number z ≡ true) (sym s) k, subst (λ (js : List IndexView). IsWithout x is js) (sym r) (without_at is n x t))

-- one shadow in its place
pub placed : (job number : ℕ) (s : IndexView) (old mid new : List IndexView) → takes job number s ≡ true → IsWithout s old mid → AreMarks (marks_of old) → new ≡ map (put_for number s) mid → IsOnTheWay job old new
placed job number s old mid new t w m e =
    let k = marks_without job number s old mid w t m in
    let plain = all_plain number mid k.0.numbers_apart k.1 in
    record {
      same = ap (λ (is : List IndexView). switched_in job is) e ∙ step_same job number s old mid w t m;
      marks = subst AreMarks (sym (ap (λ (is : List IndexView). marks_of is) e ∙ marks_put number s mid plain)) k.0;
      sized = λ (parts buckets : ℕ) (a : AllByRecursion (IsIndexOf parts buckets) old). (let b = sized_without parts buckets s old mid w a in subst (AllByRecursion (IsIndexOf parts buckets)) (sym e) (sized_put parts buckets number s mid b.0 b.1));
    }

pub further : (job : ℕ) (a b c : List IndexView) → IsOnTheWay job a b → IsOnTheWay job b c → IsOnTheWay job a c
further job a b c x y = record {
  same = y.same ∙ x.same;
  marks = y.marks;
  sized = λ (parts buckets : ℕ) (h : AllByRecursion (IsIndexOf parts buckets) a). y.sized parts buckets (x.sized parts buckets h);
}

pub at_first : (job : ℕ) (is : List IndexView) → AreMarks (marks_of is) → IsOnTheWay job is is
at_first job is m = record { same = refl; marks = m; sized = λ (parts buckets : ℕ) (h : AllByRecursion (IsIndexOf parts buckets) is). h }

pub fewer : (s : IndexView) (old mid new : List IndexView) (number : ℕ) → IsWithout s old mid → new ≡ map (put_for number s) mid → length new < length old
fewer s old mid new number w e =
    let a = length_without s old mid w in
    let b = ap (λ (is : List IndexView). length is) e in
    let c = length-map mid (put_for number s) in
    omega (arith, a, b, c)

-- a slice of all of a vector, written back

pub refill_map : (n : ℕ) (f : IndexView → IndexView) (items now new rest : List IndexView) → now ≡ items → length now ≡ n → new ≡ map f now → take n (new ++ rest) ≡ map f items
refill_map n f items now new rest e l h =
    let a = ap (λ (is : List IndexView). length is) h in
    let b = length-map now f in
    take_front n new rest (omega (arith, a, b, l)) ∙ (h ∙ ap (λ (is : List IndexView). map f is) e)

pub set_back : {X : Type 0} (xs : List X) (k : ℕ) (x y : X) → x ≡ get_or xs k x → y ≡ get_or xs k x → set xs k y ≡ xs
set_back xs k x y e h = ap (λ z. set xs k z) (h ∙ sym e) ∙ set_read xs k x e

pub put_back : (n parts : ℕ) (items now added back_now back rest more : List IndexView) → now ≡ items → length added ≡ n → back_now ≡ take n (added ++ rest) → back ≡ map (cut_to parts) back_now → ((m : ℕ) → AllByRecursion (λ i. length i.parts ≡ m) now → map (cut_to m) added ≡ now) → AllByRecursion (λ i. length i.parts ≡ parts) items → take n (back ++ more) ≡ items
put_back n parts items now added back_now back rest more e l b h u a =
    let cut : back ≡ map (cut_to parts) added = h ∙ ap (λ (is : List IndexView). map (cut_to parts) is) (b ∙ take_front n added rest l) in
    let c = ap (λ (is : List IndexView). length is) cut in
    let d = length-map added (cut_to parts) in
    take_front n back more (omega (arith, c, d, l)) ∙ (cut ∙ (u parts (subst (AllByRecursion (λ i. length i.parts ≡ parts)) (sym e) a) ∙ e))
