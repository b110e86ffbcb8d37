-- Where a tablet of a set is, and what a list is with one of it changed.
use Rattle.std.proofs.Common.{◌≡◌, ℕ, zero, suc, Bool, true, false, cond, ◌||◌, List, [], ◌∷◌, map, drop, set, nat_eq, refl, sym, ap, ◌∙◌, subst, arith}
use Rattle.std.proofs.lemmas.Bool.Decides.{nat_tests}
use Rattle.std.specs.List.{find}
use Rattle.std.specs.Prelude.{Option, Some, None, is_some, slice_get, option_and_then}
use Rattle.tablets.specs.SetView.{IndexView, changed_at, index_at, is_numbered, tablet_in, tablet_of}
use Rattle.tablets.specs.Shadows.{AreApart, is_among, marks_of, numbers}

-- what is found passes the test
pub found_passes : {X : Type 0} (test : X → Bool) (xs : List X) (x : X) → find test xs ≡ Some x → test x ≡ true
found_passes test [] x h = absurd (cc)
found_passes test (y ∷ ys) x h = go (test y) refl h (found_passes test ys x)
  where
    go : (b : Bool) → test y ≡ b → cond b (Some y) (find test ys) ≡ Some x → (find test ys ≡ Some x → test x ≡ true) → test x ≡ true
    go true e k r = let s : y ≡ x = cc in subst (λ z. test z ≡ true) s e
    go false e k r = r k

-- a tablet is in an index of the set
pub index_there : (i p b : ℕ) (is : List IndexView) → is_some (tablet_of i p b is) ≡ true → is_some (index_at i is) ≡ true
index_there i p b is h = go (index_at i is) h
  where
    go : (o : Option IndexView) → is_some (option_and_then (λ x. tablet_in p b x.parts) o) ≡ true → is_some o ≡ true
    go None k = k
    go (Some x) k = refl

-- one place written is that place changed
pub set_is_changed : {X : Type 0} (n : ℕ) (f : X → X) (xs : List X) (x : X) → slice_get xs n ≡ Some x → set xs n (f x) ≡ changed_at n f xs
set_is_changed n f [] x h = absurd (cc)
set_is_changed zero f (y ∷ ys) x h = let s : y ≡ x = cc in ap (λ z. f z ∷ ys) (sym s)
set_is_changed (suc n) f (y ∷ ys) x h = ap (λ zs. y ∷ zs) (set_is_changed n f ys x h)

pub numbered_is_among : (i : ℕ) (is : List IndexView) (n : ℕ) (x : IndexView) → slice_get is n ≡ Some x → is_numbered i x ≡ true → is_among (numbers (marks_of is)) i ≡ true
numbered_is_among i [] n x h e = absurd (cc)
numbered_is_among i (y ∷ ys) zero x h e = let s : y ≡ x = cc in let k : nat_eq y.number i ≡ true = subst (λ z. nat_eq z.number i ≡ true) (sym s) e in rw k refl
numbered_is_among i (y ∷ ys) (suc n) x h e = go (nat_eq y.number i) (numbered_is_among i ys n x h e)
  where
    go : (b : Bool) → is_among (numbers (marks_of ys)) i ≡ true → (b || is_among (numbers (marks_of ys)) i) ≡ true
    go true k = refl
    go false k = k

only_one : (i : ℕ) (g : IndexView → IndexView) (is : List IndexView) → is_among (numbers (marks_of is)) i ≡ false → map (λ x. cond (is_numbered i x) (g x) x) is ≡ is
only_one i g [] h = refl
only_one i g (y ∷ ys) h = go (nat_eq y.number i) h (only_one i g ys)
  where
    go : (b : Bool) → (b || is_among (numbers (marks_of ys)) i) ≡ false → (is_among (numbers (marks_of ys)) i ≡ false → map (λ x. cond (is_numbered i x) (g x) x) ys ≡ ys) → cond b (g y) y ∷ map (λ x. cond (is_numbered i x) (g x) x) ys ≡ y ∷ ys
    go true k r = absurd (cc)
    go false k r = ap (λ zs. y ∷ zs) (r k)

-- where numbers differ, the index of a number written is the index of that number changed
pub set_one : (i : ℕ) (g : IndexView → IndexView) (is : List IndexView) (n : ℕ) (x : IndexView) → AreApart (numbers (marks_of is)) → slice_get is n ≡ Some x → is_numbered i x ≡ true → set is n (g x) ≡ map (λ x. cond (is_numbered i x) (g x) x) is
set_one i g [] n x a h e = absurd (cc)
set_one i g (y ∷ ys) zero x a h e =
    let s : y ≡ x = cc in
    let k : nat_eq y.number i ≡ true = subst (λ z. nat_eq z.number i ≡ true) (sym s) e in
    let m : y.number ≡ i = grind (arith, nat_tests, k) in
    let o = only_one i g ys (subst (λ (j : ℕ). is_among (numbers (marks_of ys)) j ≡ false) m a.0) in
    rw k (ap (λ z. g z ∷ ys) (sym s) ∙ ap (λ zs. g y ∷ zs) (sym o))
set_one i g (y ∷ ys) (suc n) x a h e =
    let t = numbered_is_among i ys n x h e in
    go (nat_eq y.number i) refl (set_one i g ys n x a.1 h e)
  where
    go : (b : Bool) → nat_eq y.number i ≡ b → set ys n (g x) ≡ map (λ x. cond (is_numbered i x) (g x) x) ys → y ∷ set ys n (g x) ≡ cond b (g y) y ∷ map (λ x. cond (is_numbered i x) (g x) x) ys
    go true k r = absurd (
        let m : y.number ≡ i = grind (arith, nat_tests, k) in
        let t = numbered_is_among i ys n x h e in
        let f = subst (λ (j : ℕ). is_among (numbers (marks_of ys)) j ≡ false) m a.0 in
        cc)
    go false k r = ap (λ zs. y ∷ zs) r

-- the first that passes, after those that do not
pub found_at : (n : ℕ) (is : List IndexView) (k : ℕ) (x : IndexView) → slice_get is k ≡ Some x → is_numbered n x ≡ true → index_at n (drop k is) ≡ index_at n is → slice_get is k ≡ index_at n is
found_at n is k x h e d = h ∙ (sym (front is k h) ∙ d)
  where
    front : (ys : List IndexView) (j : ℕ) → slice_get ys j ≡ Some x → index_at n (drop j ys) ≡ Some x
    front [] j g = absurd (cc)
    front (y ∷ ys) zero g = let s : y ≡ x = cc in let k : nat_eq y.number n ≡ true = subst (λ z. nat_eq z.number n ≡ true) (sym s) e in rw k g
    front (y ∷ ys) (suc j) g = front ys j g
