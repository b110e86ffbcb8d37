-- A partition more takes its place among the partitions by ascending ranges.
use Rattle.std.proofs.Common.{◌≡◌, ℕ, zero, suc, ◌+◌, ◌-◌, ◌<◌, ◌≤◌, Bool, true, false, cond, not, ◌&&◌, ◌||◌, List, [], ◌∷◌, ◌++◌, Option, Some, None, length, take, drop, nat_eq, slice_index_or, refl, sym, ap, ◌∙◌, subst, arith, add-one}
use Rattle.std.proofs.lemmas.Bool.Decides.{nat_tests}
use Rattle.std.specs.List.{list_any, list_all, AllByRecursion, prefix_len}
use Rattle.partitions.specs.LayoutFaults.{first_beside, meets}
use Rattle.partitions.specs.LayoutView.{whole_part}
use Rattle.partitions.specs.Places.{low_end, high_end}
use Rattle.partitions.specs.Ranges.{are_apart}
use Rattle.partitions.specs.Search.{AreAscending, IsOrder, bounds_at, lies_before, put_behind, with_number}
use Rattle.partitions.specs.declared.part_def.PartDef.{PartDef}
use Rattle.partitions.specs.declared.part_def.Bounds.{Bounds}
use Rattle.partitions.proofs.Ascending.{before_later, rises}
use Rattle.partitions.proofs.Bools.{all_at, not_false, other}

index_front : {X : Type 0} (xs : List X) (y d : X) (n : ℕ) → n < length xs → slice_index_or (xs ++ y ∷ []) n d ≡ slice_index_or xs n d
index_front [] y d n l = absurd (omega arith)
index_front (x ∷ xs) y d zero l = refl
index_front (x ∷ xs) y d (suc n) l = index_front xs y d n (omega arith)

index_last : {X : Type 0} (xs : List X) (y d : X) → slice_index_or (xs ++ y ∷ []) (length xs) d ≡ y
index_last [] y d = refl
index_last (x ∷ xs) y d = index_last xs y d

pub length_more : {X : Type 0} (xs : List X) (y : X) → length (xs ++ y ∷ []) ≡ length xs + 1
length_more [] y = refl
length_more (x ∷ xs) y = let k = length_more xs y in omega (arith, k)

or_left : (a b : Bool) → a ≡ true → (a || b) ≡ true
or_left a b e = rw e refl

or_right : (a b : Bool) → b ≡ true → (a || b) ≡ true
or_right true b e = refl
or_right false b e = e

module _ (ps : List PartDef) (p : PartDef) (rise : rises p.bounds ≡ true) (away : meets ps p ≡ false) where
  abbrev grown : List PartDef
  grown = ps ++ p ∷ []

  front_bounds : (n : ℕ) → n < length ps → bounds_at grown n ≡ bounds_at ps n
  front_bounds n l = ap (λ (q : PartDef). q.bounds) (index_front ps p (whole_part []) n l)

  last_bounds : bounds_at grown (length ps) ≡ p.bounds
  last_bounds = ap (λ (q : PartDef). q.bounds) (index_last ps p (whole_part []))

  is_apart : (n : ℕ) → n < length ps → are_apart (bounds_at ps n) p.bounds ≡ true
  is_apart n l = all_at (λ (q : PartDef). are_apart q.bounds p.bounds) ps n (whole_part []) (not_false (list_all (λ (q : PartDef). are_apart q.bounds p.bounds) ps) away) l

  abbrev is_behind : ℕ → Bool
  is_behind m = lies_before (bounds_at ps m) p.bounds

  abbrev put : List ℕ → List ℕ
  put ns = put_behind is_behind (length ps) ns

  front_all : (n : ℕ) (ns : List ℕ) → n < length ps → AreAscending ps ns → AllByRecursion (λ m. lies_before (bounds_at ps n) (bounds_at ps m) ≡ true) ns → AllByRecursion (λ m. lies_before (bounds_at grown n) (bounds_at grown m) ≡ true) ns
  front_all n [] l a h = tt
  front_all n (m ∷ ns) l a h = (ap (λ (b : Bounds). lies_before b (bounds_at grown m)) (front_bounds n l) ∙ ap (lies_before (bounds_at ps n)) (front_bounds m a.0) ∙ h.0, front_all n ns l a.3 h.1)

  more : (n : ℕ) → n < length ps → n < length grown
  more n l = let m = length_more ps p in omega (arith, l, m)

  front_ascends : (ns : List ℕ) → AreAscending ps ns → AreAscending grown ns
  front_ascends [] a = tt
  front_ascends (n ∷ ns) a = (more n a.0, ap rises (front_bounds n a.0) ∙ a.1, front_all n ns a.0 a.3 a.2, front_ascends ns a.3)

  -- what holds of all, and of the new one, holds where it is put
  put_all : (P : ℕ → Type 0) (ns : List ℕ) → AllByRecursion P ns → P (length ps) → AllByRecursion P (put ns)
  put_all P [] a h = (h, tt)
  put_all P (n ∷ ns) a h = go (is_behind n) (put_all P ns a.1 h)
    where
      go : (b : Bool) → AllByRecursion P (put ns) → AllByRecursion P (cond b (n ∷ put ns) (length ps ∷ n ∷ ns))
      go true r = (a.0, r)
      go false r = (h, a)

  -- the new one lies before what an earlier one lies before
  later_all : (n : ℕ) (ns : List ℕ) → AreAscending ps (n ∷ ns) → lies_before p.bounds (bounds_at ps n) ≡ true → AllByRecursion (λ m. lies_before (bounds_at ps n) (bounds_at ps m) ≡ true) ns → AreAscending ps ns → AllByRecursion (λ m. lies_before (bounds_at grown (length ps)) (bounds_at grown m) ≡ true) ns
  later_all n [] a h b c = tt
  later_all n (m ∷ ns) a h b c =
      (ap (λ (q : Bounds). lies_before q (bounds_at grown m)) last_bounds ∙ ap (lies_before p.bounds) (front_bounds m c.0) ∙ before_later p.bounds (bounds_at ps n) (bounds_at ps m) h a.1 b.0, later_all n ns (a.0, a.1, a.2.1, a.3.3) h b.1 c.3)

  put_ascends : (ns : List ℕ) → AreAscending ps ns → AreAscending grown (put ns)
  put_ascends [] a = (let m = length_more ps p in omega (arith, m), ap rises last_bounds ∙ rise, tt, tt)
  put_ascends (n ∷ ns) a = go (is_behind n) refl (put_ascends ns a.3)
    where
      go : (b : Bool) → is_behind n ≡ b → AreAscending grown (put ns) → AreAscending grown (cond b (n ∷ put ns) (length ps ∷ n ∷ ns))
      go true e r = (
        more n a.0,
        ap rises (front_bounds n a.0) ∙ a.1,
        put_all (λ m. lies_before (bounds_at grown n) (bounds_at grown m) ≡ true) ns (front_all n ns a.0 a.3 a.2)
            (ap (λ (b : Bounds). lies_before b (bounds_at grown (length ps))) (front_bounds n a.0) ∙ ap (lies_before (bounds_at ps n)) last_bounds ∙ e),
        r,
      )
      go false e r =
          let first : lies_before p.bounds (bounds_at ps n) ≡ true = other (is_behind n) (lies_before p.bounds (bounds_at ps n)) (is_apart n a.0) e in (
            let m = length_more ps p in omega (arith, m),
            ap rises last_bounds ∙ rise,
            (ap (λ (b : Bounds). lies_before b (bounds_at grown n)) last_bounds ∙ ap (lies_before p.bounds) (front_bounds n a.0) ∙ first, later_all n ns a first a.2 a.3),
            front_ascends (n ∷ ns) a,
          )

  put_has_new : (ns : List ℕ) → list_any (λ k. nat_eq k (length ps)) (put ns) ≡ true
  put_has_new [] = let e : nat_eq (length ps) (length ps) ≡ true = grind (arith, nat_tests) in rw e refl
  put_has_new (n ∷ ns) = go (is_behind n) (put_has_new ns)
    where
      self : nat_eq (length ps) (length ps) ≡ true
      self = grind (arith, nat_tests)

      go : (b : Bool) → list_any (λ k. nat_eq k (length ps)) (put ns) ≡ true → list_any (λ k. nat_eq k (length ps)) (cond b (n ∷ put ns) (length ps ∷ n ∷ ns)) ≡ true
      go true r = or_right (nat_eq n (length ps)) (list_any (λ k. nat_eq k (length ps)) (put ns)) r
      go false r = or_left (nat_eq (length ps) (length ps)) (list_any (λ k. nat_eq k (length ps)) (n ∷ ns)) self

  put_has : (m : ℕ) (ns : List ℕ) → list_any (λ k. nat_eq k m) ns ≡ true → list_any (λ k. nat_eq k m) (put ns) ≡ true
  put_has m [] h = absurd (cc)
  put_has m (n ∷ ns) h = go (is_behind n) (nat_eq n m) refl (λ k. put_has m ns k)
    where
      go : (b c : Bool) → nat_eq n m ≡ c → (list_any (λ k. nat_eq k m) ns ≡ true → list_any (λ k. nat_eq k m) (put ns) ≡ true) → list_any (λ k. nat_eq k m) (cond b (n ∷ put ns) (length ps ∷ n ∷ ns)) ≡ true
      go true true e r = or_left (nat_eq n m) (list_any (λ k. nat_eq k m) (put ns)) e
      go true false e r = or_right (nat_eq n m) (list_any (λ k. nat_eq k m) (put ns)) (r (other (nat_eq n m) (list_any (λ k. nat_eq k m) ns) h e))
      go false c e r = or_right (nat_eq (length ps) m) (list_any (λ k. nat_eq k m) (n ∷ ns)) h

  grown_has : (order : List ℕ) → ((n : ℕ) → n < length ps → list_any (λ k. nat_eq k n) order ≡ true) → (n : ℕ) → n < length grown → list_any (λ k. nat_eq k n) (put order) ≡ true
  grown_has order h n l = go (nat_eq n (length ps)) refl
    where
      go : (b : Bool) → nat_eq n (length ps) ≡ b → list_any (λ k. nat_eq k n) (put order) ≡ true
      go true e = let i : length ps ≡ n = grind (arith, nat_tests) in subst (λ (m : ℕ). list_any (λ k. nat_eq k m) (put order) ≡ true) i (put_has_new order)
      go false e = let m = length_more ps p in let less : n < length ps = grind (arith, nat_tests, m) in put_has n order (h n less)

pub order_grows : (ps : List PartDef) (p : PartDef) (order : List ℕ) → rises p.bounds ≡ true → meets ps p ≡ false → IsOrder ps order → IsOrder (ps ++ p ∷ []) (with_number ps p.bounds order)
order_grows ps p order r a o = record { ascends = put_ascends ps p r a order o.ascends; all = grown_has ps p r a order o.all }

-- it stands behind as many as pass the test
pub put_at : (test : ℕ → Bool) (n : ℕ) (ns : List ℕ) → put_behind test n ns ≡ take (prefix_len test ns) ns ++ n ∷ drop (prefix_len test ns) ns
put_at test n [] = refl
put_at test n (m ∷ ns) = go (test m) (put_at test n ns)
  where
    go : (b : Bool) → put_behind test n ns ≡ take (prefix_len test ns) ns ++ n ∷ drop (prefix_len test ns) ns → cond b (m ∷ put_behind test n ns) (n ∷ m ∷ ns) ≡ take (cond b (1 + prefix_len test ns) 0) (m ∷ ns) ++ n ∷ drop (cond b (1 + prefix_len test ns) 0) (m ∷ ns)
    go true r = ap (λ (l : List ℕ). m ∷ l) r ∙ (let s : 1 + prefix_len test ns ≡ suc (prefix_len test ns) = omega arith in rw s refl)
    go false r = refl

-- each partition lies apart from those before it, where none meets them
pub beside_none : (fault : List PartDef → PartDef → Bool) (before ps : List PartDef) → first_beside fault before ps ≡ None → (i : ℕ) (d : PartDef) → i < length ps → fault (before ++ take i ps) (slice_index_or ps i d) ≡ false
beside_none fault before [] e i d l = absurd (omega arith)
beside_none fault before (p ∷ ps) e i d l = go (fault before p) refl e i l (λ f j k. beside_none fault (before ++ p ∷ []) ps f j d k)
  where
    here : (b : Bool) → fault before p ≡ b → cond b (Some p.name) (first_beside fault (before ++ p ∷ []) ps) ≡ None → (fault before p ≡ false) × (first_beside fault (before ++ p ∷ []) ps ≡ None)
    here true f g = absurd (cc)
    here false f g = (f, g)

    go : (b : Bool) → fault before p ≡ b → cond b (Some p.name) (first_beside fault (before ++ p ∷ []) ps) ≡ None → (i : ℕ) → i < length (p ∷ ps) → (first_beside fault (before ++ p ∷ []) ps ≡ None → (j : ℕ) → j < length ps → fault ((before ++ p ∷ []) ++ take j ps) (slice_index_or ps j d) ≡ false) → fault (before ++ take i (p ∷ ps)) (slice_index_or (p ∷ ps) i d) ≡ false
    go b f g zero l rest = ap (λ (x : List PartDef). fault x p) (append_none before) ∙ (here b f g).0
      where
        append_none : (xs : List PartDef) → xs ++ [] ≡ xs
        append_none [] = refl
        append_none (x ∷ xs) = ap (λ (y : List PartDef). x ∷ y) (append_none xs)
    go b f g (suc j) l rest = ap (λ (x : List PartDef). fault x (slice_index_or ps j d)) (sym (append_assoc_of before (p ∷ []) (take j ps))) ∙ rest (here b f g).1 j (omega arith)
      where
        append_assoc_of : (xs ys zs : List PartDef) → (xs ++ ys) ++ zs ≡ xs ++ (ys ++ zs)
        append_assoc_of [] ys zs = refl
        append_assoc_of (x ∷ xs) ys zs = ap (λ (y : List PartDef). x ∷ y) (append_assoc_of xs ys zs)

take_one : {X : Type 0} (xs : List X) (i : ℕ) (d : X) → i < length xs → take (i + 1) xs ≡ take i xs ++ slice_index_or xs i d ∷ []
take_one [] i d l = absurd (omega arith)
take_one (x ∷ xs) zero d l = refl
take_one (x ∷ xs) (suc i) d l = let k = take_one xs i d (omega arith) in rw add-one (ap (λ (y : List _). x ∷ y) (rw add-one at k))

-- the next partition takes its place
pub order_next : (parts : List PartDef) (i : ℕ) (d : PartDef) (order : List ℕ) → first_beside meets [] parts ≡ None → list_all (λ (p : PartDef). rises p.bounds) parts ≡ true → i < length parts → IsOrder (take i parts) order → IsOrder (take (i + 1) parts) (with_number (take i parts) (slice_index_or parts i d).bounds order)
order_next parts i d order a r l o =
    subst (λ (ps : List PartDef). IsOrder ps (with_number (take i parts) (slice_index_or parts i d).bounds order)) (sym (take_one parts i d l))
    (order_grows (take i parts) (slice_index_or parts i d) order (all_at (λ (p : PartDef). rises p.bounds) parts i d r l) (beside_none meets [] parts a i d l) o)
