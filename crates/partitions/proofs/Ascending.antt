-- Partitions by ascending ranges: halving finds the one that holds a cell, and a partition more takes its place among them.
use Rattle.std.proofs.Common.{◌≡◌, ℕ, zero, suc, ◌+◌, ◌-◌, ◌<◌, ◌≤◌, Bool, true, false, cond, not, ◌&&◌, ◌||◌, List, [], ◌∷◌, ◌++◌, Option, Some, None, length, nat_eq, slice_index_or, refl, sym, ap, ◌∙◌, subst, arith, add-one}
use Rattle.std.proofs.lemmas.Bool.Decides.{nat_tests}
use Rattle.std.specs.List.{list_any, list_all, AllByRecursion}
use Rattle.std.specs.List.Sorted.{IsPartitionedBy, IsPartitionPoint}
use Rattle.dl_values.specs.declared.cell.Cell.{Cell}
use Rattle.partitions.specs.LayoutView.{whole_part}
use Rattle.partitions.specs.Places.{is_below, from_low, to_high, low_end, high_end, in_range, next_part, first_part}
use Rattle.partitions.specs.Ranges.{are_apart, ends_before, ends_rise}
use Rattle.partitions.specs.Search.{AreAscending, IsOrder, bounds_at, lies_before}
use Rattle.partitions.specs.declared.part_def.PartDef.{PartDef}
use Rattle.partitions.specs.declared.part_def.Bounds.{Bounds}
use Rattle.partitions.proofs.Apart.{below_trans, between, ended}
use Rattle.partitions.proofs.Bools.{and_left, and_right, both, never, not_true, other, all_at}

-- ---- three ranges

abbrev starts : Bounds → Cell → Bool
starts b x = from_low (low_end b) x

abbrev ends : Bounds → Cell → Bool
ends b x = to_high (high_end b) x

abbrev pub rises : Bounds → Bool
rises b = ends_rise (low_end b) (high_end b)

-- a cell that a later range starts by is past an earlier one
past : (a b : Bounds) (x : Cell) → lies_before a b ≡ true → starts b x ≡ true → ends a x ≡ false
past a b x l s = never (ends a x) (λ e. ended (high_end a) (low_end b) x l e s)

started : (la ha lb : Option Cell) (x : Cell) → ends_rise la ha ≡ true → ends_before ha lb ≡ true → from_low lb x ≡ true → from_low la x ≡ true
started None ha lb x r l s = refl
started (Some la) None lb x r l s = absurd (cc)
started (Some la) (Some ha) None x r l s = absurd (cc)
started (Some la) (Some ha) (Some lb) x r l s = go (is_below x la) refl
  where
    go : (b : Bool) → is_below x la ≡ b → not b ≡ true
    go true e = absurd (let k = between x lb ha (below_trans x la ha e r) s in let n : not (is_below lb ha) ≡ false = ap not k in cc (n, l))
    go false e = refl

-- and the earlier one has started too
starts_too : (a b : Bounds) (x : Cell) → rises a ≡ true → lies_before a b ≡ true → starts b x ≡ true → starts a x ≡ true
starts_too a b x r l s = started (low_end a) (high_end a) (low_end b) x r l s

before_all : (ph el eh ml : Option Cell) → ends_before ph el ≡ true → ends_rise el eh ≡ true → ends_before eh ml ≡ true → ends_before ph ml ≡ true
before_all None el eh ml a r b = absurd (cc)
before_all (Some ph) None eh ml a r b = absurd (cc)
before_all (Some ph) (Some el) None ml a r b = absurd (cc)
before_all (Some ph) (Some el) (Some eh) None a r b = absurd (cc)
before_all (Some ph) (Some el) (Some eh) (Some ml) a r b = go (is_below ml ph) refl
  where
    low : (c : Bool) → is_below ml el ≡ c → not c ≡ true
    low true e = absurd (let k : not (is_below ml eh) ≡ false = ap not (below_trans ml el eh e r) in cc (k, b))
    low false e = refl

    go : (c : Bool) → is_below ml ph ≡ c → not c ≡ true
    go true e = absurd (let k = between ml el ph e (low (is_below ml el) refl) in let n : not (is_below el ph) ≡ false = ap not k in cc (n, a))
    go false e = refl

-- what lies before a range lies before those behind it
pub before_later : (p e m : Bounds) → lies_before p e ≡ true → rises e ≡ true → lies_before e m ≡ true → lies_before p m ≡ true
before_later p e m a r b = before_all (high_end p) (low_end e) (high_end e) (low_end m) a r b

-- ---- halving

module _ (parts : List PartDef) (x : Cell) where
  abbrev pub started_at : ℕ → Bool
  started_at n = starts (bounds_at parts n) x

  abbrev pub ended_at : ℕ → Bool
  ended_at n = ends (bounds_at parts n) x

  abbrev holds_at : ℕ → Bool
  holds_at n = in_range (bounds_at parts n) x

  -- the first of these numbers whose partition holds the cell
  abbrev holder : List ℕ → Option ℕ
  holder [] = None
  holder (n ∷ ns) = cond (holds_at n) (Some n) (holder ns)

  all_started : (n : ℕ) (ns : List ℕ) → rises (bounds_at parts n) ≡ true → AllByRecursion (λ m. lies_before (bounds_at parts n) (bounds_at parts m) ≡ true) ns → (j : ℕ) (d : ℕ) → j < length ns → started_at (slice_index_or ns j d) ≡ true → started_at n ≡ true
  all_started n [] r a j d l s = absurd (omega arith)
  all_started n (m ∷ ns) r a zero d l s = starts_too (bounds_at parts n) (bounds_at parts m) x r a.0 s
  all_started n (m ∷ ns) r a (suc j) d l s = all_started n ns r a.1 j d (omega arith) s

  pub are_started : (ns : List ℕ) → AreAscending parts ns → IsPartitionedBy started_at ns
  are_started [] a i j d l k s = absurd (omega arith)
  are_started (n ∷ ns) a zero zero d l k s = s
  are_started (n ∷ ns) a zero (suc j) d l k s = all_started n ns a.1 a.2 j d (omega arith) s
  are_started (n ∷ ns) a (suc i) zero d l k s = absurd (omega arith)
  are_started (n ∷ ns) a (suc i) (suc j) d l k s = are_started ns a.3 i j d (omega arith) (omega arith) s

  -- the number before the point where halving ends, where its partition has not ended
  abbrev pub halved : List ℕ → ℕ → Option ℕ
  halved ns zero = None
  halved ns (suc i) = cond (ended_at (slice_index_or ns i 0)) (Some (slice_index_or ns i 0)) None

  past_at : (n : ℕ) (ns : List ℕ) → AllByRecursion (λ m. lies_before (bounds_at parts n) (bounds_at parts m) ≡ true) ns → (j : ℕ) → j < length ns → started_at (slice_index_or ns j 0) ≡ true → ended_at n ≡ false
  past_at n [] a j l s = absurd (omega arith)
  past_at n (m ∷ ns) a zero l s = past (bounds_at parts n) (bounds_at parts m) x a.0 s
  past_at n (m ∷ ns) a (suc j) l s = past_at n ns a.1 j (omega arith) s

  holder_not : (n : ℕ) (ns : List ℕ) → holds_at n ≡ false → holder (n ∷ ns) ≡ holder ns
  holder_not n ns e = rw e refl

  not_started : (n : ℕ) → started_at n ≡ false → holds_at n ≡ false
  not_started n e = rw e refl

  not_ended : (a b : Bool) → b ≡ false → (a && b) ≡ false
  not_ended true b e = e
  not_ended false b e = refl

  none_holds : (ns : List ℕ) → ((k : ℕ) → k < length ns → started_at (slice_index_or ns k 0) ≡ false) → holder ns ≡ None
  none_holds [] h = refl
  none_holds (n ∷ ns) h = holder_not n ns (not_started n (h 0 (omega arith))) ∙ none_holds ns (λ k l. h (suc k) (omega arith))

  pub halved_is : (ns : List ℕ) (i : ℕ) → AreAscending parts ns → i ≤ length ns → ((k : ℕ) → k < i → started_at (slice_index_or ns k 0) ≡ true) → ((k : ℕ) → i ≤ k → k < length ns → started_at (slice_index_or ns k 0) ≡ false) → halved ns i ≡ holder ns
  halved_is ns zero a l s f = sym (none_holds ns (λ k m. f k (omega arith) m))
  halved_is [] (suc i) a l s f = absurd (omega arith)
  halved_is (n ∷ ns) (suc zero) a l s f =
      let e : holds_at n ≡ ended_at n = rw (s 0 (omega arith)) refl in
      sym (ap (λ (b : Bool). cond b (Some n) (holder ns)) e ∙ ap (λ (o : Option ℕ). cond (ended_at n) (Some n) o) (none_holds ns (λ k m. f (suc k) (omega arith) (omega arith))))
  halved_is (n ∷ ns) (suc (suc i)) a l s f =
      halved_is ns (suc i) a.3 (omega arith) (λ k m. s (suc k) (omega arith)) (λ k m q. f (suc k) (omega arith) (omega arith))
      ∙ sym (holder_not n ns (not_ended (started_at n) (ended_at n) (past_at n ns a.2 i (omega arith) (s (suc i) (omega arith)))))

  -- ---- the one partition that holds the cell

  abbrev has : List ℕ → ℕ → Bool
  has ns m = list_any (λ k. nat_eq k m) ns

  -- what holds of each number holds of one among them
  of_one : (P : ℕ → Type 0) (ns : List ℕ) (m : ℕ) → AllByRecursion P ns → has ns m ≡ true → P m
  of_one P [] m a h = absurd (cc)
  of_one P (n ∷ ns) m a h = go (nat_eq n m) refl (λ k. of_one P ns m a.1 k)
    where
      go : (b : Bool) → nat_eq n m ≡ b → (has ns m ≡ true → P m) → P m
      go true e rest = let i : n ≡ m = grind (arith, nat_tests) in subst P i a.0
      go false e rest = rest (other (nat_eq n m) (has ns m) h e)

  no_more : (n : ℕ) (ns : List ℕ) → AreAscending parts (n ∷ ns) → holds_at n ≡ true → AllByRecursion (λ m. holds_at m ≡ false) ns
  no_more n [] a h = tt
  no_more n (m ∷ ns) a h = (never (holds_at m) (λ k. ended (high_end (bounds_at parts n)) (low_end (bounds_at parts m)) x a.2.0 (and_right (started_at n) (ended_at n) h) (and_left (started_at m) (ended_at m) k)), no_more n ns (a.0, a.1, a.2.1, a.3.3) h)

  holder_has : (ns : List ℕ) (n : ℕ) → holder ns ≡ Some n → (has ns n ≡ true) × (holds_at n ≡ true)
  holder_has [] n e = absurd (cc)
  holder_has (m ∷ ns) n e = go (holds_at m) refl e (λ f. holder_has ns n f)
    where
      or_right : (a b : Bool) → b ≡ true → (a || b) ≡ true
      or_right true b e = refl
      or_right false b e = e

      go : (b : Bool) → holds_at m ≡ b → cond b (Some m) (holder ns) ≡ Some n → (holder ns ≡ Some n → (has ns n ≡ true) × (holds_at n ≡ true)) → (has (m ∷ ns) n ≡ true) × (holds_at n ≡ true)
      go true f g rest = let i : m ≡ n = cc in let self : nat_eq m n ≡ true = grind (arith, nat_tests) in (rw self refl, ap holds_at (sym i) ∙ f)
      go false f g rest = let k = rest g in (or_right (nat_eq m n) (has ns n) k.0, k.1)

  holder_none : (ns : List ℕ) → holder ns ≡ None → AllByRecursion (λ m. holds_at m ≡ false) ns
  holder_none [] e = tt
  holder_none (m ∷ ns) e = go (holds_at m) refl e (λ f. holder_none ns f)
    where
      go : (b : Bool) → holds_at m ≡ b → cond b (Some m) (holder ns) ≡ None → (holder ns ≡ None → AllByRecursion (λ k. holds_at k ≡ false) ns) → AllByRecursion (λ k. holds_at k ≡ false) (m ∷ ns)
      go true f g rest = absurd (cc)
      go false f g rest = (f, rest g)

  one_holds : (ns : List ℕ) → AreAscending parts ns → (n m : ℕ) → has ns n ≡ true → has ns m ≡ true → holds_at n ≡ true → holds_at m ≡ true → n ≡ m
  one_holds [] a n m p q h k = absurd (cc)
  one_holds (i ∷ ns) a n m p q h k = go (nat_eq i n) (nat_eq i m) refl refl (λ u v. one_holds ns a.3 n m u v h k)
    where
      go : (b c : Bool) → nat_eq i n ≡ b → nat_eq i m ≡ c → (has ns n ≡ true → has ns m ≡ true → n ≡ m) → n ≡ m
      go true true e f rest = grind (arith, nat_tests)
      go true false e f rest =
          let w : i ≡ n = grind (arith, nat_tests) in
          absurd (let z = of_one (λ j. holds_at j ≡ false) ns m (no_more i ns a (ap holds_at w ∙ h)) (other (nat_eq i m) (has ns m) q f) in cc (z, k))
      go false true e f rest =
          let w : i ≡ m = grind (arith, nat_tests) in
          absurd (let z = of_one (λ j. holds_at j ≡ false) ns n (no_more i ns a (ap holds_at w ∙ k)) (other (nat_eq i n) (has ns n) p e) in cc (z, h))
      go false false e f rest = rest (other (nat_eq i n) (has ns n) p e) (other (nat_eq i m) (has ns m) q f)

-- the first partition that passes, where one does and no other, or none does
first_is : (test : PartDef → Bool) (d : PartDef) (ps : List PartDef) (n : ℕ) → n < length ps → test (slice_index_or ps n d) ≡ true → ((m : ℕ) → m < n → test (slice_index_or ps m d) ≡ false) → first_part test ps ≡ Some n
first_is test d [] n l t f = absurd (omega arith)
first_is test d (p ∷ ps) zero l t f = rw t refl
first_is test d (p ∷ ps) (suc n) l t f =
    let e : test p ≡ false = f 0 (omega arith) in
    let rest = first_is test d ps n (omega arith) t (λ m k. f (suc m) (omega arith)) in
    rw e (ap next_part rest ∙ rw add-one refl)

first_none : (test : PartDef → Bool) (d : PartDef) (ps : List PartDef) → ((m : ℕ) → m < length ps → test (slice_index_or ps m d) ≡ false) → first_part test ps ≡ None
first_none test d [] f = refl
first_none test d (p ∷ ps) f = let e : test p ≡ false = f 0 (omega arith) in rw e (ap next_part (first_none test d ps (λ m k. f (suc m) (omega arith))))

ascending_within : (parts : List PartDef) (ns : List ℕ) → AreAscending parts ns → AllByRecursion (λ n. n < length parts) ns
ascending_within parts [] a = tt
ascending_within parts (n ∷ ns) a = (a.0, ascending_within parts ns a.3)

-- what halving finds is the first partition that holds the cell
pub holder_is_first : (parts : List PartDef) (order : List ℕ) (x : Cell) → IsOrder parts order → holder parts x order ≡ first_part (λ (p : PartDef). in_range p.bounds x) parts
holder_is_first parts order x o = go (holder parts x order) refl
  where
    go : (f : Option ℕ) → holder parts x order ≡ f → f ≡ first_part (λ (p : PartDef). in_range p.bounds x) parts
    go None e = sym (first_none (λ (p : PartDef). in_range p.bounds x) (whole_part []) parts (λ m l. of_one parts x (λ k. holds_at parts x k ≡ false) order m (holder_none parts x order e) (o.all m l)))
    go (Some n) e =
        let k = holder_has parts x order n e in
        let within = of_one parts x (λ m. m < length parts) order n (ascending_within parts order o.ascends) k.0 in
        sym (first_is (λ (p : PartDef). in_range p.bounds x) (whole_part []) parts n within k.1
        (λ m l. never (holds_at parts x m) (λ h. let same = one_holds parts x order o.ascends m n (o.all m (omega (arith, within))) k.0 h k.1 in omega (arith, same))))

-- where the numbers up to a point are those whose partitions have started
pub halving_finds : (parts : List PartDef) (order : List ℕ) (x : Cell) (i : ℕ) → IsOrder parts order → i ≤ length order → IsPartitionPoint (λ n. started_at parts x n ≡ true) (λ n. started_at parts x n ≡ false) order i → halved parts x order i ≡ first_part (λ (p : PartDef). in_range p.bounds x) parts
halving_finds parts order x i o l point = halved_is parts x order i o.ascends l (λ k m. point.0 k 0 (omega arith) m) (λ k m q. point.1 k 0 m q) ∙ holder_is_first parts order x o

halved_before : (parts : List PartDef) (x : Cell) (order : List ℕ) (i : ℕ) → (i ≡ 0 → ⊥) → halved parts x order i ≡ cond (ended_at parts x (slice_index_or order (i - 1) 0)) (Some (slice_index_or order (i - 1) 0)) None
halved_before parts x order zero h = absurd (h refl)
halved_before parts x order (suc i) h = let e : suc i - 1 ≡ i = omega arith in rw e refl

pub found_none : (parts : List PartDef) (order : List ℕ) (x : Cell) (i : ℕ) → i ≡ 0 → halved parts x order i ≡ None
found_none parts order x zero e = refl
found_none parts order x (suc i) e = absurd (omega arith)

pub found_some : (parts : List PartDef) (order : List ℕ) (x : Cell) (i : ℕ) → (i ≡ 0 → ⊥) → ended_at parts x (slice_index_or order (i - 1) 0) ≡ true → halved parts x order i ≡ Some (slice_index_or order (i - 1) 0)
found_some parts order x i h e = halved_before parts x order i h ∙ rw e refl

pub found_past : (parts : List PartDef) (order : List ℕ) (x : Cell) (i : ℕ) → (i ≡ 0 → ⊥) → ended_at parts x (slice_index_or order (i - 1) 0) ≡ false → halved parts x order i ≡ None
found_past parts order x i h e = halved_before parts x order i h ∙ rw e refl
