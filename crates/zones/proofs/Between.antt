-- What passes a test is between ends that may match it.
use Rattle.std.proofs.Common.{◌≡◌, ◌⊎◌, inl, inr, Bool, true, false, not, ◌&&◌, ◌||◌, List, [], ◌∷◌, refl, sym, ap, ap₂, ◌∙◌}
use Rattle.std.proofs.lemmas.Bool.{and_parts}
use Rattle.std.proofs.lemmas.Cmp.{tied_itself}
use Rattle.std.specs.List.{list_any}
use Rattle.std.specs.Ordering.{is_eq, is_ge, is_gt, is_le, is_lt}
use Rattle.std.specs.declared.cmp.Ordering.{Ordering}
use Rattle.std.specs.declared.cmp.Ordering.TheVariants.{Less, Equal, Greater}
use Rattle.dl_values.specs.Order.{cell_cmp}
use Rattle.dl_values.specs.OrderLemmas.{cells_total}
use Rattle.dl_values.specs.declared.cell.Cell.{Cell}
use Rattle.dl_values.specs.declared.cell.Cell.TheVariants as cell
use Rattle.zones.specs.Ends.{AreEnds, EndsView, Holds, between, compares_between, may_match}
use Rattle.zones.specs.Tests.{by_order, compares, is_null, passes}
use Rattle.zones.specs.declared.test.Op.{Op}
use Rattle.zones.specs.declared.test.Op.TheVariants as op
use Rattle.zones.proofs.Bounds.{down_to_above, down_to_down_to, up_to_below, up_to_up_to}

both : (a b : Bool) → a ≡ true → b ≡ true → (a && b) ≡ true
both a b e f = ap₂ (λ x y. x && y) e f

-- ---- orderings

le_gt : (c : Ordering) → is_le c ≡ true → is_gt c ≡ false
le_gt Less e = refl
le_gt Equal e = refl
le_gt Greater e = cc

ge_lt : (c : Ordering) → is_ge c ≡ true → is_lt c ≡ false
ge_lt Less e = cc
ge_lt Equal e = refl
ge_lt Greater e = refl

gt_le : (c : Ordering) → not (is_gt c) ≡ true → is_le c ≡ true
gt_le Less e = refl
gt_le Equal e = refl
gt_le Greater e = cc

lt_ge : (c : Ordering) → not (is_lt c) ≡ true → is_ge c ≡ true
lt_ge Less e = cc
lt_ge Equal e = refl
lt_ge Greater e = refl

eq_gt : (c : Ordering) → is_eq c ≡ true → is_gt c ≡ false
eq_gt Less e = cc
eq_gt Equal e = refl
eq_gt Greater e = cc

eq_lt : (c : Ordering) → is_eq c ≡ true → is_lt c ≡ false
eq_lt Less e = cc
eq_lt Equal e = refl
eq_lt Greater e = cc

is_same : (c : Ordering) → is_gt c ≡ false → is_lt c ≡ false → is_eq c ≡ true
is_same Less e f = cc
is_same Equal e f = refl
is_same Greater e f = cc

not_true : (b : Bool) → b ≡ false → not b ≡ true
not_true b e = ap not e

-- ---- nulls

null_least : (a x : Cell) → is_gt (cell_cmp a x) ≡ false → is_null x ≡ true → is_null a ≡ true
null_least cell.Null x h e = refl
null_least (cell.Int n) cell.Null h e = cc
null_least (cell.Int n) (cell.Int m) h e = cc
null_least (cell.Int n) (cell.Day m) h e = cc
null_least (cell.Int n) (cell.Text m) h e = cc
null_least (cell.Day n) cell.Null h e = cc
null_least (cell.Day n) (cell.Int m) h e = cc
null_least (cell.Day n) (cell.Day m) h e = cc
null_least (cell.Day n) (cell.Text m) h e = cc
null_least (cell.Text n) cell.Null h e = cc
null_least (cell.Text n) (cell.Int m) h e = cc
null_least (cell.Text n) (cell.Day m) h e = cc
null_least (cell.Text n) (cell.Text m) h e = cc

some_greatest : (b x : Cell) → is_lt (cell_cmp b x) ≡ false → not (is_null x) ≡ true → not (is_null b) ≡ true
some_greatest cell.Null cell.Null h e = cc
some_greatest cell.Null (cell.Int m) h e = cc
some_greatest cell.Null (cell.Day m) h e = cc
some_greatest cell.Null (cell.Text m) h e = cc
some_greatest (cell.Int n) x h e = refl
some_greatest (cell.Day n) x h e = refl
some_greatest (cell.Text n) x h e = refl

-- ---- one cell

module _ (l : Cell) (e : EndsView) (x : Cell) (h : Holds e x) where
  abbrev a : Ordering
  a = cell_cmp e.least l

  abbrev b : Ordering
  b = cell_cmp e.greatest l

  low : is_gt (cell_cmp x l) ≡ false → is_gt a ≡ false
  low f = up_to_up_to cells_total e.least x l h.0 f

  high : is_lt (cell_cmp x l) ≡ false → is_lt b ≡ false
  high f = down_to_down_to cells_total e.greatest x l h.1 f

  -- where both ends are as the literal, each cell between them is
  unequal : is_eq (cell_cmp x l) ≡ false → (c d : Bool) → is_eq a ≡ c → is_eq b ≡ d → (not c || not d) ≡ true
  unequal f false d p q = refl
  unequal f true false p q = refl
  unequal f true true p q =
      let up : is_gt (cell_cmp x l) ≡ false = go in
      let down : is_lt (cell_cmp x l) ≡ false = back in
      let g = is_same (cell_cmp x l) up down in cc
    where
      above : (z : Bool) → is_gt (cell_cmp x l) ≡ z → z ≡ false
      above true k = let g = down_to_above cells_total e.greatest x l h.1 k in let n = eq_gt b q in cc
      above false k = refl

      below : (z : Bool) → is_lt (cell_cmp x l) ≡ z → z ≡ false
      below true k = let g = up_to_below cells_total e.least x l h.0 k in let n = eq_lt a p in cc
      below false k = refl

      go : is_gt (cell_cmp x l) ≡ false
      go = above (is_gt (cell_cmp x l)) refl

      back : is_lt (cell_cmp x l) ≡ false
      back = below (is_lt (cell_cmp x l)) refl

  ordered : (o : Op) → by_order o (cell_cmp x l) ≡ true → between o a b ≡ true
  ordered op.Eq f = both (not (is_gt a)) (not (is_lt b)) (not_true (is_gt a) (low (eq_gt (cell_cmp x l) f))) (not_true (is_lt b) (high (eq_lt (cell_cmp x l) f)))
  ordered op.Ne f = unequal (not_back (is_eq (cell_cmp x l)) f) (is_eq a) (is_eq b) refl refl
    where
      not_back : (z : Bool) → not z ≡ true → z ≡ false
      not_back true k = cc
      not_back false k = refl
  ordered op.Lt f = up_to_below cells_total e.least x l h.0 f
  ordered op.Le f = not_true (is_gt a) (low (le_gt (cell_cmp x l) f))
  ordered op.Gt f = down_to_above cells_total e.greatest x l h.1 f
  ordered op.Ge f = not_true (is_lt b) (high (ge_lt (cell_cmp x l) f))
  ordered op.IsNull f = cc
  ordered op.IsNotNull f = cc

  compared : (o : Op) → compares o l x ≡ true → compares_between o l e ≡ true
  compared o f =
      let p = and_parts (not (is_null l)) (not (is_null x) && by_order o (cell_cmp x l)) f in
      let q = and_parts (not (is_null x)) (by_order o (cell_cmp x l)) p.1 in
      both (not (is_null l)) (not (is_null e.greatest) && between o a b) p.0
      (both (not (is_null e.greatest)) (between o a b) (some_greatest e.greatest x h.1 q.0) (ordered o q.1))

  one : (o : Op) → passes o l x ≡ true → may_match o l e ≡ true
  one op.Eq f = compared op.Eq f
  one op.Ne f = compared op.Ne f
  one op.Lt f = compared op.Lt f
  one op.Le f = compared op.Le f
  one op.Gt f = compared op.Gt f
  one op.Ge f = compared op.Ge f
  one op.IsNull f = null_least e.least x h.0 f
  one op.IsNotNull f = some_greatest e.greatest x h.1 f

-- ---- lists of cells

pub found : (o : Op) (l : Cell) (e : EndsView) (cells : List Cell) → AreEnds e cells → list_any (passes o l) cells ≡ true → may_match o l e ≡ true
found o l e [] a h = cc
found o l e (x ∷ xs) a h = go (λ k. found o l e xs a.1 k) (passes o l x) refl h
  where
    go : (list_any (passes o l) xs ≡ true → may_match o l e ≡ true) → (b : Bool) → passes o l x ≡ b → (b || list_any (passes o l) xs) ≡ true → may_match o l e ≡ true
    go rest true f h = one l e x a.0 o f
    go rest false f h = rest h

-- ---- ends that may match

abbrev Match : Op → Cell → EndsView → Type 0
Match o l e = (passes o l e.least ≡ true) ⊎ ((passes o l e.greatest ≡ true) ⊎ (passes o l l ≡ true))

module _ (l : Cell) (e : EndsView) (n : is_null e.least ≡ false) where
  at_least : (o : Op) → not (is_null l) ≡ true → by_order o (cell_cmp e.least l) ≡ true → compares o l e.least ≡ true
  at_least o p q = both (not (is_null l)) (not (is_null e.least) && by_order o (cell_cmp e.least l)) p (both (not (is_null e.least)) (by_order o (cell_cmp e.least l)) (not_true (is_null e.least) n) q)

  at_greatest : (o : Op) → not (is_null l) ≡ true → not (is_null e.greatest) ≡ true → by_order o (cell_cmp e.greatest l) ≡ true → compares o l e.greatest ≡ true
  at_greatest o p r q = both (not (is_null l)) (not (is_null e.greatest) && by_order o (cell_cmp e.greatest l)) p (both (not (is_null e.greatest)) (by_order o (cell_cmp e.greatest l)) r q)

  parts : (o : Op) → compares_between o l e ≡ true → (not (is_null l) ≡ true) × (not (is_null e.greatest) ≡ true) × (between o (cell_cmp e.least l) (cell_cmp e.greatest l) ≡ true)
  parts o h =
      let p = and_parts (not (is_null l)) (not (is_null e.greatest) && between o (cell_cmp e.least l) (cell_cmp e.greatest l)) h in
      let q = and_parts (not (is_null e.greatest)) (between o (cell_cmp e.least l) (cell_cmp e.greatest l)) p.1 in
      (p.0, q.0, q.1)

  one_end : (c : Bool) → is_eq (cell_cmp e.least l) ≡ c → compares_between op.Ne l e ≡ true → Match op.Ne l e
  one_end false p h = inl (at_least op.Ne (parts op.Ne h).0 (not_true (is_eq (cell_cmp e.least l)) p))
  one_end true p h =
      let k : not (is_eq (cell_cmp e.greatest l)) ≡ true = sym (ap (λ z. not z || not (is_eq (cell_cmp e.greatest l))) p) ∙ (parts op.Ne h).2 in
      inr (inl (at_greatest op.Ne (parts op.Ne h).0 (parts op.Ne h).1 k))

  pub matched : (o : Op) → may_match o l e ≡ true → Match o l e
  matched op.Eq h =
      let p = (parts op.Eq h).0 in
      let t : is_eq (cell_cmp l l) ≡ true = ap is_eq (tied_itself cells_total l) in
      inr (inr (both (not (is_null l)) (not (is_null l) && is_eq (cell_cmp l l)) p (both (not (is_null l)) (is_eq (cell_cmp l l)) p t)))
  matched op.Ne h = one_end (is_eq (cell_cmp e.least l)) refl h
  matched op.Lt h = inl (at_least op.Lt (parts op.Lt h).0 (parts op.Lt h).2)
  matched op.Le h = inl (at_least op.Le (parts op.Le h).0 (gt_le (cell_cmp e.least l) (parts op.Le h).2))
  matched op.Gt h = inr (inl (at_greatest op.Gt (parts op.Gt h).0 (parts op.Gt h).1 (parts op.Gt h).2))
  matched op.Ge h = inr (inl (at_greatest op.Ge (parts op.Ge h).0 (parts op.Ge h).1 (lt_ge (cell_cmp e.greatest l) (parts op.Ge h).2)))
  matched op.IsNull h = inl h
  matched op.IsNotNull h = inr (inl h)
