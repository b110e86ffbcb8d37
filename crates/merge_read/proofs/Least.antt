-- The first of the heads by key and age is the row that comes next.
use Rattle.std.proofs.Common.{◌≡◌, ℕ, ◌+◌, ◌<◌, ◌∙◌, Bool, true, false, cond, nat_eq, nat_lt, List, [], ◌∷◌, length, drop, get_or, refl, ap, ap₂, sym, arith}
use Rattle.std.proofs.lemmas.Bool.Decides.{nat_tests}
use Rattle.std.specs.BinaryHeap.{IsUpperBound}
use Rattle.std.specs.List.{AllByRecursion}
use Rattle.std.specs.Ordering.{is_gt, is_lt, nat_cmp, ordering_reverse, ordering_then}
use Rattle.std.specs.declared.cmp.Ordering.{Ordering}
use Rattle.std.specs.declared.cmp.Ordering.TheVariants.{Less, Equal, Greater}
use Rattle.dl_values.specs.Order.{row_cmp}
use Rattle.dl_values.specs.OrderLemmas.{rows_total}
use Rattle.dl_values.specs.declared.cell.Cell.{Cell}
use Rattle.fold_laws.specs.Fold.{HeadAbove, HeadFrom}
use Rattle.schema_models.specs.Folds.{key_of}
use Rattle.schema_models.specs.ShapeView.{ShapeView}
use Rattle.merge_read.proofs.Each.{all_places}
use Rattle.merge_read.specs.HeadOrder.{head_cmp, head_key}
use Rattle.merge_read.specs.Rests.{AreHeads, IsHead, IsLeast, RowList, heads_at, some_row}
use Rattle.merge_read.specs.declared.head.Head.{Head}

differ : {A : Type 0} → true ≡ false → A
differ e = cc

abbrev here : ℕ → ℕ → ℕ
here i j = cond (nat_eq i j) 1 0

-- one of the heads is of a list, and has what all of them have
record Found (P : Head → Type 0) (j : ℕ) : Type 0 where
  pub head : Head
  pub list : head.list ≡ j
  pub has : P head

found : (P : Head → Type 0) (j : ℕ) (items : List Head) → heads_at j items ≡ 1 → AllByRecursion P items → Found P j
found P j [] e a = cc
found P j (x ∷ xs) e a = go (nat_eq x.list j) refl (λ f. found P j xs f a.1)
  where
    is_here : (m n : ℕ) → nat_eq m n ≡ true → m ≡ n
    is_here m n h = grind (arith, nat_tests)

    skip : (b c : ℕ) → b ≡ 0 → b + c ≡ 1 → c ≡ 1
    skip b c p q = omega arith

    go : (b : Bool) → nat_eq x.list j ≡ b → (heads_at j xs ≡ 1 → Found P j) → Found P j
    go true t rest = record { head = x; list = is_here x.list j t; has = a.0 }
    go false t rest = rest (skip (here x.list j) (heads_at j xs) (ap (λ (b : Bool). cond b 1 0) t) e)

-- how a later head stands to the first
is_from : (a b : List Cell) (o : Ordering) (rest : Ordering) → row_cmp b a ≡ o → is_lt (ordering_then o rest) ≡ false → is_gt (row_cmp a b) ≡ false
is_from a b Less rest e h = differ h
is_from a b Equal rest e h = ap is_gt (rows_total.antisymm a b ∙ ap ordering_reverse e)
is_from a b Greater rest e h = ap is_gt (rows_total.antisymm a b ∙ ap ordering_reverse e)

is_above : (a b : List Cell) (o : Ordering) (rest : Ordering) → row_cmp b a ≡ o → rest ≡ Less → is_lt (ordering_then o rest) ≡ false → row_cmp a b ≡ Less
is_above a b Less rest e l h = differ h
is_above a b Equal rest e l h = differ (sym (ap is_lt l) ∙ h)
is_above a b Greater rest e l h = rows_total.antisymm a b ∙ ap ordering_reverse e

itself : (a : List Cell) → is_gt (row_cmp a a) ≡ false
itself a = go (row_cmp a a) refl
  where
    go : (o : Ordering) → row_cmp a a ≡ o → is_gt (row_cmp a a) ≡ false
    go Less e = ap is_gt e
    go Equal e = ap is_gt e
    go Greater e = absurd (turn (sym e ∙ rows_total.antisymm a a ∙ ap ordering_reverse e))
      where
        turn : Greater ≡ Less → ⊥
        turn d = cc

below : (i j : ℕ) → i < j → nat_cmp i j ≡ Less
below i j l = grind (arith, nat_tests)

module _ (s : ShapeView) (rests : List RowList) (h : Head) (others : List Head) (a : AreHeads s (length rests) rests (h ∷ others)) (u : IsUpperBound head_cmp h others) where
  -- a head, and not before the first
  record IsLater (x : Head) : Type 0 where
    pub head : IsHead s rests x
    pub not_less : is_lt (head_cmp h x) ≡ false

  later : (xs : List Head) → AllByRecursion (IsHead s rests) xs → IsUpperBound head_cmp h xs → AllByRecursion IsLater xs
  later [] p q = tt
  later (x ∷ xs) p q = (record { head = p.0; not_less = q.0 }, later xs p.1 q.1)

  is_early : (i m : ℕ) → i < m → nat_lt i m ≡ true
  is_early i m l = grind (arith, nat_tests)

  counted : (j : ℕ) → j < length rests → (y : List Cell) (ys : RowList) → get_or rests j [] ≡ y ∷ ys → heads_at j (h ∷ others) ≡ 1
  counted j l y ys e = a.counted j l ∙ ap (λ (b : Bool). cond b (some_row (get_or rests j [])) 0) (is_early j (length rests) l) ∙ ap (λ (r : RowList). some_row r) e

  other : (j : ℕ) → j < length rests → (y : List Cell) (ys : RowList) → get_or rests j [] ≡ y ∷ ys → (h.list ≡ j → ⊥) → Found IsLater j
  other j l y ys e n = found IsLater j others (skip (here h.list j) (heads_at j others) (no_here h.list j n) (counted j l y ys e)) (later others a.right.1 u)
    where
      skip : (b c : ℕ) → b ≡ 0 → b + c ≡ 1 → c ≡ 1
      skip b c p q = omega arith

      no_test : (m k : ℕ) → (m ≡ k → ⊥) → nat_eq m k ≡ false
      no_test m k d = grind (arith, nat_tests)

      no_here : (m k : ℕ) → (m ≡ k → ⊥) → here m k ≡ 0
      no_here m k d = ap (λ (b : Bool). cond b 1 0) (no_test m k d)

  -- the row of a head
  row_of_head : (x : Head) (j : ℕ) (y : List Cell) (ys : RowList) → IsHead s rests x → x.list ≡ j → get_or rests j [] ≡ y ∷ ys → head_key x ≡ key_of s y
  row_of_head x j y ys p q e =
      let same : x.row ∷ drop 1 (get_or rests x.list []) ≡ y ∷ ys = sym p.is ∙ ap (λ k. get_or rests k []) q ∙ e in
      let row : x.row ≡ y = cc in
      sym p.key ∙ ap (λ (r : List Cell). key_of s r) row

  from_at : (j : ℕ) → j < length rests → (r : RowList) → get_or rests j [] ≡ r → HeadFrom row_cmp (key_of s) (key_of s h.row) r
  from_at j l [] e = tt
  from_at j l (y ∷ ys) e = go (nat_eq h.list j) refl
    where
      is_here : (m n : ℕ) → nat_eq m n ≡ true → m ≡ n
      is_here m n t = grind (arith, nat_tests)

      is_other : (m n : ℕ) → nat_eq m n ≡ false → m ≡ n → ⊥
      is_other m n t f = grind (arith, nat_tests)

      go : (b : Bool) → nat_eq h.list j ≡ b → is_gt (row_cmp (key_of s h.row) (key_of s y)) ≡ false
      go true t = ap (λ (k : List Cell). is_gt (row_cmp (key_of s h.row) k)) (sym (a.right.0.key ∙ row_of_head h j y ys a.right.0 (is_here h.list j t) e)) ∙ itself (key_of s h.row)
      go false t =
          let f : Found IsLater j = other j l y ys e (is_other h.list j t) in
          ap₂ (λ (m n : List Cell). is_gt (row_cmp m n)) a.right.0.key (sym (row_of_head f.head j y ys f.has.head f.list e))
          ∙ is_from (head_key h) (head_key f.head) (row_cmp (head_key f.head) (head_key h)) (nat_cmp f.head.list h.list) refl f.has.not_less

  above_at : (j : ℕ) → j < h.list → j < length rests → (r : RowList) → get_or rests j [] ≡ r → HeadAbove row_cmp (key_of s) (key_of s h.row) r
  above_at j b l [] e = tt
  above_at j b l (y ∷ ys) e =
      let f : Found IsLater j = other j l y ys e (λ t. apart h.list j t b) in
      ap₂ (λ (m n : List Cell). row_cmp m n) a.right.0.key (sym (row_of_head f.head j y ys f.has.head f.list e))
      ∙ is_above (head_key h) (head_key f.head) (row_cmp (head_key f.head) (head_key h)) (nat_cmp f.head.list h.list) refl (ap (λ k. nat_cmp k h.list) f.list ∙ below j h.list b) f.has.not_less
    where
      apart : (m n : ℕ) → m ≡ n → n < m → ⊥
      apart m n t g = omega arith

  pub least : IsLeast s rests h
  least = record {
    head = a.right.0;
    from = λ j l. from_at j l (get_or rests j []) refl;
    before = λ j b. above_at j b (omega (arith, a.right.0.within)) (get_or rests j []) refl;
  }

-- where there is no head, nothing is left
pub none_left : (s : ShapeView) (rests : List RowList) → AreHeads s (length rests) rests [] → AllByRecursion (λ (r : RowList). r ≡ []) rests
none_left s rests a = all_places (λ (r : RowList). r ≡ []) rests [] (λ i l. empty (get_or rests i []) (sym (ap (λ (b : Bool). cond b (some_row (get_or rests i [])) 0) (early i (length rests) l)) ∙ sym (a.counted i l)))
  where
    early : (i m : ℕ) → i < m → nat_lt i m ≡ true
    early i m l = grind (arith, nat_tests)

    empty : (r : RowList) → some_row r ≡ 0 → r ≡ []
    empty [] e = refl
    empty (x ∷ xs) e = cc
