-- Rows in blocks that a test cannot match do not change what passes of the fold.
use Rattle.std.proofs.Common.{◌≡◌, ◌+◌, ◌<◌, ◌≤◌, ℕ, suc, Bool, true, false, cond, not, nat_lt, ◌&&◌, List, [], ◌∷◌, ◌++◌, Option, Some, None, length, map, take, get_or, refl, sym, ap, ap₂, ◌∙◌, subst, arith, filter, length-append}
use Rattle.std.specs.List.{list_all}
use Rattle.std.specs.declared.cmp.Ordering.{Ordering}
use Rattle.std.proofs.lemmas.List.{get_or-take}
use Rattle.std.proofs.lemmas.List.Elements.{filter-append, filter_agree}
use Rattle.std.proofs.lemmas.List.Folds.{list_all-append}
use Rattle.dl_values.specs.Order.{cell_cmp}
use Rattle.dl_values.specs.declared.cell.Cell.{Cell}
use Rattle.dl_values.specs.declared.cell.Cell.TheVariants as cell
use Rattle.fold_laws.proofs.Filters.{fold_filter}
use Rattle.fold_laws.proofs.Unique.{filter_no, filter_yes}
use Rattle.merge_read.specs.Lists.{joined, stored}
use Rattle.schema_models.proofs.RowMerges.{shape_folding}
use Rattle.schema_models.specs.Folds.{fold_of, key_in, key_of}
use Rattle.schema_models.specs.ShapeView.{ShapeView, key_count}
use Rattle.schema_models.specs.declared.model.Model.{Model}
use Rattle.schema_models.specs.declared.model.Model.TheVariants as model
use Rattle.sql_text.specs.declared.query.CompareOp.{CompareOp}
use Rattle.sql_text.specs.declared.query.CompareOp.TheVariants as compare
use Rattle.select_defs.specs.Filters.{passes_op}
use Rattle.select_defs.specs.Filters as filters
use Rattle.zones.specs.Tests.{by_order}
use Rattle.zones.specs.Tests as tests
use Rattle.zones.specs.declared.test.Op.{Op}
use Rattle.zones.specs.declared.test.Op.TheVariants as op
use Rattle.zones.specs.InBlocks.{FindsMatches, block_at, row_passes}
use Rattle.zones.specs.declared.test.Test.{Test}
use Rattle.select_eval.specs.BlockTests.{asked_at, compared_at, key_width, op_of, test_at, tests_at, tests_in, width_in}
use Rattle.select_eval.specs.Conditions.{all_hold, holds, passes}
use Rattle.select_eval.specs.Looks.{InBlocks, in_blocks, kept_from, kept_rows, looked_at, stays}
use Rattle.select_eval.proofs.Cuts.{all_stay}
use Rattle.select_eval.specs.Places.{cell_in}
use Rattle.select_eval.specs.declared.asked.Asked.{Asked}
use Rattle.select_eval.specs.declared.asked.Asked.TheVariants as asked
use Rattle.select_eval.specs.declared.condition.Condition.{Condition}

-- ---- where the tests of a query hold, the tests of blocks do

-- whether a row passes all tests of blocks
abbrev all_pass : List Test → List Cell → Bool
all_pass tests row = list_all (λ t. row_passes t row) tests

both : (a b : Bool) → a ≡ true → b ≡ true → (a && b) ≡ true
both true b e f = f
both false b e f = cc

left : (a b : Bool) → (a && b) ≡ true → a ≡ true
left true b e = refl
left false b e = cc

right : (a b : Bool) → (a && b) ≡ true → b ≡ true
right true b e = e
right false b e = cc

one : (b : Bool) → b ≡ true → (b && true) ≡ true
one true e = refl
one false e = e

all_more : (xs ys : List Test) (row : List Cell) → all_pass xs row ≡ true → all_pass ys row ≡ true → all_pass (xs ++ ys) row ≡ true
all_more [] ys row a b = b
all_more (x ∷ xs) ys row a b =
    both (row_passes x row) (all_pass (xs ++ ys) row) (left (row_passes x row) (all_pass xs row) a) (all_more xs ys row (right (row_passes x row) (all_pass xs row) a) b)

same_order : (o : CompareOp) (r : Ordering) → by_order (op_of o) r ≡ passes_op o r
same_order compare.Eq r = refl
same_order compare.Ne r = refl
same_order compare.Lt r = refl
same_order compare.Le r = refl
same_order compare.Gt r = refl
same_order compare.Ge r = refl

is_comparison : (o : CompareOp) (y x : Cell) → tests.passes (op_of o) y x ≡ tests.compares (op_of o) y x
is_comparison compare.Eq y x = refl
is_comparison compare.Ne y x = refl
is_comparison compare.Lt y x = refl
is_comparison compare.Le y x = refl
is_comparison compare.Gt y x = refl
is_comparison compare.Ge y x = refl

not_null : (o : CompareOp) (y x : Cell) → tests.is_null y ≡ false → tests.is_null x ≡ false → passes_op o (cell_cmp x y) ≡ true → tests.passes (op_of o) y x ≡ true
not_null o y x a b h = is_comparison o y x ∙ rw a (rw b (same_order o (cell_cmp x y) ∙ h))

compared : (o : CompareOp) (y x : Cell) → tests.is_null y ≡ false → passes (asked.Compare o y) x ≡ true → tests.passes (op_of o) y x ≡ true
compared o y cell.Null a h = cc
compared o y (cell.Int n) a h = not_null o y (cell.Int n) a refl h
compared o y (cell.Day n) a h = not_null o y (cell.Day n) a refl h
compared o y (cell.Text t) a h = not_null o y (cell.Text t) a refl h

of_comparison : (n : ℕ) (o : CompareOp) (y : Cell) (row : List Cell) → passes (asked.Compare o y) (get_or row n cell.Null) ≡ true → all_pass (compared_at n (op_of o) y) row ≡ true
of_comparison n o cell.Null row h = refl
of_comparison n o (cell.Int m) row h = one _ (compared o (cell.Int m) (get_or row n cell.Null) refl h)
of_comparison n o (cell.Day m) row h = one _ (compared o (cell.Day m) (get_or row n cell.Null) refl h)
of_comparison n o (cell.Text t) row h = one _ (compared o (cell.Text t) (get_or row n cell.Null) refl h)

of_asked : (n : ℕ) (a : Asked) (row : List Cell) → passes a (get_or row n cell.Null) ≡ true → all_pass (asked_at n a) row ≡ true
of_asked n (asked.Compare o y) row h = of_comparison n o y row h
of_asked n asked.IsNull row h = one _ (null_is (get_or row n cell.Null) h)
  where
    null_is : (x : Cell) → filters.is_null x ≡ true → tests.is_null x ≡ true
    null_is cell.Null e = refl
    null_is (cell.Int m) e = e
    null_is (cell.Day m) e = e
    null_is (cell.Text t) e = e
of_asked n asked.IsNotNull row h = one _ (null_not (get_or row n cell.Null) h)
  where
    null_not : (x : Cell) → not (filters.is_null x) ≡ true → not (tests.is_null x) ≡ true
    null_not cell.Null e = e
    null_not (cell.Int m) e = refl
    null_not (cell.Day m) e = refl
    null_not (cell.Text t) e = refl
of_asked n asked.Never row h = cc

of_place : (width : ℕ) (p : Option ℕ) (a : Asked) (row : List Cell) → passes a (cell_in row p) ≡ true → all_pass (tests_at width p a) row ≡ true
of_place width None a row h = refl
of_place width (Some n) a row h = go (nat_lt n width)
  where
    go : (b : Bool) → all_pass (cond b (asked_at n a) []) row ≡ true
    go true = of_asked n a row h
    go false = refl

passing : (width : ℕ) (list : List Condition) (row : List Cell) → all_hold list row ≡ true → all_pass (tests_in width list) row ≡ true
passing width [] row h = refl
passing width (c ∷ cs) row h =
    all_more (tests_at width c.place c.asked) (tests_in width cs) row (of_place width c.place c.asked row (left (holds row c) (all_hold cs row) h)) (passing width cs row (right (holds row c) (all_hold cs row) h))

-- ---- the tests of blocks see of a row its key alone

of_column : (t : Test) (width : ℕ) (row : List Cell) → t.column < width → row_passes t (take width row) ≡ row_passes t row
of_column t width row h = ap (tests.passes t.op t.literal) (get_or-take width row t.column cell.Null h)

of_one : (t : Test) (width : ℕ) (row : List Cell) → t.column < width → all_pass (t ∷ []) (take width row) ≡ all_pass (t ∷ []) row
of_one t width row h = ap (λ b. b && true) (of_column t width row h)

of_compared : (n width : ℕ) (o : Op) (y : Cell) (row : List Cell) → n < width → all_pass (compared_at n o y) (take width row) ≡ all_pass (compared_at n o y) row
of_compared n width o cell.Null row h = refl
of_compared n width o (cell.Int m) row h = of_one (test_at n o (cell.Int m)) width row h
of_compared n width o (cell.Day m) row h = of_one (test_at n o (cell.Day m)) width row h
of_compared n width o (cell.Text t) row h = of_one (test_at n o (cell.Text t)) width row h

of_key : (n width : ℕ) (a : Asked) (row : List Cell) → n < width → all_pass (asked_at n a) (take width row) ≡ all_pass (asked_at n a) row
of_key n width (asked.Compare o y) row h = of_compared n width (op_of o) y row h
of_key n width asked.IsNull row h = of_one (test_at n op.IsNull cell.Null) width row h
of_key n width asked.IsNotNull row h = of_one (test_at n op.IsNotNull cell.Null) width row h
of_key n width asked.Never row h = of_one (test_at n op.Eq cell.Null) width row h

of_condition : (width : ℕ) (p : Option ℕ) (a : Asked) (row : List Cell) → all_pass (tests_at width p a) (take width row) ≡ all_pass (tests_at width p a) row
of_condition width None a row = refl
of_condition width (Some n) a row = go (nat_lt n width) refl
  where
    go : (b : Bool) → nat_lt n width ≡ b → all_pass (cond b (asked_at n a) []) (take width row) ≡ all_pass (cond b (asked_at n a) []) row
    go true e = of_key n width a row (grind (arith, e))
    go false e = refl

of_all : (width : ℕ) (list : List Condition) (row : List Cell) → all_pass (tests_in width list) (take width row) ≡ all_pass (tests_in width list) row
of_all width [] row = refl
of_all width (c ∷ cs) row =
    list_all-append (λ t. row_passes t (take width row)) (tests_at width c.place c.asked) (tests_in width cs)
    ∙ ap₂ (λ (a b : Bool). a && b) (of_condition width c.place c.asked row) (of_all width cs row)
    ∙ sym (list_all-append (λ t. row_passes t row) (tests_at width c.place c.asked) (tests_in width cs))

-- what is implied may be asked first
implied : {X : Type 0} (p q : X → Bool) → ((x : X) → p x ≡ true → q x ≡ true) → (xs : List X) → filter p (filter q xs) ≡ filter p xs
implied p q f [] = refl
implied p q f (x ∷ xs) = go (implied p q f xs) (p x) (q x) refl refl
  where
    go : filter p (filter q xs) ≡ filter p xs → (b c : Bool) → p x ≡ b → q x ≡ c → filter p (filter q (x ∷ xs)) ≡ filter p (x ∷ xs)
    go rest true true a e = ap (filter p) (filter_yes q x xs e) ∙ filter_yes p x (filter q xs) a ∙ ap (λ l. x ∷ l) rest ∙ sym (filter_yes p x xs a)
    go rest true false a e = absurd (differ (sym e ∙ f x a))
      where
        differ : false ≡ true → ⊥
        differ h = cc
    go rest false true a e = ap (filter p) (filter_yes q x xs e) ∙ filter_no p x (filter q xs) a ∙ rest ∙ sym (filter_no p x xs a)
    go rest false false a e = ap (filter p) (filter_no q x xs e) ∙ rest ∙ sym (filter_no p x xs a)

module _ (s : ShapeView) (list : List Condition) where
  abbrev given : List Test
  given = tests_in (key_width s) list

  sees_key : (row : List Cell) → all_pass given (key_of s row) ≡ all_pass given row
  sees_key row = go s.model (key_count s.columns) (length s.columns)
    where
      go : (m : Model) (k w : ℕ) → all_pass (tests_in (width_in m k w) list) (key_in m k row) ≡ all_pass (tests_in (width_in m k w) list) row
      go model.Duplicate k w = refl
      go model.Unique k w = of_all k list row
      go model.Aggregate k w = of_all k list row

  by_key : (rows : List (List Cell)) → filter (λ row. all_pass given (key_of s row)) rows ≡ filter (all_pass given) rows
  by_key rows = filter_agree (λ row. all_pass given (key_of s row)) (all_pass given) sees_key rows

  fold_picked : (rows : List (List Cell)) → fold_of s (filter (all_pass given) rows) ≡ filter (all_pass given) (fold_of s rows)
  fold_picked rows =
      ap (fold_of s) (sym (by_key rows))
      ∙ fold_filter (shape_folding s).order (key_of s) (shape_folding s).apart (shape_folding s).gathers (all_pass given) rows
      ∙ by_key (fold_of s rows)

  -- rows that are the same but for those that do not pass the tests of blocks
  pub same_passing : (some all : List (List Cell)) → filter (all_pass given) some ≡ filter (all_pass given) all → filter (all_hold list) (fold_of s some) ≡ filter (all_hold list) (fold_of s all)
  same_passing some all e =
      sym (implied (all_hold list) (all_pass given) (passing (key_width s) list) (fold_of s some))
      ∙ ap (filter (all_hold list)) (sym (fold_picked some) ∙ ap (fold_of s) e ∙ fold_picked all)
      ∙ implied (all_hold list) (all_pass given) (passing (key_width s) list) (fold_of s all)

-- ---- rows of blocks that stay

module _ (p : List Cell → Bool) (stay : ℕ → Bool) where
  kept_picked : (i : ℕ) (rows : List (List Cell)) → ((j : ℕ) → j < length rows → stay (i + j) ≡ false → p (get_or rows j []) ≡ false) → filter p (kept_from stay i rows) ≡ filter p rows
  kept_picked i [] h = refl
  kept_picked i (x ∷ xs) h = go (kept_picked (i + 1) xs (λ j l e. h (suc j) (omega arith) (ap stay (further j) ∙ e))) (stay i) (p x) refl refl
    where
      further : (j : ℕ) → i + suc j ≡ i + 1 + j
      further j = omega arith

      here : i + 0 ≡ i
      here = omega arith

      go : filter p (kept_from stay (i + 1) xs) ≡ filter p xs → (b c : Bool) → stay i ≡ b → p x ≡ c → filter p (cond b (x ∷ kept_from stay (i + 1) xs) (kept_from stay (i + 1) xs)) ≡ filter p (x ∷ xs)
      go rest true true e f = filter_yes p x (kept_from stay (i + 1) xs) f ∙ ap (λ l. x ∷ l) rest ∙ sym (filter_yes p x xs f)
      go rest true false e f = filter_no p x (kept_from stay (i + 1) xs) f ∙ rest ∙ sym (filter_no p x xs f)
      go rest false c e f = rest ∙ sym (filter_no p x xs (h 0 (omega arith) (ap stay here ∙ e)))

module _ (rows : List (List Cell)) (blocks : List ℕ) (may : ℕ → Test → Bool) (finds : (block : ℕ) (t : Test) → FindsMatches rows blocks block t (may block t)) where
  found : (i : ℕ) (tests : List Test) → i < length rows → all_pass tests (get_or rows i []) ≡ true → stays tests blocks may i ≡ true
  found i [] l h = refl
  found i (t ∷ ts) l h =
      both (may (block_at blocks i) t) (stays ts blocks may i) (finds (block_at blocks i) t i l refl (left (row_passes t (get_or rows i [])) (all_pass ts (get_or rows i [])) h))
      (found i ts l (right (row_passes t (get_or rows i [])) (all_pass ts (get_or rows i [])) h))

  none_found : (i : ℕ) (tests : List Test) → i < length rows → stays tests blocks may i ≡ false → all_pass tests (get_or rows i []) ≡ false
  none_found i tests l e = go (all_pass tests (get_or rows i [])) refl
    where
      differ : true ≡ false → ⊥
      differ h = cc

      go : (b : Bool) → all_pass tests (get_or rows i []) ≡ b → all_pass tests (get_or rows i []) ≡ false
      go true h = absurd (differ (sym (found i tests l h) ∙ e))
      go false h = h

  list_picked : (tests : List Test) → filter (all_pass tests) (kept_from (stays tests blocks may) 0 rows) ≡ filter (all_pass tests) rows
  list_picked tests = kept_picked (all_pass tests) (stays tests blocks may) 0 rows (λ j l e. none_found j tests l (ap (stays tests blocks may) (here j) ∙ e))
    where
      here : (j : ℕ) → j ≡ 0 + j
      here j = omega arith

-- ---- of all lists

module _ {A : Type 0} (rows : A → List (List Cell)) (blocks : A → List ℕ) (may : A → ℕ → Test → Bool) where
  abbrev pub zoned : List A → List InBlocks
  zoned lists = map (λ l. in_blocks (rows l) (blocks l) (may l)) lists

  pub all_picked : (found_in : A → List (List Cell)) → ((l : A) (block : ℕ) (t : Test) → FindsMatches (found_in l) (blocks l) block t (may l block t))
      → (tests : List Test) (lists : List A) → map found_in lists ≡ map rows lists
      → filter (all_pass tests) (joined (map (kept_rows tests) (zoned lists))) ≡ filter (all_pass tests) (joined (map rows lists))
  all_picked found_in finds tests [] e = refl
  all_picked found_in finds tests (l ∷ ls) e =
      let same : found_in l ≡ rows l = cc in
      let rest : map found_in ls ≡ map rows ls = cc in
      filter-append (all_pass tests) (kept_from (stays tests (blocks l) (may l)) 0 (rows l)) (joined (map (kept_rows tests) (zoned ls)))
      ∙ ap₂ (λ (a b : List (List Cell)). a ++ b)
      (list_picked (rows l) (blocks l) (may l) (λ block t. subst (λ (z : List (List Cell)). FindsMatches z (blocks l) block t (may l block t)) same (finds l block t)) tests)
      (all_picked found_in finds tests ls rest)
      ∙ sym (filter-append (all_pass tests) (rows l) (joined (map rows ls)))

  pub all_kept : (lists : List A) → joined (map (kept_rows []) (zoned lists)) ≡ joined (map rows lists)
  all_kept [] = refl
  all_kept (l ∷ ls) = ap₂ (λ (a b : List (List Cell)). a ++ b) (all_stay (stays [] (blocks l) (may l)) 0 (rows l) (λ j a b. refl)) (all_kept ls)

  fewer_kept : (stay : ℕ → Bool) (i : ℕ) (xs : List (List Cell)) → length (kept_from stay i xs) ≤ length xs
  fewer_kept stay i [] = omega arith
  fewer_kept stay i (x ∷ xs) = go (stay i) (fewer_kept stay (i + 1) xs)
    where
      go : (b : Bool) → length (kept_from stay (i + 1) xs) ≤ length xs → length (cond b (x ∷ kept_from stay (i + 1) xs) (kept_from stay (i + 1) xs)) ≤ length (x ∷ xs)
      go true h = omega (arith, h)
      go false h = omega (arith, h)

  -- no more rows are looked at than are stored
  pub at_most_all : (tests : List Test) (lists : List A) → looked_at tests (zoned lists) ≤ stored (map rows lists)
  at_most_all tests [] = omega arith
  at_most_all tests (l ∷ ls) =
      let some = kept_from (stays tests (blocks l) (may l)) 0 (rows l) in
      let a : length some ≤ length (rows l) = fewer_kept (stays tests (blocks l) (may l)) 0 (rows l) in
      let b : looked_at tests (zoned ls) ≤ stored (map rows ls) = at_most_all tests ls in
      let c : length (some ++ joined (map (kept_rows tests) (zoned ls))) ≡ length some + looked_at tests (zoned ls) = length-append some (joined (map (kept_rows tests) (zoned ls))) in
      let d : length (rows l ++ joined (map rows ls)) ≡ length (rows l) + stored (map rows ls) = length-append (rows l) (joined (map rows ls)) in
      omega (arith, a, b, c, d)

  -- without tests as many as are stored
  pub no_tests : (tests : List Test) (lists : List A) → tests ≡ [] → looked_at tests (zoned lists) ≡ stored (map rows lists)
  no_tests tests lists e = ap (λ t. looked_at t (zoned lists)) e ∙ ap (λ l. length l) (all_kept lists)

  -- what passes of the fold of the rows that are kept
  pub kept_passing : (found_in : A → List (List Cell)) → ((l : A) (block : ℕ) (t : Test) → FindsMatches (found_in l) (blocks l) block t (may l block t))
      → (s : ShapeView) (list : List Condition) (tests : List Test) (lists : List A) (some : List (List Cell)) → map found_in lists ≡ map rows lists → tests ≡ tests_in (key_width s) list → some ≡ joined (map (kept_rows tests) (zoned lists))
      → filter (all_hold list) (fold_of s some) ≡ filter (all_hold list) (fold_of s (joined (map rows lists)))
  kept_passing found_in finds s list tests lists some same is kept =
      same_passing s list some (joined (map rows lists))
      (ap (filter (all_pass (tests_in (key_width s) list))) (kept ∙ ap (λ t. joined (map (kept_rows t) (zoned lists))) is) ∙ all_picked found_in finds (tests_in (key_width s) list) lists same)

pub none_given : (tests : List Test) → length tests < 1 → tests ≡ []
none_given [] h = refl
none_given (t ∷ ts) h = absurd (omega (arith, h))
