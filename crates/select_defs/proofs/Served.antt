-- A query that folds serve answers the same over the fold.
use Rattle.std.proofs.Common.{◌≡◌, ℕ, Bool, true, false, cond, ◌&&◌, ◌||◌, List, [], ◌∷◌, map, take, refl, sym, ap, ap₂, ◌∙◌}
use Rattle.std.specs.BTreeSet.{insert_key}
use Rattle.std.specs.List.{AllByRecursion, list_all}
use Rattle.std.specs.Ordering.{is_eq}
use Rattle.std.specs.declared.cmp.Ordering.TheVariants.{Equal}
use Rattle.dl_values.specs.Order.{row_cmp}
use Rattle.dl_values.specs.OrderLemmas.{rows_same, rows_total}
use Rattle.dl_values.specs.declared.cell.Cell.{Cell}
use Rattle.fold_laws.proofs.Filters.{filter_keeps}
use Rattle.fold_laws.proofs.Unique.{filter_no, filter_yes}
use Rattle.fold_laws.specs.Fold.{distinct, has_key}
use Rattle.schema_models.proofs.RowMerges.{rows_merge}
use Rattle.schema_models.specs.Folds.{fold_of, merged_row}
use Rattle.schema_models.specs.ShapeView.{ShapeView, key_count}
use Rattle.sql_text.specs.declared.query.AggFn.{AggFn}
use Rattle.sql_text.specs.declared.query.Item.{Item}
use Rattle.sql_text.specs.declared.query.Item.TheVariants as item
use Rattle.sql_text.specs.declared.query.Query.{Query}
use Rattle.select_defs.specs.Aggregates.{aggregate}
use Rattle.select_defs.specs.Columns.{cell_named}
use Rattle.select_defs.specs.Eval.{Answer, Eval, answer, unless}
use Rattle.select_defs.specs.Filters.{passes, selected}
use Rattle.select_defs.specs.Groups.{group_cell, group_key, group_keys, group_row, group_rows, output_rows, plain_row, rows_of_group}
use Rattle.select_defs.specs.Items.{items_of, output_name, output_type}
use Rattle.select_defs.specs.Laws.{IsWide, is_aggregated_by, is_extreme, is_served_by_folds, is_served_item, joined, names_key, tests_keys}
use Rattle.select_defs.specs.Orders.{limited, ordered}
use Rattle.select_defs.specs.Refusals.{is_grouped, refusal}
use Rattle.select_defs.proofs.FoldCounts.{fold_counts}
use Rattle.select_defs.proofs.Joins.{aggregates_join, cells_join, rows_join}
use Rattle.select_defs.proofs.KeyTests.{fold_selected, left, right}
use Rattle.select_defs.proofs.Neighbours.{changes, twice}
use Rattle.select_defs.proofs.ServedItems.{cells_count, joined_assoc, joined_swaps, same_group}

map_agree : {X Y : Type 0} (f g : X → Y) → ((x : X) → f x ≡ g x) → (xs : List X) → map f xs ≡ map g xs
map_agree f g h [] = refl
map_agree f g h (x ∷ xs) = ap₂ (λ y ys. y ∷ ys) (h x) (map_agree f g h xs)

module _ (s : ShapeView) (group : List (List ℕ)) (of_keys : list_all (names_key s.columns) group ≡ true) where
  abbrev key : List Cell → List Cell
  key row = take (key_count s.columns) row

  abbrev one_row : List Cell → List Cell → List Cell
  one_row x y = merged_row s.columns x y

  -- ---- rows of one key are of one group, with the row that they merge to

  key_kept : (x y : List Cell) → row_cmp (key x) (key y) ≡ Equal → key (one_row x y) ≡ key x
  key_kept x y e = (rows_merge s.columns).kept x y e

  key_same : (x y : List Cell) → row_cmp (key x) (key y) ≡ Equal → key x ≡ key y
  key_same x y e = rows_same (key x) (key y) e

  group_kept : (x y : List Cell) → row_cmp (key x) (key y) ≡ Equal → group_key s group (one_row x y) ≡ group_key s group x
  group_kept x y e = same_group s group (one_row x y) x of_keys (key_kept x y e)

  group_same : (x y : List Cell) → row_cmp (key x) (key y) ≡ Equal → group_key s group x ≡ group_key s group y
  group_same x y e = same_group s group x y of_keys (key_same x y e)

  -- ---- the keys of the groups

  with_group : List Cell → List (List Cell) → List (List Cell)
  with_group x ks = insert_key row_cmp ks (group_key s group x)

  groups_change : (x y : List Cell) (ks : List (List Cell)) → with_group x (with_group y ks) ≡ with_group y (with_group x ks)
  unfolding with_group
  groups_change x y ks = changes rows_total rows_same ks (group_key s group y) (group_key s group x)

  groups_merge : (x y : List Cell) → row_cmp (key x) (key y) ≡ Equal → IsWide s x → IsWide s y → (ks : List (List Cell)) → with_group (one_row x y) ks ≡ with_group x (with_group y ks)
  unfolding with_group
  groups_merge x y e a b ks =
      ap (insert_key row_cmp ks) (group_kept x y e)
      ∙ sym (twice rows_total rows_same ks (group_key s group x))
      ∙ ap (λ (k : List Cell). insert_key row_cmp (insert_key row_cmp ks k) (group_key s group x)) (group_same x y e)

  keys_more : (x : List Cell) (xs : List (List Cell)) → distinct row_cmp (group_key s group) (x ∷ xs) ≡ with_group x (distinct row_cmp (group_key s group) xs)
  unfolding with_group
  keys_more x xs = refl

  keys_same : (rows : List (List Cell)) → AllByRecursion (IsWide s) rows → distinct row_cmp (group_key s group) (fold_of s rows) ≡ distinct row_cmp (group_key s group) rows
  keys_same rows a = fold_counts s with_group (λ (l : List (List Cell)). distinct row_cmp (group_key s group) l) keys_more groups_change groups_merge rows a

  -- ---- the cell of an aggregate for a group

  module _ (k : List Cell) (f : AggFn) (name : List ℕ) (served : (is_aggregated_by f s.columns name || (is_extreme f && names_key s.columns name)) ≡ true) where
    abbrev in_group : List Cell → Bool
    in_group row = has_key row_cmp (group_key s group) k row

    total : List (List Cell) → Cell
    total rows = aggregate f (map (cell_named s name) (rows_of_group s group k rows))

    with_row : List Cell → Cell → Cell
    with_row x z = joined f (total (x ∷ [])) z

    total_more : (x : List Cell) (xs : List (List Cell)) → total (x ∷ xs) ≡ with_row x (total xs)
    unfolding total with_row
    total_more x xs =
        ap (λ (l : List (List Cell)). aggregate f (map (cell_named s name) l)) (rows_join s group k (x ∷ []) xs)
        ∙ cells_join s group k (rows_of_group s group k (x ∷ [])) (rows_of_group s group k xs) (item.Agg f name)

    totals_change : (x y : List Cell) (z : Cell) → with_row x (with_row y z) ≡ with_row y (with_row x z)
    unfolding with_row
    totals_change x y z = joined_swaps f (total (x ∷ [])) (total (y ∷ [])) z

    total_yes : (x : List Cell) → in_group x ≡ true → total (x ∷ []) ≡ aggregate f (cell_named s name x ∷ [])
    unfolding total
    total_yes x e = ap (λ (l : List (List Cell)). aggregate f (map (cell_named s name) l)) (filter_yes in_group x [] e)

    total_no : (x : List Cell) → in_group x ≡ false → total (x ∷ []) ≡ aggregate f []
    unfolding total
    total_no x e = ap (λ (l : List (List Cell)). aggregate f (map (cell_named s name) l)) (filter_no in_group x [] e)

    total_merges : (x y : List Cell) → row_cmp (key x) (key y) ≡ Equal → IsWide s x → IsWide s y → total (one_row x y ∷ []) ≡ joined f (total (x ∷ [])) (total (y ∷ []))
    total_merges x y e a b = go (in_group x) refl
      where
        as_one : in_group (one_row x y) ≡ in_group x
        as_one = ap (λ (g : List Cell). is_eq (row_cmp k g)) (group_kept x y e)

        as_other : in_group y ≡ in_group x
        as_other = ap (λ (g : List Cell). is_eq (row_cmp k g)) (sym (group_same x y e))

        go : (c : Bool) → in_group x ≡ c → total (one_row x y ∷ []) ≡ joined f (total (x ∷ [])) (total (y ∷ []))
        go true h =
            total_yes (one_row x y) (as_one ∙ h) ∙ cells_count s x y f name a b (key_same x y e) (key_kept x y e) served
            ∙ sym (ap₂ (joined f) (total_yes x h) (total_yes y (as_other ∙ h)))
        go false h = total_no (one_row x y) (as_one ∙ h) ∙ aggregates_join f [] [] ∙ sym (ap₂ (joined f) (total_no x h) (total_no y (as_other ∙ h)))

    totals_merge : (x y : List Cell) → row_cmp (key x) (key y) ≡ Equal → IsWide s x → IsWide s y → (z : Cell) → with_row (one_row x y) z ≡ with_row x (with_row y z)
    unfolding with_row
    totals_merge x y e a b z = ap (λ (c : Cell). joined f c z) (total_merges x y e a b) ∙ joined_assoc f (total (x ∷ [])) (total (y ∷ [])) z

    totals_same : (rows : List (List Cell)) → AllByRecursion (IsWide s) rows → aggregate f (map (cell_named s name) (rows_of_group s group k (fold_of s rows))) ≡ aggregate f (map (cell_named s name) (rows_of_group s group k rows))
    unfolding total
    totals_same rows a = fold_counts s with_row total total_more totals_change totals_merge rows a

  -- ---- the rows of the answer

  cell_same : (rows : List (List Cell)) → AllByRecursion (IsWide s) rows → (k : List Cell) (i : Item) → is_served_item s.columns i ≡ true
      → group_cell s group k (rows_of_group s group k (fold_of s rows)) i ≡ group_cell s group k (rows_of_group s group k rows) i
  cell_same rows a k (item.Column name) e = refl
  cell_same rows a k (item.Agg f name) e = totals_same k f name e rows a
  cell_same rows a k item.CountAll e = cc

  cells_same : (rows : List (List Cell)) → AllByRecursion (IsWide s) rows → (k : List Cell) (items : List Item) → list_all (is_served_item s.columns) items ≡ true
      → map (group_cell s group k (rows_of_group s group k (fold_of s rows))) items ≡ map (group_cell s group k (rows_of_group s group k rows)) items
  cells_same rows a k [] e = refl
  cells_same rows a k (i ∷ is) e =
      ap₂ (λ (c : Cell) (cs : List Cell). c ∷ cs)
      (cell_same rows a k i (left (is_served_item s.columns i) (list_all (is_served_item s.columns) is) e))
      (cells_same rows a k is (right (is_served_item s.columns i) (list_all (is_served_item s.columns) is) e))

  row_same : (rows : List (List Cell)) → AllByRecursion (IsWide s) rows → (items : List Item) → list_all (is_served_item s.columns) items ≡ true → (k : List Cell) → group_row s group items (fold_of s rows) k ≡ group_row s group items rows k
  unfolding group_row
  row_same rows a items e k = cells_same rows a k items e

keys_of_fold : (s : ShapeView) (group : List (List ℕ)) → list_all (names_key s.columns) group ≡ true → (rows : List (List Cell)) → AllByRecursion (IsWide s) rows → group_keys s group (fold_of s rows) ≡ group_keys s group rows
keys_of_fold s [] e rows a = refl
keys_of_fold s (name ∷ names) e rows a = keys_same s (name ∷ names) e rows a

rows_of_fold : (s : ShapeView) (group : List (List ℕ)) (items : List Item) → list_all (names_key s.columns) group ≡ true → list_all (is_served_item s.columns) items ≡ true
    → (rows : List (List Cell)) → AllByRecursion (IsWide s) rows → group_rows s group items (fold_of s rows) ≡ group_rows s group items rows
rows_of_fold s group items g e rows a =
    ap (map (group_row s group items (fold_of s rows))) (keys_of_fold s group g rows a)
    ∙ map_agree (group_row s group items (fold_of s rows)) (group_row s group items rows) (row_same s group g rows a items e) (group_keys s group rows)

-- ---- the answer

module _ (base s : ShapeView) (q : Query) (served : is_served_by_folds base s q ≡ true) (rows : List (List Cell)) (wide : AllByRecursion (IsWide s) rows) where
  abbrev items : List Item
  items = items_of base q

  of_groups : is_grouped base q ≡ true
  of_groups = left (is_grouped base q) (tests_keys s q && (list_all (names_key s.columns) q.group && list_all (is_served_item s.columns) items)) served

  rest : (tests_keys s q && (list_all (names_key s.columns) q.group && list_all (is_served_item s.columns) items)) ≡ true
  rest = right (is_grouped base q) (tests_keys s q && (list_all (names_key s.columns) q.group && list_all (is_served_item s.columns) items)) served

  filters : tests_keys s q ≡ true
  filters = left (tests_keys s q) (list_all (names_key s.columns) q.group && list_all (is_served_item s.columns) items) rest

  last : (list_all (names_key s.columns) q.group && list_all (is_served_item s.columns) items) ≡ true
  last = right (tests_keys s q) (list_all (names_key s.columns) q.group && list_all (is_served_item s.columns) items) rest

  as_groups : (l : List (List Cell)) → output_rows base s q l ≡ group_rows s q.group items (selected base s q l)
  as_groups l = ap (λ (b : Bool). cond b (group_rows s q.group items (selected base s q l)) (map (plain_row s items) (selected base s q l))) of_groups

  output_same : output_rows base s q (fold_of s rows) ≡ output_rows base s q rows
  output_same =
      as_groups (fold_of s rows) ∙ ap (group_rows s q.group items) (sym (fold_selected base s q filters rows))
      ∙ rows_of_fold s q.group items (left (list_all (names_key s.columns) q.group) (list_all (is_served_item s.columns) items) last) (right (list_all (names_key s.columns) q.group) (list_all (is_served_item s.columns) items) last)
      (selected base s q rows) (filter_keeps (IsWide s) (passes base s q) rows wide)
      ∙ sym (as_groups rows)

  pub served_answer : answer base s q (fold_of s rows) ≡ answer base s q rows
  served_answer = ap (λ (l : List (List Cell)). record {
    names = map output_name items;
    types = map (output_type base) items;
    rows = limited q.limit (ordered items q.order l);
  }) output_same

  pub served_eval : Eval base s q (fold_of s rows) ≡ Eval base s q rows
  unfolding Eval
  served_eval = ap (λ (a : Answer). unless (refusal base q) a) served_answer
