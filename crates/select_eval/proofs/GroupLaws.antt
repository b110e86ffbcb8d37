-- Groups that grow row by row are the groups of all rows.
use Rattle.std.proofs.Common.{◌≡◌, ℕ, List, [], ◌∷◌, ◌++◌, true, false, cond, map, Option, Some, None, unwrap_or, refl, sym, ap, ap₂, ◌∙◌, append_assoc, append-nil}
use Rattle.std.proofs.lemmas.Cmp.{tied_itself}
use Rattle.std.proofs.lemmas.List.Elements.{filter-append}
use Rattle.std.specs.BTreeMap.{insert_entry, is_at}
use Rattle.std.specs.BTreeSet.{insert_key}
use Rattle.std.specs.List.Sorted.{IsStrictlySortedBy}
use Rattle.std.specs.Map.{lookup, set_value}
use Rattle.std.specs.Ordering.{is_eq, ordering_reverse}
use Rattle.std.specs.declared.cmp.Ordering.{Ordering}
use Rattle.std.specs.declared.cmp.Ordering.TheVariants.{Less, Equal, Greater}
use Rattle.dl_values.specs.Order.{row_cmp}
use Rattle.dl_values.specs.OrderLemmas.{rows_same, rows_total}
use Rattle.dl_values.specs.declared.cell.Cell.{Cell}
use Rattle.dl_values.specs.declared.cell.Cell.TheVariants as cell
use Rattle.fold_laws.specs.Fold.{distinct, has_key}
use Rattle.fold_laws.proofs.Folds.{distinct_sorted}
use Rattle.fold_laws.proofs.Unique.{filter_no, filter_yes}
use Rattle.schema_models.specs.CellsByName.{cell_under}
use Rattle.schema_models.specs.ShapeView.{ShapeView}
use Rattle.sql_text.specs.declared.query.Item.{Item}
use Rattle.sql_text.specs.declared.query.Item.TheVariants as item
use Rattle.sql_text.specs.declared.query.Query.{Query}
use Rattle.select_defs.specs.Aggregates.{aggregate}
use Rattle.select_defs.specs.Columns.{cell_named}
use Rattle.select_defs.specs.Groups.{group_cell, group_key, group_keys, group_row, group_rows, plain_cell, plain_row, rows_of_group}
use Rattle.select_defs.specs.Items.{items_of}
use Rattle.select_defs.specs.Laws.{joined}
use Rattle.select_defs.specs.Refusals.{is_grouped}
use Rattle.select_defs.proofs.Joins.{cells_join}
use Rattle.select_eval.specs.Grouping.{Entries, Grouping, first_groups, key_in, put, put_all, put_by}
use Rattle.select_eval.specs.Groupings.{cells_of_group, entry_of, grouping_of, groups_of, output_rows_of}
use Rattle.select_eval.specs.Outputs.{begun, cells_in, fresh, grown, grown_by, more, output_of, plain_place}
use Rattle.select_eval.specs.declared.output.Output.{Output}
use Rattle.select_eval.specs.Places.{cell_in, place_of}
use Rattle.select_eval.proofs.GroupEntries.{distinct_grows, found, looked_up, none_has, not_there_yet}
use Rattle.select_eval.proofs.PlaceLaws.{cell_at_place, cell_under_name}

-- ---- a row that is put into a group which is there, and into a new one

pub put_there : (g : Grouping) (es new : Entries) (row k x y : List Cell) → k ≡ key_in g row → Some x ≡ lookup (is_at (row_cmp k)) es → y ≡ grown g.outputs x row → new ≡ set_value (is_at (row_cmp k)) es y → new ≡ put g es row
put_there g es new row k x y e h f n =
    n ∙ ap₂ (λ (a b : List Cell). set_value (is_at (row_cmp a)) es b) e f
    ∙ ap (put_by g row es) (h ∙ ap (λ (a : List Cell). lookup (is_at (row_cmp a)) es) e)

pub put_new : (g : Grouping) (es new : Entries) (row k x y : List Cell) → k ≡ key_in g row → None ≡ lookup (is_at (row_cmp k)) es → x ≡ begun g.outputs k → y ≡ grown g.outputs x row → new ≡ insert_entry row_cmp es k y → new ≡ put g es row
put_new g es new row k x y e h b f n =
    n ∙ ap₂ (λ (a z : List Cell). insert_entry row_cmp es a z) e (f ∙ ap (λ (z : List Cell). grown g.outputs z row) (b ∙ ap (begun g.outputs) e))
    ∙ ap (put_by g row es) (h ∙ ap (λ (a : List Cell). lookup (is_at (row_cmp a)) es) e)

-- ---- rows that are not grouped

plain_item : (s : ShapeView) (row : List Cell) (i : Item) → cell_in row (plain_place s i) ≡ plain_cell s row i
plain_item s row (item.Column a) = cell_at_place s a row
plain_item s row (item.Agg f a) = refl
plain_item s row item.CountAll = refl

plain_items : (s : ShapeView) (row : List Cell) (items : List Item) → cells_in (map (plain_place s) items) row ≡ map (plain_cell s row) items
plain_items s row [] = refl
plain_items s row (i ∷ is) = ap₂ (λ (x : Cell) l. x ∷ l) (plain_item s row i) (plain_items s row is)

pub plain_rows : (s : ShapeView) (items : List Item) (rows : List (List Cell)) → map (cells_in (map (plain_place s) items)) rows ≡ map (plain_row s items) rows
unfolding plain_row
plain_rows s items [] = refl
plain_rows s items (row ∷ rows) = ap₂ (λ (x : List Cell) l. x ∷ l) (plain_items s row items) (plain_rows s items rows)

-- ---- groups

map_itself : {A : Type 0} (xs : List A) → map (λ x. x) xs ≡ xs
map_itself [] = refl
map_itself (x ∷ xs) = ap (λ l. x ∷ l) (map_itself xs)

reversed : (c : Ordering) → is_eq (ordering_reverse c) ≡ is_eq c
reversed Less = refl
reversed Equal = refl
reversed Greater = refl

module _ (s : ShapeView) (group : List (List ℕ)) where
  abbrev key : List Cell → List Cell
  key row = group_key s group row

  key_cells : (row : List Cell) (names : List (List ℕ)) → cells_in (map (place_of s) names) row ≡ map (λ name. cell_named s name row) names
  key_cells row [] = refl
  key_cells row (name ∷ names) = ap₂ (λ (x : Cell) l. x ∷ l) (cell_at_place s name row) (key_cells row names)

  -- the cell of an item before any row, and with a row more
  item_begins : (k : List Cell) (i : Item) → fresh k (output_of s group i) ≡ group_cell s group k [] i
  item_begins k (item.Column a) = cell_under_name (λ (name : List ℕ). name) a group k ∙ ap (λ names. unwrap_or (cell_under names a k) cell.Null) (map_itself group)
  item_begins k (item.Agg f a) = refl
  item_begins k item.CountAll = refl

  item_grows : (k : List Cell) (ys : List (List Cell)) (row : List Cell) (i : Item) → more (output_of s group i) (group_cell s group k ys i) row ≡ group_cell s group k (ys ++ row ∷ []) i
  item_grows k ys row (item.Column a) = refl
  item_grows k ys row (item.Agg f a) =
      ap (λ (x : Cell). joined f (group_cell s group k ys (item.Agg f a)) (aggregate f (x ∷ []))) (cell_at_place s a row)
      ∙ sym (cells_join s group k ys (row ∷ []) (item.Agg f a))
  item_grows k ys row item.CountAll = sym (cells_join s group k ys (row ∷ []) item.CountAll)

  begins : (k : List Cell) (items : List Item) → begun (map (output_of s group) items) k ≡ map (group_cell s group k []) items
  begins k [] = refl
  begins k (i ∷ is) = ap₂ (λ (x : Cell) l. x ∷ l) (item_begins k i) (begins k is)

  grows : (k : List Cell) (ys : List (List Cell)) (row : List Cell) (items : List Item) → grown (map (output_of s group) items) (map (group_cell s group k ys) items) row ≡ map (group_cell s group k (ys ++ row ∷ [])) items
  grows k ys row [] = refl
  grows k ys row (i ∷ is) = ap₂ (λ (x : Cell) l. x ∷ l) (item_grows k ys row i) (grows k ys row is)

  module _ (items : List Item) where
    abbrev g : Grouping
    g = grouping_of s group items

    abbrev of : List (List Cell) → List Cell → List Cell
    of rows k = cells_of_group s group items rows k

    abbrev Groups : List (List Cell) → Entries
    Groups rows = groups_of s group items rows

    -- the cells of a group with a row more, of its key and of another
    others : (rows : List (List Cell)) (row k : List Cell) → is_eq (row_cmp (key row) k) ≡ false → of (rows ++ row ∷ []) k ≡ of rows k
    others rows row k h =
        let n : has_key row_cmp key k row ≡ false = ap is_eq (rows_total.antisymm k (key row)) ∙ reversed (row_cmp (key row) k) ∙ h in
        ap (λ (ys : List (List Cell)). map (group_cell s group k ys) items)
        (filter-append (has_key row_cmp key k) rows (row ∷ []) ∙ ap (λ l. rows_of_group s group k rows ++ l) (filter_no (has_key row_cmp key k) row [] n) ∙ append-nil (rows_of_group s group k rows))

    its : (rows : List (List Cell)) (row : List Cell) → of (rows ++ row ∷ []) (key row) ≡ grown g.outputs (of rows (key row)) row
    its rows row =
        let y : has_key row_cmp key (key row) row ≡ true = ap is_eq (tied_itself rows_total (key row)) in
        ap (λ (ys : List (List Cell)). map (group_cell s group (key row) ys) items)
        (filter-append (has_key row_cmp key (key row)) rows (row ∷ []) ∙ ap (λ l. rows_of_group s group (key row) rows ++ l) (filter_yes (has_key row_cmp key (key row)) row [] y))
        ∙ sym (grows (key row) (rows_of_group s group (key row) rows) row items)

    -- a row is put into the group of its key, which may be new
    steps_by : (rows : List (List Cell)) (row : List Cell) (ks : List (List Cell)) → IsStrictlySortedBy row_cmp ks
        → (lookup (is_at (row_cmp (key row))) (map (entry_of s group items rows) ks) ≡ None → rows_of_group s group (key row) rows ≡ [])
        → (there : Option (List Cell)) → lookup (is_at (row_cmp (key row))) (map (entry_of s group items rows) ks) ≡ there
        → put_by g row (map (entry_of s group items rows) ks) there ≡ map (entry_of s group items (rows ++ row ∷ [])) (insert_key row_cmp ks (key row))
    steps_by rows row ks sorted none None e =
        let k : key_in g row ≡ key row = key_cells row group in
        let b : begun g.outputs (key row) ≡ of rows (key row) = begins (key row) items ∙ sym (ap (λ (ys : List (List Cell)). map (group_cell s group (key row) ys) items) (none e)) in
        ap (λ (z : List Cell). insert_entry row_cmp (map (entry_of s group items rows) ks) z (grown g.outputs (begun g.outputs z) row)) k
        ∙ ap (λ (z : List Cell). insert_entry row_cmp (map (entry_of s group items rows) ks) (key row) (grown g.outputs z row)) b
        ∙ not_there_yet rows_total rows_same (key row) (of rows) (of (rows ++ row ∷ [])) (λ z. grown g.outputs z row) (others rows row) (its rows row) ks sorted e
    steps_by rows row ks sorted none (Some x) e =
        let k : key_in g row ≡ key row = key_cells row group in
        ap (λ (z : List Cell). set_value (is_at (row_cmp z)) (map (entry_of s group items rows) ks) (grown g.outputs x row)) k
        ∙ found rows_total rows_same (key row) (of rows) (of (rows ++ row ∷ [])) (λ z. grown g.outputs z row) (others rows row) (its rows row) ks x sorted e

    steps_in : (rows : List (List Cell)) (row : List Cell) (ks : List (List Cell)) → IsStrictlySortedBy row_cmp ks
        → (lookup (is_at (row_cmp (key row))) (map (entry_of s group items rows) ks) ≡ None → rows_of_group s group (key row) rows ≡ [])
        → put g (map (entry_of s group items rows) ks) row ≡ map (entry_of s group items (rows ++ row ∷ [])) (insert_key row_cmp ks (key row))
    steps_in rows row ks sorted none =
        let k : key_in g row ≡ key row = key_cells row group in
        steps_by rows row ks sorted none (lookup (is_at (row_cmp (key_in g row))) (map (entry_of s group items rows) ks))
        (ap (λ (z : List Cell). lookup (is_at (row_cmp z)) (map (entry_of s group items rows) ks)) (sym k))

-- ---- all groups

steps : (s : ShapeView) (group : List (List ℕ)) (items : List Item) (rows : List (List Cell)) (row : List Cell) → put (grouping_of s group items) (groups_of s group items rows) row ≡ groups_of s group items (rows ++ row ∷ [])
unfolding IsStrictlySortedBy
steps s [] items rows row = steps_in s [] items rows row ([] ∷ []) (tt, tt) (λ h. cc)
steps s (name ∷ names) items rows row =
    let key = group_key s (name ∷ names) in
    steps_in s (name ∷ names) items rows row (distinct row_cmp key rows) (distinct_sorted rows_total key rows)
    (λ h. none_has rows_total key (key row) rows (looked_up (is_at (row_cmp (key row))) (cells_of_group s (name ∷ names) items rows) (distinct row_cmp key rows) h))
    ∙ ap (map (entry_of s (name ∷ names) items (rows ++ row ∷ []))) (sym (distinct_grows rows_total rows_same key rows row))

pub first : (s : ShapeView) (group : List (List ℕ)) (items : List Item) → first_groups (grouping_of s group items) ≡ groups_of s group items []
first s [] items = ap (λ (x : List Cell). ([], x) ∷ []) (begins s [] [] items)
first s (name ∷ names) items = refl

put_onto : (s : ShapeView) (group : List (List ℕ)) (items : List Item) (before rows : List (List Cell)) → put_all (grouping_of s group items) (groups_of s group items before) rows ≡ groups_of s group items (before ++ rows)
put_onto s group items before [] = ap (groups_of s group items) (sym (append-nil before))
put_onto s group items before (row ∷ rows) =
    ap (λ es. put_all (grouping_of s group items) es rows) (steps s group items before row)
    ∙ put_onto s group items (before ++ row ∷ []) rows
    ∙ ap (groups_of s group items) (append_assoc before (row ∷ []) rows)

cells_of : (s : ShapeView) (group : List (List ℕ)) (items : List Item) (rows ks : List (List Cell)) → map (λ (e : List Cell × List Cell). e.1) (map (entry_of s group items rows) ks) ≡ map (group_row s group items rows) ks
unfolding group_row
cells_of s group items rows [] = refl
cells_of s group items rows (k ∷ ks) = ap (λ l. cells_of_group s group items rows k ∷ l) (cells_of s group items rows ks)

-- the rows of the groups that rows were put into, one after the other
pub grouped_rows : (s : ShapeView) (group : List (List ℕ)) (items : List Item) (rows : List (List Cell)) → map (λ (e : List Cell × List Cell). e.1) (put_all (grouping_of s group items) (first_groups (grouping_of s group items)) rows) ≡ group_rows s group items rows
grouped_rows s group items rows =
    ap (λ (es : Entries). map (λ (e : List Cell × List Cell). e.1) es) (ap (λ es. put_all (grouping_of s group items) es rows) (first s group items) ∙ put_onto s group items [] rows)
    ∙ cells_of s group items rows (group_keys s group rows)

-- ---- the rows of an answer before they are ordered

pub grouped_are : (base s : ShapeView) (q : Query) (g : Grouping) (items : List Item) (rows : List (List Cell)) → true ≡ is_grouped base q → items ≡ items_of base q → g ≡ grouping_of s q.group items
    → map (λ (e : List Cell × List Cell). e.1) (put_all g (first_groups g) rows) ≡ output_rows_of base s q rows
grouped_are base s q g items rows h i e =
    ap (λ (z : Grouping). map (λ (e : List Cell × List Cell). e.1) (put_all z (first_groups z) rows)) (e ∙ ap (grouping_of s q.group) i)
    ∙ grouped_rows s q.group (items_of base q) rows
    ∙ ap (λ b. cond b (group_rows s q.group (items_of base q) rows) (map (plain_row s (items_of base q)) rows)) h

pub plain_are : (base s : ShapeView) (q : Query) (items : List Item) (places : List (Option ℕ)) (rows : List (List Cell)) → false ≡ is_grouped base q → items ≡ items_of base q → places ≡ map (plain_place s) items
    → map (cells_in places) rows ≡ output_rows_of base s q rows
plain_are base s q items places rows h i e =
    ap (λ ps. map (cells_in ps) rows) (e ∙ ap (map (plain_place s)) i)
    ∙ plain_rows s (items_of base q) rows
    ∙ ap (λ b. cond b (group_rows s q.group (items_of base q) rows) (map (plain_row s (items_of base q)) rows)) h

-- ---- all rows make one group

abbrev one_by : List Output → Grouping
one_by os = record { places = []; outputs = os }

into_one : (os : List Output) (xs : List Cell) (rows : List (List Cell)) → put_all (one_by os) (([], xs) ∷ []) rows ≡ ([], grown_by os xs rows) ∷ []
into_one os xs [] = refl
into_one os xs (row ∷ rows) = into_one os (grown os xs row) rows

pub one_group : (g : Grouping) (rows : List (List Cell)) → g.places ≡ [] → map (λ (e : List Cell × List Cell). e.1) (put_all g (first_groups g) rows) ≡ grown_by g.outputs (begun g.outputs []) rows ∷ []
one_group g rows e =
    ap (λ (ps : List (Option ℕ)). map (λ (e : List Cell × List Cell). e.1) (put_all (record { places = ps; outputs = g.outputs }) (first_groups (record { places = ps; outputs = g.outputs })) rows)) e
    ∙ ap (map (λ (e : List Cell × List Cell). e.1)) (into_one g.outputs (begun g.outputs []) rows)
