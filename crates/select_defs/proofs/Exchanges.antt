-- A query answers the same where neighbouring rows change places.
use Rattle.std.proofs.Common.{◌≡◌, ℕ, Bool, true, false, cond, List, [], ◌∷◌, ◌++◌, length, map, refl, sym, ap, ap₂, ◌∙◌, subst, filter, fold, length-append, ◌⊎◌, inl, inr}
use Rattle.std.proofs.lemmas.List.{map-append}
use Rattle.std.proofs.lemmas.List.Elements.{filter-append}
use Rattle.std.proofs.lemmas.List.Sums.{fold-append}
use Rattle.std.specs.FinMap.{IsAntisymmetric}
use Rattle.std.specs.Ordering.{is_eq}
use Rattle.std.specs.declared.cmp.Ordering.{Ordering}
use Rattle.std.specs.declared.cmp.Ordering.TheVariants.{Less, Equal, Greater}
use Rattle.agg_functions.specs.Merge.{merged_cell}
use Rattle.agg_functions.specs.MergeLemmas.{kind_laws, max_comm, min_comm, sum_comm}
use Rattle.dl_values.specs.Order.{row_cmp}
use Rattle.dl_values.specs.OrderLemmas.{rows_same, rows_total}
use Rattle.dl_values.specs.declared.agg_kind.AggKind.{AggKind}
use Rattle.dl_values.specs.declared.agg_kind.AggKind.TheVariants as merge
use Rattle.dl_values.specs.declared.cell.Cell.{Cell}
use Rattle.dl_values.specs.declared.cell.Cell.TheVariants as cell
use Rattle.fold_laws.proofs.Folds.{fold_stable}
use Rattle.fold_laws.proofs.Streams.{gathers_all}
use Rattle.fold_laws.proofs.Unique.{filter_no, filter_yes}
use Rattle.fold_laws.specs.Fold.{distinct, has_key}
use Rattle.schema_models.specs.ShapeView.{ShapeView}
use Rattle.sql_text.specs.declared.query.AggFn.{AggFn}
use Rattle.sql_text.specs.declared.query.AggFn.TheVariants as fn
use Rattle.sql_text.specs.declared.query.Item.{Item}
use Rattle.sql_text.specs.declared.query.Item.TheVariants as item
use Rattle.sql_text.specs.declared.query.OrderKey.{OrderKey}
use Rattle.sql_text.specs.declared.query.Query.{Query}
use Rattle.select_defs.specs.Aggregates.{aggregate, count_cell, not_null}
use Rattle.select_defs.specs.Columns.{cell_named}
use Rattle.select_defs.specs.Eval.{Eval, unless}
use Rattle.select_defs.specs.Filters.{passes, selected}
use Rattle.select_defs.specs.Groups.{group_cell, group_key, group_keys, group_row, group_rows, output_rows, plain_row, rows_of_group}
use Rattle.select_defs.specs.Items.{items_of, output_name, output_type}
use Rattle.select_defs.specs.Orders.{limited, ordered}
use Rattle.select_defs.specs.Refusals.{is_grouped, refusal}
use Rattle.select_defs.proofs.Neighbours.{distinct_near}
use Rattle.select_defs.proofs.OrderLaws.{order_same, order_total}

-- two neighbours have changed places
record Exchanged {X : Type 0} (xs ys : List X) : Type 0 where
  front : List X
  one : X
  other : X
  back : List X
  before : xs ≡ front ++ one ∷ other ∷ back
  after : ys ≡ front ++ other ∷ one ∷ back

abbrev Near : {X : Type 0} → List X → List X → Type 0
Near xs ys = (xs ≡ ys) ⊎ Exchanged xs ys

exchanged : {X : Type 0} (front back : List X) (a b : X) → Near (front ++ a ∷ b ∷ back) (front ++ b ∷ a ∷ back)
exchanged front back a b = inr (record { front = front; one = a; other = b; back = back; before = refl; after = refl })

near_map : {X Y : Type 0} (f : X → Y) (xs ys : List X) → Near xs ys → Near (map f xs) (map f ys)
near_map f xs ys (inl e) = inl (ap (map f) e)
near_map f xs ys (inr e) = inr (record {
  front = map f e.front;
  one = f e.one;
  other = f e.other;
  back = map f e.back;
  before = ap (map f) e.before ∙ map-append f e.front (e.one ∷ e.other ∷ e.back);
  after = ap (map f) e.after ∙ map-append f e.front (e.other ∷ e.one ∷ e.back);
})

near_filter : {X : Type 0} (p : X → Bool) (xs ys : List X) → Near xs ys → Near (filter p xs) (filter p ys)
near_filter p xs ys (inl e) = inl (ap (filter p) e)
near_filter p xs ys (inr e) = go (p e.one) (p e.other) refl refl
  where
    one_first : filter p xs ≡ filter p e.front ++ filter p (e.one ∷ e.other ∷ e.back)
    one_first = ap (filter p) e.before ∙ filter-append p e.front (e.one ∷ e.other ∷ e.back)

    other_first : filter p ys ≡ filter p e.front ++ filter p (e.other ∷ e.one ∷ e.back)
    other_first = ap (filter p) e.after ∙ filter-append p e.front (e.other ∷ e.one ∷ e.back)

    go : (b c : Bool) → p e.one ≡ b → p e.other ≡ c → Near (filter p xs) (filter p ys)
    go true true h k = inr (record {
      front = filter p e.front;
      one = e.one;
      other = e.other;
      back = filter p e.back;
      before = one_first ∙ ap (λ l. filter p e.front ++ l) (filter_yes p e.one (e.other ∷ e.back) h ∙ ap (λ l. e.one ∷ l) (filter_yes p e.other e.back k));
      after = other_first ∙ ap (λ l. filter p e.front ++ l) (filter_yes p e.other (e.one ∷ e.back) k ∙ ap (λ l. e.other ∷ l) (filter_yes p e.one e.back h));
    })
    go true false h k = inl (one_first ∙ ap (λ l. filter p e.front ++ l) (filter_yes p e.one (e.other ∷ e.back) h ∙ ap (λ l. e.one ∷ l) (filter_no p e.other e.back k) ∙ sym (filter_no p e.other (e.one ∷ e.back) k ∙ filter_yes p e.one e.back h)) ∙ sym other_first)
    go false true h k = inl (one_first ∙ ap (λ l. filter p e.front ++ l) (filter_no p e.one (e.other ∷ e.back) h ∙ filter_yes p e.other e.back k ∙ sym (filter_yes p e.other (e.one ∷ e.back) k ∙ ap (λ l. e.other ∷ l) (filter_no p e.one e.back h))) ∙ sym other_first)
    go false false h k = inl (one_first ∙ ap (λ l. filter p e.front ++ l) (filter_no p e.one (e.other ∷ e.back) h ∙ filter_no p e.other e.back k ∙ sym (filter_no p e.other (e.one ∷ e.back) k ∙ filter_no p e.one e.back h)) ∙ sym other_first)

near_length : {X : Type 0} (xs ys : List X) → Near xs ys → length xs ≡ length ys
near_length xs ys (inl e) = ap length e
near_length xs ys (inr e) = ap length e.before ∙ length-append e.front (e.one ∷ e.other ∷ e.back) ∙ sym (ap length e.after ∙ length-append e.front (e.other ∷ e.one ∷ e.back))

-- ---- aggregates

near_fold : (k : AggKind) → ((a b : Cell) → merged_cell k a b ≡ merged_cell k b a) → (xs ys : List Cell) → Near xs ys → fold (merged_cell k) cell.Null xs ≡ fold (merged_cell k) cell.Null ys
near_fold k comm xs ys (inl e) = ap (fold (merged_cell k) cell.Null) e
near_fold k comm xs ys (inr e) =
    let z = fold (merged_cell k) cell.Null e.front in
    ap (fold (merged_cell k) cell.Null) e.before ∙ fold-append (merged_cell k) cell.Null e.front (e.one ∷ e.other ∷ e.back)
    ∙ ap (λ (m : Cell). fold (merged_cell k) m e.back) ((kind_laws k).assoc z e.one e.other ∙ ap (merged_cell k z) (comm e.one e.other) ∙ sym ((kind_laws k).assoc z e.other e.one))
    ∙ sym (ap (fold (merged_cell k) cell.Null) e.after ∙ fold-append (merged_cell k) cell.Null e.front (e.other ∷ e.one ∷ e.back))

near_aggregate : (f : AggFn) (xs ys : List Cell) → Near xs ys → aggregate f xs ≡ aggregate f ys
near_aggregate fn.Sum xs ys n = near_fold merge.Sum sum_comm xs ys n
near_aggregate fn.Min xs ys n = near_fold merge.Min min_comm xs ys n
near_aggregate fn.Max xs ys n = near_fold merge.Max max_comm xs ys n
near_aggregate fn.Count xs ys n = ap count_cell (near_length (filter not_null xs) (filter not_null ys) (near_filter not_null xs ys n))

-- ---- groups

module _ (s : ShapeView) (group : List (List ℕ)) where
  near_cell : (k : List Cell) (xs ys : List (List Cell)) → Near xs ys → (i : Item) → group_cell s group k xs i ≡ group_cell s group k ys i
  near_cell k xs ys n (item.Column a) = refl
  near_cell k xs ys n (item.Agg f a) = near_aggregate f (map (cell_named s a) xs) (map (cell_named s a) ys) (near_map (cell_named s a) xs ys n)
  near_cell k xs ys n item.CountAll = ap count_cell (near_length xs ys n)

  map_same : {X Y : Type 0} (f g : X → Y) → ((x : X) → f x ≡ g x) → (xs : List X) → map f xs ≡ map g xs
  map_same f g h [] = refl
  map_same f g h (x ∷ xs) = ap₂ (λ y ys. y ∷ ys) (h x) (map_same f g h xs)

  near_row : (items : List Item) (xs ys : List (List Cell)) → Near xs ys → (k : List Cell) → group_row s group items xs k ≡ group_row s group items ys k
  unfolding group_row
  near_row items xs ys n k =
      map_same (group_cell s group k (rows_of_group s group k xs)) (group_cell s group k (rows_of_group s group k ys))
      (near_cell k (rows_of_group s group k xs) (rows_of_group s group k ys) (near_filter (has_key row_cmp (group_key s group) k) xs ys n)) items

near_distinct : (key : List Cell → List Cell) (xs ys : List (List Cell)) → Near xs ys → distinct row_cmp key xs ≡ distinct row_cmp key ys
near_distinct key xs ys (inl e) = ap (distinct row_cmp key) e
near_distinct key xs ys (inr e) = ap (distinct row_cmp key) e.before ∙ distinct_near rows_total rows_same key e.front e.back e.one e.other ∙ sym (ap (distinct row_cmp key) e.after)

near_keys : (s : ShapeView) (group : List (List ℕ)) (xs ys : List (List Cell)) → Near xs ys → group_keys s group xs ≡ group_keys s group ys
near_keys s [] xs ys n = refl
near_keys s (name ∷ names) xs ys n = near_distinct (group_key s (name ∷ names)) xs ys n

near_groups : (s : ShapeView) (group : List (List ℕ)) (items : List Item) (xs ys : List (List Cell)) → Near xs ys → group_rows s group items xs ≡ group_rows s group items ys
near_groups s group items xs ys n =
    ap (map (group_row s group items xs)) (near_keys s group xs ys n)
    ∙ map_same s group (group_row s group items xs) (group_row s group items ys) (near_row s group items xs ys n) (group_keys s group ys)

-- ---- the order

module _ {X : Type 0} {cmp : X → X → Ordering} (same : IsAntisymmetric cmp) (k : X) where
  abbrev is_it : X → Bool
  is_it x = has_key cmp (λ y. y) k x

  it_is : (x : X) → is_it x ≡ true → k ≡ x
  it_is x h = same k x (go (cmp k x) h)
    where
      go : (c : Ordering) → is_eq c ≡ true → c ≡ Equal
      go Less e = cc
      go Equal e = refl
      go Greater e = cc

  two_same : (a b : X) (xs : List X) → filter is_it (a ∷ b ∷ xs) ≡ filter is_it (b ∷ a ∷ xs)
  two_same a b xs = go (is_it a) (is_it b) refl refl
    where
      go : (c d : Bool) → is_it a ≡ c → is_it b ≡ d → filter is_it (a ∷ b ∷ xs) ≡ filter is_it (b ∷ a ∷ xs)
      go true true h e = let p : a ≡ b = sym (it_is a h) ∙ it_is b e in subst (λ z. filter is_it (a ∷ z ∷ xs) ≡ filter is_it (z ∷ a ∷ xs)) p refl
      go true false h e = filter_yes is_it a (b ∷ xs) h ∙ ap (λ l. a ∷ l) (filter_no is_it b xs e) ∙ sym (filter_no is_it b (a ∷ xs) e ∙ filter_yes is_it a xs h)
      go false true h e = filter_no is_it a (b ∷ xs) h ∙ filter_yes is_it b xs e ∙ sym (filter_yes is_it b (a ∷ xs) e ∙ ap (λ l. b ∷ l) (filter_no is_it a xs h))
      go false false h e = filter_no is_it a (b ∷ xs) h ∙ filter_no is_it b xs e ∙ sym (filter_no is_it b (a ∷ xs) e ∙ filter_no is_it a xs h)

  near_same : (xs ys : List X) → Near xs ys → filter is_it xs ≡ filter is_it ys
  near_same xs ys (inl e) = ap (filter is_it) e
  near_same xs ys (inr e) =
      ap (filter is_it) e.before ∙ filter-append is_it e.front (e.one ∷ e.other ∷ e.back)
      ∙ ap (λ l. filter is_it e.front ++ l) (two_same e.one e.other e.back)
      ∙ sym (ap (filter is_it) e.after ∙ filter-append is_it e.front (e.other ∷ e.one ∷ e.back))

near_ordered : (items : List Item) (keys : List OrderKey) (xs ys : List (List Cell)) → Near xs ys → ordered items keys xs ≡ ordered items keys ys
near_ordered items keys xs ys n =
    let o = order_total items keys in
    let row = λ (x : List Cell). x in
    fold_stable o row (order_same items keys) (gathers_all o row) xs ys (λ k. near_same (order_same items keys) k xs ys n)

-- ---- the answer

module _ (base s : ShapeView) (q : Query) (xs ys : List (List Cell)) (n : Near xs ys) where
  near_selected : Near (selected base s q xs) (selected base s q ys)
  near_selected = near_filter (passes base s q) xs ys n

  near_output : Near (output_rows base s q xs) (output_rows base s q ys)
  near_output = go (is_grouped base q)
    where
      go : (b : Bool) → Near (cond b (group_rows s q.group (items_of base q) (selected base s q xs)) (map (plain_row s (items_of base q)) (selected base s q xs)))
          (cond b (group_rows s q.group (items_of base q) (selected base s q ys)) (map (plain_row s (items_of base q)) (selected base s q ys)))
      go true = inl (near_groups s q.group (items_of base q) (selected base s q xs) (selected base s q ys) near_selected)
      go false = near_map (plain_row s (items_of base q)) (selected base s q xs) (selected base s q ys) near_selected

  near_answer : Eval base s q xs ≡ Eval base s q ys
  unfolding Eval
  near_answer = ap (λ (rows : List (List Cell)). unless (refusal base q) (record {
    names = map output_name (items_of base q);
    types = map (output_type base) (items_of base q);
    rows = limited q.limit rows;
  })) (near_ordered (items_of base q) q.order (output_rows base s q xs) (output_rows base s q ys) near_output)

pub exchanges : (base s : ShapeView) (q : Query) (front back : List (List Cell)) (a b : List Cell) → Eval base s q (front ++ a ∷ b ∷ back) ≡ Eval base s q (front ++ b ∷ a ∷ back)
exchanges base s q front back a b = near_answer base s q (front ++ a ∷ b ∷ back) (front ++ b ∷ a ∷ back) (exchanged front back a b)
