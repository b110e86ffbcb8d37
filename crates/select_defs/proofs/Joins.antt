-- Aggregates merge from the aggregates of parts.
use Rattle.std.proofs.Common.{◌≡◌, ℕ, ◌+◌, ◌%◌, ◌^◌, List, [], ◌∷◌, ◌++◌, length, map, refl, sym, ap, ap₂, ◌∙◌, arith, w64, filter, fold, length-append}
use Rattle.std.proofs.Math.Nat.{add-mod-mod, mod-add-mod}
use Rattle.std.proofs.lemmas.Int.{of_z-to_z}
use Rattle.std.proofs.lemmas.List.{map-append}
use Rattle.std.proofs.lemmas.List.Elements.{filter-append}
use Rattle.std.proofs.lemmas.List.Sums.{fold-append}
use Rattle.std.specs.Int.{cast_signed}
use Rattle.agg_functions.specs.Merge.{merged_cell}
use Rattle.agg_functions.specs.MergeLemmas.{kind_laws}
use Rattle.dl_values.specs.declared.agg_kind.AggKind.{AggKind}
use Rattle.dl_values.specs.declared.agg_kind.AggKind.TheVariants as merge
use Rattle.dl_values.specs.declared.cell.Cell.{Cell}
use Rattle.dl_values.specs.declared.cell.Cell.TheVariants as cell
use Rattle.dl_values.specs.Order.{row_cmp}
use Rattle.fold_laws.specs.Fold.{has_key}
use Rattle.schema_models.specs.ShapeView.{ShapeView}
use Rattle.sql_text.specs.declared.query.AggFn.{AggFn}
use Rattle.sql_text.specs.declared.query.AggFn.TheVariants as fn
use Rattle.sql_text.specs.declared.query.Item.{Item}
use Rattle.sql_text.specs.declared.query.Item.TheVariants as item
use Rattle.select_defs.specs.Aggregates.{aggregate, count_cell, not_null}
use Rattle.select_defs.specs.Columns.{cell_named}
use Rattle.select_defs.specs.Groups.{group_cell, group_key, rows_of_group}
use Rattle.select_defs.specs.Laws.{joined, joined_item}

module _ (k : AggKind) (neutral : (a : Cell) → merged_cell k a cell.Null ≡ a) where
  abbrev op : Cell → Cell → Cell
  op a b = merged_cell k a b

  fold_from : (a : Cell) (ys : List Cell) → fold op a ys ≡ op a (fold op cell.Null ys)
  fold_from a [] = sym (neutral a)
  fold_from a (y ∷ ys) =
      let starts : op cell.Null y ≡ y = (kind_laws k).starts y in
      fold_from (op a y) ys ∙ (kind_laws k).assoc a y (fold op cell.Null ys)
      ∙ ap (op a) (sym (ap (λ (b : Cell). fold op b ys) starts ∙ fold_from y ys))

  pub fold_joins : (xs ys : List Cell) → fold (merged_cell k) cell.Null (xs ++ ys) ≡ merged_cell k (fold (merged_cell k) cell.Null xs) (fold (merged_cell k) cell.Null ys)
  fold_joins xs ys = fold-append (merged_cell k) cell.Null xs ys ∙ fold_from (fold op cell.Null xs) ys

-- a count of both is the sum of the counts
pub counts_join : (m n : ℕ) → count_cell (m + n) ≡ merged_cell merge.Sum (count_cell m) (count_cell n)
counts_join m n =
    ap (λ (i : ℕ). cell.Int (cast_signed w64 i))
    (sym (ap₂ (λ (a b : ℕ). (a + b) % 2 ^ 64) (of_z-to_z w64 (m % 2 ^ 64) (omega arith)) (of_z-to_z w64 (n % 2 ^ 64) (omega arith))
    ∙ mod-add-mod m (2 ^ 64) (n % 2 ^ 64) ∙ add-mod-mod m n (2 ^ 64)))

lengths_join : {A : Type 0} (xs ys : List A) → count_cell (length (xs ++ ys)) ≡ merged_cell merge.Sum (count_cell (length xs)) (count_cell (length ys))
lengths_join xs ys = ap count_cell (length-append xs ys) ∙ counts_join (length xs) (length ys)

pub aggregates_join : (f : AggFn) (xs ys : List Cell) → aggregate f (xs ++ ys) ≡ joined f (aggregate f xs) (aggregate f ys)
aggregates_join fn.Sum xs ys = fold_joins merge.Sum (λ a. refl) xs ys
aggregates_join fn.Min xs ys = fold_joins merge.Min (λ a. refl) xs ys
aggregates_join fn.Max xs ys = fold_joins merge.Max (λ a. refl) xs ys
aggregates_join fn.Count xs ys = ap (λ (l : List Cell). count_cell (length l)) (filter-append not_null xs ys) ∙ lengths_join (filter not_null xs) (filter not_null ys)

module _ (s : ShapeView) (group : List (List ℕ)) (k : List Cell) where
  pub rows_join : (xs ys : List (List Cell)) → rows_of_group s group k (xs ++ ys) ≡ rows_of_group s group k xs ++ rows_of_group s group k ys
  rows_join xs ys = filter-append (has_key row_cmp (group_key s group) k) xs ys

  pub cells_join : (xs ys : List (List Cell)) (i : Item) → group_cell s group k (xs ++ ys) i ≡ joined_item i (group_cell s group k xs i) (group_cell s group k ys i)
  cells_join xs ys (item.Column a) = refl
  cells_join xs ys (item.Agg f a) = ap (aggregate f) (map-append (cell_named s a) xs ys) ∙ aggregates_join f (map (cell_named s a) xs) (map (cell_named s a) ys)
  cells_join xs ys item.CountAll = lengths_join xs ys
