-- Tests by places and cells are the tests of the query.
use Rattle.std.proofs.Common.{◌≡◌, Bool, ◌&&◌, List, [], ◌∷◌, map, Option, Some, None, refl, ap, ap₂, ◌∙◌}
use Rattle.std.specs.List.{filter, list_all}
use Rattle.std.proofs.lemmas.List.Elements.{filter_agree}
use Rattle.dl_values.specs.declared.cell.Cell.{Cell}
use Rattle.dl_values.specs.declared.cell.Cell.TheVariants as cell
use Rattle.dl_values.specs.declared.col_type.ColType.{ColType}
use Rattle.schema_models.specs.ShapeView.{ShapeView}
use Rattle.sql_text.specs.declared.query.Check.{Check}
use Rattle.sql_text.specs.declared.query.Check.TheVariants as check
use Rattle.sql_text.specs.declared.query.CompareOp.{CompareOp}
use Rattle.sql_text.specs.declared.query.Filter.{Filter}
use Rattle.sql_text.specs.declared.query.Query.{Query}
use Rattle.select_defs.specs.Columns.{kind_named}
use Rattle.select_defs.specs.Filters.{compares, literal_cell, passes_check, passes_filter, passes_in, selected}
use Rattle.select_defs.specs.Filters as filters
use Rattle.select_eval.specs.Conditions.{all_hold, asked_in, asked_of, compared, condition_of, holds, passes}
use Rattle.select_eval.specs.Places.{cell_in, place_of}
use Rattle.select_eval.specs.declared.condition.Condition.{Condition}
use Rattle.select_eval.proofs.PlaceLaws.{cell_at_place}

compared_is : (o : CompareOp) (y : Option Cell) (x : Cell) → passes (compared o y) x ≡ compares o x y
compared_is o None cell.Null = refl
compared_is o None (cell.Int n) = refl
compared_is o None (cell.Day n) = refl
compared_is o None (cell.Text n) = refl
compared_is o (Some y) x = refl

asked_is : (t : ColType) (c : Check) (x : Cell) → passes (asked_of t c) x ≡ passes_check t c x
asked_is t (check.Compare o l) x = compared_is o (literal_cell t l) x
asked_is t check.IsNull x = refl
asked_is t check.IsNotNull x = refl

asked_in_is : (t : Option ColType) (c : Check) (x : Cell) → passes (asked_in t c) x ≡ passes_in t c x
asked_in_is None c x = refl
asked_in_is (Some t) c x = asked_is t c x

module _ (base s : ShapeView) where
  condition_is : (row : List Cell) (f : Filter) → holds row (condition_of base s f) ≡ passes_filter base s row f
  condition_is row f = asked_in_is (kind_named base f.column) f.check (cell_in row (place_of s f.column)) ∙ ap (passes_in (kind_named base f.column) f.check) (cell_at_place s f.column row)

  conditions_are : (row : List Cell) (fs : List Filter) → all_hold (map (condition_of base s) fs) row ≡ list_all (passes_filter base s row) fs
  conditions_are row [] = refl
  conditions_are row (f ∷ fs) = ap₂ (λ (a b : Bool). a && b) (condition_is row f) (conditions_are row fs)

  selected_is : (q : Query) (rows : List (List Cell)) → filter (all_hold (map (condition_of base s) q.filters)) rows ≡ selected base s q rows
  selected_is q rows = filter_agree (all_hold (map (condition_of base s) q.filters)) (filters.passes base s q) (λ row. conditions_are row q.filters) rows

  pub passing_is : (q : Query) (list : List Condition) (rows : List (List Cell)) → list ≡ map (condition_of base s) q.filters → filter (all_hold list) rows ≡ selected base s q rows
  passing_is q list rows e = ap (λ (l : List Condition). filter (all_hold l) rows) e ∙ selected_is q rows
