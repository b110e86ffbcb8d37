-- The tests of a query whose columns and literals were looked up once, before any row (this project's own).
use Rattle.std.specs.Prelude.{Bool, false, not, List, Option, Some, None}
use Rattle.std.specs.List.{list_all}
use Rattle.dl_values.specs.declared.cell.Cell.{Cell}
use Rattle.dl_values.specs.declared.col_type.ColType.{ColType}
use Rattle.schema_models.specs.ShapeView.{ShapeView}
use Rattle.sql_text.specs.declared.query.Check.{Check}
use Rattle.sql_text.specs.declared.query.Check.TheVariants as check
use Rattle.sql_text.specs.declared.query.CompareOp.{CompareOp}
use Rattle.sql_text.specs.declared.query.Filter.{Filter}
use Rattle.select_defs.specs.Columns.{kind_named}
use Rattle.select_defs.specs.Filters.{compares, is_null, literal_cell}
use Rattle.select_eval.specs.Places.{cell_in, place_of}
use Rattle.select_eval.specs.declared.asked.Asked.{Asked}
use Rattle.select_eval.specs.declared.asked.Asked.TheVariants as asked
use Rattle.select_eval.specs.declared.condition.Condition.{Condition}

-- what a check asks of cells of a type: nothing passes a literal that does not fit
abbrev pub compared : CompareOp → Option Cell → Asked
compared o None = asked.Never
compared o (Some y) = asked.Compare o y

abbrev pub asked_of : ColType → Check → Asked
asked_of t (check.Compare o l) = compared o (literal_cell t l)
asked_of t check.IsNull = asked.IsNull
asked_of t check.IsNotNull = asked.IsNotNull

abbrev pub asked_in : Option ColType → Check → Asked
asked_in None c = asked.Never
asked_in (Some t) c = asked_of t c

-- a test of a query over the rows of a shape
abbrev pub condition_of : ShapeView → ShapeView → Filter → Condition
condition_of base s f = record { place = place_of s f.column; asked = asked_in (kind_named base f.column) f.check }

-- whether a cell is what is asked
abbrev pub passes : Asked → Cell → Bool
passes (asked.Compare o y) x = compares o x (Some y)
passes asked.IsNull x = is_null x
passes asked.IsNotNull x = not (is_null x)
passes asked.Never x = false

-- whether a row passes a test, and all of them
abbrev pub holds : List Cell → Condition → Bool
holds row c = passes c.asked (cell_in row c.place)

abbrev pub all_hold : List Condition → List Cell → Bool
all_hold list row = list_all (holds row) list
