-- Which rows pass the tests of a query (Apache Doris documentation, "SELECT", "WHERE"; which literals fit a column is this
-- project's own).
use Rattle.std.specs.Prelude.{Bool, true, false, not, List, Option, Some, None}
use Rattle.std.specs.List.{filter, list_all}
use Rattle.std.specs.Ordering.{is_eq, is_ge, is_gt, is_le, is_lt}
use Rattle.std.specs.declared.cmp.Ordering.{Ordering}
use Rattle.dl_values.specs.Order.{cell_cmp}
use Rattle.dl_values.specs.Read.{read}
use Rattle.dl_values.specs.declared.cell.Cell.{Cell}
use Rattle.dl_values.specs.declared.cell.Cell.TheVariants as cell
use Rattle.dl_values.specs.declared.col_type.ColType.{ColType}
use Rattle.dl_values.specs.declared.col_type.ColType.TheVariants as kind
use Rattle.schema_models.specs.ShapeView.{ShapeView}
use Rattle.sql_text.specs.declared.query.Check.{Check}
use Rattle.sql_text.specs.declared.query.Check.TheVariants as check
use Rattle.sql_text.specs.declared.query.CompareOp.{CompareOp}
use Rattle.sql_text.specs.declared.query.CompareOp.TheVariants as op
use Rattle.sql_text.specs.declared.query.Filter.{Filter}
use Rattle.sql_text.specs.declared.query.Literal.{Literal}
use Rattle.sql_text.specs.declared.query.Literal.TheVariants as literal
use Rattle.sql_text.specs.declared.query.Query.{Query}
use Rattle.select_defs.specs.Columns.{cell_named, kind_named}

-- the cell of a literal beside a column of a type, where it fits: integers and strings that read as BIGINT beside
-- integers, strings that read as a day beside days, and strings beside texts of any length
abbrev pub literal_cell : ColType → Literal → Option Cell
literal_cell kind.Date (literal.Int z) = None
literal_cell (kind.Varchar m) (literal.Int z) = None
literal_cell _ (literal.Int z) = Some (cell.Int z)
literal_cell kind.Date (literal.Text t) = read kind.Date t
literal_cell (kind.Varchar m) (literal.Text t) = Some (cell.Text t)
literal_cell _ (literal.Text t) = read kind.BigInt t

-- a cell that stands so to a literal's passes
abbrev pub passes_op : CompareOp → Ordering → Bool
passes_op op.Eq o = is_eq o
passes_op op.Ne o = not (is_eq o)
passes_op op.Lt o = is_lt o
passes_op op.Le o = is_le o
passes_op op.Gt o = is_gt o
passes_op op.Ge o = is_ge o

-- a comparison with null is false
abbrev pub compares : CompareOp → Cell → Option Cell → Bool
compares o cell.Null y = false
compares o x None = false
compares o x (Some y) = passes_op o (cell_cmp x y)

abbrev pub is_null : Cell → Bool
is_null cell.Null = true
is_null _ = false

abbrev pub passes_check : ColType → Check → Cell → Bool
passes_check t (check.Compare o l) x = compares o x (literal_cell t l)
passes_check t check.IsNull x = is_null x
passes_check t check.IsNotNull x = not (is_null x)

-- of a column that is none nothing passes; such a query is refused
abbrev pub passes_in : Option ColType → Check → Cell → Bool
passes_in None c x = false
passes_in (Some t) c x = passes_check t c x

abbrev pub passes_filter : ShapeView → ShapeView → List Cell → Filter → Bool
passes_filter base s row f = passes_in (kind_named base f.column) f.check (cell_named s f.column row)

-- a row passes all of the tests
abbrev pub passes : ShapeView → ShapeView → Query → List Cell → Bool
passes base s q row = list_all (passes_filter base s row) q.filters

-- the rows that pass
abbrev pub selected : ShapeView → ShapeView → Query → List (List Cell) → List (List Cell)
selected base s q rows = filter (passes base s q) rows
