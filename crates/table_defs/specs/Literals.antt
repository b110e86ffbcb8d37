-- What literals stand for beside a column (Apache Doris documentation, "CREATE TABLE"; that they are read as the texts of a
-- load are is this project's own).
use Rattle.std.specs.Prelude.{ℕ, List, [], Option, Some, None, pos, unwrap_or}
use Rattle.std.specs.Fmt.{signed_decimal}
use Rattle.dl_values.specs.Read.{read}
use Rattle.dl_values.specs.declared.cell.Cell.{Cell}
use Rattle.dl_values.specs.declared.cell.Cell.TheVariants as cell
use Rattle.dl_values.specs.declared.col_type.ColType.{ColType}
use Rattle.dl_values.specs.declared.col_type.ColType.TheVariants as kind
use Rattle.sql_text.specs.declared.query.Literal.{Literal}
use Rattle.sql_text.specs.declared.query.Literal.TheVariants as literal

-- the text of a literal
abbrev pub literal_text : Literal → List ℕ
literal_text (literal.Int z) = signed_decimal z
literal_text (literal.Text t) = t

-- a cell that no column of the type may have
abbrev pub unfit_cell : ColType → Cell
unfit_cell (kind.Varchar m) = cell.Int (pos 0)
unfit_cell _ = cell.Text []

-- the default of a literal; one that cannot be read is a cell that does not fit, so that the shape refuses it in its place
abbrev pub value_cell : ColType → Literal → Cell
value_cell t l = unwrap_or (read t (literal_text l)) (unfit_cell t)

-- the end of a range; one that cannot be read is null, which is no end, so that the layout refuses it in its place
abbrev pub end_cell : Option ColType → Literal → Cell
end_cell None l = cell.Null
end_cell (Some t) l = unwrap_or (read t (literal_text l)) cell.Null
