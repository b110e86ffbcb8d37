-- Tests of cells: by how a cell stands to a literal, or by whether it is null. A comparison with null is false (Apache Doris
-- documentation, "NULL").
use Rattle.std.specs.Prelude.{Bool, true, false, not, ◌&&◌}
use Rattle.std.specs.Ordering.{is_eq, is_ge, is_gt, is_le, is_lt}
use Rattle.std.specs.declared.cmp.Ordering.{Ordering}
use Rattle.dl_values.specs.Order.{cell_cmp}
use Rattle.dl_values.specs.declared.cell.Cell.{Cell}
use Rattle.dl_values.specs.declared.cell.Cell.TheVariants as cell
use Rattle.zones.specs.declared.test.Op.{Op}
use Rattle.zones.specs.declared.test.Op.TheVariants as op

abbrev pub is_null : Cell → Bool
is_null cell.Null = true
is_null _ = false

abbrev pub by_order : Op → Ordering → Bool
by_order op.Eq o = is_eq o
by_order op.Ne o = not (is_eq o)
by_order op.Lt o = is_lt o
by_order op.Le o = is_le o
by_order op.Gt o = is_gt o
by_order op.Ge o = is_ge o
by_order _ o = false

abbrev pub compares : Op → Cell → Cell → Bool
compares o l x = not (is_null l) && (not (is_null x) && by_order o (cell_cmp x l))

-- whether a cell passes, by the operator and the literal
abbrev pub passes : Op → Cell → Cell → Bool
passes op.IsNull l x = is_null x
passes op.IsNotNull l x = not (is_null x)
passes o l x = compares o l x
