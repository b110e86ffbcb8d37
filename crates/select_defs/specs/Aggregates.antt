-- What aggregates make of the cells of a group (Apache Doris documentation, "Aggregate Functions"; counts and sums are this
-- project's own in that they are taken modulo 2^64).
use Rattle.std.specs.Prelude.{ℕ, ◌%◌, ◌^◌, Bool, not, List, length}
use Rattle.std.specs.Int.{cast_signed}
use Rattle.std.specs.List.{filter, fold}
use mir.Syntax.{w64}
use Rattle.agg_functions.specs.Merge.{merged_cell}
use Rattle.dl_values.specs.declared.agg_kind.AggKind.TheVariants as merge
use Rattle.dl_values.specs.declared.cell.Cell.{Cell}
use Rattle.dl_values.specs.declared.cell.Cell.TheVariants as cell
use Rattle.sql_text.specs.declared.query.AggFn.{AggFn}
use Rattle.sql_text.specs.declared.query.AggFn.TheVariants as fn
use Rattle.select_defs.specs.Filters.{is_null}

-- a count modulo 2^64, in two's complement
abbrev pub count_cell : ℕ → Cell
count_cell n = cell.Int (cast_signed w64 (n % 2 ^ 64))

abbrev pub not_null : Cell → Bool
not_null x = not (is_null x)

-- Sums, least and greatest cells merge as columns of these kinds do: a null counts for nothing, and of no cell that is not
-- null they are null. A count is of the cells that are not null.
abbrev pub aggregate : AggFn → List Cell → Cell
aggregate fn.Sum cells = fold (merged_cell merge.Sum) cell.Null cells
aggregate fn.Min cells = fold (merged_cell merge.Min) cell.Null cells
aggregate fn.Max cells = fold (merged_cell merge.Max) cell.Null cells
aggregate fn.Count cells = count_cell (length (filter not_null cells))
