use Rattle.std.proofs.Common.{◌≡◌, drop, fold}
use Rattle.agg_functions.specs.Merge.{merged_cell}
use Rattle.dl_values.specs.declared.cell.Cell.TheVariants as cell
use Rattle.select_defs.proofs.aggregates.merged.Given as goal

abbrev pub invariant-loop-cell : goal.invariant-loop-cell
invariant-loop-cell l = fold (merged_cell l.kind) l.made (drop l.cell-index l.cells) ≡ fold (merged_cell l.kind) cell.Null l.cells
