-- The first rows that pass are counted.
use Rattle.std.proofs.Common.{◌≡◌, ◌+◌, ◌∷◌, [], length}
use Rattle.dl_values.specs.declared.cell.Cell.TheVariants as cell
use Rattle.select_defs.specs.Aggregates.{count_cell}
use Rattle.select_eval.specs.Outputs.{grown_by}
use Rattle.select_eval.specs.Passing.{still_passing}
use Rattle.select_eval.specs.declared.output.Output.TheVariants as output
use Rattle.select_eval.proofs.grouped_rows.count_in.Given as goal

abbrev pub invariant-rows : goal.invariant-rows
invariant-rows g l = record {
  so_far : grown_by (output.CountAll ∷ []) (cell.Int l.count ∷ []) (still_passing l.conditions l.merge) ≡ grown_by (output.CountAll ∷ []) (count_cell 0 ∷ []) (still_passing l.conditions l.initial.merge);
  counted : l.steps + l.merge.unread ≡ l.initial.steps + l.initial.merge.unread;
}

abbrev pub decreases-rows : goal.decreases-rows
decreases-rows g l = length (still_passing l.conditions l.merge)
