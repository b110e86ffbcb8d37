use Rattle.std.proofs.Common.{◌≡◌, drop}
use Rattle.std.specs.List.{list_all}
use Rattle.merge_read.specs.Merged.{row_of}
use Rattle.select_eval.specs.Conditions.{holds}
use Rattle.select_eval.proofs.condition.all_hold.Given as goal

abbrev pub invariant-loop-condition : goal.invariant-loop-condition
invariant-loop-condition l = list_all (holds (row_of l.row)) (drop l.condition-index l.list) ≡ list_all (holds (row_of l.row)) l.list
