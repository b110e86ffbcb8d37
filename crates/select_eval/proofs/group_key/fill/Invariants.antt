use Rattle.std.proofs.Common.{◌≡◌, take}
use Rattle.merge_read.specs.Merged.{row_of}
use Rattle.select_eval.specs.Outputs.{cells_in}
use Rattle.select_eval.proofs.group_key.fill.Given as goal

abbrev pub invariant-loop-place : goal.invariant-loop-place
invariant-loop-place l = l.cells.items ≡ cells_in (take l.place-index l.places) (row_of l.row)
