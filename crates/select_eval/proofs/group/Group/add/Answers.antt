use Rattle.std.proofs.Common.{arith}
use Rattle.select_eval.proofs.GroupCells.{all_grown}
use Rattle.select_eval.proofs.group.Group.add.Goals as goal

pub returns : goal.returns
returns c = all_grown c.args.list.now c.loop-i.self-inside.cells.items _ _ c.loop-i.i (omega arith) c.loop-i.invariant.so_far
