use Rattle.std.proofs.Common.{sym, ◌∙◌, arith}
use Rattle.dl_values.proofs.EndedRows.{ended-after}
use Rattle.dl_values.proofs.order.compare_slices.Goals as goal

pub returns : goal.returns
returns c = c.cmp.ensures ∙ sym (ended-after c.args.a.now c.args.b.now c.loop-i.i (omega arith) (omega arith)) ∙ c.loop-i.invariant
