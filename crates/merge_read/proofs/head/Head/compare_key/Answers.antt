use Rattle.std.proofs.Common.{◌∙◌, ap, sym, arith}
use Rattle.std.specs.Ordering.{ordering_reverse}
use Rattle.dl_values.specs.OrderLemmas.{rows_total}
use Rattle.row_fold.proofs.Below.{below_taken}
use Rattle.merge_read.specs.HeadOrder.{head_key}
use Rattle.merge_read.proofs.head.Head.compare_key.Goals as goal

pub returns-then-self-other : goal.returns-then-self-other
returns-then-self-other c =
    let a = c.args.self.now in
    let b = c.args.other.now in
    sym (below_taken a.width b.width a.row b.row a.has_key b.has_key (omega (arith, a.ok, b.ok, c.if-self-other.true)))

pub returns-then-other-self : goal.returns-then-other-self
returns-then-other-self c =
    let a = c.args.self.now in
    let b = c.args.other.now in
    sym (rows_total.antisymm (head_key a) (head_key b) ∙ ap ordering_reverse (below_taken b.width a.width b.row a.row b.has_key a.has_key (omega (arith, a.ok, b.ok, c.if-other-self.true))))
