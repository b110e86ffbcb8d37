use Rattle.std.proofs.Common.{◌≡◌, ◌+◌, subst, sym, ap, ◌∙◌, arith, List, ℕ, take, slice_index_or}
use Rattle.partitions.specs.Search as search
use Rattle.partitions.specs.declared.part_def.PartDef.{PartDef}
use Rattle.partitions.proofs.Growing.{order_next}
use Rattle.partitions.proofs.order.order_of.Goals as goal

pub loop-i-preserved : goal.loop-i-preserved
loop-i-preserved c =
    let parts = c.args.parts.now in
    let i = c.loop-i.i in
    let d = c.index-parts-i.result in
    let same : search.with_number (take i parts) (slice_index_or parts i d).bounds c.loop-i.order.items ≡ c.in_ok-order.order.items =
    cc (c.in_ok-order.ensures, ap (λ (q : PartDef). q.bounds) c.index-parts-i.is, c.deref.ensures.value) in
    subst (λ (v : List ℕ). search.IsOrder (take (i + 1) parts) v) same (order_next parts i d c.loop-i.order.items c.requires.apart c.requires.rise (omega arith) c.loop-i.invariant)
