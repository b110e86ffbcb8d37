use Rattle.std.proofs.Common.{◌∙◌, sym, arith}
use Rattle.load_requests.proofs.Places.{one_more, none_more, all_counted}
use Rattle.load_requests.proofs.values.count.Goals as goal
use Rattle.load_requests.proofs.values.count.Goals.{then-is_same, else-is_same}

pub loop-place-init : goal.loop-place-init
loop-place-init c = record { few = omega arith; left = omega arith }

pub loop-place-preserved : goal.loop-place-preserved
loop-place-preserved c = elim c.if-is_same.branch [
  | then-is_same w ↦ rw w.count-is (one_more c.args.name.now c.args.fields.now c.loop-place.count c.loop-place.place (c.get.result.0.now, c.get.result.1.now) c.get.ensures (sym c.is_same.ensures ∙ w.if-is_same.true) c.loop-place.invariant)
  | else-is_same w ↦ rw w.count-is (none_more c.args.name.now c.args.fields.now c.loop-place.count c.loop-place.place (c.get.result.0.now, c.get.result.1.now) c.get.ensures (sym c.is_same.ensures ∙ w.if-is_same.false) c.loop-place.invariant)
]

pub overflow_add-count : goal.overflow_add-count
overflow_add-count c = omega (arith, c.loop-place.invariant.few, c.loop-place-test.true)

pub returns : goal.returns
returns c = all_counted c.args.name.now c.args.fields.now c.loop-place.count c.loop-place.place (omega (arith, c.loop-place-test.false, c.len-place-end.ensures)) c.loop-place.invariant
