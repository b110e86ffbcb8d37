use Rattle.std.proofs.Common.{◌∙◌, sym, arith}
use Rattle.load_requests.proofs.Places.{here, not_here, nowhere}
use Rattle.load_requests.proofs.values.first_value.Goals as goal

pub returns-then-is_same : goal.returns-then-is_same
returns-then-is_same c = here c.args.name.now c.args.fields.now c.loop-place.place (c.get.result.0.now, c.get.result.1.now) c.get.ensures (sym c.is_same.ensures ∙ c.if-is_same.true) c.loop-place.invariant

pub loop-place-preserved : goal.loop-place-preserved
loop-place-preserved c = not_here c.args.name.now c.args.fields.now c.loop-place.place (c.get.result.0.now, c.get.result.1.now) c.get.ensures (sym c.is_same.ensures ∙ c.if-is_same.false) c.loop-place.invariant

pub returns : goal.returns
returns c = nowhere c.args.name.now c.args.fields.now c.loop-place.place (omega (arith, c.loop-place-test.false, c.len-place-end.ensures)) c.loop-place.invariant
