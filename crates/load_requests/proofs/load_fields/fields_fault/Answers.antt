use Rattle.std.proofs.Common.{◌∙◌, sym, arith}
use Rattle.load_requests.proofs.Places.{at_fault, not_at_fault, no_fault}
use Rattle.load_requests.proofs.load_fields.fields_fault.Goals as goal

pub returns-in-Some : goal.returns-in-Some
returns-in-Some c =
    at_fault c.args.fields.now c.loop-place.place (c.get.result.0.now, c.get.result.1.now) c.in-Some.text c.get.ensures (sym c.in-Some.is ∙ c.in_ok-field_fault.ensures) c.loop-place.invariant

pub loop-place-preserved : goal.loop-place-preserved
loop-place-preserved c =
    not_at_fault c.args.fields.now c.loop-place.place (c.get.result.0.now, c.get.result.1.now) c.get.ensures (sym c.in-None.is ∙ c.in_ok-field_fault.ensures) c.loop-place.invariant

pub returns : goal.returns
returns c = no_fault c.args.fields.now c.loop-place.place (omega (arith, c.loop-place-test.false, c.len-place-end.ensures)) c.loop-place.invariant
