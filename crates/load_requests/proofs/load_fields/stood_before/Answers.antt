use Rattle.std.proofs.Common.{◌∙◌, sym, arith}
use Rattle.http_wire.specs.Fields.{is_named}
use Rattle.load_requests.proofs.Places.{among, not_among}
use Rattle.load_requests.proofs.load_fields.stood_before.Goals as goal

pub returns-then-is_same : goal.returns-then-is_same
returns-then-is_same c = among (is_named c.args.name.now) c.args.fields.now c.args.place c.loop-earlier.earlier (c.get.result.0.now, c.get.result.1.now) c.get.ensures (omega (arith, c.loop-earlier-test.true)) (sym c.is_same.ensures ∙ c.if-is_same.true)

pub loop-earlier-preserved : goal.loop-earlier-preserved
loop-earlier-preserved c = not_among (is_named c.args.name.now) c.args.fields.now c.loop-earlier.earlier (c.get.result.0.now, c.get.result.1.now) c.get.ensures (sym c.is_same.ensures ∙ c.if-is_same.false) c.loop-earlier.invariant
