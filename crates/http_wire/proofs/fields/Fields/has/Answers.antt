use Rattle.std.proofs.Common.{◌∙◌, sym}
use Rattle.http_wire.proofs.FieldFacts.{here, not-here}
use Rattle.http_wire.proofs.fields.Fields.has.Goals as goal

pub returns-then-says : goal.returns-then-says
returns-then-says c =
    sym (here c.args.name.now c.args.value.now c.args.self.now c.loop-place.place (c.get.result.0.now, c.get.result.1.now) c.get.ensures (sym c.says.ensures ∙ c.if-says.true))

pub loop-place-preserved : goal.loop-place-preserved
loop-place-preserved c =
    not-here c.args.name.now c.args.value.now c.args.self.now c.loop-place.place (c.get.result.0.now, c.get.result.1.now) c.get.ensures (sym c.says.ensures ∙ c.if-says.false) c.loop-place.invariant
