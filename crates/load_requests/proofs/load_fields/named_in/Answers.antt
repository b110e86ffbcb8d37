use Rattle.std.proofs.Common.{◌∙◌, sym, arith}
use Rattle.load_requests.proofs.Wanted.{this_one, another}
use Rattle.load_requests.proofs.load_fields.named_in.Goals as goal

pub returns-then-is_same : goal.returns-then-is_same
returns-then-is_same c = this_one (λ n. n.now) c.args.names.now c.loop-wanted.wanted-index _ c.args.name.now (omega (arith, c.loop-wanted-test.true)) (sym c.is_same.ensures ∙ c.if-is_same.true) c.loop-wanted.invariant

pub loop-wanted-preserved : goal.loop-wanted-preserved
loop-wanted-preserved c = another (λ n. n.now) c.args.names.now c.loop-wanted.wanted-index _ c.args.name.now (omega (arith, c.loop-wanted-test.true)) (sym c.is_same.ensures ∙ c.if-is_same.false) c.loop-wanted.invariant
