use Rattle.std.proofs.Common.{◌∙◌, arith}
use Rattle.dl_values.proofs.BlankLemmas.{front-skips, front-stops, front-all}
use Rattle.dl_values.proofs.blanks.blanks_in_front.Goals as goal

pub returns-then-b-ne32-clause-rest : goal.returns-then-b-ne32-clause-rest
returns-then-b-ne32-clause-rest c = front-stops c.args.text.now c.loop-i.i (omega arith) c.if-b-ne32.true ∙ c.loop-i.invariant

pub loop-i-preserved : goal.loop-i-preserved
loop-i-preserved c = front-skips c.args.text.now c.loop-i.i (omega arith) (omega (arith, c.if-b-ne32.false)) ∙ c.loop-i.invariant

pub returns-clause-rest : goal.returns-clause-rest
returns-clause-rest c = front-all c.args.text.now c.loop-i.i (omega arith) c.loop-i.invariant
