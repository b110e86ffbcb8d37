use Rattle.std.proofs.Common.{◌∙◌, arith}
use Rattle.dl_values.proofs.BlankLemmas.{back-skips, back-stops, back-all}
use Rattle.dl_values.proofs.blanks.length_without_blanks.Goals as goal

pub loop-end-preserved : goal.loop-end-preserved
loop-end-preserved c = (omega arith, back-skips c.args.text.now c.loop-end.end (omega arith) (omega arith) c.if-text-end-eq32.true ∙ c.loop-end.invariant.1)

pub returns-else-text-end-eq32-clause-front : goal.returns-else-text-end-eq32-clause-front
returns-else-text-end-eq32-clause-front c = back-stops c.args.text.now c.loop-end.end (omega arith) (omega arith) c.if-text-end-eq32.false ∙ c.loop-end.invariant.1

pub returns-after-loop-end-clause-front : goal.returns-after-loop-end-clause-front
returns-after-loop-end-clause-front c = back-all c.args.text.now c.loop-end.end (omega arith) c.loop-end.invariant.1
