use Rattle.std.proofs.Common.{◌∙◌, arith}
use Rattle.schema_models.proofs.FaultLemmas.{column_passes, column_fails}
use Rattle.schema_models.proofs.faults.first_column_fault.Goals as goal

pub returns-in-Some : goal.returns-in-Some
returns-in-Some c =
    let i = c.loop-at.at in
    column_fails c.args.model c.args.columns.now i c.index-columns-at.result c.in-Some.fault (omega arith) c.index-columns-at.is c.in-Some.ensures ∙ c.loop-at.invariant

pub loop-at-preserved : goal.loop-at-preserved
loop-at-preserved c =
    let i = c.loop-at.at in
    column_passes c.args.model c.args.columns.now i c.index-columns-at.result (omega arith) c.index-columns-at.is c.in-None.ensures ∙ c.loop-at.invariant
