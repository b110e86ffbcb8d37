use Rattle.std.proofs.Common.{◌∷◌, [], ◌++◌, ◌∙◌, ap, ap₂, sym, List}
use Rattle.dl_values.specs.declared.cell.Cell.{Cell}
use Rattle.select_eval.specs.Outputs.{begun, grown_by}
use Rattle.select_eval.specs.Passing.{still_passing}
use Rattle.select_eval.proofs.GroupLaws.{one_group}
use Rattle.select_eval.proofs.grouped_rows.grouped_rows.Goals as goal

pub returns-then-is_one-clause-rows : goal.returns-then-is_one-clause-rows
returns-then-is_one-clause-rows g c =
    let rows = still_passing c.args.conditions.now c.args.merge.now in
    c.in_ok-push.ensures.items
    ∙ ap₂ (λ (a b : List (List Cell)). a ++ b) c.in_ok-rows.ensures.items (ap (λ r. r ∷ []) (c.in_ok-one_row.ensures.row ∙ ap (λ os. grown_by os (begun os []) rows) c.outputs.ensures))
    ∙ sym (one_group c.args.grouping.now rows (c.is_one.ensures.one c.if-is_one.true))
