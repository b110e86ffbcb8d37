use Rattle.std.proofs.Common.{◌≡◌, ◌∙◌, IfOk, ap, map, subst}
use Rattle.merge_read.specs.Lists.{joined}
use Rattle.schema_models.specs.Folds.{fold_of}
use Rattle.select_defs.specs.Groups.{output_rows}
use Rattle.select_defs.specs.Orders.{limited, ordered}
use Rattle.select_eval.specs.Shown.{shown}
use Rattle.select_eval.proofs.selection.answer_rows.Goals as goal

pub returns-clause-rows : goal.returns-clause-rows
returns-clause-rows g c =
    let all = fold_of c.args.index.now (joined (map (λ l. g.R.SortedRows.rows l) c.args.lists.now)) in
    let query = c.args.query.now in
    subst (λ z. IfOk c.limited.result (λ out. out ≡ z))
    (ap (limited query.limit) (c.as_slice-2.ensures.value ∙ c.in_ok-sort.ensures ∙ ap (λ keys. ordered c.args.list.now keys c.in_ok-rows.rows.items) c.as_slice.ensures)
    ∙ c.in_ok-rows.ensures.rows
    ∙ ap (λ items. shown items query (output_rows c.args.base.now c.args.index.now query all)) c.requires.list)
    c.limited.ensures
