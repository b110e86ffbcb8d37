use Rattle.std.proofs.Common.{◌≡◌, ◌∙◌, List, IfOk, sym, ap, map, subst}
use Rattle.std.proofs.lemmas.Result.{IfOk-weaker}
use Rattle.dl_values.specs.declared.cell.Cell.{Cell}
use Rattle.select_eval.specs.Grouping.{first_groups, put_all}
use Rattle.select_eval.specs.Groupings.{grouping_of, output_rows_of}
use Rattle.select_eval.specs.Passing.{still_passing}
use Rattle.select_eval.specs.Shown.{shown}
use Rattle.select_eval.proofs.GroupLaws.{grouped_are, plain_are}
use Rattle.select_eval.proofs.output_rows.output_rows_in.Goals as goal

pub returns-then-is_grouped-clause-rows : goal.returns-then-is_grouped-clause-rows
returns-then-is_grouped-clause-rows g c =
    let base = c.args.base.now in let index = c.args.index.now in let query = c.args.query.now in let list = c.args.list.now in
    let rows = still_passing c.args.conditions.now c.args.merge.now in
    IfOk-weaker c.grouped_rows.result (λ v. v.items ≡ map (λ (e : List Cell × List Cell). e.1) (put_all c.in_ok-grouping.grouping (first_groups c.in_ok-grouping.grouping) rows)) (λ v. shown list query v.items ≡ shown list query (output_rows_of base index query rows))
    (λ v e. ap (shown list query)
    (e ∙ grouped_are base index query c.in_ok-grouping.grouping list rows (sym c.if-is_grouped.true ∙ c.is_grouped.ensures) c.requires
    (c.in_ok-grouping.ensures ∙ ap (λ names. grouping_of index names list) c.as_slice.ensures)))
    c.grouped_rows.ensures.rows

pub returns-clause-rows : goal.returns-clause-rows
returns-clause-rows g c =
    let base = c.args.base.now in let index = c.args.index.now in let query = c.args.query.now in let list = c.args.list.now in
    let rows = still_passing c.args.conditions.now c.args.merge.now in
    subst (λ z. IfOk c.plain_rows.result (λ v. shown list query v.items ≡ shown list query z))
    (plain_are base index query list c.as_slice-2.result.now rows (sym c.if-is_grouped.false ∙ c.is_grouped.ensures) c.requires (c.as_slice-2.ensures.value ∙ c.in_ok-places.ensures))
    c.plain_rows.ensures.rows
