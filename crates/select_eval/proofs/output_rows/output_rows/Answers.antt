use Rattle.std.proofs.Common.{◌≡◌, ◌∙◌, ◌+◌, ◌≤◌, IfOk, OnOk, ap, map, subst}
use Rattle.merge_read.specs.Lists.{joined}
use Rattle.schema_models.specs.Folds.{fold_of}
use Rattle.select_eval.specs.BlockTests.{key_width, tests_in}
use Rattle.select_eval.specs.Conditions.{condition_of}
use Rattle.select_eval.specs.Groupings.{output_rows_of}
use Rattle.select_eval.specs.Looks.{in_blocks, looked_at}
use Rattle.select_eval.specs.Shown.{shown}
use Rattle.select_eval.proofs.ConditionLaws.{passing_is}
use Rattle.select_eval.proofs.output_rows.output_rows.Goals as goal

pub returns-clause-rows : goal.returns-clause-rows
returns-clause-rows g c =
    let all = fold_of c.args.index.now (joined (map (λ l. g.R.SortedRows.rows l) c.args.lists.now)) in
    let base = c.args.base.now in let index = c.args.index.now in let query = c.args.query.now in let list = c.args.list.now in
    subst (λ z. IfOk c.rows_in_blocks.result (λ v. shown list query v.items ≡ shown list query (output_rows_of base index query z)))
    (passing_is base index query c.as_slice-2.result.now all (c.as_slice-2.ensures.value ∙ c.in_ok-conditions.ensures ∙ ap (map (condition_of base index)) c.as_slice.ensures))
    c.rows_in_blocks.ensures.rows

pub returns-clause-counted : goal.returns-clause-counted
returns-clause-counted g c =
    subst (λ cs. OnOk c.rows_in_blocks.result (c.rows_in_blocks.new.steps ≡ c.args.steps.now + looked_at (tests_in (key_width c.args.index.now) cs) (map (λ l. in_blocks (g.R.SortedRows.rows l) (g.R.Zones.blocks l) (g.R.Zones.may l)) c.args.lists.now)))
    (c.as_slice-2.ensures.value ∙ c.in_ok-conditions.ensures ∙ ap (map (condition_of c.args.base.now c.args.index.now)) c.as_slice.ensures)
    c.rows_in_blocks.ensures.counted

pub returns-clause-within : goal.returns-clause-within
returns-clause-within g c =
    subst (λ cs. c.rows_in_blocks.new.steps ≤ c.args.steps.now + looked_at (tests_in (key_width c.args.index.now) cs) (map (λ l. in_blocks (g.R.SortedRows.rows l) (g.R.Zones.blocks l) (g.R.Zones.may l)) c.args.lists.now))
    (c.as_slice-2.ensures.value ∙ c.in_ok-conditions.ensures ∙ ap (map (condition_of c.args.base.now c.args.index.now)) c.as_slice.ensures)
    c.rows_in_blocks.ensures.within
