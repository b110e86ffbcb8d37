-- The form is the one that the rows tell.
use Rattle.std.proofs.Common.{◌∙◌, codes, map}
use Rattle.std.proofs.lemmas.Result.{IfOk-weaker}
use Rattle.clap.proofs.WalkLemmas.{first_value-rows, raw_values-rows}
use Rattle.clap.specs.Words.{found_of, rows_of}
use Rattle.command_words.proofs.RowLemmas.{form_with_both, form_without_columns, form_without_model}
use Rattle.command_words.proofs.matches.dryrun_in.Goals as goal

pub returns-in_default-clause-usage : goal.returns-in_default-clause-usage
returns-in_default-clause-usage c _ = form_without_model (rows_of (found_of c.args.words.now)) (c.in_default.ensures ∙ first_value-rows (found_of c.args.words.now) (codes "model"))

pub returns-in_default-get_strs-clause-usage : goal.returns-in_default-get_strs-clause-usage
returns-in_default-get_strs-clause-usage c _ = form_without_columns (rows_of (found_of c.args.words.now)) (c.in_default-get_strs.ensures ∙ raw_values-rows (found_of c.args.words.now) (codes "columns"))

pub returns-clause-ok : goal.returns-clause-ok
returns-clause-ok c =
    let found = found_of c.args.words.now in
    let same = form_with_both (rows_of found) c.in-Some.model.now (map (λ column. column.now) c.in-Some-get_strs.columns.now)
    (c.in-Some.ensures ∙ first_value-rows found (codes "model")) (c.in-Some-get_strs.ensures ∙ raw_values-rows found (codes "columns")) in
    IfOk-weaker c.dryrun_form.result _ _ (λ form is. same ∙ is) c.dryrun_form.ensures.ok

pub returns-clause-usage : goal.returns-clause-usage
returns-clause-usage c usage =
    let found = found_of c.args.words.now in
    let same = form_with_both (rows_of found) c.in-Some.model.now (map (λ column. column.now) c.in-Some-get_strs.columns.now)
    (c.in-Some.ensures ∙ first_value-rows found (codes "model")) (c.in-Some-get_strs.ensures ∙ raw_values-rows found (codes "columns")) in
    same ∙ c.dryrun_form.ensures.usage usage
