use Rattle.std.proofs.Common.{◌≡◌, ◌∙◌, Result, Ok, Err, inr, sym, ap, map, Option, Some, subst, arith}
use Rattle.dl_values.specs.declared.result_set.ResultSet.{ResultSet}
use Rattle.merge_read.specs.Lists.{joined}
use Rattle.schema_models.specs.Folds.{fold_of}
use Rattle.select_defs.specs.declared.select_error.SelectError.{SelectError}
use Rattle.select_defs.specs.Eval.{IsAnswer, answer}
use Rattle.select_eval.specs.BlockTests.{block_tests}
use Rattle.select_eval.proofs.BlockLaws.{at_most_all}
use Rattle.select_eval.proofs.Refused.{answers, never_refused, refuses}
use Rattle.select_eval.proofs.selection.select.Goals as goal

abbrev failing : SelectError → Result ResultSet SelectError
failing e = Err e

same_error : (a b : SelectError) → failing a ≡ failing b → a ≡ b
same_error a b h = cc

abbrev given : ResultSet → Result ResultSet SelectError
given set = Ok set

same_set : (a b : ResultSet) → given a ≡ given b → a ≡ b
same_set a b h = cc

abbrev told : SelectError → Option SelectError
told e = Some e

pub returns-in-Ok-clause-answered : goal.returns-in-Ok-clause-answered
returns-in-Ok-clause-answered g c = λ set h.
    let rows = fold_of c.args.index.now (joined (map (λ l. g.R.SortedRows.rows l) c.args.lists.now)) in
    let a = answer c.args.base.now c.args.index.now c.args.query.now rows in
    (a, answers c.args.base.now c.args.index.now c.args.query.now rows (sym c.in-Ok-None.field-0-is ∙ c.in-Ok-None.ensures), subst (IsAnswer a) (same_set c.in-Ok.set set h) c.in-Ok.ensures.answered)

pub returns-in-Ok-clause-unread : goal.returns-in-Ok-clause-unread
returns-in-Ok-clause-unread g c = λ e h.
    let rows = fold_of c.args.index.now (joined (map (λ l. g.R.SortedRows.rows l) c.args.lists.now)) in
    absurd (never_refused c.args.base.now c.args.index.now c.args.query.now rows e (sym c.in-Ok-None.field-0-is ∙ c.in-Ok-None.ensures) h)

pub returns-in-Err-answer_of-clause-unread : goal.returns-in-Err-answer_of-clause-unread
returns-in-Err-answer_of-clause-unread g c = λ e h.
    let rows = fold_of c.args.index.now (joined (map (λ l. g.R.SortedRows.rows l) c.args.lists.now)) in
    absurd (never_refused c.args.base.now c.args.index.now c.args.query.now rows e (sym c.in-Ok-None.field-0-is ∙ c.in-Ok-None.ensures) h)

pub returns-in-Ok-Some-clause-refused : goal.returns-in-Ok-Some-clause-refused
returns-in-Ok-Some-clause-refused g c = λ e h.
    let rows = fold_of c.args.index.now (joined (map (λ l. g.R.SortedRows.rows l) c.args.lists.now)) in
    inr (refuses c.args.base.now c.args.index.now c.args.query.now rows e
    (sym (ap told (same_error c.in-Ok-Some.refused e h)) ∙ sym c.in-Ok-Some.field-0-is ∙ c.in-Ok-Some.ensures))

pub returns-in-Ok-clause-within : goal.returns-in-Ok-clause-within
returns-in-Ok-clause-within g c =
    omega (arith, c.in-Ok.ensures.within, at_most_all (λ l. g.R.SortedRows.rows l) (λ l. g.R.Zones.blocks l) (λ l. g.R.Zones.may l) (block_tests c.args.base.now c.args.index.now c.args.query.now) c.args.lists.now)

pub returns-in-Err-answer_of-clause-within : goal.returns-in-Err-answer_of-clause-within
returns-in-Err-answer_of-clause-within g c =
    omega (arith, c.in-Err-answer_of.ensures.within, at_most_all (λ l. g.R.SortedRows.rows l) (λ l. g.R.Zones.blocks l) (λ l. g.R.Zones.may l) (block_tests c.args.base.now c.args.index.now c.args.query.now) c.args.lists.now)
