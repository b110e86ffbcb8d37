use Rattle.std.proofs.Common.{◌≡◌, ◌∙◌, Result, Ok, Err, inr, subst, sym, ap, Option, Some}
use Rattle.dl_values.specs.declared.result_set.ResultSet.{ResultSet}
use Rattle.select_defs.specs.Eval.{IsAnswer, answer}
use Rattle.select_defs.specs.declared.select_error.SelectError.{SelectError}
use Rattle.select_defs.proofs.Evals.{answers, refuses}
use Rattle.select_defs.proofs.evaluation.eval.Goals as goal

abbrev given : ResultSet → Result ResultSet SelectError
given set = Ok set

abbrev failing : SelectError → Result ResultSet SelectError
failing e = Err e

same_set : (a b : ResultSet) → given a ≡ given b → a ≡ b
same_set a b h = cc

same_error : (a b : SelectError) → failing a ≡ failing b → a ≡ b
same_error a b h = cc

abbrev told : SelectError → Option SelectError
told e = Some e

pub returns-in-Ok-clause-answered : goal.returns-in-Ok-clause-answered
returns-in-Ok-clause-answered c = λ set h.
    let a = answer c.args.base.now c.args.shape.now c.args.query.now c.args.rows.now in (
      a,
      answers c.args.base.now c.args.shape.now c.args.query.now c.args.rows.now (sym c.in-Ok-None.field-0-is ∙ c.in-Ok-None.ensures),
      subst (IsAnswer a) (same_set c.in-Ok.set set h) c.in-Ok.ensures,
    )

pub returns-in-Ok-Some-clause-refused : goal.returns-in-Ok-Some-clause-refused
returns-in-Ok-Some-clause-refused c = λ e h.
    inr (refuses c.args.base.now c.args.shape.now c.args.query.now c.args.rows.now e
    (sym (ap told (same_error c.in-Ok-Some.refused e h)) ∙ sym c.in-Ok-Some.field-0-is ∙ c.in-Ok-Some.ensures))
