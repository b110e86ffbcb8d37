-- A query that is refused, and one that is not.
use Rattle.std.proofs.Common.{◌≡◌, List, Option, Some, None, Result, Ok, Err, sym, ap, ◌∙◌}
use Rattle.dl_values.specs.declared.cell.Cell.{Cell}
use Rattle.schema_models.specs.ShapeView.{ShapeView}
use Rattle.sql_text.specs.declared.query.Query.{Query}
use Rattle.select_defs.specs.Eval.{Answer, Eval, answer, unless}
use Rattle.select_defs.specs.Refusals.{refusal}
use Rattle.select_defs.specs.declared.select_error.SelectError.{SelectError}

pub refuses : (base s : ShapeView) (q : Query) (rows : List (List Cell)) (e : SelectError) → Some e ≡ refusal base q → Eval base s q rows ≡ Err e
unfolding Eval
refuses base s q rows e h = ap (λ (r : Option SelectError). unless r (answer base s q rows)) (sym h)

pub answers : (base s : ShapeView) (q : Query) (rows : List (List Cell)) → None ≡ refusal base q → Eval base s q rows ≡ Ok (answer base s q rows)
unfolding Eval
answers base s q rows h = ap (λ (r : Option SelectError). unless r (answer base s q rows)) (sym h)

abbrev given : Answer → Result Answer SelectError
given a = Ok a

abbrev failing : SelectError → Result Answer SelectError
failing e = Err e

differ : (a : Answer) (e : SelectError) → given a ≡ failing e → ⊥
differ a e h = cc

pub never_refused : (base s : ShapeView) (q : Query) (rows : List (List Cell)) (e : SelectError) → None ≡ refusal base q → Eval base s q rows ≡ Err e → ⊥
never_refused base s q rows e h k = differ (answer base s q rows) e (sym (answers base s q rows h) ∙ k)
