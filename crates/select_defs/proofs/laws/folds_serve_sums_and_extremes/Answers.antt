use Rattle.std.proofs.Common.{sym, ap, ◌∙◌}
use Rattle.select_defs.specs.Eval.{Eval}
use Rattle.select_defs.proofs.Served.{served_answer, served_eval}
use Rattle.select_defs.proofs.laws.folds_serve_sums_and_extremes.Goals as goal

pub returns-clause-answers : goal.returns-clause-answers
returns-clause-answers c = λ base s q e rows wide. served_answer base s q e rows wide

pub returns-clause-evaluates : goal.returns-clause-evaluates
returns-clause-evaluates c = λ base s q e rows wide. served_eval base s q e rows wide

pub returns-clause-alike : goal.returns-clause-alike
returns-clause-alike c = λ base s q e xs ys a b h. sym (served_eval base s q e xs a) ∙ ap (Eval base s q) h ∙ served_eval base s q e ys b
