use Rattle.std.proofs.Common.{◌≡◌, List, ◌∙◌, rules}
use Rattle.std.proofs.lemmas.Result.{IfOk-weaker}
use Rattle.dl_values.specs.declared.cell.Cell.{Cell}
use Rattle.row_fold.specs.Sorted.{rows_of}
use Rattle.schema_models.specs.Folds.{fold_of}
use Rattle.row_fold.proofs.RunLemmas.{keeps_sorted}
use Rattle.row_fold.proofs.merging.fold_ascending.Goals as goal

pub returns-then-keeps_all : goal.returns-then-keeps_all
returns-then-keeps_all c =
    let s = c.args.rule.now.shape.now in
    let rows = rows_of c.args.sorted.now in
    IfOk-weaker c.copy_rows.result (λ (out : List (List Cell)). out ≡ rows) (λ (out : List (List Cell)). out ≡ fold_of s rows) (λ out e. e ∙ keeps_sorted s (search rules) rows c.requires) c.copy_rows.ensures
