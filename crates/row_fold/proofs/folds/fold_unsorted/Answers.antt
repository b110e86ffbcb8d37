use Rattle.std.proofs.Common.{◌≡◌, List, sym, ap, ◌∙◌, subst}
use Rattle.std.proofs.lemmas.Result.{IfOk-weaker}
use Rattle.dl_values.specs.Order.{row_cmp}
use Rattle.dl_values.specs.declared.cell.Cell.{Cell}
use Rattle.fold_laws.specs.Fold.{Ascends}
use Rattle.row_fold.specs.Sorted.{rows_of}
use Rattle.row_fold.specs.declared.keyed.Keyed.{Keyed}
use Rattle.schema_models.specs.Folds.{fold_of, key_of}
use Rattle.row_fold.proofs.Sorts.{ascends_rows, same_fold}
use Rattle.row_fold.proofs.folds.fold_unsorted.Goals as goal

pub fold_ascending-requires : goal.fold_ascending-requires
fold_ascending-requires c =
    let s = c.args.rule.now.shape.now in
    subst (λ (ks : List Keyed). Ascends row_cmp (key_of s) (rows_of ks)) (sym c.deref.ensures.value) (ascends_rows s c.sort_by_key.new.rows.items c.in_ok-sort_by_key.ensures.ascends)

pub returns : goal.returns
returns c =
    let s = c.args.rule.now.shape.now in
    let same = ap (λ (ks : List Keyed). fold_of s (rows_of ks)) c.deref.ensures.value ∙ same_fold s c.sort_by_key.new.rows.items c.in_ok-keyed.keyed.items c.sort_by_key.ensures.same ∙ ap (λ l. fold_of s l) c.in_ok-keyed.ensures in
    IfOk-weaker c.fold_ascending.result (λ (out : List (List Cell)). out ≡ fold_of s (rows_of c.deref.result.now)) (λ (out : List (List Cell)). out ≡ fold_of s c.args.rows.now) (λ out e. e ∙ same) c.fold_ascending.ensures
