use Rattle.std.proofs.Common.{List, ◌∷◌, sym, ap, ◌∙◌, subst}
use Rattle.std.proofs.lemmas.Result.{on_ok_weaker}
use Rattle.dl_values.specs.Order.{row_cmp}
use Rattle.dl_values.specs.declared.cell.Cell.{Cell}
use Rattle.fold_laws.specs.Fold.{Ascends}
use Rattle.schema_models.specs.Folds.{key_of, merged_row}
use Rattle.row_fold.proofs.RunLemmas.{same_taken, same_ascends, same_last, next_taken}
use Rattle.row_fold.proofs.merging.take_next.Goals as goal

pub returns-in-Equal-clause-same : goal.returns-in-Equal-clause-same
returns-in-Equal-clause-same c =
    let s = c.args.rule.now.shape.now in
    let tie = c.in-Equal.ensures ∙ ap (λ k. row_cmp k (key_of s c.args.next.now.row.now)) c.requires.key in
    on_ok_weaker c.merge.result (λ m rest a. same_taken s c.requires.merges c.args.out.now c.args.present.now c.args.next.now.row.now c.merge.new.self (m ∙ ap (λ l. merged_row l c.args.present.now c.args.next.now.row.now) c.columns.ensures) tie rest) c.merge.ensures

pub returns-in-Equal-clause-ascends : goal.returns-in-Equal-clause-ascends
returns-in-Equal-clause-ascends c =
    let s = c.args.rule.now.shape.now in
    let tie = c.in-Equal.ensures ∙ ap (λ k. row_cmp k (key_of s c.args.next.now.row.now)) c.requires.key in
    on_ok_weaker c.merge.result (λ m rest a. same_ascends s c.requires.merges c.args.present.now c.args.next.now.row.now c.merge.new.self (m ∙ ap (λ l. merged_row l c.args.present.now c.args.next.now.row.now) c.columns.ensures) tie rest a) c.merge.ensures

pub returns-in_ok-end-in_default-clause-same : goal.returns-in_ok-end-in_default-clause-same
returns-in_ok-end-in_default-clause-same c =
    let s = c.args.rule.now.shape.now in
    let is = c.compare.ensures ∙ ap (λ k. row_cmp k (key_of s c.args.next.now.row.now)) c.requires.key in
    λ rest a. next_taken s c.requires.merges c.args.out.now c.end.new.out c.args.present.now c.args.next.now.row.now c.begin.new.self c.in_ok-end-in_default.ensures.added c.begin.ensures (λ h. c.in_default.not-Equal (is ∙ sym h)) rest a

pub returns-in_ok-end-in_default-clause-ascends : goal.returns-in_ok-end-in_default-clause-ascends
returns-in_ok-end-in_default-clause-ascends c =
    let s = c.args.rule.now.shape.now in
    λ rest a. subst (λ (z : List Cell). Ascends row_cmp (key_of s) (z ∷ rest)) (sym c.begin.ensures) a.1

pub returns-in-Equal-clause-key : goal.returns-in-Equal-clause-key
returns-in-Equal-clause-key c =
    let s = c.args.rule.now.shape.now in
    let tie = c.in-Equal.ensures ∙ ap (λ k. row_cmp k (key_of s c.args.next.now.row.now)) c.requires.key in
    on_ok_weaker c.merge.result (λ m. same_last s c.requires.merges c.args.present.now c.args.next.now.row.now c.merge.new.self (m ∙ ap (λ l. merged_row l c.args.present.now c.args.next.now.row.now) c.columns.ensures) tie) c.merge.ensures
