use Rattle.std.proofs.Common.{cond, Some, rules, ap, ◌∙◌}
use Rattle.indexmap.specs.IndexMap.{get_by}
use Rattle.label_book.specs.declared.label_key.LabelKey.{LabelKey}
use Rattle.label_book.specs.Index.{is_key}
use Rattle.label_book.proofs.Kept.{more_kept, first_kept, same_kept, on_err}
use Rattle.label_book.proofs.numbers.add_number.Goals as goal

pub returns-in_err-insert-clause-err : goal.returns-in_err-insert-clause-err
returns-in_err-insert-clause-err c =
    on_err c.from_residual.result
    (same_kept c.args.db.now c.args.label.now c.args.all.now (c.get_mut.follows.lender c.insert.new.self) c.in-Some.numbers.now c.insert.new.self
    (λ q. ((c.get_mut.follows.holds c.insert.new.self).3 (search rules)).0 q) (search rules) (search rules))

pub returns-in-Some-clause-ok : goal.returns-in-Some-clause-ok
returns-in-Some-clause-ok c =
    more_kept c.args.db.now c.args.label.now c.args.all.now (c.get_mut.follows.lender c.insert.new.self) c.args.txn c.in-Some.numbers.now c.insert.new.self
    (λ q. ((c.get_mut.follows.holds c.insert.new.self).3 (search rules)).0 q) (search rules) (search rules)

pub returns-clause-ok : goal.returns-clause-ok
returns-clause-ok c =
    first_kept c.args.db.now c.args.label.now c.args.all.now c.insert-3.new.self c.args.txn c.new-numbers.result c.insert-2.new.self
    (λ q. c.in_ok-insert-3.ensures.updates.0 q
    ∙ ap (λ (k : LabelKey). cond (is_key k.db k.label q) (Some c.insert-2.new.self) (get_by (is_key q.db q.label) c.get_mut.follows.lender-at-none)) c.in_ok-new.ensures
    ∙ ap (λ m. cond (is_key c.args.db.now c.args.label.now q) (Some c.insert-2.new.self) (get_by (is_key q.db q.label) m)) c.get_mut.follows.holds-at-none)
    (search rules) (search rules) (search rules)
