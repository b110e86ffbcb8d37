use Rattle.std.proofs.Common.{cond, None, rules, ap, ◌∙◌}
use Rattle.std.specs.BTreeMap.{is_at}
use Rattle.std.specs.Ordering.{nat_cmp}
use Rattle.indexmap.specs.IndexMap.{get_by}
use Rattle.label_book.specs.Index.{is_key}
use Rattle.label_book.proofs.Kept.{less_kept, none_kept, nothing_kept}
use Rattle.label_book.proofs.numbers.take_number.Goals as goal
use Rattle.label_book.proofs.numbers.take_number.Goals.{in-Some+else-not-is_empty, in_default}

pub returns-then-not-is_empty : goal.returns-then-not-is_empty
returns-then-not-is_empty c =
    less_kept c.args.db.now c.args.label.now c.args.all.now (c.get_mut.follows.lender c.remove.new.self) (is_at (nat_cmp c.args.txn)) c.in-Some.numbers.now c.remove.new.self
    (λ q. ((c.get_mut.follows.holds c.remove.new.self).3 (search rules)).0 q) (search rules) (search rules)
    (λ none. let z = c.is_empty.ensures.1 none in let y = c.if-not-is_empty.true in cc)

pub returns : goal.returns
returns c = elim c.match-get_mut.branch [
  | in-Some+else-not-is_empty w ↦
      none_kept c.args.db.now c.args.label.now c.args.all.now (c.get_mut.follows.lender w.remove.new.self) c.swap_remove.new.self (is_at (nat_cmp c.args.txn)) w.in-Some.numbers.now w.remove.new.self
      (λ q. ((c.get_mut.follows.holds w.remove.new.self).3 (search rules)).0 q) (search rules) (search rules)
      (w.is_empty.ensures.0 w.if-not-is_empty.false)
      (λ q. c.swap_remove.ensures.updates.0 q ∙ ap (λ m. cond (is_key c.args.db.now c.args.label.now q) None (get_by (is_key q.db q.label) m)) w.all-is)
  | in_default w ↦
      nothing_kept c.args.db.now c.args.label.now c.args.all.now c.swap_remove.new.self (is_at (nat_cmp c.args.txn)) (search rules)
      (λ q. c.swap_remove.ensures.updates.0 q ∙ ap (λ m. cond (is_key c.args.db.now c.args.label.now q) None (get_by (is_key q.db q.label) m)) (w.all-is ∙ c.get_mut.follows.holds-at-none))
]
