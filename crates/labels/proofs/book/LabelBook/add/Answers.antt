use Rattle.std.proofs.Common.{rules, length}
use Rattle.labels.specs.Labels.{bound}
use Rattle.labels.proofs.Indexed.{bound_indexed, key_added}
use Rattle.labels.proofs.book.LabelBook.add.Goals as goal

pub invariant_of-self-2 : goal.invariant_of-self-2
invariant_of-self-2 c =
    bound_indexed c.self.inside.bindings.items _ c.self.inside.last c.insert.new.self c.self.inside.places c.insert-2.new.self (bound c.args.db.now c.args.label.now c.args.txn) c.self.invariant
    (search rules)
    (search rules)
    (key_added c.self.inside.last c.insert.new.self c.in_ok-key.key c.len-place.result (length c.self.inside.bindings.items) (bound c.args.db.now c.args.label.now c.args.txn) (λ q. c.in_ok-insert.ensures.updates.0 q) (search rules) (search rules))
    (λ txn. search rules)
