use Rattle.std.proofs.Common.{sym, ◌∙◌, ap}
use Rattle.label_book.specs.Labels.{cleaned}
use Rattle.label_book.proofs.Entries.{bindings_of, take_entry}
use Rattle.label_book.proofs.Indexed.{taken_indexed}
use Rattle.label_book.proofs.book.LabelBook.clean.Goals as goal

pub invariant_of-self : goal.invariant_of-self
invariant_of-self c =
    taken_indexed c.self.inside.by_txn.entries c.remove.new.self.entries c.args.txn c.in-Some.held c.self.inside.by_label c.take_number.new.all c.self.invariant
    (sym c.in-Some.ensures.value)
    c.remove.ensures.entries
    c.remove.ensures.ordered
    c.take_number.ensures

pub returns-in-Some : goal.returns-in-Some
returns-in-Some c =
    ap bindings_of c.remove.ensures.entries ∙ take_entry c.self.inside.by_txn.entries c.args.txn c.self.invariant.ascending ∙ ap (cleaned c.args.txn) c.self.view_is

pub returns-in_default : goal.returns-in_default
returns-in_default c =
    ap bindings_of c.remove.ensures.entries ∙ take_entry c.self.inside.by_txn.entries c.args.txn c.self.invariant.ascending ∙ ap (cleaned c.args.txn) c.self.view_is
