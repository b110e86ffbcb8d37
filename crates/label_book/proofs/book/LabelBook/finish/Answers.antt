use Rattle.std.proofs.Common.{map, sym, ◌∙◌, ap, subst}
use Rattle.label_book.specs.declared.book.LabelBook.TheInside.{Inside}
use Rattle.label_book.specs.Labels.{is_bound, finished}
use Rattle.label_book.specs.Index.{IsIndexed}
use Rattle.label_book.proofs.Entries.{bindings_of, finish_entry, not_found}
use Rattle.label_book.proofs.Indexed.{finished_indexed}
use Rattle.label_book.proofs.book.LabelBook.finish.Goals as goal
use Rattle.label_book.proofs.book.LabelBook.finish.Goals.{in-Some, in_default}

pub invariant_of-self : goal.invariant_of-self
invariant_of-self c =
    let es = c.self.inside.by_txn.entries in
    elim c.match-get_mut.branch [
      | in-Some w ↦
          let h = w.in-Some.held.now in
          let written = c.get_mut.follows.holds (record h { state = c.args.state }) in
          subst (λ (i : Inside). IsIndexed (bindings_of i.by_txn.entries) i.by_label) (sym w.self-inside-is)
          (finished_indexed es (c.get_mut.follows.lender (record h { state = c.args.state })).entries c.args.txn c.args.state c.self.inside.by_label c.self.invariant
          (ap bindings_of written.0 ∙ finish_entry es c.args.txn h c.args.state c.self.invariant.ascending (sym w.in-Some.ensures.value))
          written.4)
      | in_default w ↦
          let none = not_found es c.args.txn (sym w.in_default.ensures.value) in
          let some = ap (is_bound c.args.txn) c.self.view_is ∙ c.requires in
          absurd (cc)
    ]

pub returns : goal.returns
returns c =
    let es = c.self.inside.by_txn.entries in
    elim c.match-get_mut.branch [
      | in-Some w ↦
          let h = w.in-Some.held.now in
          let written = c.get_mut.follows.holds (record h { state = c.args.state }) in
          ap (λ (i : Inside). bindings_of i.by_txn.entries) w.self-inside-is
          ∙ ap bindings_of written.0
          ∙ finish_entry es c.args.txn h c.args.state c.self.invariant.ascending (sym w.in-Some.ensures.value)
          ∙ ap (map (finished c.args.txn c.args.state)) c.self.view_is
      | in_default w ↦
          let none = not_found es c.args.txn (sym w.in_default.ensures.value) in
          let some = ap (is_bound c.args.txn) c.self.view_is ∙ c.requires in
          absurd (cc)
    ]
