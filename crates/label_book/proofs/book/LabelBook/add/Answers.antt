use Rattle.std.proofs.Common.{ℕ, List, ◌∙◌, ap, ap₂}
use Rattle.std.specs.Map.{remove_entry}
use Rattle.std.specs.BTreeMap.{insert_entry, is_at}
use Rattle.std.specs.Ordering.{nat_cmp}
use Rattle.labels.specs.declared.txn_state.TxnState.TheVariants as state
use Rattle.label_book.specs.declared.book.Held.{Held}
use Rattle.label_book.specs.Labels.{bound, is_bound, put_binding}
use Rattle.label_book.proofs.Entries.{bindings_of, put_entry, put_and_taken}
use Rattle.label_book.proofs.Indexed.{put_indexed, same_indexed}
use Rattle.label_book.proofs.book.LabelBook.add.Goals as goal

-- what a transaction that begins holds
abbrev begun : List ℕ → List ℕ → Held
begun db label = record { db = db; label = label; state = state.Prepare }

pub invariant_of-self-in-Ok : goal.invariant_of-self-in-Ok
invariant_of-self-in-Ok c =
    put_indexed c.self.inside.by_txn.entries c.insert.new.self.entries c.args.txn (begun c.args.db.now c.args.label.now) c.self.inside.by_label c.add_number.new.all c.self.invariant
    (ap (is_bound c.args.txn) c.self.view_is ∙ c.requires)
    (c.in_ok-insert.ensures.entries ∙ ap₂ (λ d l. insert_entry nat_cmp c.self.inside.by_txn.entries c.args.txn (begun d l)) c.in_ok-copy.ensures c.in_ok-copy-2.ensures)
    c.insert.ensures.ordered
    c.in-Ok.ensures.ok

pub invariant_of-self-in-Err : goal.invariant_of-self-in-Err
invariant_of-self-in-Err c =
    let es = c.self.inside.by_txn.entries in
    same_indexed (bindings_of es) (bindings_of c.remove.new.self.entries) c.self.inside.by_label c.add_number.new.all c.self.invariant
    (ap bindings_of (
    c.remove.ensures.entries
    ∙ ap (remove_entry (is_at (nat_cmp c.args.txn))) c.in_ok-insert.ensures.entries
    ∙ put_and_taken es c.args.txn (begun c.in_ok-copy.field-0 c.in_ok-copy-2.field-0) (ap (is_bound c.args.txn) c.self.view_is ∙ c.requires)))
    c.in-Err.ensures.err

pub returns-in-Ok-clause-ok : goal.returns-in-Ok-clause-ok
returns-in-Ok-clause-ok c =
    let es = c.self.inside.by_txn.entries in
    ap bindings_of (c.in_ok-insert.ensures.entries ∙ ap₂ (λ d l. insert_entry nat_cmp c.self.inside.by_txn.entries c.args.txn (begun d l)) c.in_ok-copy.ensures c.in_ok-copy-2.ensures)
    ∙ put_entry es c.args.txn (begun c.args.db.now c.args.label.now) c.self.invariant.ascending (ap (is_bound c.args.txn) c.self.view_is ∙ c.requires)
    ∙ ap (put_binding (bound c.args.db.now c.args.label.now c.args.txn)) c.self.view_is

pub returns-in-Err-clause-err : goal.returns-in-Err-clause-err
returns-in-Err-clause-err c =
    let es = c.self.inside.by_txn.entries in
    ap bindings_of (
    c.remove.ensures.entries
    ∙ ap (remove_entry (is_at (nat_cmp c.args.txn))) c.in_ok-insert.ensures.entries
    ∙ put_and_taken es c.args.txn (begun c.in_ok-copy.field-0 c.in_ok-copy-2.field-0) (ap (is_bound c.args.txn) c.self.view_is ∙ c.requires))
    ∙ c.self.view_is
