use Rattle.std.proofs.Common.{◌≡◌, ◌∙◌, ap, find, nat_eq, rules, sym, Some, None}
use Rattle.std.specs.Option.{option_copied, option_map}
use Rattle.label_book.specs.Labels.{state_of}
use Rattle.txn_core.specs.declared.info.TxnInfo.{TxnInfo}
use Rattle.txn_core.specs.Seen.{seen}
use Rattle.txn_core.proofs.Due.{numbered}
use Rattle.txn_core.proofs.Labels.{last_numbered, no_last}
use Rattle.txn_core.proofs.book.TxnBook.find.Goals as goal

pub returns-in-None-clause-label : goal.returns-in-None-clause-label
returns-in-None-clause-label c =
    let e : state_of c.args.db.now c.args.label.now c.self.inside.labels ≡ None = search rules in
    rw (← c.self.view_is) (no_last c.args.db.now c.args.label.now c.self.inside.kept.items (ap (state_of c.args.db.now c.args.label.now) (sym c.self.invariant.labels) ∙ e))

pub returns-in-Some-clause-label : goal.returns-in-Some-clause-label
returns-in-Some-clause-label c =
    let e : state_of c.args.db.now c.args.label.now c.self.inside.labels ≡ Some (c.in-Some.id, c.in-Some.field-0-1) = search rules in
    let f : option_copied c.kept_at.result ≡ find (λ (k : TxnInfo). nat_eq k.id c.in-Some.id) c.self.inside.kept.items = search rules in
    rw (← c.self.view_is) (ap (option_map seen) f ∙ last_numbered c.args.db.now c.args.label.now c.in-Some.id c.in-Some.field-0-1 c.self.inside.kept.items c.self.invariant.ascends (ap (state_of c.args.db.now c.args.label.now) (sym c.self.invariant.labels) ∙ e))

pub returns-in-Some-clause-kept : goal.returns-in-Some-clause-kept
returns-in-Some-clause-kept c =
    let f : option_copied c.kept_at.result ≡ find (λ (k : TxnInfo). nat_eq k.id c.in-Some.id) c.self.inside.kept.items = search rules in
    rw (← c.self.view_is) (numbered c.self.inside.kept.items (λ (k : TxnInfo). nat_eq k.id c.in-Some.id) c.kept_at.result c.self.invariant.ascends f)
