use Rattle.std.proofs.Common.{◌≡◌, ◌∙◌, Some, None, ap, find, nat_eq, refl, rules, sym}
use Rattle.std.specs.Option.{option_map}
use Rattle.front_defs.specs.Transactions.{txn_at}
use Rattle.txn_core.specs.declared.info.TxnInfo.{TxnInfo}
use Rattle.txn_core.specs.Book.{txns_in}
use Rattle.txn_core.specs.Refusals.{abort_fault}
use Rattle.txn_core.specs.Seen.{seen}
use Rattle.txn_core.proofs.Begins.{abort_opens}
use Rattle.txn_core.proofs.Views.{txn_seen}
use Rattle.txn_core.proofs.book.TxnBook.abort.Goals as goal

pub returns-in-None-clause-refused : goal.returns-in-None-clause-refused
returns-in-None-clause-refused c =
    let e : None ≡ find (λ (k : TxnInfo). nat_eq k.id c.args.txn) c.self.inside.kept.items = search rules in
    let f : txn_at c.args.txn (txns_in c.args.self.now) ≡ None = rw (← c.self.view_is) (txn_seen c.args.txn c.self.inside.kept.items ∙ ap (option_map seen) (sym e)) in
    rw f refl

pub returns-in-Some-abort_refusal-clause-refused : goal.returns-in-Some-abort_refusal-clause-refused
returns-in-Some-abort_refusal-clause-refused c =
    let e : Some c.in-Some.load.now ≡ find (λ (k : TxnInfo). nat_eq k.id c.args.txn) c.self.inside.kept.items = search rules in
    let f : txn_at c.args.txn (txns_in c.args.self.now) ≡ Some (seen c.in-Some.load.now) = rw (← c.self.view_is) (txn_seen c.args.txn c.self.inside.kept.items ∙ ap (option_map seen) (sym e)) in
    rw f (search rules)

pub returns-clause-fits : goal.returns-clause-fits
returns-clause-fits c =
    let e : Some c.in-Some.load.now ≡ find (λ (k : TxnInfo). nat_eq k.id c.args.txn) c.self.inside.kept.items = search rules in
    let f : txn_at c.args.txn (txns_in c.args.self.now) ≡ Some (seen c.in-Some.load.now) = rw (← c.self.view_is) (txn_seen c.args.txn c.self.inside.kept.items ∙ ap (option_map seen) (sym e)) in
    rw f (search rules)

pub end-requires : goal.end-requires
end-requires c =
    let e : Some c.in-Some.load.now ≡ find (λ (k : TxnInfo). nat_eq k.id c.args.txn) c.self.inside.kept.items = search rules in
    let f : txn_at c.args.txn (txns_in c.args.self.now) ≡ Some (seen c.in-Some.load.now) = rw (← c.self.view_is) (txn_seen c.args.txn c.self.inside.kept.items ∙ ap (option_map seen) (sym e)) in
    let fits : abort_fault (Some (seen c.in-Some.load.now)) ≡ None = search rules in
    rw f (ap (λ b. Some b) (abort_opens (seen c.in-Some.load.now) c.in-Some.load.now.state refl fits))
