use Rattle.std.proofs.Common.{◌≡◌, ◌∙◌, Some, None, ap, find, nat_eq, refl, rules, sym}
use Rattle.std.specs.Option.{option_copied, option_map}
use Rattle.front_defs.specs.Names.{same}
use Rattle.txn_core.specs.declared.info.TxnInfo.{TxnInfo}
use Rattle.txn_core.specs.Seen.{seen}
use Rattle.front_state.proofs.OfDb.{db_none, db_some}
use Rattle.front_state.proofs.Views.{cond_seen, of_db_seen}
use Rattle.front_state.proofs.transactions.Transactions.numbered.Goals as goal

pub returns-in-None-clause-value : goal.returns-in-None-clause-value
returns-in-None-clause-value c =
    let e : None ≡ find (λ (k : TxnInfo). nat_eq k.id c.args.id) c.self.inside.book.kept = search rules in
    rw (← c.self.view_is) (db_none c.args.id c.args.db.now c.self.inside.book.kept e)

pub returns-in-Some-clause-value : goal.returns-in-Some-clause-value
returns-in-Some-clause-value c =
    let k = c.in-Some.txn.now in
    let e : Some k ≡ find (λ (k : TxnInfo). nat_eq k.id c.args.id) c.self.inside.book.kept = search rules in
    rw (← c.self.view_is) (ap (option_map seen) c.of_db.ensures ∙ cond_seen (same k.db c.args.db.now) k ∙ db_some c.args.id c.args.db.now c.self.inside.book.kept k (same k.db c.args.db.now) c.vouch.ensures.ascends e refl)

pub returns-in-Some-clause-number : goal.returns-in-Some-clause-number
returns-in-Some-clause-number c =
    let k = c.in-Some.txn.now in
    let e : Some k ≡ find (λ (k : TxnInfo). nat_eq k.id c.args.id) c.self.inside.book.kept = search rules in
    rw (← c.self.view_is) (of_db_seen c.args.id c.self.inside.book.kept k (same k.db c.args.db.now) c.of_db.result (sym e) c.of_db.ensures)
