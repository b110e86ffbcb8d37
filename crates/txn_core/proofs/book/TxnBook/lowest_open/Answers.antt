use Rattle.std.proofs.Common.{◌≡◌, ◌∙◌, None, Some, ap, find, nat_lt, rules, sym}
use Rattle.front_defs.specs.Moves.{is_open}
use Rattle.txn_core.specs.declared.info.TxnInfo.{TxnInfo}
use Rattle.txn_core.proofs.Opened.{below_lowest, lowest_is}
use Rattle.txn_core.proofs.book.TxnBook.lowest_open.Goals as goal

pub returns-in-None-clause-first : goal.returns-in-None-clause-first
returns-in-None-clause-first c =
    let e : None ≡ find (λ (k : TxnInfo). is_open k.state) c.self.inside.kept.items = search rules in
    rw (← c.self.view_is) (lowest_is c.self.inside.next c.self.inside.kept.items None e)

pub returns-in-None-clause-below : goal.returns-in-None-clause-below
returns-in-None-clause-below c =
    let e : None ≡ find (λ (k : TxnInfo). is_open k.state) c.self.inside.kept.items = search rules in
    rw (← c.self.view_is) (λ n le. below_lowest n c.self.inside.next c.self.inside.kept.items le c.self.invariant.ascends ∙ ap (λ m. nat_lt m n) (sym (lowest_is c.self.inside.next c.self.inside.kept.items None e)))

pub returns-in-Some-clause-first : goal.returns-in-Some-clause-first
returns-in-Some-clause-first c =
    let e : Some c.in-Some.info.now ≡ find (λ (k : TxnInfo). is_open k.state) c.self.inside.kept.items = search rules in
    rw (← c.self.view_is) (lowest_is c.self.inside.next c.self.inside.kept.items (Some c.in-Some.info.now) e)

pub returns-in-Some-clause-below : goal.returns-in-Some-clause-below
returns-in-Some-clause-below c =
    let e : Some c.in-Some.info.now ≡ find (λ (k : TxnInfo). is_open k.state) c.self.inside.kept.items = search rules in
    rw (← c.self.view_is) (λ n le. below_lowest n c.self.inside.next c.self.inside.kept.items le c.self.invariant.ascends ∙ ap (λ m. nat_lt m n) (sym (lowest_is c.self.inside.next c.self.inside.kept.items (Some c.in-Some.info.now) e)))
