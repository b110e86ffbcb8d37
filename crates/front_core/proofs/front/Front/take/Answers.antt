use Rattle.std.proofs.Common.{◌≡◌, ◌∙◌, Option, Some, None, ap, rules}
use Rattle.front_defs.specs.Answer.{placed_for}
use Rattle.front_defs.specs.Transactions.{txn_at}
use Rattle.front_defs.specs.declared.reply.Placed.{Placed}
use Rattle.front_state.specs.Parts.{TransactionsView, submitted}
use Rattle.txn_core.specs.Refusals.{submit_fault}
use Rattle.txn_core.specs.Seen.{rows_in, sets_in}
use Rattle.front_core.specs.Parts.{front_view}
use Rattle.front_core.proofs.Answered.{takes_at}
use Rattle.front_core.proofs.front.Front.take.Goals as goal

pub returns-clause-well : goal.returns-clause-well
returns-clause-well c = λ _.
    let t = c.self.inside.transactions in
    let held = Some c.args.held in
    let free : submit_fault c.args.at (txn_at c.args.txn t.txns) ≡ None = search rules in
    let p : c.in-Ok.placed ≡ placed_for (txn_at c.args.txn t.txns) t.txns t.places = search rules in
    let e : c.submit.new.self ≡ submitted c.args.txn c.in-Ok.placed (rows_in held) (sets_in held) c.args.at t = search rules in
    rw (← c.self.view_is) (takes_at (txn_at c.args.txn t.txns) c.args.txn c.args.at (rows_in held) (sets_in held) (front_view c.self.inside.catalogue t) _ free
    (ap (λ (x : TransactionsView). front_view c.self.inside.catalogue x) (e ∙ ap (λ (q : Option Placed). submitted c.args.txn q (rows_in held) (sets_in held) c.args.at t) p)))
