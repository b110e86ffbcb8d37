use Rattle.std.proofs.Common.{◌≡◌, ◌∙◌, ◌+◌, ap, false, nat_eq, not, rules, sym, true}
use Rattle.std.specs.Prelude.{count_by}
use Rattle.front_defs.specs.Transactions.{is_over}
use Rattle.txn_core.specs.Book.{txns_in}
use Rattle.txn_core.proofs.Swept.{sweeps_counts}
use Rattle.txn_core.proofs.book.TxnBook.sweep.Goals as goal

pub returns-then-is_nothing-clause-none : goal.returns-then-is_nothing-clause-none
returns-then-is_nothing-clause-none c =
    let found = c.would_sweep-found in
    let ts = txns_in c.args.self.now in
    let none : nat_eq (found.result.aborted + found.result.forgotten) 0 ≡ true = search rules in
    let same = ap (λ n. nat_eq (n + count_by (is_over c.args.at) ts) 0) (sym found.ensures.aborted) ∙ ap (λ n. nat_eq (found.result.aborted + n) 0) (sym found.ensures.forgotten) in
    sweeps_counts c.args.at ts ∙ ap not (same ∙ none)

pub returns-clause-fits : goal.returns-clause-fits
returns-clause-fits c =
    let found = c.would_sweep-found in
    let ts = txns_in c.args.self.now in
    let some : nat_eq (found.result.aborted + found.result.forgotten) 0 ≡ false = search rules in
    let same = ap (λ n. nat_eq (n + count_by (is_over c.args.at) ts) 0) (sym found.ensures.aborted) ∙ ap (λ n. nat_eq (found.result.aborted + n) 0) (sym found.ensures.forgotten) in
    sweeps_counts c.args.at ts ∙ ap not (same ∙ some)
