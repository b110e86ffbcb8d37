use Rattle.std.proofs.Common.{◌≡◌, Some, None, rules, true}
use Rattle.front_defs.specs.Answer.{bad_label, label_for}
use Rattle.front_defs.specs.Catalogue.{has_db, table_named}
use Rattle.front_defs.specs.History.{outcome, Refused}
use Rattle.front_defs.specs.Transactions.{label_of}
use Rattle.txn_core.specs.Refusals.{RefusesBegin, used_by}
use Rattle.front_core.proofs.Answered.{begin_refused, begins_at}
use Rattle.front_core.proofs.front.Front.begin.Goals as goal

pub returns-in-Ok-begin-clause-answer : goal.returns-in-Ok-begin-clause-answer
returns-in-Ok-begin-clause-answer c =
    let t = c.in-Some.table.now in
    let old = c.args.self.now in
    let known : has_db c.args.db old.databases ≡ true = search rules in
    let found : table_named c.args.db c.args.table old.tables ≡ Some t = search rules in
    let fits : bad_label c.args.label ≡ None = search rules in
    let free : used_by (label_of t.db (label_for c.args.label old.next) old.txns) ≡ None = search rules in
    begins_at c.args.db c.args.table c.args.label old.databases old.tables old.txns old.jobs old.next t _ known found fits free (search rules)

pub returns-clause-answer : goal.returns-clause-answer
returns-clause-answer c =
    let t = c.in-Some.table.now in
    let old = c.args.self.now in
    let known : has_db c.args.db old.databases ≡ true = search rules in
    let found : table_named c.args.db c.args.table old.tables ≡ Some t = search rules in
    let fits : bad_label c.args.label ≡ None = search rules in
    let refuses : RefusesBegin (label_of t.db (label_for c.args.label old.next) old.txns) c.in-Err-begin.error = search rules in
    begin_refused c.args.db c.args.table c.args.label old.databases old.tables old.txns old.jobs old.next t c.in-Err-begin.error _ known found fits refuses (search rules)
