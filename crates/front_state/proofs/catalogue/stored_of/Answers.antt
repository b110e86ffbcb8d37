use Rattle.std.proofs.Common.{◌≡◌, Some, None, position, nat_eq, rules}
use Rattle.front_state.specs.declared.stored_table.StoredTable.{StoredTable}
use Rattle.txn_core.proofs.Halves.{find_at, find_none}
use Rattle.front_state.proofs.catalogue.stored_of.Goals as goal

pub returns-in-None : goal.returns-in-None
returns-in-None c =
    let e : None ≡ position (λ (k : StoredTable). nat_eq k.table c.args.table) c.args.tablets.now = search rules in
    find_none (λ (k : StoredTable). nat_eq k.table c.args.table) c.args.tablets.now e

pub returns-in-Some : goal.returns-in-Some
returns-in-Some c =
    let e : Some c.in-Some.i ≡ position (λ (k : StoredTable). nat_eq k.table c.args.table) c.args.tablets.now = search rules in
    find_at (λ (k : StoredTable). nat_eq k.table c.args.table) c.args.tablets.now c.in-Some.i c.index-tablets-i.result e c.index-tablets-i.is
