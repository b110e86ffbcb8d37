use Rattle.std.proofs.Common.{rules}
use Rattle.std.proofs.lemmas.List.Sorted.{answers_always}
use Rattle.front_state.specs.declared.stored_table.StoredTable.{StoredTable}
use Rattle.txn_core.proofs.Halves.{halved}
use Rattle.front_state.proofs.catalogue.place_of.Goals as goal

pub returns-in-Ok : goal.returns-in-Ok
returns-in-Ok c =
    let facts = c.binary_search_by_key.ensures in
    let by_key = facts.position (λ (k : StoredTable). k.table) (answers_always _ _ _ (λ f a r g called. search rules)) in
    rw c.in-Ok.is at (halved (λ (k : StoredTable). k.table) c.args.table c.args.tablets.now c.binary_search_by_key.result c.requires facts.bound by_key)

pub returns-in-Err : goal.returns-in-Err
returns-in-Err c =
    let facts = c.binary_search_by_key.ensures in
    let by_key = facts.position (λ (k : StoredTable). k.table) (answers_always _ _ _ (λ f a r g called. search rules)) in
    rw c.in-Err.is at (halved (λ (k : StoredTable). k.table) c.args.table c.args.tablets.now c.binary_search_by_key.result c.requires facts.bound by_key)
