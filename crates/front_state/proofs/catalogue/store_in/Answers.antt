use Rattle.std.proofs.Common.{◌≡◌, Some, map, position, nat_eq, rules, sym}
use Rattle.std.proofs.lemmas.List.Quantifiers.{position-Some}
use Rattle.std.proofs.lemmas.Result.{on_err_weaker, on_ok_weaker}
use Rattle.front_defs.specs.May.{seen_set}
use Rattle.shadow_writes.specs.declared.built.TabletRows.{TabletRows}
use Rattle.front_state.specs.declared.stored_table.StoredTable.{StoredTable}
use Rattle.front_state.proofs.Tablets.{ascends_there, known_there, stores_there, unseen_there}
use Rattle.front_state.proofs.catalogue.store_in.Goals as goal

pub returns-in-Some-clause-ok : goal.returns-in-Some-clause-ok
returns-in-Some-clause-ok c =
    let e : Some c.in-Some.i ≡ position (λ (k : StoredTable). nat_eq k.table c.args.table) c.args.tablets.now.items = search rules in
    on_ok_weaker c.add_sets.result (stores_there c.args.table c.in-Some.i (map (λ (s : TabletRows). seen_set s) c.args.sets.now) c.index_mut.result.now c.add_sets.new.stored c.args.tablets.now.items e c.index_mut.ensures.value) c.add_sets.ensures.ok

pub returns-in-Some-clause-err : goal.returns-in-Some-clause-err
returns-in-Some-clause-err c = on_err_weaker c.add_sets.result (unseen_there c.in-Some.i c.index_mut.result.now c.add_sets.new.stored c.args.tablets.now.items c.index_mut.ensures.value) c.add_sets.ensures.err

pub returns-in-Some-clause-known : goal.returns-in-Some-clause-known
returns-in-Some-clause-known c =
    let e : Some c.in-Some.i ≡ position (λ (k : StoredTable). nat_eq k.table c.args.table) c.args.tablets.now.items = search rules in
    let w = position-Some (λ (k : StoredTable). nat_eq k.table c.args.table) c.args.tablets.now.items c.in-Some.i c.index_mut.result.now (sym e) in
    λ last k. known_there last c.in-Some.i c.index_mut.result.now c.add_sets.new.stored c.args.tablets.now.items w.0 c.index_mut.ensures.value c.add_sets.ensures.table k

pub returns-in-Some-clause-ascends : goal.returns-in-Some-clause-ascends
returns-in-Some-clause-ascends c =
    let e : Some c.in-Some.i ≡ position (λ (k : StoredTable). nat_eq k.table c.args.table) c.args.tablets.now.items = search rules in
    let w = position-Some (λ (k : StoredTable). nat_eq k.table c.args.table) c.args.tablets.now.items c.in-Some.i c.index_mut.result.now (sym e) in
    ascends_there c.in-Some.i c.index_mut.result.now c.add_sets.new.stored c.args.tablets.now.items w.0 c.index_mut.ensures.value c.add_sets.ensures.table c.requires
