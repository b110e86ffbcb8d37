use Rattle.std.proofs.Common.{◌∙◌, ap, ◌≡◌, rules, position, nat_eq, Some, None}
use Rattle.label_book.specs.Labels.{finished}
use Rattle.front_defs.specs.Transactions.{is_committed}
use Rattle.txn_core.specs.declared.info.TxnInfo.{TxnInfo}
use Rattle.txn_core.specs.Book.{end_as}
use Rattle.txn_core.specs.Queue.{binding}
use Rattle.txn_core.proofs.Queued.{is_put, no_first, queue_keeps, queue_pops, same_number}
use Rattle.txn_core.proofs.Puts.{binding_spares, labels_put, missed, misses, none_changed, one_changed, ascending_put, below_put, length_put}
use Rattle.txn_core.proofs.changes.end.Goals as goal

pub returns-in-None-clause-is : goal.returns-in-None-clause-is
returns-in-None-clause-is c =
    let e : None ≡ position (λ (k : TxnInfo). nat_eq k.id c.args.id) c.args.kept.now.items = search rules in
    none_changed c.args.id (end_as c.args.state c.args.at) c.args.kept.now.items e

pub returns-in-Some-clause-is : goal.returns-in-Some-clause-is
returns-in-Some-clause-is c =
    let e : Some c.in-Some.i ≡ position (λ (k : TxnInfo). nat_eq k.id c.args.id) c.args.kept.now.items = search rules in
    one_changed c.args.id (end_as c.args.state c.args.at) c.args.kept.now.items c.in-Some.i c.index_mut.result.now c.end.new.self c.requires e c.index_mut.ensures.value c.end.ensures

pub returns-in-Some-clause-length : goal.returns-in-Some-clause-length
returns-in-Some-clause-length c = length_put c.args.kept.now.items c.in-Some.i c.end.new.self

pub returns-in-Some-clause-ascends : goal.returns-in-Some-clause-ascends
returns-in-Some-clause-ascends c =
    let e : Some c.in-Some.i ≡ position (λ (k : TxnInfo). nat_eq k.id c.args.id) c.args.kept.now.items = search rules in
    ascending_put c.args.id c.args.kept.now.items c.in-Some.i c.index_mut.result.now c.end.new.self c.requires e c.index_mut.ensures.value (ap (λ (k : TxnInfo). k.id) c.end.ensures)

pub returns-in-Some-clause-below : goal.returns-in-Some-clause-below
returns-in-Some-clause-below c =
    let e : Some c.in-Some.i ≡ position (λ (k : TxnInfo). nat_eq k.id c.args.id) c.args.kept.now.items = search rules in
    λ n. below_put n c.args.id c.args.kept.now.items c.in-Some.i c.index_mut.result.now c.end.new.self e c.index_mut.ensures.value (ap (λ (k : TxnInfo). k.id) c.end.ensures)

pub returns-in-None-clause-labels : goal.returns-in-None-clause-labels
returns-in-None-clause-labels c =
    let e : None ≡ position (λ (k : TxnInfo). nat_eq k.id c.args.id) c.args.kept.now.items = search rules in
    misses c.args.id binding (finished c.args.id c.args.state) (binding_spares c.args.id c.args.state) c.args.kept.now.items e

pub returns-in-Some-clause-labels : goal.returns-in-Some-clause-labels
returns-in-Some-clause-labels c =
    let e : Some c.in-Some.i ≡ position (λ (k : TxnInfo). nat_eq k.id c.args.id) c.args.kept.now.items = search rules in
    labels_put c.args.id c.args.state c.args.kept.now.items c.in-Some.i c.index_mut.result.now c.end.new.self c.requires e c.index_mut.ensures.value (ap binding c.end.ensures)

pub returns-in-Some-clause-queue : goal.returns-in-Some-clause-queue
returns-in-Some-clause-queue c =
    let e : Some c.in-Some.i ≡ position (λ (k : TxnInfo). nat_eq k.id c.args.id) c.args.kept.now.items = search rules in
    let p = is_put c.args.id c.in-Some.i c.index_mut.result.now c.end.new.self c.args.kept.now.items c.requires e c.index_mut.ensures.value (ap (λ (k : TxnInfo). k.id) c.end.ensures) in
    λ q last off none h. queue_keeps c.args.id c.in-Some.i c.index_mut.result.now c.end.new.self c.args.kept.now.items q last p none (ap (λ (k : TxnInfo). is_committed k.state) c.end.ensures ∙ off) h

pub returns-in-None-clause-first : goal.returns-in-None-clause-first
returns-in-None-clause-first c =
    let e : None ≡ position (λ (k : TxnInfo). nat_eq k.id c.args.id) c.args.kept.now.items = search rules in
    λ w q last off is h. absurd (no_first c.args.id c.args.kept.now.items w q last (missed c.args.id c.args.kept.now.items e) is h)

pub returns-in-Some-clause-first : goal.returns-in-Some-clause-first
returns-in-Some-clause-first c =
    let e : Some c.in-Some.i ≡ position (λ (k : TxnInfo). nat_eq k.id c.args.id) c.args.kept.now.items = search rules in
    let p = is_put c.args.id c.in-Some.i c.index_mut.result.now c.end.new.self c.args.kept.now.items c.requires e c.index_mut.ensures.value (ap (λ (k : TxnInfo). k.id) c.end.ensures) in
    λ w q last off is h. queue_pops c.args.id c.in-Some.i c.index_mut.result.now c.end.new.self c.args.kept.now.items w q last p (same_number w.txn c.args.id is) (ap (λ (k : TxnInfo). is_committed k.state) c.end.ensures ∙ off) h
