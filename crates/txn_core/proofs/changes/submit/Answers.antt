use Rattle.std.proofs.Common.{ap, ◌≡◌, rules, position, nat_eq, Some, None}
use Rattle.label_book.specs.Labels.{finished}
use Rattle.txn_core.specs.declared.info.TxnInfo.{TxnInfo}
use Rattle.txn_core.specs.Book as book
use Rattle.txn_core.specs.Book.{submit_as}
use Rattle.txn_core.specs.Queue.{binding}
use Rattle.txn_core.proofs.Queued.{is_put, open_is_kept, queue_takes}
use Rattle.txn_core.proofs.Puts.{binding_spares, labels_put, missed, misses, none_changed, one_changed, ascending_put, below_put, length_put}
use Rattle.txn_core.proofs.changes.submit.Goals as goal

pub returns-in-None-clause-is : goal.returns-in-None-clause-is
returns-in-None-clause-is c =
    let e : None ≡ position (λ (k : TxnInfo). nat_eq k.id c.args.id) c.args.kept.now.items = search rules in
    none_changed c.args.id (submit_as c.args.place c.args.held c.args.at) c.args.kept.now.items e

pub returns-in-Some-clause-is : goal.returns-in-Some-clause-is
returns-in-Some-clause-is c =
    let e : Some c.in-Some.i ≡ position (λ (k : TxnInfo). nat_eq k.id c.args.id) c.args.kept.now.items = search rules in
    one_changed c.args.id (submit_as c.args.place c.args.held c.args.at) c.args.kept.now.items c.in-Some.i c.index_mut.result.now c.submit.new.self c.requires e c.index_mut.ensures.value c.submit.ensures

pub returns-in-Some-clause-length : goal.returns-in-Some-clause-length
returns-in-Some-clause-length c = length_put c.args.kept.now.items c.in-Some.i c.submit.new.self

pub returns-in-Some-clause-ascends : goal.returns-in-Some-clause-ascends
returns-in-Some-clause-ascends c =
    let e : Some c.in-Some.i ≡ position (λ (k : TxnInfo). nat_eq k.id c.args.id) c.args.kept.now.items = search rules in
    ascending_put c.args.id c.args.kept.now.items c.in-Some.i c.index_mut.result.now c.submit.new.self c.requires e c.index_mut.ensures.value (ap (λ (k : TxnInfo). k.id) c.submit.ensures)

pub returns-in-Some-clause-below : goal.returns-in-Some-clause-below
returns-in-Some-clause-below c =
    let e : Some c.in-Some.i ≡ position (λ (k : TxnInfo). nat_eq k.id c.args.id) c.args.kept.now.items = search rules in
    λ n. below_put n c.args.id c.args.kept.now.items c.in-Some.i c.index_mut.result.now c.submit.new.self e c.index_mut.ensures.value (ap (λ (k : TxnInfo). k.id) c.submit.ensures)

pub returns-in-None-clause-labels : goal.returns-in-None-clause-labels
returns-in-None-clause-labels c =
    let e : None ≡ position (λ (k : TxnInfo). nat_eq k.id c.args.id) c.args.kept.now.items = search rules in
    misses c.args.id binding (finished c.args.id (book.state_by c.args.place)) (binding_spares c.args.id (book.state_by c.args.place)) c.args.kept.now.items e

pub returns-in-Some-clause-labels : goal.returns-in-Some-clause-labels
returns-in-Some-clause-labels c =
    let e : Some c.in-Some.i ≡ position (λ (k : TxnInfo). nat_eq k.id c.args.id) c.args.kept.now.items = search rules in
    labels_put c.args.id (book.state_by c.args.place) c.args.kept.now.items c.in-Some.i c.index_mut.result.now c.submit.new.self c.requires e c.index_mut.ensures.value (ap binding c.submit.ensures)

pub returns-in-None-clause-queue : goal.returns-in-None-clause-queue
returns-in-None-clause-queue c =
    let e : None ≡ position (λ (k : TxnInfo). nat_eq k.id c.args.id) c.args.kept.now.items = search rules in
    λ q last next o h. absurd (open_is_kept c.args.id c.args.kept.now.items (missed c.args.id c.args.kept.now.items e) o)

pub returns-in-Some-clause-queue : goal.returns-in-Some-clause-queue
returns-in-Some-clause-queue c =
    let e : Some c.in-Some.i ≡ position (λ (k : TxnInfo). nat_eq k.id c.args.id) c.args.kept.now.items = search rules in
    let p = is_put c.args.id c.in-Some.i c.index_mut.result.now c.submit.new.self c.args.kept.now.items c.requires e c.index_mut.ensures.value (ap (λ (k : TxnInfo). k.id) c.submit.ensures) in
    λ q last next o h. queue_takes c.args.id c.in-Some.i c.index_mut.result.now c.submit.new.self c.args.kept.now.items c.args.place q last p (ap (λ (k : TxnInfo). k.state) c.submit.ensures) (ap (λ (k : TxnInfo). k.place) c.submit.ensures) next o h
