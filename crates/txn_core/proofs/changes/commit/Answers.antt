use Rattle.std.proofs.Common.{ap, ◌≡◌, rules, position, nat_eq, Some, None}
use Rattle.label_book.specs.Labels.{finished}
use Rattle.labels.specs.declared.txn_state.TxnState.TheVariants as state
use Rattle.txn_core.specs.declared.info.TxnInfo.{TxnInfo}
use Rattle.txn_core.specs.Book.{commit_as}
use Rattle.txn_core.specs.Queue.{binding}
use Rattle.txn_core.proofs.Queued.{is_put, open_is_kept, queue_takes}
use Rattle.txn_core.proofs.Puts.{binding_spares, labels_put, missed, misses, none_changed, one_changed, ascending_put, below_put, length_put}
use Rattle.txn_core.proofs.changes.commit.Goals as goal

pub returns-in-None-clause-is : goal.returns-in-None-clause-is
returns-in-None-clause-is c =
    let e : None ≡ position (λ (k : TxnInfo). nat_eq k.id c.args.id) c.args.kept.now.items = search rules in
    none_changed c.args.id (commit_as c.args.place c.args.at) c.args.kept.now.items e

pub returns-in-Some-clause-is : goal.returns-in-Some-clause-is
returns-in-Some-clause-is c =
    let e : Some c.in-Some.i ≡ position (λ (k : TxnInfo). nat_eq k.id c.args.id) c.args.kept.now.items = search rules in
    one_changed c.args.id (commit_as c.args.place c.args.at) c.args.kept.now.items c.in-Some.i c.index_mut.result.now c.commit.new.self c.requires e c.index_mut.ensures.value c.commit.ensures

pub returns-in-Some-clause-length : goal.returns-in-Some-clause-length
returns-in-Some-clause-length c = length_put c.args.kept.now.items c.in-Some.i c.commit.new.self

pub returns-in-Some-clause-ascends : goal.returns-in-Some-clause-ascends
returns-in-Some-clause-ascends c =
    let e : Some c.in-Some.i ≡ position (λ (k : TxnInfo). nat_eq k.id c.args.id) c.args.kept.now.items = search rules in
    ascending_put c.args.id c.args.kept.now.items c.in-Some.i c.index_mut.result.now c.commit.new.self c.requires e c.index_mut.ensures.value (ap (λ (k : TxnInfo). k.id) c.commit.ensures)

pub returns-in-Some-clause-below : goal.returns-in-Some-clause-below
returns-in-Some-clause-below c =
    let e : Some c.in-Some.i ≡ position (λ (k : TxnInfo). nat_eq k.id c.args.id) c.args.kept.now.items = search rules in
    λ n. below_put n c.args.id c.args.kept.now.items c.in-Some.i c.index_mut.result.now c.commit.new.self e c.index_mut.ensures.value (ap (λ (k : TxnInfo). k.id) c.commit.ensures)

pub returns-in-None-clause-labels : goal.returns-in-None-clause-labels
returns-in-None-clause-labels c =
    let e : None ≡ position (λ (k : TxnInfo). nat_eq k.id c.args.id) c.args.kept.now.items = search rules in
    misses c.args.id binding (finished c.args.id state.Committed) (binding_spares c.args.id state.Committed) c.args.kept.now.items e

pub returns-in-Some-clause-labels : goal.returns-in-Some-clause-labels
returns-in-Some-clause-labels c =
    let e : Some c.in-Some.i ≡ position (λ (k : TxnInfo). nat_eq k.id c.args.id) c.args.kept.now.items = search rules in
    labels_put c.args.id state.Committed c.args.kept.now.items c.in-Some.i c.index_mut.result.now c.commit.new.self c.requires e c.index_mut.ensures.value (ap binding c.commit.ensures)

pub returns-in-None-clause-queue : goal.returns-in-None-clause-queue
returns-in-None-clause-queue c =
    let e : None ≡ position (λ (k : TxnInfo). nat_eq k.id c.args.id) c.args.kept.now.items = search rules in
    λ q last next o h. absurd (open_is_kept c.args.id c.args.kept.now.items (missed c.args.id c.args.kept.now.items e) o)

pub returns-in-Some-clause-queue : goal.returns-in-Some-clause-queue
returns-in-Some-clause-queue c =
    let e : Some c.in-Some.i ≡ position (λ (k : TxnInfo). nat_eq k.id c.args.id) c.args.kept.now.items = search rules in
    let p = is_put c.args.id c.in-Some.i c.index_mut.result.now c.commit.new.self c.args.kept.now.items c.requires e c.index_mut.ensures.value (ap (λ (k : TxnInfo). k.id) c.commit.ensures) in
    λ q last next o h. queue_takes c.args.id c.in-Some.i c.index_mut.result.now c.commit.new.self c.args.kept.now.items (Some c.args.place) q last p (ap (λ (k : TxnInfo). k.state) c.commit.ensures) (ap (λ (k : TxnInfo). k.place) c.commit.ensures) next o h
