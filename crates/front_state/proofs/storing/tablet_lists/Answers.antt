use Rattle.std.proofs.Common.{◌≡◌, ◌+◌, rules}
use Rattle.tablets.specs.TabletView.{IsPast}
use Rattle.front_state.proofs.Gathered.{if_ok, on_tested, tablet_shared}
use Rattle.front_state.proofs.storing.tablet_lists.Goals as goal

pub returns : goal.returns
returns c =
    let next : c.in-Some-checked_add.next ≡ c.in-Some.version.now + 1 = search rules in
    let past = on_tested c.args.stored.now.set 0 c.args.part c.args.bucket (λ t. IsPast c.in-Some-checked_add.next t.lists) c.is_past.result c.is_past.ensures c.if-not-is_past.false in
    if_ok c.snapshot.result _ _ (λ all e. tablet_shared (λ l. l.value) all c.args.stored.now.set c.args.part c.args.bucket c.in-Some.version.now c.in-Some-checked_add.next next past e) c.snapshot.ensures
