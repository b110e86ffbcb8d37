use Rattle.std.proofs.Common.{List, sym, subst}
use Rattle.std.specs.Vec.{vec_capacity}
use Rattle.tablets.specs.TabletView.{IsPast, IsTablet, StoredList, TabletView}
use Rattle.tablets.specs.contracts.tablet.Tablet.{the_view}
use Rattle.tablets.proofs.Versions.{more_is_tablet}
use Rattle.tablets.proofs.tablet.Tablet.put.Goals as goal

pub invariant_of-self : goal.invariant_of-self
invariant_of-self c =
    let view = the_view c.self.inside in
    let above = subst (λ (t : TabletView). IsPast c.args.version t.lists) (sym c.self.view_is) c.requires.above in
    subst (λ (ls : List StoredList). IsTablet (record { shape = c.self.inside.shape; lists = ls; room = vec_capacity c.push_reserved.new.self })) (sym c.push_reserved.ensures.items)
    (more_is_tablet view (record { first = c.args.version; last = c.args.version; rowset = c.args.rowset.value }) c.self.invariant above c.vouch.ensures (vec_capacity c.push_reserved.new.self))
