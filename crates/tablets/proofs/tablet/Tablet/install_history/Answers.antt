use Rattle.std.proofs.Common.{List, ◌<◌, sym, subst, arith}
use Rattle.std.specs.Vec.{vec_capacity}
use Rattle.tablets.specs.TabletView.{IsTablet, StoredList, TabletView, spare}
use Rattle.tablets.specs.contracts.tablet.Tablet.{the_view}
use Rattle.tablets.proofs.Versions.{past_short, replaced_is_tablet}
use Rattle.tablets.proofs.tablet.Tablet.install_history.Goals as goal

pub replace-requires : goal.replace-requires
replace-requires c =
    let room : 0 < spare (the_view c.self.inside) = subst (λ (t : TabletView). 0 < spare t) (sym c.self.view_is) c.requires.spare in
    let short = past_short c.args.version c.self.inside.lists.items in
    omega (arith, room, short)

pub invariant_of-self : goal.invariant_of-self
invariant_of-self c =
    subst (λ (ls : List StoredList). IsTablet (record { shape = c.self.inside.shape; lists = ls; room = vec_capacity c.replace.new.lists })) (sym c.replace.ensures.lists)
    (replaced_is_tablet (the_view c.self.inside) (record { first = 1; last = c.args.version; rowset = c.args.rowset.value }) c.self.invariant c.vouch.ensures (vec_capacity c.replace.new.lists))
