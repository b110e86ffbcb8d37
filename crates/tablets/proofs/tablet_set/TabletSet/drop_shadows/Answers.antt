use Rattle.std.proofs.Common.{List, subst, sym}
use Rattle.tablets.specs.SetView.{IndexView}
use Rattle.tablets.specs.Shadows.{IsTabletSet}
use Rattle.tablets.specs.contracts.tablet_set.TabletSet.{the_view}
use Rattle.tablets.proofs.Switch.{without_is_set}
use Rattle.tablets.proofs.tablet_set.TabletSet.drop_shadows.Goals as goal

pub invariant_of-self : goal.invariant_of-self
invariant_of-self c = subst (λ (is : List IndexView). IsTabletSet (record { indexes = is; parts = c.self.inside.parts; buckets = c.self.inside.buckets })) (sym c.drop_shadows.ensures) (without_is_set (the_view c.self.inside) c.args.job c.self.invariant)
