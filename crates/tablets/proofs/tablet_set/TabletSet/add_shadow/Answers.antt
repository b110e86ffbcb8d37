use Rattle.std.proofs.Common.{◌≡◌, List, [], ◌∷◌, ◌++◌, sym, ap, ◌∙◌, subst}
use Rattle.std.specs.Prelude.{Some}
use Rattle.tablets.specs.SetView.{IndexView, SetView, empty_index}
use Rattle.tablets.specs.Shadows.{IsTabletSet, MayCome}
use Rattle.tablets.specs.contracts.tablet_set.TabletSet.{the_view}
use Rattle.tablets.proofs.Changes.{shadow_more}
use Rattle.tablets.proofs.tablet_set.TabletSet.add_shadow.Goals as goal

pub invariant_of-self-2 : goal.invariant_of-self-2
invariant_of-self-2 c =
    let s = the_view c.self.inside in
    let new = empty_index c.args.index (Some (record { job = c.args.job; replaces = c.args.replaces })) c.args.shape s.parts s.buckets in
    let may = subst (λ (v : SetView). MayCome v c.args.index c.args.replaces) (sym c.self.view_is) c.requires in
    let all : c.push.new.self.items ≡ s.indexes ++ new ∷ [] = c.in_ok-push.ensures.items ∙ ap (λ (i : IndexView). s.indexes ++ i ∷ []) c.in_ok-index.ensures in
    subst (λ (is : List IndexView). IsTabletSet (record { indexes = is; parts = s.parts; buckets = s.buckets })) (sym all) (shadow_more s c.args.index (record { job = c.args.job; replaces = c.args.replaces }) c.args.shape c.self.invariant may)
