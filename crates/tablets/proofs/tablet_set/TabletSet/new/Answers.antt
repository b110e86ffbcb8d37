use Rattle.std.proofs.Common.{◌≡◌, List, [], ◌∷◌, ◌++◌, sym, ap, ◌∙◌, subst}
use Rattle.std.specs.Prelude.{None}
use Rattle.tablets.specs.SetView.{IndexView, empty_index}
use Rattle.tablets.specs.Shadows.{IsTabletSet}
use Rattle.tablets.proofs.Changes.{base_is_set}
use Rattle.tablets.proofs.tablet_set.TabletSet.new.Goals as goal

pub invariant_of-result : goal.invariant_of-result
invariant_of-result c =
    let base : c.in_ok-base.base ≡ empty_index 0 None c.args.shape c.args.parts c.args.buckets = c.in_ok-base.ensures in
    let all : c.push.new.self.items ≡ empty_index 0 None c.args.shape c.args.parts c.args.buckets ∷ [] = c.in_ok-push.ensures.items ∙ (ap (λ (is : List IndexView). is ++ c.in_ok-base.base ∷ []) c.new-indexes.ensures.items ∙ ap (λ (i : IndexView). i ∷ []) base) in
    subst (λ (is : List IndexView). IsTabletSet (record { indexes = is; parts = c.args.parts; buckets = c.args.buckets })) (sym all) (base_is_set c.args.shape c.args.parts c.args.buckets)
