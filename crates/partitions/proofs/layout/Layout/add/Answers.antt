use Rattle.std.proofs.Common.{◌≡◌, List, false, true, refl, subst, sym, ap, ◌∙◌}
use Rattle.partitions.specs.LayoutFaults.{meets}
use Rattle.partitions.specs.LayoutView.{LayoutView}
use Rattle.partitions.specs.declared.part_def.PartDef.{PartDef}
use Rattle.partitions.specs.Ranges.{with_range}
use Rattle.partitions.specs.contracts.layout.Layout.{the_view}
use Rattle.partitions.proofs.Ascending.{rises}
use Rattle.partitions.proofs.Tested.{part_apart, part_rises}
use Rattle.partitions.proofs.layout.Layout.add.Goals as goal

pub push-requires-clause-apart : goal.push-requires-clause-apart
push-requires-clause-apart c =
    let view = the_view c.self.inside in
    let made : with_range view.parts c.args.part ≡ c.in_ok-part.part = cc (c.in_ok-part.ensures.made, c.as_slice-parts.ensures) in
    let apart = part_apart view c.args.part (c.in_ok-part.ensures.tested view refl refl (sym c.as_slice-parts.ensures)) in
    subst (λ (l : LayoutView). meets l.parts c.in_ok-part.part ≡ false) c.self.view_is (subst (λ (p : PartDef). meets view.parts p ≡ false) made apart)

pub push-requires-clause-rise : goal.push-requires-clause-rise
push-requires-clause-rise c =
    let view = the_view c.self.inside in
    let made : with_range view.parts c.args.part ≡ c.in_ok-part.part = cc (c.in_ok-part.ensures.made, c.as_slice-parts.ensures) in
    subst (λ (p : PartDef). rises p.bounds ≡ true) made (part_rises view c.args.part (c.in_ok-part.ensures.tested view refl refl (sym c.as_slice-parts.ensures)))
