use Rattle.std.proofs.Common.{◌≡◌, [], List, None, true, subst, sym}
use Rattle.std.specs.List.{list_all}
use Rattle.partitions.specs.LayoutFaults.{first_beside, meets, ranged_faults, written_faults}
use Rattle.partitions.specs.Ranges.{ranged}
use Rattle.partitions.specs.declared.part_def.PartDef.{PartDef}
use Rattle.partitions.proofs.Ascending.{rises}
use Rattle.partitions.proofs.Tested.{parts_apart, parts_rise}
use Rattle.partitions.proofs.layout.Layout.build.Goals as goal

pub of_parts-requires-clause-apart : goal.of_parts-requires-clause-apart
of_parts-requires-clause-apart c =
    let parts = c.as_slice.result.now in
    let faults = written_faults c.args.shape.now c.in_ok-column.column parts c.as_slice-hashed.result.now c.args.buckets in
    subst (λ (ps : List PartDef). first_beside meets [] ps ≡ None) (sym c.in_ok-parts.ensures.made) (parts_apart faults (ranged [] parts) c.in_ok-parts.ensures.tested)

pub of_parts-requires-clause-rise : goal.of_parts-requires-clause-rise
of_parts-requires-clause-rise c =
    let parts = c.as_slice.result.now in
    subst (λ (ps : List PartDef). list_all (λ (p : PartDef). rises p.bounds) ps ≡ true) (sym c.in_ok-parts.ensures.made)
    (parts_rise c.args.shape.now c.in_ok-column.column parts c.as_slice-hashed.result.now c.args.buckets (ranged_faults (ranged [] parts)) c.in_ok-parts.ensures.tested)
