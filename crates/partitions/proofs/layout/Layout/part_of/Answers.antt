use Rattle.std.proofs.Common.{◌≡◌, ℕ, List, Option, Some, None, sym, ap, ◌∙◌, subst, rules}
use Rattle.dl_values.specs.declared.cell.Cell.{Cell}
use Rattle.partitions.specs.LayoutView.{LayoutView}
use Rattle.partitions.specs.Places.{first_part, in_range, part_of}
use Rattle.partitions.specs.declared.part_def.PartDef.{PartDef}
use Rattle.partitions.specs.Search.{cell_at}
use Rattle.partitions.specs.contracts.layout.Layout.{the_view}
use Rattle.partitions.proofs.Finding.{part_of_any, part_of_cell, part_of_nowhere}
use Rattle.partitions.proofs.layout.Layout.part_of.Goals as goal

pub returns-else-is_empty : goal.returns-else-is_empty
returns-else-is_empty c =
    let view = the_view c.self.inside in
    subst (λ (l : LayoutView). Some 0 ≡ part_of l.columns l c.args.cells.now) c.self.view_is (part_of_any view.columns view c.args.cells.now c.in-None.is (search rules))

pub returns-in-None-cell_at : goal.returns-in-None-cell_at
returns-in-None-cell_at c =
    let view = the_view c.self.inside in
    let row = c.args.cells.now in
    subst (λ (l : LayoutView). None ≡ part_of l.columns l row) c.self.view_is
    (part_of_nowhere view.columns view row c.in-Some.field-0 c.in-Some.is (ap (λ (o : Option ℕ). cell_at o row) (sym c.self.invariant.column) ∙ sym c.in-None-cell_at.ensures))

pub returns-in-Some-cell_at : goal.returns-in-Some-cell_at
returns-in-Some-cell_at c =
    let view = the_view c.self.inside in
    let row = c.args.cells.now in
    let cell = c.in-Some-cell_at.cell.now in
    c.part_with.ensures ∙ ap (first_part (λ (p : PartDef). in_range p.bounds cell)) c.as_slice.ensures
    ∙ subst (λ (l : LayoutView). first_part (λ (p : PartDef). in_range p.bounds cell) c.self.inside.parts ≡ part_of l.columns l row) c.self.view_is
    (part_of_cell view.columns view row c.in-Some.field-0 cell c.in-Some.is (ap (λ (o : Option ℕ). cell_at o row) (sym c.self.invariant.column) ∙ sym c.in-Some-cell_at.ensures))
