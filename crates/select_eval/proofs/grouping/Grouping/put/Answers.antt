use Rattle.std.proofs.Common.{ap, ap₂, ◌∙◌}
use Rattle.std.specs.BTreeMap.{insert_entry}
use Rattle.dl_values.specs.Order.{row_cmp}
use Rattle.merge_read.specs.Merged.{row_of}
use Rattle.select_eval.specs.Grouping.{Grouping}
use Rattle.select_eval.specs.Outputs.{begun, cells_in, grown}
use Rattle.select_eval.proofs.GroupLaws.{put_new, put_there}
use Rattle.select_eval.proofs.grouping.Grouping.put.Goals as goal

pub returns-in-Some : goal.returns-in-Some
returns-in-Some c =
    let row = row_of c.args.row.now in
    put_there c.args.self.now c.args.all.now.entries (c.get_mut.follows.lender c.add.new.self).entries row c.refill.new.self c.in-Some.group.now c.add.new.self
    (c.in_ok-refill.ensures ∙ ap (λ ps. cells_in ps row) c.as_slice.ensures.value ∙ ap (λ (z : Grouping). cells_in z.places row) c.self.view_is)
    c.in-Some.ensures.value
    (c.in_ok-add.ensures ∙ ap (λ os. grown os c.in-Some.group.now row) c.as_slice-in-Some.ensures.value ∙ ap (λ (z : Grouping). grown z.outputs c.in-Some.group.now row) c.self.view_is)
    (c.get_mut.follows.holds c.add.new.self).0

pub returns : goal.returns
returns c =
    let row = row_of c.args.row.now in
    put_new c.args.self.now c.args.all.now.entries c.insert.new.self.entries row c.refill.new.self c.in_ok-group.group c.add-2.new.self
    (c.in_ok-refill.ensures ∙ ap (λ ps. cells_in ps row) c.as_slice.ensures.value ∙ ap (λ (z : Grouping). cells_in z.places row) c.self.view_is)
    c.in_default.ensures.value
    (c.in_ok-group.ensures ∙ ap₂ begun (c.as_slice-2.ensures.value ∙ ap (λ (z : Grouping). z.outputs) c.self.view_is) c.cells.ensures)
    (c.in_ok-add-2.ensures ∙ ap (λ os. grown os c.in_ok-group.group row) c.as_slice-3.ensures.value ∙ ap (λ (z : Grouping). grown z.outputs c.in_ok-group.group row) c.self.view_is)
    (c.in_ok-insert.ensures.entries ∙ ap (λ k. insert_entry row_cmp c.get_mut.follows.lender-at-none.entries k c.add-2.new.self) c.in_ok-copy.ensures ∙ ap (λ m. insert_entry row_cmp m.entries c.refill.new.self c.add-2.new.self) c.get_mut.follows.holds-at-none)
