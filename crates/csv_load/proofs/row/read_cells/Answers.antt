use Rattle.std.proofs.Common.{◌∙◌, sym, ap, arith, cond, Some, None}
use Rattle.csv.specs.Records.{fields_of}
use Rattle.csv_load.proofs.Cells.{onto_cells-none, wrong-length, no-field, no-push, one-pushed, whole-row}
use Rattle.csv_load.proofs.row.read_cells.Goals as goal

pub loop-i-init : goal.loop-i-init
loop-i-init c = rw c.requires (onto_cells-none _)

pub returns-then-len-columns : goal.returns-then-len-columns
returns-then-len-columns c = sym (wrong-length c.args.strict c.args.columns.now (fields_of c.args.fields.now) (λ e. c.if-len-columns.true (c.len.ensures ∙ sym e)))

pub returns-in-None : goal.returns-in-None
returns-in-None c = absurd (no-field (fields_of c.args.fields.now) c.loop-i.i c.in-None.ensures.value (omega (arith, c.len.ensures)))

pub returns-then-not-branch : goal.returns-then-not-branch
returns-then-not-branch c = sym (
    no-push c.args.strict c.args.columns.now (fields_of c.args.fields.now) c.loop-i.i c.index-columns-i.result c.in-Some.field.now c.loop-i.row c.in-Some.ensures.value (omega arith) (omega (arith, c.len.ensures)) c.index-columns-i.is (c.in_ok-push_cell-in-Some.ensures ∙ ap (λ b. cond b (Some c.push_cell.new.row) None) c.if-not-branch.true)
    ∙ c.loop-i.invariant)

pub loop-i-preserved : goal.loop-i-preserved
loop-i-preserved c =
    one-pushed c.args.strict c.args.columns.now (fields_of c.args.fields.now) c.loop-i.i c.index-columns-i.result c.in-Some.field.now c.loop-i.row _ c.in-Some.ensures.value (omega arith) (omega (arith, c.len.ensures)) c.index-columns-i.is (c.in_ok-push_cell-in-Some.ensures ∙ ap (λ b. cond b (Some c.push_cell.new.row) None) c.if-not-branch.false)
    ∙ c.loop-i.invariant

pub returns : goal.returns
returns c = sym (whole-row c.args.strict c.args.columns.now (fields_of c.args.fields.now) c.loop-i.i c.loop-i.row (omega arith) (omega (arith, c.len.ensures)) ∙ c.loop-i.invariant)
