use Rattle.std.proofs.Common.{◌≡◌, ◌<◌, ◌∙◌, length, get_or, set, refl, ap, ap₂, arith, add-one}
use Rattle.dl_values.specs.declared.cell.Cell.{Cell}
use Rattle.dl_values.specs.declared.cell.Cell.TheVariants as cell
use Rattle.schema_models.specs.Folds.{merged_by_role}
use Rattle.schema_models.specs.declared.column_def.ColumnDef.{ColumnDef}
use Rattle.merge_read.proofs.Merging.{half, one_merged, all_merged}
use Rattle.merge_read.specs.Merged.{cell_of}
use Rattle.merge_read.specs.declared.merged_cell.MergedCell.{MergedCell}
use Rattle.merge_read.proofs.present.merge.Goals as goal

step : (z : MergedCell) (d : ColumnDef) (x : MergedCell) (y v : Cell) (e : ColumnDef) (w : MergedCell) → cell_of z ≡ merged_by_role d.role (cell_of x) y → y ≡ v → d ≡ e → x ≡ w → cell_of z ≡ merged_by_role e.role (cell_of w) v
step z d x y v e w m p q r = m ∙ ap (λ (a : Cell). merged_by_role d.role (cell_of x) a) p ∙ ap₂ (λ (a : ColumnDef) (b : MergedCell). merged_by_role a.role (cell_of b) v) q r

pub loop-column-preserved : goal.loop-column-preserved
loop-column-preserved c =
    let i = c.loop-column.column in
    let cs = c.args.columns.now in
    let xs = c.loop-column.cells in
    let d = c.index-columns-column.result in
    let x = c.index-cells-column.result in
    let z = c.merge_cell.result in
    let size : length xs ≡ length cs = omega (arith, c.requires.cells, c.loop-column.auto.cells) in
    let l : i < length xs = omega (arith, c.loop-column-test.true, c.loop-column.auto.cells) in
    let is : cell_of z ≡ merged_by_role (get_or cs i d).role (cell_of (get_or xs i x)) (get_or c.args.row.now i cell.Null) =
    step z (get_or cs i d) x c.cell.result.now (get_or c.args.row.now i cell.Null) (get_or cs i d) (get_or xs i x) c.merge_cell.ensures c.cell.ensures refl c.index-cells-column.is in
    ap (λ k. half k cs (set xs i z) c.args.row.now) (add-one i) ∙ one_merged i cs xs c.args.row.now d x z l size c.requires.row is ∙ c.loop-column.invariant

pub returns : goal.returns
returns c = all_merged c.loop-column.column c.args.columns.now c.loop-column.cells c.args.row.now _ (omega arith) (omega (arith, c.requires.cells, c.loop-column.auto.cells)) c.loop-column.invariant
