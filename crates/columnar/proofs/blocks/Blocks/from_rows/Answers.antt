use Rattle.std.proofs.Common.{◌≡◌, List, length, subst, sym}
use Rattle.std.specs.List.{AllByRecursion}
use Rattle.columnar.proofs.Widths.{widths}
use Rattle.dl_values.specs.declared.cell.Cell.{Cell}
use Rattle.schema_models.specs.declared.column_def.ColumnDef.{ColumnDef}
use Rattle.columnar.proofs.blocks.Blocks.from_rows.Goals as goal

pub blocks_of-requires : goal.blocks_of-requires
blocks_of-requires c =
    record { wide = subst (λ (cs : List ColumnDef). AllByRecursion (λ (r : List Cell). length cs ≡ length r) c.args.rows) (sym c.columns.ensures) (widths c.args.shape.now c.args.rows c.requires) }
