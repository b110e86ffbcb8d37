use Rattle.std.proofs.Common.{◌≡◌, map, take}
use Rattle.schema_models.specs.declared.column_def.ColumnDef.{ColumnDef}
use Rattle.sql_text.specs.declared.query.Item.TheVariants as item
use Rattle.select_defs.proofs.items.each_column.Given as goal

abbrev pub invariant-loop-column : goal.invariant-loop-column
invariant-loop-column l = l.all.items ≡ map (λ (c : ColumnDef). item.Column c.name) (take l.column-index l.columns)
