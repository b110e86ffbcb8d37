-- The partitions and buckets of a table's definition (Apache Doris documentation, "Data Partitioning").
use Rattle.std.specs.Prelude.{ℕ, min, List, Option, Some, None, map, unwrap_or}
use Rattle.std.specs.Option.{option_map}
use Rattle.dl_values.specs.declared.col_type.ColType.{ColType}
use Rattle.schema_models.specs.declared.column_def.ColumnDef.{ColumnDef}
use Rattle.partitions.specs.Columns.{type_under}
use Rattle.partitions.specs.declared.part_def.Bounds.{Bounds}
use Rattle.partitions.specs.declared.part_def.Bounds.TheVariants as bounds
use Rattle.partitions.specs.declared.part_def.PartDef.{PartDef}
use Rattle.partitions.specs.declared.parts_def.PartsDef.{PartsDef}
use Rattle.partitions.specs.declared.parts_def.PartsDef.TheVariants as parts
use Rattle.sql_text.specs.declared.part.Part.{Part}
use Rattle.sql_text.specs.declared.part.PartBounds.{PartBounds}
use Rattle.sql_text.specs.declared.part.PartBounds.TheVariants as written
use Rattle.sql_text.specs.declared.table_def.Ranges.{Ranges}
use Rattle.table_defs.specs.Literals.{end_cell}

abbrev pub bounds_of : Option ColType → PartBounds → Bounds
bounds_of t (written.Less high) = bounds.Less (option_map (end_cell t) high)
bounds_of t (written.Between low high) = bounds.Between (Some (end_cell t low)) (Some (end_cell t high))

-- a partition as it is written, its ends read by the type of the partition column
abbrev pub part_of : Option ColType → Part → PartDef
part_of t p = record { name = p.name; bounds = bounds_of t p.bounds }

-- one partition with the table's name, or those that are written
abbrev pub parts_of : List ℕ → List ColumnDef → Option Ranges → PartsDef
parts_of table columns None = parts.Whole table
parts_of table columns (Some r) = parts.ByRange r.column (map (part_of (type_under columns r.column)) r.parts)

-- without BUCKETS there are ten; a number that 32 bits do not hold is no number of buckets either
abbrev pub buckets_of : Option ℕ → ℕ
buckets_of None = 10
buckets_of (Some n) = min n 4294967295
