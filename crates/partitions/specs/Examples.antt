-- Worked places: `sales (city VARCHAR(16), day DATE, items BIGINT SUM)`, by day below 2024-02-01 and below 2024-03-01, hashed by city over 4 buckets.
use Rattle.std.specs.Prelude.{ℕ, true, List, [], ◌∷◌, Some, None, pos}
use Rattle.dl_values.specs.declared.agg_kind.AggKind.TheVariants as agg
use Rattle.dl_values.specs.declared.cell.Cell.{Cell}
use Rattle.dl_values.specs.declared.cell.Cell.TheVariants as cell
use Rattle.dl_values.specs.declared.col_type.ColType.{ColType}
use Rattle.dl_values.specs.declared.col_type.ColType.TheVariants as kind
use Rattle.schema_models.specs.ShapeView.{ShapeView}
use Rattle.schema_models.specs.declared.column_def.ColumnDef.{ColumnDef}
use Rattle.schema_models.specs.declared.model.Model.TheVariants as model
use Rattle.schema_models.specs.declared.role.Role.{Role}
use Rattle.schema_models.specs.declared.role.Role.TheVariants as role
use Rattle.partitions.specs.LayoutView.{LayoutView, layout_of}
use Rattle.partitions.specs.Ranges.{with_range}
use Rattle.partitions.specs.declared.part_def.PartDef.{PartDef}
use Rattle.partitions.specs.declared.part_def.Bounds.TheVariants.{Less, Between}

abbrev pub city : List ℕ
city = 99 ∷ 105 ∷ 116 ∷ 121 ∷ []

abbrev pub day : List ℕ
day = 100 ∷ 97 ∷ 121 ∷ []

abbrev pub items : List ℕ
items = 105 ∷ []

abbrev pub column : List ℕ → ColType → Role → ColumnDef
column name t r = record { name = name; kind = t; nullable = true; role = r; default = None }

abbrev pub sales : ShapeView
sales = record { model = model.Aggregate; columns = column city (kind.Varchar 16) role.Key ∷ column day kind.Date role.Key ∷ column items kind.BigInt (role.Agg agg.Sum) ∷ [] }

-- `p1` and `p2`
abbrev pub p1 : PartDef
p1 = record { name = 112 ∷ 49 ∷ []; bounds = Between None (Some (cell.Day 20240201)) }

abbrev pub p2 : PartDef
p2 = with_range (p1 ∷ []) (record { name = 112 ∷ 50 ∷ []; bounds = Less (Some (cell.Day 20240301)) })

abbrev pub layout : LayoutView
layout = layout_of sales (Some day) (p1 ∷ p2 ∷ []) (city ∷ []) 4

-- `Oslo`, `Rome`
abbrev pub oslo : List ℕ
oslo = 79 ∷ 115 ∷ 108 ∷ 111 ∷ []

abbrev pub rome : List ℕ
rome = 82 ∷ 111 ∷ 109 ∷ 101 ∷ []

abbrev pub sold : List ℕ → Cell → ℕ → List Cell
sold name on n = cell.Text name ∷ on ∷ cell.Int (pos n) ∷ []
