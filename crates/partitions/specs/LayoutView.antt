-- What a layout is: partitions by range of one column, or one for the whole table, and buckets by hash; with the names of the columns that its rows have, and the type of the partition column.
use Rattle.std.specs.Prelude.{ℕ, List, [], ◌∷◌, Option, None}
use Rattle.dl_values.specs.declared.col_type.ColType.{ColType}
use Rattle.schema_models.specs.ShapeView.{ShapeView}
use Rattle.schema_models.specs.CellsByName.{names_of}
use Rattle.partitions.specs.Columns.{type_of}
use Rattle.partitions.specs.declared.part_def.PartDef.{PartDef}
use Rattle.partitions.specs.declared.part_def.Bounds.TheVariants.{Between}

pub record LayoutView : Type 0 where
  pub columns : List (List ℕ)
  pub kind : Option ColType
  pub column : Option (List ℕ)
  pub parts : List PartDef
  pub hash : List (List ℕ)
  pub buckets : ℕ

-- a layout for rows of a shape
abbrev pub layout_of : ShapeView → Option (List ℕ) → List PartDef → List (List ℕ) → ℕ → LayoutView
layout_of s column parts hash buckets =
    record { columns = names_of s.columns; kind = type_of s.columns column; column = column; parts = parts; hash = hash; buckets = buckets }

-- a partition without ends
abbrev pub whole_part : List ℕ → PartDef
whole_part name = record { name = name; bounds = Between None None }

-- one partition without ends, which has the table's name
abbrev pub whole : ShapeView → List ℕ → List (List ℕ) → ℕ → LayoutView
whole s name hash buckets = layout_of s None (whole_part name ∷ []) hash buckets

-- the same layout for rows of another shape
abbrev pub over : ShapeView → LayoutView → LayoutView
over s l = layout_of s l.column l.parts l.hash l.buckets
