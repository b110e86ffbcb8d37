-- Which layouts are valid for rows of a shape: those that pass every test of a definition.
use Rattle.std.specs.Prelude.{◌≡◌, ℕ, Bool, true, false, not, ◌&&◌, List, [], ◌∷◌, ◌++◌, Option, Some, None, length, nat_le}
use Rattle.std.specs.List.{list_all}
use Rattle.dl_values.specs.declared.cell.Cell.{Cell}
use Rattle.dl_values.specs.declared.col_type.ColType.{ColType}
use Rattle.schema_models.specs.Names.{is_name}
use Rattle.schema_models.specs.ShapeView.{ShapeView}
use Rattle.schema_models.specs.declared.column_def.ColumnDef.{ColumnDef}
use Rattle.schema_models.specs.CellsByName.{names_of}
use Rattle.partitions.specs.Columns.{type_of, type_under}
use Rattle.partitions.specs.LayoutFaults.{are_buckets, is_named_in, may_hash, may_part, meets}
use Rattle.partitions.specs.LayoutView.{LayoutView}
use Rattle.partitions.specs.Ranges.{are_bounds, is_between}
use Rattle.partitions.specs.declared.part_def.PartDef.{PartDef}
use Rattle.partitions.specs.declared.part_def.Bounds.{Bounds}
use Rattle.partitions.specs.declared.part_def.Bounds.TheVariants.{Less, Between}

-- a partition fits behind others: a range, a name of its own, and no value in common with them
abbrev pub fits_behind : Option ColType → List PartDef → PartDef → Bool
fits_behind t before p = is_between p.bounds && are_bounds t p.bounds && is_name p.name && not (is_named_in before p) && not (meets before p)

abbrev pub fit_after : Option ColType → List PartDef → List PartDef → Bool
fit_after t before [] = true
fit_after t before (p ∷ ps) = fits_behind t before p && fit_after t (before ++ p ∷ []) ps

-- without a partition column there is one partition without ends
abbrev pub is_open : Bounds → Bool
is_open (Between None None) = true
is_open _ = false

abbrev pub is_whole : List PartDef → Bool
is_whole [] = false
is_whole (p ∷ []) = is_name p.name && is_open p.bounds
is_whole (p ∷ q ∷ ps) = false

abbrev pub parts_fit : List ColumnDef → Option (List ℕ) → List PartDef → Bool
parts_fit columns None parts = is_whole parts
parts_fit columns (Some name) parts = may_part columns name && fit_after (type_under columns name) [] parts

-- a layout for rows of a shape
pub record IsLayout (s : ShapeView) (l : LayoutView) : Type 0 where
  pub columns : l.columns ≡ names_of s.columns
  pub kind : l.kind ≡ type_of s.columns l.column
  pub hash : list_all (may_hash s.model s.columns) l.hash ≡ true
  pub buckets : are_buckets l.buckets ≡ true
  pub parts : parts_fit s.columns l.column l.parts ≡ true
  pub few : nat_le (length l.parts) 1000 ≡ true
