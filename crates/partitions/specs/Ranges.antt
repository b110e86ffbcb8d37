-- The ranges of partitions (Apache Doris documentation, "Data Partitioning").
use Rattle.std.specs.Prelude.{ℕ, Bool, true, false, cond, not, ◌&&◌, ◌||◌, List, [], ◌∷◌, ◌++◌, Option, Some, None}
use Rattle.dl_values.specs.declared.cell.Cell.{Cell}
use Rattle.dl_values.specs.declared.col_type.ColType.{ColType}
use Rattle.dl_values.specs.declared.col_type.ColType.TheVariants as kind
use Rattle.schema_models.specs.CellTypes.{is_of_type}
use Rattle.partitions.specs.LayoutView.{whole_part}
use Rattle.partitions.specs.Places.{is_below, low_end, high_end}
use Rattle.partitions.specs.declared.part_def.PartDef.{PartDef}
use Rattle.partitions.specs.declared.part_def.Bounds.{Bounds}
use Rattle.partitions.specs.declared.part_def.Bounds.TheVariants.{Less, Between}
use Rattle.partitions.specs.declared.parts_def.PartsDef.{PartsDef}
use Rattle.partitions.specs.declared.parts_def.PartsDef.TheVariants.{Whole, ByRange}

-- integers and dates have ranges
abbrev pub has_ranges : ColType → Bool
has_ranges (kind.Varchar m) = false
has_ranges _ = true

abbrev pub ranges_type : Option ColType → Bool
ranges_type None = false
ranges_type (Some t) = has_ranges t

-- an end, where there is one, is a cell of the column's type and no null
abbrev pub is_end : Option ColType → Option Cell → Bool
is_end t None = true
is_end None (Some x) = false
is_end (Some t) (Some x) = is_of_type t x

-- the low end is below the high one
abbrev pub ends_rise : Option Cell → Option Cell → Bool
ends_rise (Some low) (Some high) = is_below low high
ends_rise _ _ = true

abbrev pub are_bounds : Option ColType → Bounds → Bool
are_bounds t b = is_end t (low_end b) && is_end t (high_end b) && ends_rise (low_end b) (high_end b)

-- a range has both its ends
abbrev pub is_between : Bounds → Bool
is_between (Less high) = false
is_between (Between low high) = true

-- one range ends where the other begins, or before it
abbrev pub ends_before : Option Cell → Option Cell → Bool
ends_before (Some high) (Some low) = not (is_below low high)
ends_before _ _ = false

-- two ranges have no value in common
abbrev pub are_apart : Bounds → Bounds → Bool
are_apart a b = ends_before (high_end a) (low_end b) || ends_before (high_end b) (low_end a)

-- LESS THAN begins at the greatest high end that is below its own one
abbrev pub ends_below : Option Cell → Cell → Bool
ends_below None x = true
ends_below (Some high) x = is_below x high

abbrev pub later_end : Option Cell → Cell → Option Cell
later_end None x = Some x
later_end (Some y) x = cond (is_below y x) (Some x) (Some y)

abbrev pub low_with : Option Cell → Option Cell → Option Cell → Option Cell
low_with high None low = low
low_with high (Some x) low = cond (ends_below high x) (later_end low x) low

abbrev pub low_for : Option Cell → List PartDef → Option Cell
low_for high [] = None
low_for high (p ∷ ps) = low_with high (high_end p.bounds) (low_for high ps)

abbrev pub bounds_after : List PartDef → Bounds → Bounds
bounds_after parts (Less high) = Between (low_for high parts) high
bounds_after parts (Between low high) = Between low high

-- a partition with its range, behind these
abbrev pub with_range : List PartDef → PartDef → PartDef
with_range parts p = record p { bounds = bounds_after parts p.bounds }

-- partitions with their ranges, each behind those before it
abbrev pub ranged : List PartDef → List PartDef → List PartDef
ranged before [] = before
ranged before (p ∷ ps) = ranged (before ++ with_range before p ∷ []) ps

-- the partition column and the partitions of a definition, as they are written
abbrev pub column_of : PartsDef → Option (List ℕ)
column_of (Whole name) = None
column_of (ByRange column parts) = Some column

abbrev pub written : PartsDef → List PartDef
written (Whole name) = whole_part name ∷ []
written (ByRange column parts) = parts

-- and with their ranges
abbrev pub parts_of : PartsDef → List PartDef
parts_of def = ranged [] (written def)
