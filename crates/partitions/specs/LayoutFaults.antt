-- What may be wrong with a layout: each variant is looked for over all columns or partitions, in their order, before the next (Apache Doris documentation, "Data Partitioning"; the limits are this project's own).
use Rattle.std.specs.Prelude.{◌≡◌, ◌⊎◌, ℕ, Bool, true, false, cond, not, ◌&&◌, List, [], ◌∷◌, ◌++◌, Option, Some, None, find, length, nat_le, is_none, Result, MatchResult}
use Rattle.std.specs.List.{list_all, list_any}
use Rattle.std.specs.Option.{option_map}
use Rattle.std.specs.Str.{bytes_eq}
use Rattle.schema_models.specs.Faults.{refuse_if, first_of}
use Rattle.schema_models.specs.Names.{is_name}
use Rattle.schema_models.specs.ShapeView.{ShapeView}
use Rattle.schema_models.specs.declared.column_def.ColumnDef.{ColumnDef}
use Rattle.schema_models.specs.declared.model.Model.{Model}
use Rattle.schema_models.specs.declared.model.Model.TheVariants as model
use Rattle.partitions.specs.Columns.{is_column_name, is_key_name, type_of, type_under}
use Rattle.partitions.specs.LayoutView.{LayoutView, layout_of}
use Rattle.partitions.specs.Ranges.{are_apart, are_bounds, column_of, parts_of, ranges_type, with_range, written}
use Rattle.partitions.specs.declared.layout_error.LayoutError.{LayoutError}
use Rattle.partitions.specs.declared.layout_error.LayoutError.TheVariants as layout_error
use Rattle.partitions.specs.declared.part_def.PartDef.{PartDef}
use Rattle.partitions.specs.declared.parts_def.PartsDef.{PartsDef}

-- the first of these columns that is none of the table's: the partition column stands before the distribution columns
abbrev pub with_column : Option (List ℕ) → List (List ℕ) → List (List ℕ)
with_column None names = names
with_column (Some column) names = column ∷ names

abbrev pub unknown_in : List ColumnDef → List (List ℕ) → Option (List ℕ)
unknown_in columns names = find (λ n. not (is_column_name columns n)) names

-- a partition column is a key of integers or dates
abbrev pub may_part : List ColumnDef → List ℕ → Bool
may_part columns name = is_key_name columns name && ranges_type (type_under columns name)

-- a distribution column is any column of a Duplicate table, and else a key
abbrev pub may_hash : Model → List ColumnDef → List ℕ → Bool
may_hash model.Duplicate columns name = is_column_name columns name
may_hash model.Unique columns name = is_key_name columns name
may_hash model.Aggregate columns name = is_key_name columns name

-- the first column that may not be what it is to be
abbrev pub no_part_in : List ColumnDef → Option (List ℕ) → Option (List ℕ)
no_part_in columns None = None
no_part_in columns (Some name) = cond (may_part columns name) None (Some name)

abbrev pub no_hash_in : ShapeView → List (List ℕ) → Option (List ℕ)
no_hash_in s names = find (λ n. not (may_hash s.model s.columns n)) names

abbrev pub no_key_in : ShapeView → Option (List ℕ) → List (List ℕ) → Option (List ℕ)
no_key_in s column hash = first_of (no_part_in s.columns column ∷ no_hash_in s hash ∷ [])

-- the name of the first partition with this fault
abbrev pub first_with : (PartDef → Bool) → List PartDef → Option (List ℕ)
first_with fault parts = option_map (λ (p : PartDef). p.name) (find fault parts)

-- the name of the first partition with this fault beside those before it
abbrev pub first_beside : (List PartDef → PartDef → Bool) → List PartDef → List PartDef → Option (List ℕ)
first_beside fault before [] = None
first_beside fault before (p ∷ ps) = cond (fault before p) (Some p.name) (first_beside fault (before ++ p ∷ []) ps)

-- one of these has the name of a partition
abbrev pub is_named_in : List PartDef → PartDef → Bool
is_named_in before p = list_any (λ (q : PartDef). bytes_eq q.name p.name) before

-- one of these has a value in common with a partition
abbrev pub meets : List PartDef → PartDef → Bool
meets before p = not (list_all (λ (q : PartDef). are_apart q.bounds p.bounds) before)

abbrev pub are_buckets : ℕ → Bool
are_buckets n = nat_le 1 n && nat_le n 64

-- of the columns, the buckets, and the partitions as they are written
abbrev pub written_faults : ShapeView → Option (List ℕ) → List PartDef → List (List ℕ) → ℕ → List (Option LayoutError)
written_faults s column parts hash buckets =
    option_map layout_error.NoColumn (unknown_in s.columns (with_column column hash))
    ∷ option_map layout_error.NotAKey (no_key_in s column hash)
    ∷ refuse_if (not (are_buckets buckets)) layout_error.BadBuckets
    ∷ option_map layout_error.BadBound (first_with (λ p. not (are_bounds (type_of s.columns column) p.bounds)) parts)
    ∷ option_map layout_error.BadName (first_with (λ p. not (is_name p.name)) parts)
    ∷ option_map layout_error.DoubleName (first_beside is_named_in [] parts)
    ∷ []

-- and of the partitions with their ranges
abbrev pub ranged_faults : List PartDef → List (Option LayoutError)
ranged_faults parts = option_map layout_error.Overlap (first_beside meets [] parts) ∷ refuse_if (not (nat_le (length parts) 1000)) layout_error.TooManyPartitions ∷ []

abbrev pub layout_faults : ShapeView → PartsDef → List (List ℕ) → ℕ → List (Option LayoutError)
layout_faults s def hash buckets = written_faults s (column_of def) (written def) hash buckets ++ ranged_faults (parts_of def)

-- the first refusal of a definition, if there is one
unfoldable pub layout_fault : ShapeView → PartsDef → List (List ℕ) → ℕ → Option LayoutError
layout_fault s def hash buckets = first_of (layout_faults s def hash buckets)

-- what a definition gives
abbrev pub defined : ShapeView → PartsDef → List (List ℕ) → ℕ → LayoutView
defined s def hash buckets = layout_of s (column_of def) (parts_of def) hash buckets

-- what may be wrong with a partition that is added, as it is written
abbrev pub part_faults : LayoutView → PartDef → List (Option LayoutError)
part_faults l p =
    refuse_if (is_none l.column) layout_error.NotPartitioned
    ∷ refuse_if (not (are_bounds l.kind p.bounds)) (layout_error.BadBound p.name)
    ∷ refuse_if (not (is_name p.name)) (layout_error.BadName p.name)
    ∷ refuse_if (is_named_in l.parts p) (layout_error.DoubleName p.name)
    ∷ []

-- and then with its range beside the others
abbrev pub room_faults : List PartDef → PartDef → List (Option LayoutError)
room_faults parts p = refuse_if (meets parts p) (layout_error.Overlap p.name) ∷ refuse_if (nat_le 1000 (length parts)) layout_error.TooManyPartitions ∷ []

abbrev pub add_faults : LayoutView → PartDef → List (Option LayoutError)
add_faults l p = part_faults l p ++ room_faults l.parts (with_range l.parts p)

abbrev pub add_fault : LayoutView → PartDef → Option LayoutError
add_fault l p = first_of (add_faults l p)

-- a partition more, behind the others
abbrev pub with_part : PartDef → LayoutView → LayoutView
with_part p l = record l { parts = l.parts ++ p ∷ [] }

-- with its range
abbrev pub added : PartDef → LayoutView → LayoutView
added p l = with_part (with_range l.parts p) l

-- what a test answers: nothing where there is no fault, else the fault, where memory lasts
abbrev pub Tests : {A : Type 0} → Option LayoutError → Result A LayoutError → Type 0
Tests fault r = MatchResult r (λ _. fault ≡ None) (λ e. (e ≡ layout_error.NoMemory) ⊎ (fault ≡ Some e))
