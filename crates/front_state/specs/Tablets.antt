-- What contracts see of the tablets of a table, and how a load changes them.
use Rattle.std.specs.Prelude.{◌≡◌, ℕ, zero, suc, ◌+◌, Bool, cond, ◌&&◌, List, [], ◌∷◌, ◌++◌, Option, Some, None, MatchOption, map, length, nat_eq, replicate}
use Rattle.std.specs.List.{flat_map, list_any}
use Rattle.dl_values.specs.declared.cell.Cell.{Cell}
use Rattle.partitions.specs.LayoutView.{LayoutView}
use Rattle.partitions.specs.Places.{Place, tablets_of}
use Rattle.rowsets.specs.RowsetView.{RowsetView, rowset_rows}
use Rattle.tablets.specs.SetView.{IndexView, SetView}
use Rattle.tablets.specs.TabletView as tablets
use Rattle.tablets.specs.TabletView.{TabletView, list_rows}
use Rattle.front_defs.specs.declared.catalogue.Table.{Table}
use Rattle.front_defs.specs.Stands.{HasIndex, HasTablets, IndexTablets, TableTablets, index_for, lists_by, lists_for, stored_for, version_for}
use Rattle.front_defs.specs.Stored.{PlacedRows, StoredList, rows_in, same_place, set_for}
use Rattle.front_state.specs.declared.stored_table.StoredTable.{StoredTable}

-- a rowset with its versions, by its rows
abbrev pub list_seen : tablets.StoredList → StoredList
list_seen l = record { first = l.first; last = l.last; rows = list_rows l }

abbrev pub tablet_seen : TabletView → List StoredList
tablet_seen t = map (λ (l : tablets.StoredList). list_seen l) t.lists

abbrev pub part_seen : List TabletView → List (List StoredList)
part_seen ts = map (λ (t : TabletView). tablet_seen t) ts

abbrev pub index_seen : IndexView → IndexTablets
index_seen i = record { number = i.number; parts = map (λ (ts : List TabletView). part_seen ts) i.parts }

abbrev pub indexes_seen : SetView → List IndexTablets
indexes_seen s = map (λ (i : IndexView). index_seen i) s.indexes

abbrev pub table_seen : StoredTable → TableTablets
table_seen k = record { table = k.table; versions = k.versions.items; indexes = indexes_seen k.set }

-- a rowset of one version
abbrev pub list_of : ℕ → RowsetView → StoredList
list_of version r = record { first = version; last = version; rows = rowset_rows r }

-- a list more in the tablet of a place, and nothing else
abbrev pub with_list_at : ℕ → ℕ → StoredList → ℕ → Place → List StoredList → List StoredList
with_list_at part bucket l index w lists = cond (nat_eq index 0 && same_place w (record { part = part; bucket = bucket })) (lists ++ l ∷ []) lists

-- A list more in one tablet of the base.
pub record HasList (part bucket : ℕ) (l : StoredList) (old new : SetView) : Type 0 where
  pub lists : (index : ℕ) (w : Place) → lists_by w (index_for index (indexes_seen new)) ≡ with_list_at part bucket l index w (lists_by w (index_for index (indexes_seen old)))
  pub grid : (t : Table) (k : TableTablets) (index : ℕ) → MatchOption (index_for index (indexes_seen old)) ⊥ (HasTablets t k) → MatchOption (index_for index (indexes_seen new)) ⊥ (HasTablets t k)

-- nothing stored: version 1 of each partition, and empty tablets of the base
abbrev pub nothing_stored : ℕ → ℕ → ℕ → TableTablets
nothing_stored table parts buckets = record { table = table; versions = replicate parts 1; indexes = record { number = 0; parts = replicate parts (replicate buckets []) } ∷ [] }

abbrev pub empty_tablets : ℕ → LayoutView → TableTablets
empty_tablets table l = nothing_stored table (length l.parts) l.buckets

-- what a load adds in a tablet of the base: the list that it has for its place
abbrev pub set_lists : Option PlacedRows → ℕ → List StoredList → List StoredList
set_lists None version lists = lists
set_lists (Some s) version lists = lists ++ record { first = version; last = version; rows = s.rows } ∷ []

abbrev pub with_sets : List PlacedRows → ℕ → ℕ → Place → List StoredList → List StoredList
with_sets sets version zero w lists = set_lists (set_for w sets) version lists
with_sets sets version (suc n) w lists = lists

-- whether a load has a list for a tablet of the partition
abbrev pub is_touched : ℕ → List PlacedRows → Bool
is_touched part sets = list_any (λ (s : PlacedRows). nat_eq s.place.part part) sets

-- A list more in each tablet of the base that a load has one for, with the next version of its partition, which is raised once.
pub record HasSets (sets : List PlacedRows) (old new : TableTablets) : Type 0 where
  pub table : new.table ≡ old.table
  pub lists : (index : ℕ) (w : Place) → lists_for index w (Some new) ≡ with_sets sets (version_for w.part (Some old) + 1) index w (lists_for index w (Some old))
  pub versions : (part : ℕ) → version_for part (Some new) ≡ cond (is_touched part sets) (version_for part (Some old) + 1) (version_for part (Some old))
  pub grid : (t : Table) (index : ℕ) → HasIndex t old index → HasIndex t new index

-- The tablets of a table get the rows of a load.
pub record Stores (table : ℕ) (sets : List PlacedRows) (old new : List TableTablets) : Type 0 where
  pub before : TableTablets
  pub after : TableTablets
  pub had : stored_for table old ≡ Some before
  pub has : (t : ℕ) → stored_for t new ≡ cond (nat_eq table t) (Some after) (stored_for t old)
  pub change : HasSets sets before after

-- the lists of all tablets of the base, by partition and bucket
abbrev pub base_lists : LayoutView → Option TableTablets → List (List (List Cell))
base_lists l o = flat_map (λ (w : Place). rows_in (lists_for 0 w o)) (tablets_of l)
