-- When the tablets of a base can take the lists of a load, and what is stored there after it.
use Rattle.std.specs.Prelude.{◌≡◌, ℕ, zero, suc, ◌+◌, ◌<◌, Bool, true, ◌&&◌, ◌||◌, cond, List, [], ◌∷◌, ◌++◌, Option, Some, None, MatchOption, map, find, get_or, length, nat_eq, nat_lt}
use Rattle.partitions.specs.Places.{Place}
use Rattle.rowsets.specs.RowsetView.{IsMadeFor, rowset_rows}
use Rattle.shadow_writes.specs.declared.built.TabletRows.{TabletRows}
use Rattle.tablets.specs.SetView.{OnTablet, SetView}
use Rattle.tablets.specs.TabletView.{IsPast, TabletView, spare}
use Rattle.front_defs.specs.May.{seen_set}
use Rattle.front_defs.specs.declared.catalogue.Table.{Table}
use Rattle.front_defs.specs.Stands.{HasTablets, TableTablets, index_for, lists_by}
use Rattle.front_defs.specs.Stored.{PlacedRows, StoredList, same_place}
use Rattle.front_laws.specs.Tidy.{Each, Pairs}
use Rattle.front_state.specs.Tablets.{indexes_seen, is_touched, list_of}
use Rattle.front_state.specs.declared.ready.ReadyList.{ReadyList}

-- an earlier partition, or an earlier bucket of the same one
abbrev pub is_before : Place → Place → Bool
is_before v w = nat_lt v.part w.part || nat_eq v.part w.part && nat_lt v.bucket w.bucket

abbrev pub StandsBefore : PlacedRows → PlacedRows → Type 0
StandsBefore x y = is_before x.place y.place ≡ true

-- by ascending partitions and buckets, so that no tablet gets two lists
abbrev pub AscendByPlace : List PlacedRows → Type 0
AscendByPlace xs = Pairs StandsBefore xs

-- the rows of a list, with the place of its tablet
abbrev pub seen_list : ReadyList → PlacedRows
seen_list l = record { place = record { part = l.part; bucket = l.bucket }; rows = rowset_rows l.rows.value }

-- a tablet has room for the list, which is of its shape and has a version above all
pub record Takes (l : ReadyList) (t : TabletView) : Type 0 where
  pub room : 0 < spare t
  pub above : IsPast l.version t.lists
  pub made : IsMadeFor t.shape l.rows.value

-- its tablet of the base is there, and can take it
abbrev pub CanTake : SetView → ReadyList → Type 0
CanTake s l = OnTablet s 0 l.part l.bucket (Takes l)

-- it has the version behind the visible one of its partition, which is there
pub record IsNext (versions : List ℕ) (l : ReadyList) : Type 0 where
  pub there : l.part < length versions
  pub version : l.version ≡ get_or versions l.part 1 + 1

-- Room was made, which is not seen: what a tablet could take it still can.
pub record HasRoom (old new : SetView) : Type 0 where
  pub unseen : indexes_seen new ≡ indexes_seen old
  pub kept : (l : ReadyList) → CanTake old l → CanTake new l

-- The list of a load for one tablet can be put there.
pub record IsReady (versions : List ℕ) (s : SetView) (set : TabletRows) (l : ReadyList) : Type 0 where
  pub takes : CanTake s l
  pub next : IsNext versions l
  pub is : seen_list l ≡ seen_set set

-- So can all lists of a load.
pub record AreReady (versions : List ℕ) (s : SetView) (sets : List TabletRows) (ls : List ReadyList) : Type 0 where
  pub takes : Each (CanTake s) ls
  pub next : Each (IsNext versions) ls
  pub are : map seen_list ls ≡ map seen_set sets

-- what a tablet of the base gets of lists: the one for its place
abbrev pub is_for : Place → ReadyList → Bool
is_for w l = same_place w (record { part = l.part; bucket = l.bucket })

abbrev pub with_found : Option ReadyList → List StoredList → List StoredList
with_found None lists = lists
with_found (Some l) lists = lists ++ list_of l.version l.rows.value ∷ []

abbrev pub with_ready : List ReadyList → ℕ → Place → List StoredList → List StoredList
with_ready ls zero w lists = with_found (find (is_for w) ls) lists
with_ready ls (suc n) w lists = lists

-- Each of the lists is put behind those of its tablet, and nothing else changes.
pub record HasLists (ls : List ReadyList) (old new : SetView) : Type 0 where
  pub lists : (index : ℕ) (w : Place) → lists_by w (index_for index (indexes_seen new)) ≡ with_ready ls index w (lists_by w (index_for index (indexes_seen old)))
  pub grid : (t : Table) (k : TableTablets) (index : ℕ) → MatchOption (index_for index (indexes_seen old)) ⊥ (HasTablets t k) → MatchOption (index_for index (indexes_seen new)) ⊥ (HasTablets t k)

-- The version of each partition that has a list is one more.
pub record AreRaised (ls : List ReadyList) (old new : List ℕ) : Type 0 where
  pub many : length new ≡ length old
  pub each : (part : ℕ) → get_or new part 1 ≡ cond (is_touched part (map seen_list ls)) (get_or old part 1 + 1) (get_or old part 1)
