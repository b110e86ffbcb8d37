-- Compactions: the rowsets of a tablet merged into one (Apache Doris documentation, "Compaction").
use Rattle.std.specs.Prelude.{◌≡◌, ℕ, Bool, true, false, ◌&&◌, List, [], ◌∷◌, map, nat_eq}
use Rattle.rowsets.specs.RowsetView.{RowsetView, rowset_rows}
use Rattle.merge_read.specs.Lists.{AreSortedLists}
use Rattle.tablets.specs.TabletView.{StoredList, TabletView, replaced}
use Rattle.tablets.specs.declared.compaction.Compaction.{Compaction}

-- the pairs of versions by which rowsets are named
abbrev pub pair_of : StoredList → ℕ × ℕ
pair_of l = (l.first, l.last)

abbrev pub versions_of : List StoredList → List (ℕ × ℕ)
versions_of ls = map (λ l. pair_of l) ls

-- rowsets with these pairs of versions stand first
abbrev pub stand_first : List (ℕ × ℕ) → List StoredList → Bool
stand_first [] ls = true
stand_first (v ∷ vs) [] = false
stand_first (v ∷ vs) (l ∷ ls) = nat_eq v.0 l.first && nat_eq v.1 l.last && stand_first vs ls

abbrev pub names_some : List (ℕ × ℕ) → Bool
names_some [] = false
names_some (v ∷ vs) = true

-- some rowsets are named, and they stand first
abbrev pub are_there : List (ℕ × ℕ) → List StoredList → Bool
are_there vs ls = names_some vs && stand_first vs ls

-- the first version of the first and the last version of the last
abbrev pub first_version : List (ℕ × ℕ) → ℕ
first_version [] = 0
first_version (v ∷ vs) = v.0

abbrev pub last_from : ℕ → List (ℕ × ℕ) → ℕ
last_from last [] = last
last_from last (v ∷ vs) = last_from v.1 vs

abbrev pub last_version : List (ℕ × ℕ) → ℕ
last_version vs = last_from 0 vs

-- a merged rowset in the place of those that are named
abbrev pub compacted : List (ℕ × ℕ) → RowsetView → TabletView → TabletView
compacted vs r t = replaced (record { first = first_version vs; last = last_version vs; rowset = r }) t

-- what a compaction has: all rowsets of a tablet, with their pairs of versions
pub record IsCompactionOf (t : TabletView) (c : Compaction) : Type 0 where
  pub shape : c.shape ≡ t.shape
  pub versions : c.versions ≡ versions_of t.lists
  pub lists : map (λ l. l.value) c.lists ≡ map (λ l. l.rowset) t.lists
  pub sorted : AreSortedLists t.shape (map (λ l. rowset_rows l.value) c.lists)
