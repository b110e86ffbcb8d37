-- What contracts see of the tablets of one table, by index, partition and bucket (Apache Doris documentation, "Partitioning and
-- Bucketing", "Schema Change", "Rollup").
use Rattle.std.specs.Prelude.{◌≡◌, ◌+◌, ◌≤◌, ℕ, zero, suc, Bool, cond, List, [], ◌∷◌, ◌++◌, map, replicate, slice_get, Option, IsSome, MatchOption, option_and_then, nat_eq, find}
use Rattle.schema_models.specs.ShapeView.{ShapeView}
use Rattle.tablets.specs.TabletView.{TabletView}
use Rattle.tablets.specs.declared.shadow.Shadow.{Shadow}

-- an index: its number, whose shadow it is, its shape, and its tablets by partition and bucket
pub record IndexView : Type 0 where
  pub number : ℕ
  pub shadow : Option Shadow
  pub shape : ShapeView
  pub parts : List (List TabletView)

-- the indexes of one table, and how many partitions and buckets each has
pub record SetView : Type 0 where
  pub indexes : List IndexView
  pub parts : ℕ
  pub buckets : ℕ

abbrev pub is_numbered : ℕ → IndexView → Bool
is_numbered n i = nat_eq i.number n

abbrev pub index_at : ℕ → List IndexView → Option IndexView
index_at n is = find (is_numbered n) is

abbrev pub tablet_in : ℕ → ℕ → List (List TabletView) → Option TabletView
tablet_in part bucket parts = option_and_then (λ ts. slice_get ts bucket) (slice_get parts part)

abbrev pub tablet_of : ℕ → ℕ → ℕ → List IndexView → Option TabletView
tablet_of index part bucket is = option_and_then (λ i. tablet_in part bucket i.parts) (index_at index is)

-- the tablet of an index, a partition and a bucket
abbrev pub tablet_at : SetView → ℕ → ℕ → ℕ → Option TabletView
tablet_at s index part bucket = tablet_of index part bucket s.indexes

abbrev pub HasTablet : SetView → ℕ → ℕ → ℕ → Type 0
HasTablet s index part bucket = IsSome (tablet_at s index part bucket)

-- the set has that tablet, and this holds of it
abbrev pub OnTablet : SetView → ℕ → ℕ → ℕ → (TabletView → Type 0) → Type 0
OnTablet s index part bucket P = MatchOption (tablet_at s index part bucket) ⊥ P

-- a list with what f makes of the one at a place
abbrev pub changed_at : {X : Type 0} → ℕ → (X → X) → List X → List X
changed_at n f [] = []
changed_at zero f (x ∷ xs) = f x ∷ xs
changed_at (suc n) f (x ∷ xs) = x ∷ changed_at n f xs

abbrev pub changed_in : ℕ → ℕ → ℕ → (TabletView → TabletView) → IndexView → IndexView
changed_in index part bucket f i = cond (is_numbered index i) (record i { parts = changed_at part (changed_at bucket f) i.parts }) i

-- the set with what f makes of one tablet, in its place
abbrev pub changed : ℕ → ℕ → ℕ → (TabletView → TabletView) → SetView → SetView
changed index part bucket f s = record s { indexes = map (changed_in index part bucket f) s.indexes }

-- tablets without a rowset
abbrev pub empty_tablet : ShapeView → TabletView
empty_tablet shape = record { shape = shape; lists = []; room = 0 }

abbrev pub empty_part : ShapeView → ℕ → List TabletView
empty_part shape buckets = replicate buckets (empty_tablet shape)

abbrev pub empty_index : ℕ → Option Shadow → ShapeView → ℕ → ℕ → IndexView
empty_index number shadow shape parts buckets = record { number = number; shadow = shadow; shape = shape; parts = replicate parts (empty_part shape buckets) }

-- one partition more at the end, its tablets empty
abbrev pub with_part : ℕ → IndexView → IndexView
with_part buckets i = record i { parts = i.parts ++ empty_part i.shape buckets ∷ [] }

-- one partition more in each index
abbrev pub with_parts : SetView → SetView
with_parts s = record s { indexes = map (with_part s.buckets) s.indexes; parts = s.parts + 1 }

-- one tablet has more room, or as much
pub record IsRoomier (index part bucket : ℕ) (old new : SetView) : Type 0 where
  pub room : ℕ
  pub more : OnTablet old index part bucket (λ t. t.room ≤ room)
  pub rest : new ≡ changed index part bucket (λ t. record t { room = room }) old
