-- The rows of a table: its base, the lists that are stored of it by tablet, and its versions (Apache Doris documentation, "Data Models", "Rowset").
use Rattle.std.specs.Prelude.{ℕ, ◌+◌, Bool, false, cond, ◌&&◌, List, [], ◌∷◌, ◌++◌, Option, Some, None, map, filter, find, nat_eq, nat_lt, nat_le, length, count_by, take, drop}
use Rattle.std.specs.List.{AllByRecursion, flat_map, list_any}
use Rattle.dl_values.specs.declared.cell.Cell.{Cell}
use Rattle.schema_models.specs.RowRules.{IsOfShape}
use Rattle.schema_models.specs.ShapeView.{ShapeView}
use Rattle.partitions.specs.LayoutView.{LayoutView}
use Rattle.partitions.specs.Places.{Place, AreInside, lies_in, rows_at, tablets_of}
use Rattle.front_defs.specs.declared.event.Event.{Event}
use Rattle.front_defs.specs.declared.event.Event.TheVariants as event
use Rattle.front_defs.specs.declared.event.Compacted.{Compacted}
use Rattle.front_defs.specs.declared.catalogue.Table.{Table}
use Rattle.front_defs.specs.declared.txn.Txn.{Txn}
use Rattle.schema_models.specs.Folds.{fold_of}
use Rattle.front_defs.specs.Catalogue.{table_at, tables_of}
use Rattle.front_defs.specs.Transactions.{is_committed, txn_at, txns_of}
use Rattle.row_map.specs.declared.map.RowMap.{RowMap}
use Rattle.row_map.specs.Maps.{is_bad}
use Rattle.alter_core.specs.declared.job.JobInfo.{JobInfo}
use Rattle.front_defs.specs.Jobs.{is_running, job_at, jobs_of, planned_job, running_job}
use Rattle.front_defs.specs.Indexes.{Index, conv_by, index_at, new_index}

-- rows of a load: each is of the shape, and inside the layout
pub record AreRowsOf (s : ShapeView) (l : LayoutView) (rows : List (List Cell)) : Type 0 where
  pub shaped : AllByRecursion (IsOfShape s) rows
  pub inside : AreInside l rows

-- the rows that a load brings to a table: none where it is of another table
abbrev pub brought : ℕ → Option Txn → List (List Cell)
brought table None = []
brought table (Some t) = cond (nat_eq t.table table) t.rows []

-- folded by the shape of the table
abbrev pub folded : Option Table → List (List Cell) → List (List Cell)
folded None rows = rows
folded (Some t) rows = fold_of t.shape rows

-- The base: a load of the table that becomes visible is folded onto the rows before it.
abbrev pub base_with : ℕ → Option Table → List (List Cell) → Option Txn → List (List Cell)
base_with table t rows None = rows
base_with table t rows (Some u) = cond (nat_eq u.table table) (folded t (rows ++ u.rows)) rows

abbrev pub base_after : Event → ℕ → List Table → List Txn → List (List Cell) → List (List Cell)
base_after (event.LoadPublished p) table tables txns rows = base_with table (table_at table tables) rows (txn_at p.txn txns)
base_after (event.TableDropped d) table tables txns rows = cond (nat_eq d.table table) [] rows
base_after _ table tables txns rows = rows

abbrev pub base_of : List Event → ℕ → List (List Cell)
base_of [] table = []
base_of (e ∷ Es) table = base_after e table (tables_of Es) (txns_of Es) (base_of Es table)

-- whether a load of these rows has one in the partition of that number
abbrev pub touches : Table → ℕ → List (List Cell) → Bool
touches t part rows = list_any (lies_in t.layout part) rows

abbrev pub touches_in : Option Table → ℕ → List (List Cell) → Bool
touches_in None part rows = false
touches_in (Some t) part rows = touches t part rows

-- The visible version of each partition, by its number: 1, and one more with each load that has a row there.
abbrev pub version_after : Event → ℕ → ℕ → List Table → List Txn → ℕ → ℕ
version_after (event.LoadPublished p) table part tables txns v = cond (touches_in (table_at table tables) part (brought table (txn_at p.txn txns))) (v + 1) v
version_after (event.TableDropped d) table part tables txns v = cond (nat_eq d.table table) 1 v
version_after _ table part tables txns v = v

abbrev pub version_of : List Event → ℕ → ℕ → ℕ
version_of [] table part = 1
version_of (e ∷ Es) table part = version_after e table part (tables_of Es) (txns_of Es) (version_of Es table part)

-- whether a load waits to become visible and has a row in the partition
abbrev pub adds_to : Table → ℕ → Txn → Bool
adds_to t part u = is_committed u.state && nat_eq u.table t.number && touches t part u.rows

-- the committed version: one more with each of these
abbrev pub committed_of : List Event → Table → ℕ → ℕ
committed_of Es t part = version_of Es t.number part + count_by (adds_to t part) (txns_of Es)

-- a list of rows that is stored in a tablet, with the first and the last version that it holds
pub record StoredList : Type 0 where
  pub first : ℕ
  pub last : ℕ
  pub rows : List (List Cell)

-- whether a load of these rows adds a list in a tablet: one of the buckets of a partition that got one of them
abbrev pub writes : Table → Place → List (List Cell) → Bool
writes t w rows = touches t w.part rows && nat_lt w.bucket t.layout.buckets

-- what an index makes of rows of the base
abbrev pub indexed : Index → List (List Cell) → List (List Cell)
indexed x rows = fold_of x.shape (conv_by x.map rows)

-- the list that rows of the base give in a tablet of an index
abbrev pub list_at : Table → Index → Place → ℕ → List (List Cell) → StoredList
list_at t x w version rows = record { first = version; last = version; rows = indexed x (rows_at t.layout w rows) }

abbrev pub lists_in : Option Index → Table → Place → ℕ → List (List Cell) → List StoredList → List StoredList
lists_in None t w version rows lists = lists
lists_in (Some x) t w version rows lists = lists ++ list_at t x w version rows ∷ []

abbrev pub lists_to : Table → Option Index → Place → ℕ → List StoredList → List (List Cell) → List StoredList
lists_to t o w version lists rows = cond (writes t w rows) (lists_in o t w version rows lists) lists

-- A load adds a list, which may be empty, in each tablet of a partition that got one of its rows.
abbrev pub lists_with : Option Table → ℕ → Place → ℕ → List StoredList → List (List Cell) → List StoredList
lists_with None index w version lists rows = lists
lists_with (Some t) index w version lists rows = lists_to t (index_at index t) w version lists rows

-- The rows and the versions of a table as its job last went to run: of other tables they stay as they were.
abbrev pub started : {X : Type 0} → Option JobInfo → ℕ → X → X → X
started None table now before = before
started (Some j) table now before = cond (nat_eq j.table table) now before

abbrev pub source_after : Event → ℕ → List JobInfo → List (List Cell) → List (List Cell) → List (List Cell)
source_after (event.JobRan r) table jobs base source = started (job_at r.job jobs) table base source
source_after _ table jobs base source = source

abbrev pub source_of : List Event → ℕ → List (List Cell)
source_of [] table = []
source_of (e ∷ Es) table = source_after e table (jobs_of Es) (base_of Es table) (source_of Es table)

abbrev pub fixed_after : Event → ℕ → List JobInfo → ℕ → ℕ → ℕ
fixed_after (event.JobRan r) table jobs version fixed = started (job_at r.job jobs) table version fixed
fixed_after _ table jobs version fixed = fixed

abbrev pub fixed_of : List Event → ℕ → ℕ → ℕ
fixed_of [] table part = 1
fixed_of (e ∷ Es) table part = fixed_after e table (jobs_of Es) (version_of Es table part) (fixed_of Es table part)

-- The lists of the loads of a table that became visible since its job went to run, in a tablet of a new index of the job, by the number that it will have.
abbrev pub since_in : Option JobInfo → Table → ℕ → Place → ℕ → List StoredList → List (List Cell) → List StoredList
since_in None t index w version lists rows = lists
since_in (Some j) t index w version lists rows = lists_to t (new_index j.change t index) w version lists rows

abbrev pub since_with : Option Table → Option JobInfo → ℕ → Place → ℕ → List StoredList → List (List Cell) → List StoredList
since_with None o index w version lists rows = lists
since_with (Some t) o index w version lists rows = since_in o t index w version lists rows

abbrev pub since_after : Event → ℕ → ℕ → Place → ℕ → List Table → List Txn → List JobInfo → List StoredList → List StoredList
since_after (event.LoadPublished p) table index w version tables txns jobs lists = since_with (table_at table tables) (running_job table jobs) index w (version + 1) lists (brought table (txn_at p.txn txns))
since_after (event.JobRan r) table index w version tables txns jobs lists = started (job_at r.job jobs) table [] lists
since_after _ table index w version tables txns jobs lists = lists

abbrev pub since_of : List Event → ℕ → ℕ → Place → List StoredList
since_of [] table index w = []
since_of (e ∷ Es) table index w = since_after e table index w (version_of Es table w.part) (tables_of Es) (txns_of Es) (jobs_of Es) (since_of Es table index w)

-- one list of all rows of a tablet, where there is that tablet
abbrev pub is_tablet_of : Table → Place → Bool
is_tablet_of t w = nat_lt w.part (length t.layout.parts) && nat_lt w.bucket t.layout.buckets

abbrev pub whole_list : Table → Index → Place → ℕ → List (List Cell) → List StoredList
whole_list t x w version rows = cond (is_tablet_of t w) (record { first = 1; last = version; rows = indexed x (rows_at t.layout w rows) } ∷ []) []

-- What a job that ends well leaves in a tablet of one of its new indexes; the other indexes stay as they are.
abbrev pub switched_to : Option Index → (Index → List StoredList) → List StoredList → List StoredList
switched_to None new lists = lists
switched_to (Some x) new lists = new x

abbrev pub switched_in : Option Table → JobInfo → ℕ → (Table → Index → List StoredList) → List StoredList → List StoredList
switched_in None j index new lists = lists
switched_in (Some t) j index new lists = switched_to (new_index j.change t index) (new t) lists

abbrev pub switched : Option JobInfo → Option Table → ℕ → ℕ → (JobInfo → Table → Index → List StoredList) → List StoredList → List StoredList
switched None o table index new lists = lists
switched (Some j) o table index new lists = cond (nat_eq j.table table) (switched_in o j index (new j) lists) lists

-- What a record does to the lists of a tablet. A job that ended well leaves one list.
abbrev pub fresh_after : Event → ℕ → ℕ → Place → ℕ → List Table → List Txn → List JobInfo → List (List Cell) → List StoredList → List StoredList
fresh_after (event.LoadPublished p) table index w version tables txns jobs base lists = lists_with (table_at table tables) index w (version + 1) lists (brought table (txn_at p.txn txns))
fresh_after (event.TableDropped d) table index w version tables txns jobs base lists = cond (nat_eq d.table table) [] lists
fresh_after (event.JobFinished f) table index w version tables txns jobs base lists = switched (job_at f.job jobs) (table_at table tables) table index (λ j t x. whole_list t x w version base) lists
fresh_after _ table index w version tables txns jobs base lists = lists

-- The lists that records alone leave in a tablet, as an opening makes them.
abbrev pub fresh_of : List Event → ℕ → ℕ → Place → List StoredList
fresh_of [] table index w = []
fresh_of (e ∷ Es) table index w = fresh_after e table index w (version_of Es table w.part) (tables_of Es) (txns_of Es) (jobs_of Es) (base_of Es table) (fresh_of Es table index w)

-- the last version of lists behind one that ends with this version
abbrev pub last_of : ℕ → List StoredList → ℕ
last_of last [] = last
last_of last (l ∷ ls) = last_of l.last ls

-- lists made one: their fold, from the first version of the first to the last version of the last
abbrev pub one_of : ShapeView → List StoredList → List StoredList
one_of s [] = []
one_of s (l ∷ ls) = record { first = l.first; last = last_of l.last ls; rows = fold_of s (flat_map (λ x. x) (map (λ x. x.rows) (l ∷ ls))) } ∷ []

abbrev pub compacted_in : Option Index → ℕ → List StoredList → List StoredList
compacted_in None n lists = lists
compacted_in (Some x) n lists = one_of x.shape (take n lists) ++ drop n lists

abbrev pub compacted : Option Table → ℕ → ℕ → List StoredList → List StoredList
compacted None index n lists = lists
compacted (Some t) index n lists = compacted_in (index_at index t) n lists

abbrev pub is_tablet : Compacted → ℕ → ℕ → Place → Bool
is_tablet c table index w = nat_eq c.table table && nat_eq c.index index && nat_eq c.part w.part && nat_eq c.bucket w.bucket

-- What a job leaves in a tablet: the work of its task and the lists since, where it runs; else one list.
abbrev pub ended_lists : JobInfo → Table → Index → Place → ℕ → List (List Cell) → ℕ → List (List Cell) → List StoredList → List StoredList
ended_lists j t x w version base fixed source since = cond (is_running j.state) (whole_list t x w fixed source ++ since) (whole_list t x w version base)

-- What an event does to them: beside what records do, a compaction makes the first ones one, a job that runs leaves the work of its tasks and the lists since, and an opening makes them what records leave.
abbrev pub lists_after : Event → ℕ → ℕ → Place → ℕ → List Table → List Txn → List JobInfo → List (List Cell) → ℕ → List (List Cell) → List StoredList → List StoredList → List StoredList → List StoredList
lists_after (event.LoadPublished p) table index w version tables txns jobs base fixed source since fresh lists = fresh_after (event.LoadPublished p) table index w version tables txns jobs base lists
lists_after (event.TableDropped d) table index w version tables txns jobs base fixed source since fresh lists = fresh_after (event.TableDropped d) table index w version tables txns jobs base lists
lists_after (event.JobFinished f) table index w version tables txns jobs base fixed source since fresh lists = switched (job_at f.job jobs) (table_at table tables) table index (λ j t x. ended_lists j t x w version base fixed source since) lists
lists_after (event.Compacted c) table index w version tables txns jobs base fixed source since fresh lists = cond (is_tablet c table index w) (compacted (table_at table tables) index c.lists lists) lists
lists_after event.Opened table index w version tables txns jobs base fixed source since fresh lists = fresh
lists_after _ table index w version tables txns jobs base fixed source since fresh lists = lists

-- The stored lists of one tablet, the oldest first: of a table, an index, and a partition and bucket, by their numbers.
abbrev pub lists_of : List Event → ℕ → ℕ → Place → List StoredList
lists_of [] table index w = []
lists_of (e ∷ Es) table index w = lists_after e table index w (version_of Es table w.part) (tables_of Es) (txns_of Es) (jobs_of Es) (base_of Es table) (fixed_of Es table w.part) (source_of Es table) (since_of Es table index w) (fresh_of Es table index w) (lists_of Es table index w)

-- the lists of all tablets of an index, by partition and bucket
abbrev pub rows_in : List StoredList → List (List (List Cell))
rows_in lists = map (λ l. l.rows) lists

abbrev pub index_lists : Option Table → (Place → List StoredList) → List (List (List Cell))
index_lists None lists = []
index_lists (Some t) lists = flat_map (λ w. rows_in (lists w)) (tablets_of t.layout)

abbrev pub stored_of : List Event → ℕ → ℕ → List (List (List Cell))
stored_of Es table index = index_lists (table_at table (tables_of Es)) (lists_of Es table index)

-- the folded rows that one tablet gets of a load
pub record PlacedRows : Type 0 where
  pub place : Place
  pub rows : List (List Cell)

abbrev pub set_at : LayoutView → Index → List (List Cell) → Place → PlacedRows
set_at l x rows w = record { place = w; rows = indexed x (rows_at l w rows) }

-- what an index gets of rows of the base, which are placed as they are: in each tablet of a partition that got one of them, the fold of the converted rows
abbrev pub sets_of : LayoutView → Index → List (List Cell) → List PlacedRows
sets_of l x rows = map (set_at l x rows) (filter (λ w. list_any (lies_in l w.part) rows) (tablets_of l))

-- A load gives to the indexes of its table and, where its number is not below the watershed, to the new ones of a job that waits or runs.
abbrev pub is_from : Option ℕ → ℕ → Bool
is_from None id = false
is_from (Some watershed) id = nat_le watershed id

abbrev pub new_for : Option JobInfo → Table → ℕ → ℕ → Option Index
new_for None t index id = None
new_for (Some j) t index id = cond (is_from j.watershed id) (new_index j.change t index) None

abbrev pub first_index : Option Index → Option Index → Option Index
first_index None o = o
first_index (Some x) o = Some x

abbrev pub target_at : Table → List JobInfo → ℕ → ℕ → Option Index
target_at t jobs index id = first_index (index_at index t) (new_for (planned_job t.number jobs) t index id)

-- nothing waits for an index that a row cannot be converted for
abbrev pub spoils_map : Option RowMap → List (List Cell) → Bool
spoils_map None rows = false
spoils_map (Some m) rows = is_bad m rows

abbrev pub sets_in : Option Index → Table → List (List Cell) → List PlacedRows
sets_in None t rows = []
sets_in (Some x) t rows = cond (spoils_map x.map rows) [] (sets_of t.layout x rows)

-- what a load will add to an index of its table, or to a new one
abbrev pub waiting_in : Option Table → List JobInfo → ℕ → ℕ → List (List Cell) → List PlacedRows
waiting_in None jobs index id rows = []
waiting_in (Some t) jobs index id rows = sets_in (target_at t jobs index id) t rows

abbrev pub waiting_by : Option Txn → ℕ → List Table → List JobInfo → List PlacedRows
waiting_by None index tables jobs = []
waiting_by (Some u) index tables jobs = waiting_in (table_at u.table tables) jobs index u.id u.rows

abbrev pub waiting_of : List Event → ℕ → ℕ → List PlacedRows
waiting_of Es txn index = waiting_by (txn_at txn (txns_of Es)) index (tables_of Es) (jobs_of Es)

-- how many rows are stored
abbrev pub cost_of : List (List (List Cell)) → ℕ
cost_of [] = 0
cost_of (l ∷ ls) = length l + cost_of ls

-- whether two places are one
abbrev pub same_place : Place → Place → Bool
same_place w v = nat_eq v.part w.part && nat_eq v.bucket w.bucket

-- what the tablet of a place gets
abbrev pub set_for : Place → List PlacedRows → Option PlacedRows
set_for w sets = find (λ (x : PlacedRows). same_place w x.place) sets
