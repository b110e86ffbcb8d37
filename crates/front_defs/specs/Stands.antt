-- What a front has in its parts that stands for a history.
use Rattle.std.specs.Prelude.{◌≡◌, ℕ, ◌≤◌, Bool, true, false, List, [], ◌++◌, Option, Some, None, IfSome, MatchOption, map, reverse, find, get_or, length, nat_eq, nat_lt}
use Rattle.std.specs.List.{AllByRecursion}
use Rattle.std.specs.Option.{option_map}
use Rattle.front_defs.specs.declared.event.Event.{Event}
use Rattle.front_defs.specs.declared.catalogue.Table.{Table}
use Rattle.front_defs.specs.declared.txn.Txn.{Txn}
use Rattle.partitions.specs.Places.{Place}
use Rattle.front_defs.specs.declared.history.Entry.{Entry}
use Rattle.front_defs.specs.Ids.{range_of, next_of, live_of}
use Rattle.front_defs.specs.Catalogue.{databases_of, last_table_of, table_at, tables_of}
use Rattle.alter_core.specs.declared.job.JobInfo.{JobInfo}
use Rattle.front_defs.specs.Jobs.{TaskMark, is_done_task, jobs_of, last_job_of, running_job, taken_of, tasks_of}
use Rattle.front_defs.specs.Reports.{JobName, job_name_of}
use Rattle.front_defs.specs.Journal.{journal_of}
use Rattle.front_defs.specs.Indexes.{first_new, new_index, new_number}
use Rattle.front_defs.specs.Transactions.{txns_of, places_of}
use Rattle.front_defs.specs.Stored.{PlacedRows, StoredList, fixed_of, is_tablet_of, lists_of, since_of, source_of, version_of, waiting_of, whole_list}
use Rattle.front_defs.specs.History.{happened, broken_of, last_faults}

-- the folded rows of a load that waits to become visible, by its number: what each index of its table gets
pub record WaitingRows : Type 0 where
  pub txn : ℕ
  pub sets : List (List PlacedRows)

-- the tablets of one index, by partition and bucket
pub record IndexTablets : Type 0 where
  pub number : ℕ
  pub parts : List (List (List StoredList))

-- the tablets of one table, by index, and the visible version of each of its partitions
pub record TableTablets : Type 0 where
  pub table : ℕ
  pub versions : List ℕ
  pub indexes : List IndexTablets

-- the names of a kept job, which may outlive its table
pub record NamedJob : Type 0 where
  pub job : ℕ
  pub name : JobName

-- what contracts see of a front; its keeper tells its records, the oldest first, or does not tell them
pub record View : Type 0 where
  pub databases : List (List ℕ)
  pub tables : List Table
  pub last_table : ℕ
  pub txns : List Txn
  pub range : ℕ
  pub next : ℕ
  pub places : ℕ
  pub tablets : List TableTablets
  pub waiting : List WaitingRows
  pub jobs : List JobInfo
  pub last_job : ℕ
  pub job_names : List NamedJob
  pub taken : ℕ
  pub tasks : List TaskMark
  pub shadows : List TableTablets
  pub live : ℕ
  pub broken : Bool
  pub records : Option (List (List ℕ))
  pub faults : ℕ

-- what is stored of a table
abbrev pub stored_for : ℕ → List TableTablets → Option TableTablets
stored_for table tablets = find (λ k. nat_eq k.table table) tablets

abbrev pub index_for : ℕ → List IndexTablets → Option IndexTablets
index_for index all = find (λ x. nat_eq x.number index) all

-- the lists of a tablet; of one that is not there, none
abbrev pub lists_by : Place → Option IndexTablets → List StoredList
lists_by w None = []
lists_by w (Some x) = get_or (get_or x.parts w.part []) w.bucket []

abbrev pub lists_for : ℕ → Place → Option TableTablets → List StoredList
lists_for index w None = []
lists_for index w (Some k) = lists_by w (index_for index k.indexes)

-- the version of a partition; of one that is not there, 1
abbrev pub version_for : ℕ → Option TableTablets → ℕ
version_for part None = 1
version_for part (Some k) = get_or k.versions part 1

-- a live table has the tablets of its indexes, for each of its partitions and buckets
abbrev pub HasBuckets : ℕ → List (List StoredList) → Type 0
HasBuckets buckets part = length part ≡ buckets

pub record HasTablets (t : Table) (k : TableTablets) (x : IndexTablets) : Type 0 where
  pub parts : length x.parts ≡ length t.layout.parts
  pub buckets : AllByRecursion (HasBuckets t.layout.buckets) x.parts
  pub versions : length k.versions ≡ length t.layout.parts

abbrev pub HasIndex : Table → TableTablets → ℕ → Type 0
HasIndex t k index = MatchOption (index_for index k.indexes) ⊥ (HasTablets t k)

abbrev pub HasGrid : List TableTablets → Table → Type 0
HasGrid tablets t = MatchOption (stored_for t.number tablets) ⊥ (λ k. (index : ℕ) → nat_lt index (first_new t) ≡ true → HasIndex t k index)

-- what waits of a load for an index
abbrev pub waiting_found : ℕ → Option WaitingRows → List PlacedRows
waiting_found index None = []
waiting_found index (Some w) = get_or w.sets index []

abbrev pub waiting_for : ℕ → ℕ → List WaitingRows → List PlacedRows
waiting_for txn index waiting = waiting_found index (find (λ w. nat_eq w.txn txn) waiting)

-- the catalogue
pub record StandsCat (v : View) (Es : List Event) : Type 0 where
  pub databases : v.databases ≡ databases_of Es
  pub tables : v.tables ≡ tables_of Es
  pub last_table : v.last_table ≡ last_table_of Es

-- the transactions, and the numbers and places that come next
pub record StandsTxns (v : View) (Es : List Event) : Type 0 where
  pub txns : v.txns ≡ txns_of Es
  pub range : v.range ≡ range_of Es
  pub next : v.next ≡ next_of Es
  pub places : v.places ≡ places_of Es

-- the tablets that there are, their stored lists, one by one, the versions, and the folded rows of the loads that wait
pub record StandsTablets (v : View) (Es : List Event) : Type 0 where
  pub grid : AllByRecursion (HasGrid v.tablets) (tables_of Es)
  pub lists : (table index : ℕ) (w : Place) → lists_for index w (stored_for table v.tablets) ≡ lists_of Es table index w
  pub versions : (table part : ℕ) → version_for part (stored_for table v.tablets) ≡ version_of Es table part
  pub waiting : (txn index : ℕ) → waiting_for txn index v.waiting ≡ waiting_of Es txn index

-- The shadows of a job. While it runs, the lists of a shadow's tablet are some that hold no version above the fixed one, or the work of the task alone where it was given, and then those of the loads since.
abbrev pub AreEarly : Bool → List StoredList → ℕ → List StoredList → Type 0
AreEarly true work fixed early = early ≡ work
AreEarly false work fixed early = AllByRecursion (λ (l : StoredList). l.last ≤ fixed) early

pub record IsShadow (done : Bool) (work : List StoredList) (fixed : ℕ) (since lists : List StoredList) : Type 0 where
  pub early : List StoredList
  pub splits : lists ≡ early ++ since
  pub are : AreEarly done work fixed early

abbrev pub ShadowStands : List Event → List TableTablets → JobInfo → ℕ → Place → Table → Type 0
ShadowStands Es shadows j index w t =
    IfSome (new_index j.change t index) (λ x. is_tablet_of t w ≡ true → IsShadow (is_done_task (tasks_of Es) (record { job = j.job; index = new_number j.change t index; place = w })) (whole_list t x w (fixed_of Es t.number w.part) (source_of Es t.number)) (fixed_of Es t.number w.part) (since_of Es t.number index w) (lists_for index w (stored_for t.number shadows)))

pub record StandsShadows (v : View) (Es : List Event) : Type 0 where
  pub shadows : (table index : ℕ) (w : Place) → IfSome (running_job table (jobs_of Es)) (λ (j : JobInfo). IfSome (table_at table (tables_of Es)) (ShadowStands Es v.shadows j index w))

-- the names of a job
abbrev pub named_in : ℕ → List NamedJob → Option JobName
named_in job names = option_map (λ (n : NamedJob). n.name) (find (λ (n : NamedJob). nat_eq n.job job) names)

-- the jobs, their names and their tasks
pub record StandsAlters (v : View) (Es : List Event) : Type 0 where
  pub jobs : v.jobs ≡ jobs_of Es
  pub names : AllByRecursion (λ (j : JobInfo). named_in j.job v.job_names ≡ job_name_of Es j.job) (jobs_of Es)
  pub last_job : v.last_job ≡ last_job_of Es
  pub tasks : v.tasks ≡ tasks_of Es

-- how often the service was opened again, how many tasks were taken, and whether it has to be opened
pub record StandsJobs (v : View) (H : List Entry) : Type 0 where
  pub live : v.live ≡ live_of (happened H)
  pub taken : v.taken ≡ taken_of (happened H)
  pub broken : v.broken ≡ broken_of H

-- The keeper tells its records, and they are the journal as a format spells it, the oldest first. Over a keeper that tells nothing a front stands for no history.
abbrev pub StandsKeeper : (Event → List ℕ) → View → List Entry → Type 0
StandsKeeper spelling v H = v.records ≡ Some (map spelling (reverse (journal_of H)))

-- the count of faults, where there was a call
abbrev pub StandsCount : View → List Entry → Type 0
StandsCount v H = IfSome (last_faults H) (λ n. v.faults ≡ n)

-- the parts that an opening makes anew
pub record StandsOpen (v : View) (Es : List Event) : Type 0 where
  pub cat : StandsCat v Es
  pub txns : StandsTxns v Es
  pub tablets : StandsTablets v Es
  pub alters : StandsAlters v Es
  pub shadows : StandsShadows v Es

-- After a fault of the keeper these parts are as they may be, since the next step opens before it acts. A front has no keeper yet, so that nothing is asked of its records.
pub record Stands (v : View) (H : List Entry) : Type 0 where
  pub jobs : StandsJobs v H
  pub count : StandsCount v H
  pub open_parts : broken_of H ≡ false → StandsOpen v (happened H)
