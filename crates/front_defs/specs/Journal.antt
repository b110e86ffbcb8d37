-- The records that a history leaves, the history that records tell, and which record may follow which (this project's own).
use Rattle.std.specs.Prelude.{◌≡◌, ℕ, ◌+◌, ◌≤◌, Bool, true, false, not, ◌&&◌, ◌||◌, List, [], ◌∷◌, Option, None, MatchOption, IfSome, is_some, length, nat_eq, nat_lt, nat_le, ◌⊎◌}
use Rattle.std.specs.List.{list_any}
use Rattle.labels.specs.declared.txn_state.TxnState.TheVariants as state
use Rattle.schema_models.specs.ShapeRules.{IsShape}
use Rattle.partitions.specs.LayoutFaults.{with_part}
use Rattle.partitions.specs.LayoutRules.{IsLayout}
use Rattle.partitions.specs.Places.{Place}
use Rattle.front_defs.specs.declared.event.Event.{Event}
use Rattle.front_defs.specs.declared.event.Event.TheVariants as event
use Rattle.front_defs.specs.declared.event.DbMade.{DbMade}
use Rattle.front_defs.specs.declared.event.TableMade.{TableMade}
use Rattle.front_defs.specs.declared.event.LoadSubmitted.{LoadSubmitted}
use Rattle.front_defs.specs.declared.catalogue.Table.{Table}
use Rattle.front_defs.specs.declared.txn.Txn.{Txn}
use Rattle.front_defs.specs.declared.history.Entry.{Entry}
use Rattle.front_defs.specs.declared.history.Entry.TheVariants.{Told}
use Rattle.schema_models.specs.Names.{is_name}
use Rattle.front_defs.specs.Names.{same, is_label, auto_label}
use Rattle.front_defs.specs.Stored.{AreRowsOf}
use Rattle.front_defs.specs.Ids.{range_of, next_of, told_ids, range_size}
use Rattle.front_defs.specs.Catalogue.{has_db, table_named, table_at, databases_of, last_table_of, tables_of}
use Rattle.front_defs.specs.Transactions.{is_aborted, is_committed, sweeps_told, txn_at, holds, due, txns_of, places_of}
use Rattle.front_defs.specs.Stored.{base_of, fresh_of, lists_of, version_of}
use Rattle.front_defs.specs.Answer.{most}
use Rattle.dl_values.specs.declared.cell.Cell.{Cell}
use Rattle.row_map.specs.declared.map.RowMap.{RowMap}
use Rattle.row_map.specs.Maps.{is_bad}
use Rattle.alter_core.specs.declared.job.JobInfo.{JobInfo}
use Rattle.alter_core.specs.declared.job.JobState.TheVariants as job_state
use Rattle.front_defs.specs.declared.event.JobAdded.{JobAdded}
use Rattle.front_defs.specs.declared.event.JobWaiting.{JobWaiting}
use Rattle.front_defs.specs.Jobs.{has_live, is_job_over, is_live, is_live_of, job_at, jobs_of, last_job_of, tasks_of}
use Rattle.front_defs.specs.Indexes.{change_maps}
use Rattle.front_defs.specs.Reports.{job_name_of}
use Rattle.front_defs.specs.Moves.{has_open_below, watershed_of}
use Rattle.front_defs.specs.Alters.{change_refusal}
use Rattle.front_defs.specs.History.{happened, journal}

-- the records that a history leaves, the newest first
abbrev pub journal_of : List Entry → List Event
journal_of H = journal (happened H)

-- the history that records tell
abbrev pub story : List Event → List Entry
story [] = []
story (e ∷ Es) = Told e ∷ story Es

-- there is one, and it has this
abbrev pub There : {X : Type 0} → Option X → (X → Type 0) → Type 0
There o P = MatchOption o ⊥ P

-- a new database
pub record FollowsDb (Es : List Event) (d : DbMade) : Type 0 where
  pub named : is_name d.name ≡ true
  pub new : has_db d.name (databases_of Es) ≡ false
  pub room : nat_le most (length (databases_of Es)) ≡ false

-- a new table of a known database, with a valid shape and layout
pub record FollowsTable (Es : List Event) (m : TableMade) : Type 0 where
  pub known : has_db m.db (databases_of Es) ≡ true
  pub named : is_name m.name ≡ true
  pub new : is_some (table_named m.db m.name (tables_of Es)) ≡ false
  pub room : nat_le most (length (tables_of Es)) ≡ false
  pub shape : IsShape m.shape
  pub layout : IsLayout m.shape m.layout

-- the label of a load has the form of a label, or is the one that its number gives it
abbrev pub is_load_label : ℕ → List ℕ → Bool
is_load_label id label = is_label label || same label (auto_label id)

-- another transaction of the database that stands in the way of the label: a later one, or one that is not aborted
abbrev pub hinders : ℕ → List ℕ → List ℕ → Txn → Bool
hinders id db label u = holds db label u && (nat_lt id u.id || not (is_aborted u.state))

-- the job of that number lives, and is of that table
abbrev pub IsLiveJob : List JobInfo → ℕ → ℕ → Type 0
IsLiveJob jobs table number = There (job_at number jobs) (λ (j : JobInfo). is_live_of table j ≡ true)

-- a load that waits for its commit; what it cancels is the live job of its table
pub record FollowsCommit (Es : List Event) (cancelled : Option ℕ) (t : Txn) : Type 0 where
  pub waits : t.state ≡ state.Precommitted
  pub cancels : IfSome cancelled (IsLiveJob (jobs_of Es) t.table)

-- a new job of a live table without a live job, whose change is admitted
pub record FollowsJob (Es : List Event) (a : JobAdded) (t : Table) : Type 0 where
  pub number : a.job ≡ last_job_of Es + 1
  pub free : has_live a.table (jobs_of Es) ≡ false
  pub room : nat_le most (length (jobs_of Es)) ≡ false
  pub change : change_refusal a.change t ≡ None

-- the watershed is in a range, and above the numbers that were told
pub record FollowsWaiting (Es : List Event) (w : JobWaiting) (j : JobInfo) : Type 0 where
  pub pending : j.state ≡ job_state.Pending
  pub first : 1 ≤ w.watershed
  pub within : w.watershed ≤ w.upto
  pub above : list_any (nat_le w.watershed) (told_ids Es) ≡ false
  pub upto : (w.upto ≡ range_of Es) ⊎ (w.upto ≡ range_of Es + range_size)

-- No row of the base and of the loads that wait to become visible is bad for the job.
abbrev pub HasNoBad : JobInfo → List (List Cell) → List Txn → Table → Type 0
HasNoBad j base txns t = list_any (λ (m : RowMap). is_bad m base || list_any (λ u. is_committed u.state && nat_eq u.table t.number && is_bad m u.rows) txns) (change_maps j.change t) ≡ false

-- the job waits, what is below its watershed has ended, and every row of its table converts
pub record FollowsFinish (Es : List Event) (j : JobInfo) : Type 0 where
  pub waits : j.state ≡ job_state.WaitingTxn
  pub ended : has_open_below (watershed_of j) (txns_of Es) ≡ false
  pub converts : There (table_at j.table (tables_of Es)) (HasNoBad j (base_of Es j.table) (txns_of Es))

-- a load of a live table that was not told yet: its number lies in a range, and its rows are of the table's present schema
pub record FollowsLoad (Es : List Event) (s : LoadSubmitted) (t : Table) : Type 0 where
  pub from : 1 ≤ s.txn
  pub within : s.txn ≤ range_of Es
  pub new : list_any (nat_eq s.txn) (told_ids Es) ≡ false
  pub label : is_load_label s.txn s.label ≡ true
  pub free : list_any (hinders s.txn t.db s.label) (txns_of Es) ≡ false
  pub schema : s.schema ≡ t.schema
  pub rows : AreRowsOf t.shape t.layout s.rows
  pub cancels : IfSome s.cancelled (IsLiveJob (jobs_of Es) s.table)

-- A record follows the ones before it.
abbrev pub Follows : List Event → Event → Type 0
Follows Es (event.DbMade d) = FollowsDb Es d
Follows Es (event.TableMade m) = FollowsTable Es m
Follows Es (event.RangeDrawn r) = r.upto ≡ range_of Es + range_size
Follows Es (event.LoadSubmitted s) = There (table_at s.table (tables_of Es)) (FollowsLoad Es s)
Follows Es (event.TxnAborted a) = There (txn_at a.txn (txns_of Es)) (λ t. t.state ≡ state.Precommitted)
Follows Es (event.LoadPublished p) = There (due (txns_of Es)) (λ t. t.id ≡ p.txn)
Follows Es (event.PartAdded a) = (has_live a.table (jobs_of Es) ≡ false) × There (table_at a.table (tables_of Es)) (λ t. IsLayout t.shape (with_part a.part t.layout))
Follows Es (event.TableDropped d) = There (table_at d.table (tables_of Es)) (λ t. Unit {0})
Follows Es (event.LoadCommitted c) = There (txn_at c.txn (txns_of Es)) (FollowsCommit Es c.cancelled)
Follows Es (event.Swept s) = (list_any (sweeps_told s.at) (txns_of Es) || list_any (is_job_over s.at) (jobs_of Es)) ≡ true
Follows Es (event.JobAdded a) = There (table_at a.table (tables_of Es)) (FollowsJob Es a)
Follows Es (event.JobWaiting w) = There (job_at w.job (jobs_of Es)) (FollowsWaiting Es w)
Follows Es (event.JobFinished f) = There (job_at f.job (jobs_of Es)) (FollowsFinish Es)
Follows Es (event.JobCancelled c) = There (job_at c.job (jobs_of Es)) (λ (j : JobInfo). is_live j.state ≡ true)
Follows Es _ = ⊥

-- each record follows the ones before it
abbrev pub IsStory : List Event → Type 0
IsStory [] = Unit {0}
IsStory (e ∷ Es) = Follows Es e × IsStory Es

-- Two lists of events leave the service the same.
pub record Agrees (Es Gs : List Event) : Type 0 where
  pub databases : databases_of Es ≡ databases_of Gs
  pub last_table : last_table_of Es ≡ last_table_of Gs
  pub tables : tables_of Es ≡ tables_of Gs
  pub range : range_of Es ≡ range_of Gs
  pub next : next_of Es ≡ next_of Gs
  pub told : told_ids Es ≡ told_ids Gs
  pub places : places_of Es ≡ places_of Gs
  pub txns : txns_of Es ≡ txns_of Gs
  pub last_job : last_job_of Es ≡ last_job_of Gs
  pub jobs : jobs_of Es ≡ jobs_of Gs
  pub tasks : tasks_of Es ≡ tasks_of Gs
  pub named : (job : ℕ) → job_name_of Es job ≡ job_name_of Gs job
  pub versions : (table part : ℕ) → version_of Es table part ≡ version_of Gs table part
  pub base : (table : ℕ) → base_of Es table ≡ base_of Gs table
  pub fresh : (table index : ℕ) (w : Place) → fresh_of Es table index w ≡ fresh_of Gs table index w
  pub lists : (table index : ℕ) (w : Place) → lists_of Es table index w ≡ lists_of Gs table index w
