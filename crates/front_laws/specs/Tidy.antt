-- What holds of the transactions of every legal history, and which events may come after others.
use Rattle.std.specs.Prelude.{◌≡◌, ℕ, ◌+◌, ◌≤◌, ◌<◌, Bool, true, false, ◌||◌, List, [], ◌∷◌, ◌++◌, Option, Some, None, IfSome, filter, length, nat_eq, nat_le, ◌⊎◌}
use Rattle.std.specs.List.{list_all, list_any}
use Rattle.schema_models.specs.ShapeView.{ShapeView}
use Rattle.dl_values.specs.declared.cell.Cell.{Cell}
use Rattle.partitions.specs.LayoutView.{LayoutView}
use Rattle.partitions.specs.LayoutFaults.{with_part}
use Rattle.partitions.specs.LayoutRules.{IsLayout}
use Rattle.partitions.specs.Places.{AreInside, IsInside, place_for}
use Rattle.labels.specs.declared.txn_state.TxnState.{TxnState}
use Rattle.labels.specs.declared.txn_state.TxnState.TheVariants as state
use Rattle.front_defs.specs.declared.event.Event.{Event}
use Rattle.front_defs.specs.declared.event.Event.TheVariants as event
use Rattle.front_defs.specs.declared.event.TxnBegun.{TxnBegun}
use Rattle.front_defs.specs.declared.event.LoadSubmitted.{LoadSubmitted}
use Rattle.front_defs.specs.declared.catalogue.Table.{Table}
use Rattle.front_defs.specs.declared.txn.Txn.{Txn}
use Rattle.front_defs.specs.Indexes.{Index}
use Rattle.front_defs.specs.Stored.{AreRowsOf, sets_of}
use Rattle.front_defs.specs.Ids.{range_of, next_of, told_ids, range_size}
use Rattle.front_defs.specs.Catalogue.{table_at, db_of, last_table_of, tables_of}
use Rattle.front_defs.specs.Transactions.{is_committed, sweeps_told, txn_at, place_of, due, txns_of}
use Rattle.front_defs.specs.Journal.{There, FollowsDb, FollowsTable, FollowsJob, FollowsFinish, IsLiveJob, is_load_label}
use Rattle.alter_core.specs.declared.job.JobInfo.{JobInfo}
use Rattle.alter_core.specs.declared.job.JobState.TheVariants as job_state
use Rattle.front_defs.specs.declared.event.JobWaiting.{JobWaiting}
use Rattle.front_defs.specs.Jobs.{has_live, is_done_task, is_job_over, is_live, is_planned, is_running, job_at, jobs_of, last_job_of, running_job, tasks_of}
use Rattle.front_defs.specs.Indexes.{spoiled_by}
use Rattle.front_defs.specs.Moves.{bad_load, has_open_below, tasks_in, watershed_of}

abbrev pub Each : {X : Type 0} → (X → Type 0) → List X → Type 0
Each P [] = Unit {0}
Each P (x ∷ xs) = P x × Each P xs

-- any two of them, an earlier and a later one, have this
abbrev pub Pairs : {X : Type 0} → (X → X → Type 0) → List X → Type 0
Pairs P [] = Unit {0}
Pairs P (x ∷ xs) = Each (P x) xs × Pairs P xs

-- by ascending number
abbrev pub Ascends : List Txn → Type 0
Ascends txns = Pairs (λ t u. t.id < u.id) txns

-- whether a record has told of it
abbrev pub Tells : TxnState → Bool → Type 0
Tells state.Prepare told = told ≡ false
Tells state.Aborted told = Unit {0}
Tells _ told = told ≡ true

-- the label in its database
abbrev pub label_key : Txn → List ℕ × List ℕ
label_key t = (t.db, t.label)

-- of two transactions of one label the earlier is aborted
abbrev pub OlderIsAborted : Txn → Txn → Type 0
OlderIsAborted t u = label_key u ≡ label_key t → t.state ≡ state.Aborted

-- its table is there, in its database and with its schema
abbrev pub IsHome : List ℕ → ℕ → Table → Type 0
IsHome db schema b = (b.db ≡ db) × (b.schema ≡ schema)

-- The table of a load that is not committed is there. That of another one may be gone, and then its number is not used again.
abbrev pub HomeBy : TxnState → Option Table → (Table → Type 0) → Type 0
HomeBy state.Prepare o P = There o P
HomeBy state.Precommitted o P = There o P
HomeBy state.Committed o P = IfSome o P
HomeBy state.Visible o P = IfSome o P
HomeBy state.Aborted o P = IfSome o P

abbrev pub HasHome : List Table → Txn → Type 0
HasHome tables t = HomeBy t.state (table_at t.table tables) (IsHome t.db t.schema)

-- the last number that was begun
abbrev pub last_begun_after : Event → ℕ → ℕ
last_begun_after (event.TxnBegun b) last = b.txn
last_begun_after _ last = last

abbrev pub last_begun : List Event → ℕ
last_begun [] = 0
last_begun (e ∷ Es) = last_begun_after e (last_begun Es)

pub record Tidy (Es : List Event) : Type 0 where
  pub tells : Each (λ t. Tells t.state t.told) (txns_of Es)
  pub ascends : Ascends (txns_of Es)
  pub labels : Pairs OlderIsAborted (txns_of Es)
  pub below : Each (λ t. t.id < next_of Es) (txns_of Es)
  pub known : Each (λ t. t.told ≡ list_any (nat_eq t.id) (told_ids Es)) (txns_of Es)
  pub homes : Each (HasHome (tables_of Es)) (txns_of Es)
  pub labelled : Each (λ t. is_load_label t.id t.label ≡ true) (txns_of Es)
  pub from : Each (λ t. 1 ≤ t.id) (txns_of Es)
  pub ids : Each (λ i. i < next_of Es) (told_ids Es)
  pub within : next_of Es ≤ range_of Es + 1
  pub spent : last_begun Es < next_of Es
  pub numbers : Pairs (λ (a b : Table). a.number < b.number) (tables_of Es)
  pub laid : Each (λ (b : Table). IsLayout b.shape b.layout) (tables_of Es)
  pub used : Each (λ t. t.table ≤ last_table_of Es) (txns_of Es)
  pub numbered : Each (λ (b : Table). b.number ≤ last_table_of Es) (tables_of Es)

-- two live jobs are of different tables
abbrev pub LiveApart : JobInfo → JobInfo → Type 0
LiveApart a b = is_live a.state ≡ true → is_live b.state ≡ true → a.table ≡ b.table → ⊥

-- a job in the plans has a watershed, which is below the next number
pub record IsMarkedJob (next : ℕ) (j : JobInfo) : Type 0 where
  pub has : j.watershed ≡ Some (watershed_of j)
  pub below : watershed_of j < next

-- What holds of the jobs of every legal history.
pub record Alters (Es : List Event) : Type 0 where
  pub numbers : Pairs (λ (a b : JobInfo). a.job < b.job) (jobs_of Es)
  pub numbered : Each (λ (j : JobInfo). j.job ≤ last_job_of Es) (jobs_of Es)
  pub alone : Pairs LiveApart (jobs_of Es)
  pub marked : Each (λ (j : JobInfo). is_planned j.state ≡ true → IsMarkedJob (next_of Es) j) (jobs_of Es)
  pub settled : Each (λ (j : JobInfo). is_running j.state ≡ true → has_open_below (watershed_of j) (txns_of Es) ≡ false) (jobs_of Es)

-- the others with this label are older and aborted
abbrev pub LabelFits : ℕ → List ℕ × List ℕ → Txn → Type 0
LabelFits id key u = label_key u ≡ key → (u.id ≡ id) ⊎ ((u.id < id) × (u.state ≡ state.Aborted))

-- a load of a live table that begins with a new number and a free label
pub record BeginsNow (Es : List Event) (b : TxnBegun) : Type 0 where
  pub above : Each (λ u. u.id < b.txn) (txns_of Es)
  pub unspent : Each (λ i. i < b.txn) (told_ids Es)
  pub within : b.txn ≤ range_of Es
  pub free : Each (λ u. (b.db, b.label) ≡ label_key u → u.state ≡ state.Aborted) (txns_of Es)
  pub fresh : last_begun Es < b.txn
  pub marks : Each (λ (j : JobInfo). is_planned j.state ≡ true → watershed_of j < b.txn) (jobs_of Es)
  pub label : is_load_label b.txn b.label ≡ true
  pub home : There (table_at b.table (tables_of Es)) (IsHome b.db b.schema)

-- what a load cancels is the job that runs and that a row of it cannot be converted for; a record may name another live job of the table where none runs
pub record SpoilsNow (Es : List Event) (table : ℕ) (rows : List (List Cell)) (cancelled : Option ℕ) : Type 0 where
  pub lives : IfSome cancelled (IsLiveJob (jobs_of Es) table)
  pub spoils : (running_job table (jobs_of Es) ≡ None) ⊎ (cancelled ≡ spoiled_by (jobs_of Es) (table_at table (tables_of Es)) rows)

-- no job that runs has its watershed above the number
abbrev pub AllFrom : ℕ → List JobInfo → Type 0
AllFrom id jobs = Each (λ (j : JobInfo). is_running j.state ≡ true → watershed_of j ≤ id) jobs

-- a load of a live table that is submitted for the first time
pub record SubmitsNow (Es : List Event) (s : LoadSubmitted) : Type 0 where
  pub first : 1 ≤ s.txn
  pub from : AllFrom s.txn (jobs_of Es)
  pub cancels : SpoilsNow Es s.table s.rows s.cancelled
  pub below : s.txn < next_of Es
  pub new : list_any (nat_eq s.txn) (told_ids Es) ≡ false
  pub home : There (table_at s.table (tables_of Es)) (λ b. (b.schema ≡ s.schema) × AreRowsOf b.shape b.layout s.rows)
  pub label : is_load_label s.txn s.label ≡ true
  pub fits : Each (LabelFits s.txn (db_of s.table (tables_of Es), s.label)) (txns_of Es)

-- the transaction of that number
abbrev pub At : List Event → ℕ → (Txn → Type 0) → Type 0
At Es id P = (w : Txn) × (txn_at id (txns_of Es) ≡ Some w) × P w

-- the job of that number
abbrev pub JobAt : List Event → ℕ → (JobInfo → Type 0) → Type 0
JobAt Es number P = (j : JobInfo) × (job_at number (jobs_of Es) ≡ Some j) × P j

-- a number is drawn that is above those of all transactions
pub record DrawsNow (Es : List Event) (watershed : ℕ) : Type 0 where
  pub above : Each (λ u. u.id < watershed) (txns_of Es)
  pub unspent : Each (λ i. i < watershed) (told_ids Es)
  pub within : watershed ≤ range_of Es
  pub fresh : last_begun Es < watershed
  pub marks : Each (λ (j : JobInfo). is_planned j.state ≡ true → watershed_of j ≤ watershed) (jobs_of Es)

-- a job waits from now on: its watershed is not below the next number
pub record WaitsNow (Es : List Event) (w : JobWaiting) (j : JobInfo) : Type 0 where
  pub fresh : last_begun Es < w.watershed
  pub pending : j.state ≡ job_state.Pending
  pub within : w.watershed ≤ w.upto
  pub above : list_any (nat_le w.watershed) (told_ids Es) ≡ false
  pub upto : (w.upto ≡ range_of Es) ⊎ (w.upto ≡ range_of Es + range_size)

-- a job goes to run: what is below its watershed has ended, and no committed load is bad for it
pub record RunsNow (Es : List Event) (j : JobInfo) : Type 0 where
  pub waits : j.state ≡ job_state.WaitingTxn
  pub ended : has_open_below (watershed_of j) (txns_of Es) ≡ false
  pub good : bad_load j (table_at j.table (tables_of Es)) (txns_of Es) ≡ None

-- a job ends well: it runs and each task was given its rows; or a record tells it of one that waits
pub record EndsNow (Es : List Event) (j : JobInfo) : Type 0 where
  pub runs : is_running j.state ≡ true
  pub done : list_all (is_done_task (tasks_of Es)) (tasks_in j (table_at j.table (tables_of Es))) ≡ true

-- An event that a legal entry makes.
abbrev pub Happens : List Event → Event → Type 0
Happens Es (event.DbMade d) = FollowsDb Es d
Happens Es (event.TableMade m) = FollowsTable Es m
Happens Es (event.RangeDrawn r) = r.upto ≡ range_of Es + range_size
Happens Es (event.TxnBegun b) = BeginsNow Es b
Happens Es (event.LoadSubmitted s) = SubmitsNow Es s
Happens Es (event.TxnAborted a) = At Es a.txn (λ w. w.state ≡ state.Precommitted)
Happens Es (event.LoadPublished p) = (w : Txn) × (due (txns_of Es) ≡ Some w) × (w.id ≡ p.txn)
Happens Es (event.PartAdded a) = (has_live a.table (jobs_of Es) ≡ false) × ((t : Table) × (table_at a.table (tables_of Es) ≡ Some t) × IsLayout t.shape (with_part a.part t.layout))
Happens Es (event.TableDropped d) = (t : Table) × (table_at d.table (tables_of Es) ≡ Some t)
Happens Es (event.LoadCommitted c) = At Es c.txn (λ w. (w.state ≡ state.Precommitted) × SpoilsNow Es w.table w.rows c.cancelled)
Happens Es (event.Swept s) = (list_any (sweeps_told s.at) (txns_of Es) || list_any (is_job_over s.at) (jobs_of Es)) ≡ true
Happens Es (event.JobAdded a) = (t : Table) × (table_at a.table (tables_of Es) ≡ Some t) × FollowsJob Es a t
Happens Es (event.JobWaiting w) = JobAt Es w.job (WaitsNow Es w)
Happens Es (event.WatershedDrawn w) = DrawsNow Es w.watershed
Happens Es (event.JobRan r) = JobAt Es r.job (RunsNow Es)
Happens Es (event.TaskTaken t) = Unit {0}
Happens Es (event.TaskGiven g) = Unit {0}
Happens Es (event.JobFinished f) = JobAt Es f.job (λ (j : JobInfo). EndsNow Es j ⊎ FollowsFinish Es j)
Happens Es (event.JobCancelled c) = JobAt Es c.job (λ (j : JobInfo). is_live j.state ≡ true)
Happens Es (event.SweptUntold s) = list_any (sweeps_told s.at) (txns_of Es) ≡ false
Happens Es (event.TxnEnded x) = At Es x.txn (λ w. w.told ≡ false)
Happens Es (event.Compacted c) = Unit {0}
Happens Es event.Opened = Unit {0}

-- a load that a call submits is of a transaction that is kept
abbrev pub IsKept : List Event → Event → Type 0
IsKept Es (event.LoadSubmitted s) = At Es s.txn (λ w. w.table ≡ s.table)
IsKept Es _ = Unit {0}

-- these events can happen one after another, the last of them first
abbrev pub HappenAll : List Event → List Event → Type 0
HappenAll [] Es = Unit {0}
HappenAll (e ∷ new) Es = Happens (new ++ Es) e × IsKept (new ++ Es) e × HappenAll new Es

-- What the agreement of an opening asks of an event: a load that becomes visible was told, and what leaves no record touches nothing that a record tells.
abbrev pub Fits : Event → List Txn → List JobInfo → Type 0
Fits (event.LoadPublished p) txns jobs = IfSome (txn_at p.txn txns) (λ t. t.told ≡ true)
Fits (event.TxnEnded x) txns jobs = filter (λ t. nat_eq t.id x.txn) (filter (λ t. t.told) txns) ≡ []
Fits (event.SweptUntold s) txns jobs = list_any (sweeps_told s.at) txns ≡ false
Fits (event.JobRan r) txns jobs = Each (λ (j : JobInfo). j.job ≡ r.job → j.state ≡ job_state.WaitingTxn) jobs
Fits _ txns jobs = Unit {0}

abbrev pub Sound : List Event → Type 0
Sound [] = Unit {0}
Sound (e ∷ Es) = Fits e (txns_of Es) (jobs_of Es) × Sound Es

-- a transaction has a place exactly where it is committed or visible
abbrev pub HasPlace : TxnState → ℕ → Type 0
HasPlace state.Committed place = 1 ≤ place
HasPlace state.Visible place = 1 ≤ place
HasPlace _ place = place ≡ 0

-- two transactions with places have different ones
abbrev pub PlacesDiffer : Txn → Txn → Type 0
PlacesDiffer t u = place_of t ≡ place_of u → place_of t ≡ 0

-- how many loads wait to be published
abbrev pub waiting : List Txn → ℕ
waiting txns = length (filter (λ t. is_committed t.state) txns)

-- the places of a list of transactions, where `last` was drawn last: they differ and are from 1 to the last, and those of the n loads that wait are the last n
pub record PlacesFit (txns : List Txn) (last : ℕ) : Type 0 where
  pub have : Each (λ t. HasPlace t.state (place_of t)) txns
  pub differ : Pairs PlacesDiffer txns
  pub within : Each (λ t. place_of t ≤ last) txns
  pub lasts : Each (λ t. t.state ≡ state.Committed → last < place_of t + waiting txns) txns

-- the transactions that were published
abbrev pub published_after : Event → List ℕ → List ℕ
published_after (event.LoadPublished p) ids = p.txn ∷ ids
published_after _ ids = ids

abbrev pub published_of : List Event → List ℕ
published_of [] = []
published_of (e ∷ Es) = published_after e (published_of Es)

-- no number stands in it twice
abbrev pub Distinct : List ℕ → Type 0
Distinct ids = Pairs (λ i j. i ≡ j → ⊥) ids

-- a later layout keeps the place of each row that is inside an earlier one
abbrev pub KeepsPlaces : LayoutView → LayoutView → Type 0
KeepsPlaces l k = (row : List Cell) → IsInside l row → place_for k row ≡ place_for l row

-- and gives the tablets the same rows of a load
abbrev pub KeepsSets : LayoutView → LayoutView → Type 0
KeepsSets l k = (x : Index) (rows : List (List Cell)) → AreInside l rows → sets_of k x rows ≡ sets_of l x rows

-- a table that has the shape of a plan, and its layout or a longer one
abbrev pub IsPlanned : ShapeView → LayoutView → Table → Type 0
IsPlanned base layout b = (b.shape ≡ base) × KeepsPlaces layout b.layout × KeepsSets layout b.layout

-- a transaction of that number has a table that is so planned, and was begun
pub record PlanHolds (Es : List Event) (id : ℕ) (base : ShapeView) (layout : LayoutView) : Type 0 where
  pub begun : id ≤ last_begun Es
  pub shaped : Each (λ t. t.id ≡ id → IfSome (table_at t.table (tables_of Es)) (IsPlanned base layout)) (txns_of Es)
