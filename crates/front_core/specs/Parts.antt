-- What each command makes of what a front has, by its reply.
use Rattle.std.specs.Prelude.{◌≡◌, ℕ, ◌+◌, ◌≤◌, Bool, true, false, cond, List, [], ◌∷◌, ◌++◌, Option, Some, None, count_by, filter, map, nat_eq, not, is_some}
use Rattle.dl_values.specs.declared.cell.Cell.{Cell}
use Rattle.rowsets.specs.RowsetView.{rowset_rows}
use Rattle.labels.specs.declared.txn_state.TxnState.{TxnState}
use Rattle.labels.specs.declared.txn_state.TxnState.TheVariants as state
use Rattle.front_defs.specs.declared.catalogue.Table.{Table}
use Rattle.front_defs.specs.declared.txn.Txn.{Txn}
use Rattle.front_defs.specs.declared.reply.Placed.{Placed}
use Rattle.front_defs.specs.declared.reply.Reply.{Reply}
use Rattle.front_defs.specs.declared.reply.Reply.TheVariants as reply
use Rattle.front_defs.specs.Catalogue.{new_table, has_db, table_named}
use Rattle.alter_core.specs.declared.job.JobInfo.{JobInfo}
use Rattle.front_defs.specs.Jobs.{is_job_over}
use Rattle.front_defs.specs.May.{seen_set}
use Rattle.front_defs.specs.Stands.{TableTablets, WaitingRows, View, stored_for, waiting_for}
use Rattle.front_defs.specs.Stored.{PlacedRows}
use Rattle.front_defs.specs.declared.event.TableMade.{TableMade}
use Rattle.front_defs.specs.declared.event.TxnBegun.{TxnBegun}
use Rattle.sql_text.specs.declared.table_def.TableDef.{TableDef}
use Rattle.table_defs.specs.Columns.{shape_of}
use Rattle.table_defs.specs.Defined.{layout_of}
use Rattle.shadow_writes.specs.declared.built.Mapped.{Mapped}
use Rattle.shadow_writes.specs.declared.built.Mapped.TheVariants.{Sets}
use Rattle.shadow_writes.specs.declared.built.TabletRows.{TabletRows}
use Rattle.front_laws.specs.Tidy.{Each}
use Rattle.front_defs.specs.Answer.{CommittedFor, commit_refusals, drop_table_refusals, label_for, placed_for, snapshot_refusals, sweep_refusals}
use Rattle.front_defs.specs.declared.command.TxnKey.{TxnKey}
use Rattle.front_defs.specs.Refusals.{Answers}
use Rattle.front_defs.specs.Transactions.{changed, begun_txn, committed_at, dropped, due, is_expired, is_over, sweep, txn_by}
use Rattle.front_state.specs.Catalogued.{IsPlainTable}
use Rattle.front_state.specs.Tablets.{Stores, base_lists, empty_tablets}
use Rattle.front_state.specs.Parts.{CatalogueView, TransactionsView, emptied_where, ended_at, given, is_fresh, is_of, places_by, range_for, submitted_at, waits_where}

-- What each command leaves of what stood, where it is answered well. A name that is there already stays as it is.
abbrev pub with_db : List ℕ → View → View
with_db name v = cond (has_db name v.databases) v (record v { databases = v.databases ++ name ∷ [] })

abbrev pub with_new_table : TableMade → View → View
with_new_table m v = record v { tables = v.tables ++ new_table m (v.last_table + 1) ∷ []; last_table = v.last_table + 1; tablets = v.tablets ++ empty_tablets (v.last_table + 1) m.layout ∷ [] }

abbrev pub with_table : List ℕ → List ℕ → TableDef → View → View
with_table db name def v = cond (is_some (table_named db name v.tables)) v (with_new_table (record { db = db; name = name; shape = shape_of def; layout = layout_of name def }) v)

-- a load of a table begins
abbrev pub load_begun : ℕ → Option (List ℕ) → Bool → ℕ → Table → TxnBegun
load_begun next label two_phase at t = record { txn = next; db = t.db; table = t.number; label = label_for label next; two_phase = two_phase; schema = t.schema; at = at }

abbrev pub with_load : Table → Option (List ℕ) → Bool → ℕ → View → View
with_load t label two_phase at v = record v { txns = v.txns ++ begun_txn (load_begun v.next label two_phase at t) ∷ []; waiting = v.waiting ++ record { txn = v.next; sets = [] ∷ [] } ∷ []; range = range_for v.range v.next; next = v.next + 1 }

abbrev pub BeginsLoad : Option Table → Option (List ℕ) → Bool → ℕ → View → View → Type 0
BeginsLoad None label two_phase at old new = ⊥
BeginsLoad (Some t) label two_phase at old new = new ≡ with_load t label two_phase at old

-- the rows of a load are taken
abbrev pub with_rows : ℕ → Option Placed → List (List Cell) → List PlacedRows → ℕ → View → View
with_rows id placed rows sets at v = record v { txns = map (changed id (submitted_at placed rows at)) v.txns; waiting = map (given id sets) v.waiting; places = places_by placed v.places }

abbrev pub TakesRows : Option Txn → ℕ → List (List Cell) → List PlacedRows → ℕ → View → View → Type 0
TakesRows None id rows sets at old new = ⊥
TakesRows (Some t) id rows sets at old new = new ≡ with_rows id (placed_for (Some t) old.txns old.places) rows sets at old

-- a load is committed
abbrev pub with_commit : ℕ → ℕ → View → View
with_commit id at v = record v { txns = map (changed id (committed_at (v.places + 1) at)) v.txns; places = v.places + 1 }

abbrev pub CommitsLoad : Option Txn → ℕ → View → View → Type 0
CommitsLoad None at old new = ⊥
CommitsLoad (Some t) at old new = new ≡ with_commit t.id at old

abbrev pub Commits : List ℕ → TxnKey → ℕ → List (List ℕ) → List Txn → ℕ → Reply → Type 0
Commits db key at dbs txns last r = Answers (commit_refusals at (has_db db dbs) (txn_by db key txns)) (CommittedFor (txn_by db key txns) txns last) r

-- what has expired is aborted, and what ended long ago is forgotten
abbrev pub with_sweep : ℕ → View → View
with_sweep at v = record v { txns = sweep at v.txns; waiting = emptied_where (is_expired at) (filter (is_fresh at) v.txns) (waits_where (is_fresh at) v.txns v.waiting) }

abbrev pub Sweeps : ℕ → List Txn → List JobInfo → Reply → Type 0
Sweeps at txns jobs r = Answers (sweep_refusals at txns jobs) (λ r. r ≡ reply.Swept (count_by (is_expired at) txns) (count_by (is_over at) txns + count_by (is_job_over at) jobs)) r

-- a table is dropped, with what is stored of it and what its loads hold
abbrev pub with_drop : ℕ → ℕ → View → View
with_drop n at v = record v { tables = filter (λ (t : Table). not (nat_eq t.number n)) v.tables; tablets = filter (λ (k : TableTablets). not (nat_eq k.table n)) v.tablets; txns = map (dropped n at) v.txns; waiting = emptied_where (is_of n) v.txns v.waiting }

abbrev pub DropsTable : Option Table → ℕ → View → View → Type 0
DropsTable None at old new = new ≡ old
DropsTable (Some t) at old new = new ≡ with_drop t.number at old

abbrev pub Drops : List ℕ → List ℕ → Bool → List (List ℕ) → List Table → Reply → Type 0
Drops db name flag dbs tables r = Answers (drop_table_refusals db name flag dbs tables) (λ r. r ≡ reply.Done) r

-- a load ends
abbrev pub with_end : ℕ → TxnState → ℕ → View → View
with_end id s at v = record v { txns = map (changed id (ended_at s at)) v.txns; waiting = map (given id []) v.waiting }

abbrev pub EndsLoad : Option Txn → TxnState → ℕ → View → View → Type 0
EndsLoad None s at old new = ⊥
EndsLoad (Some t) s at old new = new ≡ with_end t.id s at old

-- the parts of a front: it has no keeper, no job and no rollup yet
abbrev pub front_view : CatalogueView → TransactionsView → View
front_view c t = record {
  databases = c.databases;
  tables = c.tables;
  last_table = c.last_table;
  txns = t.txns;
  range = t.range;
  next = t.next;
  places = t.places;
  tablets = c.tablets;
  waiting = t.waiting;
  jobs = [];
  last_job = 0;
  job_names = [];
  taken = 0;
  tasks = [];
  shadows = [];
  live = 0;
  broken = false;
  records = None;
  faults = 0;
}

-- no opening, no fault, no job and no task
pub record IsCalm (old new : View) : Type 0 where
  pub live : new.live ≡ old.live
  pub broken : new.broken ≡ old.broken
  pub faults : new.faults ≡ old.faults
  pub taken : new.taken ≡ old.taken
  pub jobs : new.jobs ≡ old.jobs
  pub last_job : new.last_job ≡ old.last_job
  pub names : new.job_names ≡ old.job_names
  pub tasks : new.tasks ≡ old.tasks
  pub shadows : new.shadows ≡ old.shadows

-- A front is never broken, has no keeper and no job; its tables have layouts for their rows and no rollups; what is stored is of known tables, and what waits is of the transactions.
pub record IsFront (v : View) : Type 0 where
  pub sound : v.broken ≡ false
  pub faultless : v.faults ≡ 0
  pub jobless : v.jobs ≡ []
  pub plain : Each IsPlainTable v.tables
  pub known : Each (λ (k : TableTablets). k.table ≤ v.last_table) v.tablets
  pub aligned : map (λ (w : WaitingRows). w.txn) v.waiting ≡ map (λ (t : Txn). t.id) v.txns

-- what becomes visible is stored; a table that got nothing of it may be gone
abbrev pub StoresSets : ℕ → List PlacedRows → List TableTablets → List TableTablets → Type 0
StoresSets table [] old new = new ≡ old
StoresSets table (s ∷ ss) old new = Stores table (s ∷ ss) old new

pub record IsPublished (at : ℕ) (old new : View) : Type 0 where
  pub load : Txn
  pub due_is : due old.txns ≡ Some load
  pub stored : StoresSets load.table (waiting_for load.id 0 old.waiting) old.tablets new.tablets
  pub rest : new ≡ record (with_end load.id state.Visible at old) { tablets = new.tablets }

-- what a load was built to for the base, where that is its only target
abbrev pub sets_by : List Mapped → List PlacedRows
sets_by (Sets sets ∷ []) = map (λ (s : TabletRows). seen_set s) sets
sets_by _ = []

-- whether a load was built for the base alone
abbrev pub is_for_base : List Mapped → Bool
is_for_base (Sets sets ∷ []) = true
is_for_base _ = false

-- the lists that a snapshot shares are those that are stored
abbrev pub SharesLists : Table → List TableTablets → Reply → Type 0
SharesLists t tablets (reply.Snap s) = (s.base ≡ t.shape) × (s.index ≡ t.shape) × (map (λ l. rowset_rows l.value) s.lists ≡ base_lists t.layout (stored_for t.number tablets))
SharesLists t tablets _ = ⊥

abbrev pub SharedFor : Option Table → List TableTablets → Reply → Type 0
SharedFor None tablets r = ⊥
SharedFor (Some t) tablets r = SharesLists t tablets r

abbrev pub Shares : List ℕ → List ℕ → List (List ℕ) → List Table → List TableTablets → Reply → Type 0
Shares db table dbs tables tablets r = Answers (snapshot_refusals db table dbs tables) (SharedFor (table_named db table tables) tablets) r
