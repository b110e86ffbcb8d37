-- What the laws of legal histories say.
use Rattle.std.specs.Prelude.{◌≡◌, ◌<◌, ◌≤◌, ℕ, ◌+◌, cond, true, false, List, [], ◌∷◌, ◌++◌, Option, Some, None, IfSome, ◌⊎◌, map, nat_eq, length, filter}
use Rattle.std.specs.List.{flat_map}
use Rattle.dl_values.specs.declared.cell.Cell.{Cell}
use Rattle.schema_models.specs.Folds.{fold_of}
use Rattle.labels.specs.declared.txn_state.TxnState.{TxnState}
use Rattle.labels.specs.declared.txn_state.TxnState.TheVariants as state
use Rattle.partitions.specs.LayoutView.{LayoutView}
use Rattle.partitions.specs.Places.{AreInside, Place, rows_at}
use Rattle.front_defs.specs.declared.event.Event.{Event}
use Rattle.front_defs.specs.declared.event.Event.TheVariants as event
use Rattle.front_defs.specs.declared.reply.Reply.TheVariants as reply
use Rattle.front_defs.specs.declared.history.Entry.{Entry}
use Rattle.front_defs.specs.declared.history.Entry.TheVariants.{Told, Made}
use Rattle.front_defs.specs.declared.catalogue.Table.{Table}
use Rattle.front_defs.specs.declared.txn.Txn.{Txn}
use Rattle.schema_models.specs.ShapeView.{ShapeView}
use Rattle.front_defs.specs.Catalogue.{table_at, tables_of}
use Rattle.front_defs.specs.Stored.{base_of, fixed_of, since_of, source_of, whole_list, StoredList, indexed, rows_in, touches, version_of}
use Rattle.row_map.specs.declared.map.RowMap.{RowMap}
use Rattle.shadow_writes.specs.declared.plan.Target.{Target}
use Rattle.front_defs.specs.Indexes.{Index, change_maps, index_at, new_index, rollup_maps}
use Rattle.front_defs.specs.Transactions.{txn_at, txns_of}
use Rattle.alter_core.specs.declared.job.Change.{Change}
use Rattle.alter_core.specs.declared.job.JobInfo.{JobInfo}
use Rattle.front_defs.specs.Jobs.{is_planned, is_running}
use Rattle.front_defs.specs.Moves.{has_open_below, watershed_of}
use Rattle.front_laws.specs.Tidy.{Each, IsMarkedJob, IsPlanned, label_key}

-- COMMITTED or VISIBLE
abbrev pub Counts : TxnState → Type 0
Counts s = (s ≡ state.Committed) ⊎ (s ≡ state.Visible)

-- two transactions of one label are not both COMMITTED or VISIBLE
abbrev pub CountsOnce : Txn → Txn → Type 0
CountsOnce t u = label_key t ≡ label_key u → Counts t.state → Counts u.state → ⊥

-- and of one label all but the last are aborted
abbrev pub EarlierIsAborted : Txn → Txn → Type 0
EarlierIsAborted t u = label_key t ≡ label_key u → t.state ≡ state.Aborted

-- the numbers of two transactions differ, and the later one has the higher
abbrev pub IdsAscend : Txn → Txn → Type 0
IdsAscend t u = t.id < u.id

-- the numbers of two tables differ, and the later one has the higher
abbrev pub NumbersAscend : Table → Table → Type 0
NumbersAscend a b = a.number < b.number

-- lists joined in their order
abbrev pub joined : List (List (List Cell)) → List (List Cell)
joined lists = flat_map (λ l. l) lists

-- The lists of one tablet of an index fold to what the index makes of the rows of the base that the layout places there; of an index that is not there nothing is stored.
abbrev pub TabletFolds : Option Index → Table → Place → List (List Cell) → List StoredList → Type 0
TabletFolds None t w base lists = lists ≡ []
TabletFolds (Some x) t w base lists = fold_of x.shape (joined (rows_in lists)) ≡ indexed x (rows_at t.layout w base)

abbrev pub TabletFoldsTo : Option Table → ℕ → Place → List (List Cell) → List StoredList → Type 0
TabletFoldsTo None index w base lists = lists ≡ []
TabletFoldsTo (Some t) index w base lists = TabletFolds (index_at index t) t w base lists

-- the lists of all tablets of an index fold to what the index makes of the base
abbrev pub IndexFolds : Option Index → List (List Cell) → List (List (List Cell)) → Type 0
IndexFolds None base lists = lists ≡ []
IndexFolds (Some x) base lists = fold_of x.shape (joined lists) ≡ indexed x base

abbrev pub IndexFoldsTo : Option Table → ℕ → List (List Cell) → List (List (List Cell)) → Type 0
IndexFoldsTo None index base lists = (base ≡ []) × (lists ≡ [])
IndexFoldsTo (Some t) index base lists = IndexFolds (index_at index t) base lists

-- jobs by number, and what holds of those whose new indexes are in the plans, and of those that run
abbrev pub JobsAscend : JobInfo → JobInfo → Type 0
JobsAscend a b = a.job < b.job

abbrev pub IsPlannedJob : ℕ → JobInfo → Type 0
IsPlannedJob next j = is_planned j.state ≡ true → IsMarkedJob next j

-- no open transaction is below the watershed of a job that runs
abbrev pub IsSettled : List Txn → JobInfo → Type 0
IsSettled txns j = is_running j.state ≡ true → has_open_below (watershed_of j) txns ≡ false

-- The work of a task and the lists since fold to what the new index makes of the base, in each tablet.
abbrev pub PartsFold : Change → Table → List (List Cell) → (ℕ → ℕ) → List (List Cell) → (ℕ → Place → List StoredList) → Type 0
PartsFold c t base fixed source since = (index : ℕ) (w : Place) → IfSome (new_index c t index) (λ (x : Index). TabletFolds (Some x) t w base (whole_list t x w (fixed w.part) source ++ since index w))

abbrev pub RunsWell : List Event → JobInfo → Type 0
RunsWell Es j = is_running j.state ≡ true → IfSome (table_at j.table (tables_of Es)) (λ (t : Table). PartsFold j.change t (base_of Es j.table) (fixed_of Es j.table) (source_of Es j.table) (since_of Es j.table))

-- A list holds versions above the fixed one, up to the visible one.
pub record IsAhead (fixed version : ℕ) (l : StoredList) : Type 0 where
  pub above : fixed < l.first
  pub rising : l.first ≤ l.last
  pub within : l.last ≤ version

-- So does each list since the job went to run, and the fixed version is not above the visible one.
pub record Ahead (fixed : ℕ) (lists : List StoredList) (version : ℕ) : Type 0 where
  pub kept : fixed ≤ version
  pub since : Each (IsAhead fixed version) lists

abbrev pub RunsAhead : List Event → JobInfo → Type 0
RunsAhead Es j = is_running j.state ≡ true → (index : ℕ) (w : Place) → Ahead (fixed_of Es j.table w.part) (since_of Es j.table index w) (version_of Es j.table w.part)

-- the base is folded, and inside the layout
abbrev pub IsBase : Option Table → List (List Cell) → Type 0
IsBase None base = base ≡ []
IsBase (Some t) base = (base ≡ fold_of t.shape base) × AreInside t.layout base

-- The versions of lists go on one after another, from a first version to a last one.
abbrev pub Chains : ℕ → List StoredList → ℕ → Type 0
Chains from [] to = from ≡ to
Chains from (l ∷ ls) to = (l.first ≡ from + 1) × (l.first ≤ l.last) × Chains l.last ls to

-- The lists of the tablets that there are have the versions of their partition one after another.
abbrev pub ChainsBy : Option Table → Place → List StoredList → ℕ → Type 0
ChainsBy None w lists version = (lists ≡ []) × (version ≡ 1)
ChainsBy (Some t) w lists version = w.bucket < t.layout.buckets → Chains 1 lists version

-- The loads of a live table that became visible, by their rows, the oldest first.
abbrev pub visible_by : ℕ → Option Txn → List (List (List Cell)) → List (List (List Cell))
visible_by table None loads = loads
visible_by table (Some u) loads = cond (nat_eq u.table table) (loads ++ u.rows ∷ []) loads

abbrev pub visible_with : ℕ → Option Table → Option Txn → List (List (List Cell)) → List (List (List Cell))
visible_with table None o loads = loads
visible_with table (Some t) o loads = visible_by table o loads

abbrev pub visible_after : Event → ℕ → List Table → List Txn → List (List (List Cell)) → List (List (List Cell))
visible_after (event.LoadPublished p) table tables txns loads = visible_with table (table_at table tables) (txn_at p.txn txns) loads
visible_after (event.TableDropped d) table tables txns loads = cond (nat_eq d.table table) [] loads
visible_after _ table tables txns loads = loads

abbrev pub visible_of : List Event → ℕ → List (List (List Cell))
visible_of [] table = []
visible_of (e ∷ Es) table = visible_after e table (tables_of Es) (txns_of Es) (visible_of Es table)

-- the version of a partition is 1 and the number of these with a row there
abbrev pub CountsIn : Table → List (List (List Cell)) → (ℕ → ℕ) → Type 0
CountsIn t loads version = (part : ℕ) → version part ≡ 1 + length (filter (touches t part) loads)

abbrev pub CountsLoads : Option Table → List (List (List Cell)) → (ℕ → ℕ) → Type 0
CountsLoads None loads version = (loads ≡ []) × ((part : ℕ) → version part ≡ 1)
CountsLoads (Some t) loads version = Each (AreInside t.layout) loads × CountsIn t loads version

-- where the transaction has that number, its table, while it is there, has that shape, and places the rows of that layout as it does
abbrev pub HasShape : List Table → ℕ → ShapeView → LayoutView → Txn → Type 0
HasShape tables id base layout t = t.id ≡ id → IfSome (table_at t.table tables) (IsPlanned base layout)

-- The targets of a plan have what a table owes to a load: each rollup, and each new index of a job whose watershed is not above the number of the load.
pub record BeginsWith (front all : List RowMap) : Type 0 where
  pub rest : List RowMap
  pub is : all ≡ front ++ rest

abbrev pub OwesJob : Table → ℕ → List RowMap → JobInfo → Type 0
OwesJob b id maps j = j.table ≡ b.number → is_planned j.state ≡ true → watershed_of j ≤ id → BeginsWith (rollup_maps b ++ change_maps j.change b) maps

pub record Owed (jobs : List JobInfo) (id : ℕ) (maps : List RowMap) (b : Table) : Type 0 where
  pub rollups : BeginsWith (rollup_maps b) maps
  pub news : Each (OwesJob b id maps) jobs

abbrev pub target_maps : List Target → List RowMap
target_maps targets = map (λ (x : Target). x.map) targets

-- where the transaction of that number was not submitted yet, these maps have what its table owes to it
abbrev pub IsOwed : List Table → List JobInfo → ℕ → List RowMap → Txn → Type 0
IsOwed tables jobs id maps t = t.id ≡ id → t.state ≡ state.Prepare → IfSome (table_at t.table tables) (Owed jobs id maps)

-- no call says that a record is damaged
abbrev pub NeverBad : List Entry → Type 0
NeverBad [] = Unit {0}
NeverBad (Told e ∷ H) = NeverBad H
NeverBad (Made c ∷ H) = ((seq : ℕ) → c.reply ≡ reply.BadJournal seq → ⊥) × NeverBad H
