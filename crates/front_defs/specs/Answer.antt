-- Which reply answers which command: the first refusal that holds, in the order written, or else the Ok.
use Rattle.std.specs.Prelude.{◌≡◌, ℕ, ◌+◌, ◌≤◌, Bool, true, cond, not, ◌&&◌, List, [], ◌∷◌, Option, Some, None, MatchOption, is_some, is_none, map, length, nat_eq, nat_le, count_by, ◌||◌}
use Rattle.std.specs.Option.{option_map}
use Rattle.std.specs.List.{flat_map, list_any}
use Rattle.dl_values.specs.declared.cell.Cell.{Cell}
use Rattle.rowsets.specs.RowsetView.{rowset_rows}
use Rattle.sql_text.specs.declared.part.Part.{Part}
use Rattle.sql_text.specs.declared.table_def.TableDef.{TableDef}
use Rattle.shadow_writes.specs.declared.plan.Plan.{Plan}
use Rattle.partitions.specs.LayoutFaults.{add_fault}
use Rattle.table_defs.specs.Defined.{def_fault}
use Rattle.table_defs.specs.Parts.{part_of}
use Rattle.table_defs.specs.declared.def_error.DefError.{DefError}
use Rattle.front_defs.specs.declared.event.Event.{Event}
use Rattle.front_defs.specs.declared.catalogue.Table.{Table}
use Rattle.front_defs.specs.declared.txn.Txn.{Txn}
use Rattle.front_defs.specs.declared.command.TxnKey.{TxnKey}
use Rattle.front_defs.specs.declared.command.Command.{Command}
use Rattle.front_defs.specs.declared.command.Command.TheVariants as command
use Rattle.front_defs.specs.declared.reply.Placed.{Placed}
use Rattle.front_defs.specs.declared.reply.Reply.{Reply}
use Rattle.front_defs.specs.declared.reply.Reply.TheVariants as reply
use Rattle.schema_models.specs.Names.{is_name}
use Rattle.front_defs.specs.Names.{is_label, auto_label}
use Rattle.schema_models.specs.Faults.{refuse_if}
use Rattle.front_defs.specs.Refusals.{Answers}
use Rattle.front_defs.specs.Ids.{next_of}
use Rattle.front_defs.specs.Catalogue.{has_db, table_at, table_named, databases_of, tables_of}
use Rattle.front_defs.specs.Transactions.{is_prepare, is_precommitted, is_aborted, is_expired, is_over, sweeps, txn_at, txn_by, label_of, due, ahead_of, place_of, txns_of, places_of}
use Rattle.schema_models.specs.Folds.{fold_of}
use Rattle.front_defs.specs.Stored.{base_of, indexed, source_of, stored_of, cost_of}
use Rattle.partitions.specs.Places.{rows_at}
use Rattle.row_map.specs.declared.map.RowMap.{RowMap}
use Rattle.alter_core.specs.declared.job.JobInfo.{JobInfo}
use Rattle.alter_core.specs.declared.job.JobKind.{JobKind}
use Rattle.history_convert.specs.declared.task.Task.{Task}
use Rattle.history_convert.specs.declared.task.Piece.{Piece}
use Rattle.front_defs.specs.declared.command.AlterDef.{AlterDef}
use Rattle.front_defs.specs.Ids.{live_of}
use Rattle.front_defs.specs.Jobs.{TaskMark, TaskName, is_job_over, job_at, jobs_of, last_job_of, live_job, taken_of, tasks_of}
use Rattle.sql_text.specs.declared.query.Query.{Query}
use Rattle.front_defs.specs.Indexes.{Index, change_maps, index_at, nth, targets_of}
use Rattle.front_defs.specs.Moves.{moved_state, next_move, next_task}
use Rattle.front_defs.specs.declared.show_what.ShowWhat.{ShowWhat}
use Rattle.front_defs.specs.Reports.{Reports, report, shown_refusal}
use Rattle.front_defs.specs.Alters.{refused_alter, job_of_kind, job_state_of, may_give, given_state}

-- at most so many databases, so many tables in all, and so many kept jobs
abbrev pub most : ℕ
most = 1000

-- CreateDb
abbrev pub create_db_refusals : List ℕ → Bool → List (List ℕ) → List (Option Reply)
create_db_refusals name if_not_exists dbs =
    refuse_if (not (is_name name)) reply.BadName
    ∷ refuse_if (has_db name dbs) (cond if_not_exists reply.Done reply.DbExists)
    ∷ refuse_if (nat_le most (length dbs)) reply.TooManyDbs ∷ []

abbrev pub CreatesDb : List ℕ → Bool → List (List ℕ) → Reply → Type 0
CreatesDb name if_not_exists dbs r = Answers (create_db_refusals name if_not_exists dbs) (λ r. r ≡ reply.Done) r

-- CreateTable
abbrev pub refused_by : Option DefError → Option Reply
refused_by None = None
refused_by (Some e) = Some (reply.BadTable e)

abbrev pub refused_def : List ℕ → TableDef → Option Reply
refused_def table def = refused_by (def_fault table def)

abbrev pub create_table_refusals : List ℕ → List ℕ → TableDef → Bool → List (List ℕ) → List Table → List (Option Reply)
create_table_refusals db table def if_not_exists dbs tables =
    refuse_if (not (has_db db dbs)) reply.UnknownDb
    ∷ refuse_if (is_some (table_named db table tables)) (cond if_not_exists reply.Done reply.TableExists)
    ∷ refuse_if (not (is_name table)) reply.BadName
    ∷ refuse_if (nat_le most (length tables)) reply.TooManyTables ∷ refused_def table def ∷ []

abbrev pub CreatesTable : List ℕ → List ℕ → TableDef → Bool → List (List ℕ) → List Table → Reply → Type 0
CreatesTable db table def if_not_exists dbs tables r = Answers (create_table_refusals db table def if_not_exists dbs tables) (λ r. r ≡ reply.Done) r

-- Begin
abbrev pub label_for : Option (List ℕ) → ℕ → List ℕ
label_for None next = auto_label next
label_for (Some label) next = label

abbrev pub bad_label : Option (List ℕ) → Option Reply
bad_label None = None
bad_label (Some label) = refuse_if (not (is_label label)) reply.BadLabel

abbrev pub used : Option Txn → Option Reply
used None = None
used (Some t) = refuse_if (not (is_aborted t.state)) (reply.Used t.id t.state)

abbrev pub begin_refusals : List ℕ → List ℕ → Option (List ℕ) → List (List ℕ) → List Table → List Txn → ℕ → List (Option Reply)
begin_refusals db table label dbs tables txns next =
    refuse_if (not (has_db db dbs)) reply.UnknownDb ∷ refuse_if (is_none (table_named db table tables)) reply.UnknownTable
    ∷ bad_label label ∷ used (label_of db (label_for label next) txns) ∷ []

-- the plan of a load: the table as it is now, with a target for each rollup and for each new index of its job
abbrev pub plan_of : ℕ → Table → List JobInfo → Plan
plan_of txn t jobs = record { txn = txn; schema = t.schema; layout = t.layout; base = t.shape; targets = targets_of t jobs }

abbrev pub BegunFor : ℕ → Option Table → List JobInfo → Reply → Type 0
BegunFor next None jobs r = ⊥
BegunFor next (Some t) jobs r = r ≡ reply.Begun next (plan_of next t jobs)

abbrev pub Begins : List ℕ → List ℕ → Option (List ℕ) → List (List ℕ) → List Table → List Txn → List JobInfo → ℕ → Reply → Type 0
Begins db table label dbs tables txns jobs next r = Answers (begin_refusals db table label dbs tables txns next) (BegunFor next (table_named db table tables) jobs) r

-- Submit
abbrev pub submit_refusals : ℕ → Option Txn → List (Option Reply)
submit_refusals at None = Some reply.NoSuchTxn ∷ []
submit_refusals at (Some t) = refuse_if (not (is_prepare t.state)) (reply.WrongState t.state) ∷ refuse_if (nat_le (t.since + 600) at) (reply.Expired t.since) ∷ []

-- a one-phase load has the next place
abbrev pub placed_for : Option Txn → List Txn → ℕ → Option Placed
placed_for None txns last = None
placed_for (Some t) txns last = cond t.two_phase None (Some (record { place = last + 1; ahead = ahead_of (last + 1) txns }))

abbrev pub Submits : ℕ → ℕ → List Txn → ℕ → Reply → Type 0
Submits id at txns last r = Answers (submit_refusals at (txn_at id txns)) (λ r. r ≡ reply.Submitted (placed_for (txn_at id txns) txns last)) r

-- Publish
abbrev pub PublishedFor : Option Txn → Reply → Type 0
PublishedFor None r = ⊥
PublishedFor (Some t) r = r ≡ reply.Published t.id (place_of t)

abbrev pub publish_refusals : List Txn → List (Option Reply)
publish_refusals txns = refuse_if (is_none (due txns)) reply.NothingToPublish ∷ []

abbrev pub Publishes : List Txn → Reply → Type 0
Publishes txns r = Answers (publish_refusals txns) (PublishedFor (due txns)) r

-- Abort
abbrev pub abort_refusals : Bool → Option Txn → List (Option Reply)
abort_refusals known None = refuse_if (not known) reply.UnknownDb ∷ Some reply.NoSuchTxn ∷ []
abort_refusals known (Some t) = refuse_if (not known) reply.UnknownDb ∷ refuse_if (not (is_prepare t.state) && not (is_precommitted t.state)) (reply.WrongState t.state) ∷ []

abbrev pub AbortedFor : Option Txn → Reply → Type 0
AbortedFor None r = ⊥
AbortedFor (Some t) r = r ≡ reply.Aborted t.id

abbrev pub Aborts : List ℕ → TxnKey → List (List ℕ) → List Txn → Reply → Type 0
Aborts db txn dbs txns r = Answers (abort_refusals (has_db db dbs) (txn_by db txn txns)) (AbortedFor (txn_by db txn txns)) r

-- DropTable
abbrev pub drop_table_refusals : List ℕ → List ℕ → Bool → List (List ℕ) → List Table → List (Option Reply)
drop_table_refusals db table if_exists dbs tables = refuse_if (not (has_db db dbs)) reply.UnknownDb ∷ refuse_if (is_none (table_named db table tables)) (cond if_exists reply.Done reply.UnknownTable) ∷ []

-- the live job of a table stands in the way
abbrev pub busy_by : Option JobInfo → Option Reply
busy_by None = None
busy_by (Some j) = Some (reply.Busy j.job)

abbrev pub busy_in : Option Table → List JobInfo → Option Reply
busy_in None jobs = None
busy_in (Some t) jobs = busy_by (live_job t.number jobs)

-- AddPartition
abbrev pub refused_part : Part → Option Table → Option Reply
refused_part part None = None
refused_part part (Some t) = option_map reply.BadPartition (add_fault t.layout (part_of t.layout.kind part))

abbrev pub add_partition_refusals : List ℕ → List ℕ → Part → List (List ℕ) → List Table → List JobInfo → List (Option Reply)
add_partition_refusals db table part dbs tables jobs =
    refuse_if (not (has_db db dbs)) reply.UnknownDb ∷ refuse_if (is_none (table_named db table tables)) reply.UnknownTable ∷ busy_in (table_named db table tables) jobs ∷ refused_part part (table_named db table tables) ∷ []

-- Commit
abbrev pub commit_refusals : ℕ → Bool → Option Txn → List (Option Reply)
commit_refusals at known None = refuse_if (not known) reply.UnknownDb ∷ Some reply.NoSuchTxn ∷ []
commit_refusals at known (Some t) = refuse_if (not known) reply.UnknownDb ∷ refuse_if (not (is_precommitted t.state)) (reply.WrongState t.state) ∷ refuse_if (nat_le (t.since + 3600) at) (reply.Expired t.since) ∷ []

abbrev pub CommittedFor : Option Txn → List Txn → ℕ → Reply → Type 0
CommittedFor None txns last r = ⊥
CommittedFor (Some t) txns last r = r ≡ reply.Committed t.id (last + 1) (ahead_of (last + 1) txns)

-- Sweep
abbrev pub sweep_refusals : ℕ → List Txn → List JobInfo → List (Option Reply)
sweep_refusals at txns jobs = refuse_if (not (list_any (sweeps at) txns || list_any (is_job_over at) jobs)) reply.NothingToSweep ∷ []

-- AddAlter, CancelAlter
abbrev pub add_alter_refusals : List ℕ → List ℕ → AlterDef → List (List ℕ) → List Table → List JobInfo → List (Option Reply)
add_alter_refusals db table def dbs tables jobs =
    refuse_if (not (has_db db dbs)) reply.UnknownDb ∷ refuse_if (is_none (table_named db table tables)) reply.UnknownTable ∷ busy_in (table_named db table tables) jobs ∷ refuse_if (nat_le most (length jobs)) reply.TooManyJobs
    ∷ refused_alter def (table_named db table tables) ∷ []

abbrev pub lacks_job : Option Table → JobKind → List JobInfo → Bool
lacks_job None kind jobs = true
lacks_job (Some t) kind jobs = is_none (job_of_kind t.number kind jobs)

abbrev pub cancel_alter_refusals : List ℕ → List ℕ → JobKind → List (List ℕ) → List Table → List JobInfo → List (Option Reply)
cancel_alter_refusals db table kind dbs tables jobs =
    refuse_if (not (has_db db dbs)) reply.UnknownDb ∷ refuse_if (is_none (table_named db table tables)) reply.UnknownTable ∷ refuse_if (lacks_job (table_named db table tables) kind jobs) reply.NoJob ∷ []

abbrev pub CancelledFor : Option Table → JobKind → List JobInfo → Reply → Type 0
CancelledFor None kind jobs r = ⊥
CancelledFor (Some t) kind jobs r = MatchOption (job_of_kind t.number kind jobs) ⊥ (λ (j : JobInfo). r ≡ reply.Cancelled j.job)

-- Advance
abbrev pub advance_refusals : Option JobInfo → List (Option Reply)
advance_refusals o = refuse_if (is_none o) reply.NothingToAdvance ∷ []

abbrev pub AdvancedFor : Option JobInfo → List Table → List Txn → Reply → Type 0
AdvancedFor None tables txns r = ⊥
AdvancedFor (Some j) tables txns r = r ≡ reply.Advanced j.job (moved_state j.state tables txns j)

-- Take
abbrev pub take_refusals : Option TaskName → List (Option Reply)
take_refusals o = refuse_if (is_none o) reply.NoTask ∷ []

-- the task has the next number, the map of its index, and lists that fold to the rows of its tablet as the job went to run
pub record IsTask (a : TaskName) (taken live : ℕ) (t : Table) (maps : List RowMap) (source : List (List Cell)) (task : Task) : Type 0 where
  pub number : task.number ≡ taken + 1
  pub born : task.born ≡ live
  pub job : task.job ≡ a.job
  pub index : task.index ≡ a.index
  pub part : task.part ≡ a.place.part
  pub bucket : task.bucket ≡ a.place.bucket
  pub made_by : nth a.index maps ≡ Some task.map
  pub shape : task.shape ≡ task.map.to
  pub base : task.source.base ≡ t.shape
  pub source_of_base : task.source.index ≡ t.shape
  pub lists : fold_of task.map.from (flat_map (λ l. l) (map (λ l. rowset_rows l.value) task.source.lists)) ≡ rows_at t.layout a.place source

abbrev pub TakenBy : (Task → Type 0) → Reply → Type 0
TakenBy P (reply.Taken task) = P task
TakenBy P _ = ⊥

abbrev pub TakenIn : TaskName → ℕ → ℕ → JobInfo → Option Table → (ℕ → List (List Cell)) → Reply → Type 0
TakenIn a taken live j None source r = ⊥
TakenIn a taken live j (Some t) source r = TakenBy (IsTask a taken live t (change_maps j.change t) (source t.number)) r

abbrev pub TakenOf : TaskName → ℕ → ℕ → Option JobInfo → List Table → (ℕ → List (List Cell)) → Reply → Type 0
TakenOf a taken live None tables source r = ⊥
TakenOf a taken live (Some j) tables source r = TakenIn a taken live j (table_at j.table tables) source r

abbrev pub TakenFor : Option TaskName → ℕ → ℕ → List JobInfo → List Table → (ℕ → List (List Cell)) → Reply → Type 0
TakenFor None taken live jobs tables source r = ⊥
TakenFor (Some a) taken live jobs tables source r = TakenOf a taken live (job_at a.job jobs) tables source r

-- Give
abbrev pub give_refusals : Piece → ℕ → List JobInfo → List TaskMark → List (Option Reply)
give_refusals piece live jobs tasks = refuse_if (not (nat_eq piece.born live)) (reply.Stale live) ∷ refuse_if (not (may_give piece jobs tasks)) (reply.TaskOver (job_state_of (job_at piece.job jobs))) ∷ []

-- Show
abbrev pub show_refusals : List ℕ → ShowWhat → List (List ℕ) → List Table → List Txn → List (Option Reply)
show_refusals db what dbs tables txns = refuse_if (not (has_db db dbs)) reply.UnknownDb ∷ shown_refusal db what tables txns ∷ []

-- Snapshot
abbrev pub snapshot_refusals : List ℕ → List ℕ → List (List ℕ) → List Table → List (Option Reply)
snapshot_refusals db table dbs tables = refuse_if (not (has_db db dbs)) reply.UnknownDb ∷ refuse_if (is_none (table_named db table tables)) reply.UnknownTable ∷ []

-- lists that fold to the rows of an index and are no more than what is stored of it
pub record ShowsIndex (x : Index) (base : List (List Cell)) (cost : ℕ) (lists : List (List (List Cell))) : Type 0 where
  pub rows : fold_of x.shape (flat_map (λ l. l) lists) ≡ indexed x base
  pub stored : length (flat_map (λ l. l) lists) ≤ cost

-- the number of the index that a query reads: the base, so far
abbrev pub picked : Table → Query → ℕ
picked t query = 0

abbrev pub Shows : Table → Index → List (List Cell) → ℕ → Reply → Type 0
Shows t x base cost (reply.Snap s) = (s.base ≡ t.shape) × (s.index ≡ x.shape) × ShowsIndex x base cost (map (λ l. rowset_rows l.value) s.lists)
Shows t x base cost _ = ⊥

abbrev pub ShownOf : Table → Option Index → List (List Cell) → ℕ → Reply → Type 0
ShownOf t None base cost r = ⊥
ShownOf t (Some x) base cost r = Shows t x base cost r

abbrev pub ShownFor : Option Table → Query → (ℕ → List (List Cell)) → (ℕ → ℕ → ℕ) → Reply → Type 0
ShownFor None query base cost r = ⊥
ShownFor (Some t) query base cost r = ShownOf t (index_at (picked t query) t) (base t.number) (cost t.number (picked t query)) r

abbrev pub Snaps : List ℕ → List ℕ → Query → List (List ℕ) → List Table → (ℕ → List (List Cell)) → (ℕ → ℕ → ℕ) → Reply → Type 0
Snaps db table query dbs tables base cost r = Answers (snapshot_refusals db table dbs tables) (ShownFor (table_named db table tables) query base cost) r

-- The reply answers the command after what happened.
abbrev pub Answer : List Event → Command → Reply → Type 0
Answer Es (command.CreateDb name if_not_exists) r = CreatesDb name if_not_exists (databases_of Es) r
Answer Es (command.CreateTable db table def if_not_exists) r = CreatesTable db table def if_not_exists (databases_of Es) (tables_of Es) r
Answer Es (command.Begin db table label two_phase at) r = Begins db table label (databases_of Es) (tables_of Es) (txns_of Es) (jobs_of Es) (next_of Es) r
Answer Es (command.Submit txn built at) r = Submits txn at (txns_of Es) (places_of Es) r
Answer Es (command.Publish at) r = Publishes (txns_of Es) r
Answer Es (command.Abort db txn at) r = Aborts db txn (databases_of Es) (txns_of Es) r
Answer Es (command.Snapshot db table query) r = Snaps db table query (databases_of Es) (tables_of Es) (base_of Es) (λ t index. cost_of (stored_of Es t index)) r
Answer Es (command.DropTable db table if_exists at) r = Answers (drop_table_refusals db table if_exists (databases_of Es) (tables_of Es)) (λ r. r ≡ reply.Done) r
Answer Es (command.AddPartition db table part) r = Answers (add_partition_refusals db table part (databases_of Es) (tables_of Es) (jobs_of Es)) (λ r. r ≡ reply.Done) r
Answer Es (command.Commit db txn at) r = Answers (commit_refusals at (has_db db (databases_of Es)) (txn_by db txn (txns_of Es))) (CommittedFor (txn_by db txn (txns_of Es)) (txns_of Es) (places_of Es)) r
Answer Es (command.Sweep at) r = Answers (sweep_refusals at (txns_of Es) (jobs_of Es)) (λ r. r ≡ reply.Swept (count_by (is_expired at) (txns_of Es)) (count_by (is_over at) (txns_of Es) + count_by (is_job_over at) (jobs_of Es))) r
Answer Es (command.AddAlter db table def at) r = Answers (add_alter_refusals db table def (databases_of Es) (tables_of Es) (jobs_of Es)) (λ r. r ≡ reply.Added (last_job_of Es + 1)) r
Answer Es (command.CancelAlter db table kind at) r = Answers (cancel_alter_refusals db table kind (databases_of Es) (tables_of Es) (jobs_of Es)) (CancelledFor (table_named db table (tables_of Es)) kind (jobs_of Es)) r
Answer Es (command.Advance at) r = Answers (advance_refusals (next_move (jobs_of Es) (tables_of Es) (txns_of Es) (tasks_of Es))) (AdvancedFor (next_move (jobs_of Es) (tables_of Es) (txns_of Es) (tasks_of Es)) (tables_of Es) (txns_of Es)) r
Answer Es command.Take r = Answers (take_refusals (next_task (jobs_of Es) (tables_of Es) (tasks_of Es))) (TakenFor (next_task (jobs_of Es) (tables_of Es) (tasks_of Es)) (taken_of Es) (live_of Es) (jobs_of Es) (tables_of Es) (source_of Es)) r
Answer Es (command.Show db what) r = Answers (show_refusals db what (databases_of Es) (tables_of Es) (txns_of Es)) (Reports (report Es db what)) r
Answer Es command.Restart r = Answers [] (λ r. r ≡ reply.Done) r
Answer Es (command.Give piece at) r = Answers (give_refusals piece (live_of Es) (jobs_of Es) (tasks_of Es)) (λ r. r ≡ reply.Given piece.job (given_state piece.result)) r

-- The refusals of a command after what happened, in their order.
abbrev pub refusals : List Event → Command → List (Option Reply)
refusals Es (command.CreateDb name if_not_exists) = create_db_refusals name if_not_exists (databases_of Es)
refusals Es (command.CreateTable db table def if_not_exists) = create_table_refusals db table def if_not_exists (databases_of Es) (tables_of Es)
refusals Es (command.Begin db table label two_phase at) = begin_refusals db table label (databases_of Es) (tables_of Es) (txns_of Es) (next_of Es)
refusals Es (command.Submit txn built at) = submit_refusals at (txn_at txn (txns_of Es))
refusals Es (command.Publish at) = publish_refusals (txns_of Es)
refusals Es (command.Abort db txn at) = abort_refusals (has_db db (databases_of Es)) (txn_by db txn (txns_of Es))
refusals Es (command.Snapshot db table query) = snapshot_refusals db table (databases_of Es) (tables_of Es)
refusals Es (command.DropTable db table if_exists at) = drop_table_refusals db table if_exists (databases_of Es) (tables_of Es)
refusals Es (command.AddPartition db table part) = add_partition_refusals db table part (databases_of Es) (tables_of Es) (jobs_of Es)
refusals Es (command.Commit db txn at) = commit_refusals at (has_db db (databases_of Es)) (txn_by db txn (txns_of Es))
refusals Es (command.Sweep at) = sweep_refusals at (txns_of Es) (jobs_of Es)
refusals Es (command.AddAlter db table def at) = add_alter_refusals db table def (databases_of Es) (tables_of Es) (jobs_of Es)
refusals Es (command.CancelAlter db table kind at) = cancel_alter_refusals db table kind (databases_of Es) (tables_of Es) (jobs_of Es)
refusals Es (command.Advance at) = advance_refusals (next_move (jobs_of Es) (tables_of Es) (txns_of Es) (tasks_of Es))
refusals Es command.Take = take_refusals (next_task (jobs_of Es) (tables_of Es) (tasks_of Es))
refusals Es (command.Show db what) = show_refusals db what (databases_of Es) (tables_of Es) (txns_of Es)
refusals Es command.Restart = []
refusals Es (command.Give piece at) = give_refusals piece (live_of Es) (jobs_of Es) (tasks_of Es)
