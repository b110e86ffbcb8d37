-- What a history made happen: a list of events, the newest first.
use Rattle.std.specs.Prelude.{ℕ, ◌+◌, Bool, true, false, cond, ◌||◌, List, [], ◌∷◌, ◌++◌, Option, Some, None, is_some, nat_lt}
use Rattle.dl_values.specs.declared.cell.Cell.{Cell}
use Rattle.front_defs.specs.declared.event.Event.{Event}
use Rattle.front_defs.specs.declared.event.Event.TheVariants as event
use Rattle.front_defs.specs.declared.catalogue.Table.{Table}
use Rattle.front_defs.specs.declared.txn.Txn.{Txn}
use Rattle.std.specs.List.{list_any}
use Rattle.partitions.specs.Ranges.{with_range}
use Rattle.table_defs.specs.Columns.{shape_of}
use Rattle.table_defs.specs.Defined.{layout_of}
use Rattle.table_defs.specs.Parts.{part_of}
use Rattle.sql_text.specs.declared.part.Part.{Part}
use Rattle.front_defs.specs.declared.command.Command.{Command}
use Rattle.front_defs.specs.declared.command.Command.TheVariants as command
use Rattle.front_defs.specs.declared.reply.Reply.{Reply}
use Rattle.front_defs.specs.declared.reply.Reply.TheVariants as reply
use Rattle.front_defs.specs.declared.history.Entry.{Entry}
use Rattle.front_defs.specs.declared.history.Entry.TheVariants.{Told, Made}
use Rattle.front_defs.specs.Ids.{range_of, next_of, range_size}
use Rattle.front_defs.specs.Catalogue.{has_db, table_at, table_named, databases_of, tables_of}
use Rattle.front_defs.specs.Transactions.{sweeps_told, txn_at, txn_by, due, txns_of}
use Rattle.schema_models.specs.Faults.{first_of}
use Rattle.front_defs.specs.Answer.{label_for, refusals}
use Rattle.alter_core.specs.declared.job.Cause.TheVariants as cause
use Rattle.alter_core.specs.declared.job.Change.{Change}
use Rattle.alter_core.specs.declared.job.JobInfo.{JobInfo}
use Rattle.alter_core.specs.declared.job.JobKind.{JobKind}
use Rattle.history_convert.specs.declared.task.Piece.{Piece}
use Rattle.history_convert.specs.declared.task.PieceResult.{PieceResult}
use Rattle.history_convert.specs.declared.task.PieceResult.TheVariants as piece_result
use Rattle.front_defs.specs.Jobs.{TaskName, is_job_over, jobs_of, last_job_of, tasks_of}
use Rattle.front_defs.specs.Indexes.{spoiled_by}
use Rattle.front_defs.specs.Moves.{moved, next_move, next_task}
use Rattle.front_defs.specs.Alters.{change_by, job_of_kind}

-- the events that a record tells
abbrev pub is_told : Event → Bool
is_told (event.DbMade d) = true
is_told (event.TableMade m) = true
is_told (event.RangeDrawn r) = true
is_told (event.LoadSubmitted s) = true
is_told (event.TxnAborted a) = true
is_told (event.LoadPublished p) = true
is_told (event.PartAdded a) = true
is_told (event.TableDropped d) = true
is_told (event.LoadCommitted c) = true
is_told (event.Swept s) = true
is_told (event.JobAdded a) = true
is_told (event.JobWaiting w) = true
is_told (event.JobFinished f) = true
is_told (event.JobCancelled c) = true
is_told (event.TxnBegun b) = false
is_told (event.TxnEnded x) = false
is_told (event.SweptUntold s) = false
is_told (event.Compacted c) = false
is_told (event.WatershedDrawn w) = false
is_told (event.JobRan r) = false
is_told (event.TaskTaken t) = false
is_told (event.TaskGiven g) = false
is_told event.Opened = false

-- The records of what happened, by kind: each tells its event behind those before it, and what no record tells leaves none.
abbrev pub recorded : Event → List Event → List Event
recorded (event.DbMade d) Js = event.DbMade d ∷ Js
recorded (event.TableMade m) Js = event.TableMade m ∷ Js
recorded (event.RangeDrawn r) Js = event.RangeDrawn r ∷ Js
recorded (event.LoadSubmitted s) Js = event.LoadSubmitted s ∷ Js
recorded (event.TxnAborted a) Js = event.TxnAborted a ∷ Js
recorded (event.LoadPublished p) Js = event.LoadPublished p ∷ Js
recorded (event.PartAdded a) Js = event.PartAdded a ∷ Js
recorded (event.TableDropped d) Js = event.TableDropped d ∷ Js
recorded (event.LoadCommitted c) Js = event.LoadCommitted c ∷ Js
recorded (event.Swept s) Js = event.Swept s ∷ Js
recorded (event.JobAdded a) Js = event.JobAdded a ∷ Js
recorded (event.JobWaiting w) Js = event.JobWaiting w ∷ Js
recorded (event.JobFinished f) Js = event.JobFinished f ∷ Js
recorded (event.JobCancelled c) Js = event.JobCancelled c ∷ Js
recorded (event.TxnBegun b) Js = Js
recorded (event.TxnEnded x) Js = Js
recorded (event.SweptUntold s) Js = Js
recorded (event.Compacted c) Js = Js
recorded (event.WatershedDrawn w) Js = Js
recorded (event.JobRan r) Js = Js
recorded (event.TaskTaken t) Js = Js
recorded (event.TaskGiven g) Js = Js
recorded event.Opened Js = Js

abbrev pub journal : List Event → List Event
journal [] = []
journal (e ∷ Es) = recorded e (journal Es)

-- a thousand numbers more, where the last range is used up
abbrev pub new_range : List Event → List Event
new_range Es = cond (nat_lt (range_of Es) (next_of Es)) (event.RangeDrawn (record { upto = range_of Es + range_size }) ∷ []) []

-- a load of that table begins
abbrev pub begins : ℕ → Option (List ℕ) → Bool → ℕ → Option Table → List Event
begins next label two_phase at None = []
begins next label two_phase at (Some t) = event.TxnBegun (record { txn = next; db = t.db; table = t.number; label = label_for label next; two_phase = two_phase; schema = t.schema; at = at }) ∷ []

abbrev pub submits : List (List Cell) → ℕ → List Table → List JobInfo → Option Txn → List Event
submits rows at tables jobs None = []
submits rows at tables jobs (Some t) = event.LoadSubmitted (record { txn = t.id; table = t.table; label = t.label; at = at; two_phase = t.two_phase; schema = t.schema; cancelled = spoiled_by jobs (table_at t.table tables) rows; rows = rows }) ∷ []

-- an abort is told where the load was
abbrev pub aborts : ℕ → Option Txn → List Event
aborts at None = []
aborts at (Some t) = cond t.told (event.TxnAborted (record { txn = t.id; at = at })) (event.TxnEnded (record { txn = t.id; at = at })) ∷ []

abbrev pub publishes : ℕ → Option Txn → List Event
publishes at None = []
publishes at (Some t) = event.LoadPublished (record { txn = t.id; at = at }) ∷ []

abbrev pub drops : ℕ → Option Table → List Event
drops at None = []
drops at (Some t) = event.TableDropped (record { table = t.number; at = at }) ∷ []

abbrev pub adds_part : Part → Option Table → List Event
adds_part part None = []
adds_part part (Some t) = event.PartAdded (record { table = t.number; part = with_range t.layout.parts (part_of t.layout.kind part) }) ∷ []

abbrev pub commits : ℕ → List Table → List JobInfo → Option Txn → List Event
commits at tables jobs None = []
commits at tables jobs (Some t) = event.LoadCommitted (record { txn = t.id; at = at; cancelled = spoiled_by jobs (table_at t.table tables) t.rows }) ∷ []

-- a sweep is told where it changes what a record tells
abbrev pub swept_by : ℕ → Bool → List Event
swept_by at true = event.Swept (record { at = at }) ∷ []
swept_by at false = event.SweptUntold (record { at = at }) ∷ []

abbrev pub adds_job : Change → ℕ → ℕ → Option Table → List Event
adds_job change at last None = []
adds_job change at last (Some t) = event.JobAdded (record { job = last + 1; table = t.number; at = at; change = change }) ∷ []

abbrev pub cancels_job : ℕ → Option JobInfo → List Event
cancels_job at None = []
cancels_job at (Some j) = event.JobCancelled (record { job = j.job; at = at; cause = cause.Command }) ∷ []

abbrev pub cancels : ℕ → JobKind → List JobInfo → Option Table → List Event
cancels at kind jobs None = []
cancels at kind jobs (Some t) = cancels_job at (job_of_kind t.number kind jobs)

abbrev pub takes : Option TaskName → List Event
takes None = []
takes (Some a) = event.TaskTaken (record { job = a.job; index = a.index; part = a.place.part; bucket = a.place.bucket }) ∷ []

-- a fault cancels the job of its task
abbrev pub gives : Piece → ℕ → PieceResult → List Event
gives piece at (piece_result.Rows rows) = event.TaskGiven (record { number = piece.number; back = false }) ∷ []
gives piece at (piece_result.Fault row column) = event.JobCancelled (record { job = piece.job; at = at; cause = cause.Data column row }) ∷ []
gives piece at piece_result.Back = event.TaskGiven (record { number = piece.number; back = true }) ∷ []

-- What a command makes happen that is answered well, the last of it first. A name that is there already stays as it is.
abbrev pub acted : List Event → Command → List Event
acted Es (command.CreateDb name if_not_exists) = cond (has_db name (databases_of Es)) [] (event.DbMade (record { name = name }) ∷ [])
acted Es (command.CreateTable db table def if_not_exists) = cond (is_some (table_named db table (tables_of Es))) [] (event.TableMade (record { db = db; name = table; shape = shape_of def; layout = layout_of table def }) ∷ [])
acted Es (command.Begin db table label two_phase at) = begins (next_of Es) label two_phase at (table_named db table (tables_of Es)) ++ new_range Es
acted Es (command.Submit txn built at) = submits built.rows at (tables_of Es) (jobs_of Es) (txn_at txn (txns_of Es))
acted Es (command.Publish at) = publishes at (due (txns_of Es))
acted Es (command.Abort db txn at) = aborts at (txn_by db txn (txns_of Es))
acted Es (command.Snapshot db table query) = []
acted Es (command.DropTable db table if_exists at) = drops at (table_named db table (tables_of Es))
acted Es (command.AddPartition db table part) = adds_part part (table_named db table (tables_of Es))
acted Es (command.Commit db txn at) = commits at (tables_of Es) (jobs_of Es) (txn_by db txn (txns_of Es))
acted Es (command.Sweep at) = swept_by at (list_any (sweeps_told at) (txns_of Es) || list_any (is_job_over at) (jobs_of Es))
acted Es (command.AddAlter db table def at) = adds_job (change_by def) at (last_job_of Es) (table_named db table (tables_of Es))
acted Es (command.CancelAlter db table kind at) = cancels at kind (jobs_of Es) (table_named db table (tables_of Es))
acted Es (command.Advance at) = moved at (next_of Es) (range_of Es) (tables_of Es) (txns_of Es) (next_move (jobs_of Es) (tables_of Es) (txns_of Es) (tasks_of Es))
acted Es command.Take = takes (next_task (jobs_of Es) (tables_of Es) (tasks_of Es))
acted Es (command.Give piece at) = gives piece at piece.result
acted Es (command.Show db what) = []
acted Es command.Restart = []

-- how a call went
pub data Outcome : Type 0 where
  Well : Outcome
  Refused : Outcome
  Faulted : Outcome

abbrev pub outcome : Reply → Outcome
outcome reply.Done = Well
outcome (reply.Begun txn plan) = Well
outcome (reply.Submitted placed) = Well
outcome (reply.Published txn place) = Well
outcome (reply.Aborted txn) = Well
outcome (reply.Committed txn place ahead) = Well
outcome (reply.Swept aborted cleaned) = Well
outcome (reply.Snap snapshot) = Well
outcome (reply.Shown report) = Well
outcome (reply.Added job) = Well
outcome (reply.Cancelled job) = Well
outcome (reply.Advanced job state) = Well
outcome (reply.Taken task) = Well
outcome (reply.Given job state) = Well
outcome reply.BadName = Refused
outcome reply.DbExists = Refused
outcome reply.TooManyDbs = Refused
outcome reply.UnknownDb = Refused
outcome reply.TableExists = Refused
outcome reply.TooManyTables = Refused
outcome (reply.BadTable error) = Refused
outcome reply.UnknownTable = Refused
outcome reply.BadLabel = Refused
outcome (reply.Used txn state) = Refused
outcome reply.NoSuchTxn = Refused
outcome (reply.WrongState state) = Refused
outcome (reply.Expired since) = Refused
outcome reply.NothingToPublish = Refused
outcome (reply.BadPartition error) = Refused
outcome reply.NothingToSweep = Refused
outcome (reply.Busy job) = Refused
outcome reply.TooManyJobs = Refused
outcome reply.TooManyRollups = Refused
outcome reply.DoubleName = Refused
outcome (reply.BadAlter error) = Refused
outcome reply.NoJob = Refused
outcome reply.NothingToAdvance = Refused
outcome reply.NoTask = Refused
outcome (reply.Stale live) = Refused
outcome (reply.TaskOver state) = Refused
outcome reply.KeeperFault = Faulted
outcome (reply.BadJournal seq) = Refused
outcome reply.NoMemory = Refused

-- What goes with an answer of which nothing else is told: what was asked for where it is answered well, and nothing with a refusal.
abbrev pub done_by : Outcome → List Event → List Event
done_by Well Es = Es
done_by Refused Es = []
done_by Faulted Es = []

-- What a command would make happen now, whatever the answer: what goes with its first refusal, or what was asked for.
abbrev pub would_by : Option Reply → List Event → List Event
would_by None Es = Es
would_by (Some r) Es = done_by (outcome r) Es

abbrev pub would : List Event → Command → List Event
would Es c = would_by (first_of (refusals Es c)) (acted Es c)

-- A call has the effect that goes with its answer. Where the keeper failed and the record reached it all the same, it has the effect that the record tells.
abbrev pub effect_of : Outcome → Bool → List Event → List Event → List Event
effect_of Well took done kept = done
effect_of Refused took done kept = []
effect_of Faulted took done kept = cond took kept []

abbrev pub effect : List Event → Command → Reply → Bool → List Event
effect Es c r took = effect_of (outcome r) took (acted Es c) (journal (would Es c))

-- its own opening comes first
abbrev pub opening : Bool → List Event → List Event
opening opened Es = cond opened (event.Opened ∷ Es) Es

-- what a history made happen
abbrev pub happened : List Entry → List Event
happened [] = []
happened (Told e ∷ H) = e ∷ happened H
happened (Made c ∷ H) = effect (opening c.opened (happened H)) c.command c.reply c.took ++ opening c.opened (happened H)

-- the commands that open the service again
abbrev pub restarts : Command → Bool
restarts (command.CreateDb name if_not_exists) = false
restarts (command.CreateTable db table def if_not_exists) = false
restarts (command.DropTable db table if_exists at) = false
restarts (command.AddPartition db table part) = false
restarts (command.Begin db table label two_phase at) = false
restarts (command.Submit txn built at) = false
restarts (command.Publish at) = false
restarts (command.Commit db txn at) = false
restarts (command.Abort db txn at) = false
restarts (command.Sweep at) = false
restarts (command.AddAlter db table change at) = false
restarts (command.CancelAlter db table kind at) = false
restarts (command.Advance at) = false
restarts command.Take = false
restarts (command.Give piece at) = false
restarts (command.Snapshot db table query) = false
restarts (command.Show db what) = false
restarts command.Restart = true

-- the keeper failed, and no later step opened and met no fault
abbrev pub broken_after : Outcome → Bool → Bool → Bool
broken_after Faulted opened broken = true
broken_after _ opened broken = cond opened false broken

abbrev pub broken_of : List Entry → Bool
broken_of [] = false
broken_of (Told e ∷ H) = broken_of H
broken_of (Made c ∷ H) = broken_after (outcome c.reply) c.opened (broken_of H)

-- the keeper's count of faults as the last call ended
abbrev pub last_faults : List Entry → Option ℕ
last_faults [] = None
last_faults (Told e ∷ H) = last_faults H
last_faults (Made c ∷ H) = Some c.faults_out
