-- What an alteration asks for, and what is wrong with it; what a task may be given.
use Rattle.std.specs.Prelude.{ℕ, Bool, false, not, ◌&&◌, ◌||◌, List, [], ◌∷◌, Option, Some, None, find, length, nat_eq, nat_le}
use Rattle.std.specs.Option.{option_map}
use Rattle.std.specs.List.{list_any}
use Rattle.schema_models.specs.Faults.{first_of, refuse_if}
use Rattle.schema_models.specs.Names.{is_name}
use Rattle.schema_models.specs.ShapeRules.{shape_fault}
use Rattle.schema_models.specs.ShapeView.{ShapeView}
use Rattle.schema_models.specs.declared.column_def.ColumnDef.{ColumnDef}
use Rattle.row_map.specs.Maps.{lacking_key, rollup_shape, unknown_column}
use Rattle.row_map.specs.declared.admit_error.AdmitError.TheVariants as admit_errors
use Rattle.front_defs.specs.declared.alter_error.AlterError.{AlterError}
use Rattle.front_defs.specs.declared.alter_error.AlterError.TheVariants as alter_error
use Rattle.alter_core.specs.declared.job.Change.{Change}
use Rattle.alter_core.specs.declared.job.Change.TheVariants as change
use Rattle.alter_core.specs.declared.job.JobInfo.{JobInfo}
use Rattle.alter_core.specs.declared.job.JobKind.{JobKind}
use Rattle.alter_core.specs.declared.job.JobState.{JobState}
use Rattle.alter_core.specs.declared.job.JobState.TheVariants as job_state
use Rattle.history_convert.specs.declared.task.Piece.{Piece}
use Rattle.history_convert.specs.declared.task.PieceResult.{PieceResult}
use Rattle.history_convert.specs.declared.task.PieceResult.TheVariants as piece_result
use Rattle.front_defs.specs.declared.catalogue.Table.{Table}
use Rattle.front_defs.specs.declared.catalogue.Rollup.{Rollup}
use Rattle.front_defs.specs.declared.command.AlterDef.{AlterDef}
use Rattle.front_defs.specs.declared.command.AlterDef.TheVariants as alter
use Rattle.front_defs.specs.declared.reply.Reply.{Reply}
use Rattle.front_defs.specs.declared.reply.Reply.TheVariants as reply
use Rattle.front_defs.specs.Names.{same}
use Rattle.front_defs.specs.Jobs.{TaskMark, is_live_of, is_running, is_taken, job_at, kind_of, same_kind}

-- what an alteration changes
abbrev pub change_by : AlterDef → Change
change_by (alter.Rollup name columns) = change.Rollup name columns

-- the first thing that is wrong with the columns of a rollup
abbrev pub roll_faults : ShapeView → List (List ℕ) → List (Option AlterError)
roll_faults s columns =
    option_map alter_error.NoColumn (unknown_column s columns) ∷ option_map alter_error.Shape (shape_fault s.model (rollup_shape s columns).columns)
    ∷ option_map (λ (c : ColumnDef). alter_error.Map (admit_errors.NeedsKey c.name)) (lacking_key s columns) ∷ []

abbrev pub roll_fault : ShapeView → List (List ℕ) → Option AlterError
roll_fault s columns = first_of (roll_faults s columns)

-- the table or one of its rollups has the name
abbrev pub has_index_name : List ℕ → Table → Bool
has_index_name name t = same t.name name || list_any (λ (r : Rollup). same r.name name) t.rollups

-- at most so many rollups of a table
abbrev pub most_rollups : ℕ
most_rollups = 16

abbrev pub rollup_refusals : List ℕ → List (List ℕ) → Table → List (Option Reply)
rollup_refusals name columns t =
    refuse_if (nat_le most_rollups (length t.rollups)) reply.TooManyRollups ∷ refuse_if (not (is_name name)) reply.BadName ∷ refuse_if (has_index_name name t) reply.DoubleName
    ∷ option_map reply.BadAlter (roll_fault t.shape columns) ∷ []

abbrev pub change_refusal : Change → Table → Option Reply
change_refusal (change.Rollup name columns) t = first_of (rollup_refusals name columns t)

abbrev pub refused_alter : AlterDef → Option Table → Option Reply
refused_alter def None = None
refused_alter def (Some t) = change_refusal (change_by def) t

-- the live job of a table, where it is of that kind
abbrev pub job_of_kind : ℕ → JobKind → List JobInfo → Option JobInfo
job_of_kind table kind jobs = find (λ (j : JobInfo). is_live_of table j && same_kind (kind_of j.change) kind) jobs

-- the state of a job; one that is no longer kept counts as cancelled
abbrev pub job_state_of : Option JobInfo → JobState
job_state_of None = job_state.Cancelled
job_state_of (Some j) = j.state

-- a task may be given while its job runs and it was not given before
abbrev pub runs_in : Option JobInfo → Bool
runs_in None = false
runs_in (Some j) = is_running j.state

abbrev pub may_give : Piece → List JobInfo → List TaskMark → Bool
may_give piece jobs tasks = runs_in (job_at piece.job jobs) && list_any (λ (x : TaskMark). nat_eq x.number piece.number && nat_eq x.name.job piece.job && is_taken x.held) tasks

abbrev pub given_state : PieceResult → JobState
given_state (piece_result.Rows rows) = job_state.Running
given_state (piece_result.Fault row column) = job_state.Cancelled
given_state piece_result.Back = job_state.Running
