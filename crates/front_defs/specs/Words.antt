-- The words for states, kinds and types in reports (Apache Doris documentation, "SHOW TRANSACTION", "SHOW ALTER TABLE", "DESC", "Data Types").
use Rattle.std.specs.Prelude.{ℕ, Bool, true, false, List, [], ◌∷◌, ◌++◌, codes, decimal}
use Rattle.std.specs.List.{flat_map}
use Rattle.labels.specs.declared.txn_state.TxnState.{TxnState}
use Rattle.labels.specs.declared.txn_state.TxnState.TheVariants as state
use Rattle.dl_values.specs.Write.{cell_text}
use Rattle.dl_values.specs.declared.agg_kind.AggKind.{AggKind}
use Rattle.dl_values.specs.declared.agg_kind.AggKind.TheVariants as agg
use Rattle.dl_values.specs.declared.cell.Cell.{Cell}
use Rattle.dl_values.specs.declared.col_type.ColType.{ColType}
use Rattle.dl_values.specs.declared.col_type.ColType.TheVariants as kind
use Rattle.schema_models.specs.declared.role.Role.{Role}
use Rattle.schema_models.specs.declared.role.Role.TheVariants as role
use Rattle.alter_core.specs.declared.job.Cause.{Cause}
use Rattle.alter_core.specs.declared.job.Cause.TheVariants as cause
use Rattle.alter_core.specs.declared.job.JobState.{JobState}
use Rattle.alter_core.specs.declared.job.JobState.TheVariants as job_state

-- a state of a transaction
abbrev pub state_text : TxnState → List ℕ
state_text state.Prepare = codes "PREPARE"
state_text state.Precommitted = codes "PRECOMMITTED"
state_text state.Committed = codes "COMMITTED"
state_text state.Visible = codes "VISIBLE"
state_text state.Aborted = codes "ABORTED"

-- a state of a job
abbrev pub job_state_text : JobState → List ℕ
job_state_text job_state.Pending = codes "PENDING"
job_state_text job_state.WaitingTxn = codes "WAITING_TXN"
job_state_text job_state.Running = codes "RUNNING"
job_state_text job_state.Finished = codes "FINISHED"
job_state_text job_state.Cancelled = codes "CANCELLED"

-- a type as a statement writes it
abbrev pub type_text : ColType → List ℕ
type_text kind.TinyInt = codes "TINYINT"
type_text kind.SmallInt = codes "SMALLINT"
type_text kind.Int = codes "INT"
type_text kind.BigInt = codes "BIGINT"
type_text kind.Date = codes "DATE"
type_text (kind.Varchar most) = codes "VARCHAR(" ++ decimal most ++ codes ")"

-- a kind of aggregation, and what a column has beside its type: its kind, or nothing
abbrev pub agg_text : AggKind → List ℕ
agg_text agg.Sum = codes "SUM"
agg_text agg.Min = codes "MIN"
agg_text agg.Max = codes "MAX"
agg_text agg.Replace = codes "REPLACE"
agg_text agg.ReplaceIfNotNull = codes "REPLACE_IF_NOT_NULL"

abbrev pub extra_text : Role → List ℕ
extra_text role.Key = []
extra_text role.Plain = []
extra_text (role.Agg k) = agg_text k

abbrev pub yes_text : Bool → List ℕ
yes_text true = codes "Yes"
yes_text false = codes "No"

abbrev pub true_text : Bool → List ℕ
true_text true = codes "true"
true_text false = codes "false"

-- the cells of a row, with tabs between them
abbrev pub row_text : List Cell → List ℕ
row_text [] = []
row_text (x ∷ xs) = cell_text x ++ flat_map (λ y. 9 ∷ cell_text y) xs

-- why a job was cancelled
abbrev pub cause_text : Cause → List ℕ
cause_text cause.Command = codes "Command"
cause_text cause.Drop = codes "Drop"
cause_text (cause.Data column row) = codes "Data column=" ++ column ++ codes " row=" ++ row_text row
cause_text (cause.Load txn) = codes "Load txn=" ++ decimal txn
