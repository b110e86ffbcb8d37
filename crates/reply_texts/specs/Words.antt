-- The word for the job of a load (Apache Doris documentation, "Stream Load"). Those for states and types are the words of reports.
use Rattle.std.specs.Prelude.{ℕ, List, codes}
use Rattle.labels.specs.declared.txn_state.TxnState.{TxnState}
use Rattle.labels.specs.declared.txn_state.TxnState.TheVariants as state

-- the state of the job of a load, by the state of its transaction
abbrev pub job_text : TxnState → List ℕ
job_text state.Prepare = codes "RUNNING"
job_text state.Precommitted = codes "PRECOMMITTED"
job_text state.Committed = codes "FINISHED"
job_text state.Visible = codes "FINISHED"
job_text state.Aborted = codes "CANCELLED"
