-- The texts of refusals (this project's own): the name of the refusal, and for each of its fields, in their order, a blank,
-- the field's name, `=` and its value.
use Rattle.std.specs.Prelude.{ℕ, List, [], ◌++◌, codes, decimal}
use Rattle.schema_models.specs.declared.shape_error.ShapeError.{ShapeError}
use Rattle.schema_models.specs.declared.shape_error.ShapeError.TheVariants as shape
use Rattle.partitions.specs.declared.layout_error.LayoutError.{LayoutError}
use Rattle.partitions.specs.declared.layout_error.LayoutError.TheVariants as layout
use Rattle.table_defs.specs.declared.def_error.DefError.{DefError}
use Rattle.table_defs.specs.declared.def_error.DefError.TheVariants as def
use Rattle.row_map.specs.declared.admit_error.AdmitError.{AdmitError}
use Rattle.row_map.specs.declared.admit_error.AdmitError.TheVariants as admit
use Rattle.front_defs.specs.declared.alter_error.AlterError.{AlterError}
use Rattle.front_defs.specs.declared.alter_error.AlterError.TheVariants as alter
use Rattle.front_defs.specs.declared.reply.Reply.{Reply}
use Rattle.front_defs.specs.declared.reply.Reply.TheVariants as reply
use Rattle.front_defs.specs.Words.{job_state_text, state_text}

-- of columns that make no shape; a column is told by its position from 0
abbrev pub shape_text : ShapeError → List ℕ
shape_text (shape.TooManyColumns limit) = codes "TooManyColumns limit=" ++ decimal limit
shape_text (shape.BadName column) = codes "BadName column=" ++ decimal column
shape_text (shape.DoubleName column) = codes "DoubleName column=" ++ decimal column
shape_text (shape.BadType column) = codes "BadType column=" ++ decimal column
shape_text (shape.NoKey column) = codes "NoKey column=" ++ decimal column
shape_text (shape.KeyAfterValue column) = codes "KeyAfterValue column=" ++ decimal column
shape_text (shape.BadAgg column) = codes "BadAgg column=" ++ decimal column
shape_text (shape.BadDefault column) = codes "BadDefault column=" ++ decimal column

-- of a layout; a column and a partition are told by their names
abbrev pub layout_text : LayoutError → List ℕ
layout_text layout.NotPartitioned = codes "NotPartitioned"
layout_text (layout.NoColumn column) = codes "NoColumn column=" ++ column
layout_text (layout.NotAKey column) = codes "NotAKey column=" ++ column
layout_text layout.BadBuckets = codes "BadBuckets"
layout_text (layout.BadBound partition) = codes "BadBound partition=" ++ partition
layout_text (layout.BadName partition) = codes "BadName partition=" ++ partition
layout_text (layout.DoubleName partition) = codes "DoubleName partition=" ++ partition
layout_text (layout.Overlap partition) = codes "Overlap partition=" ++ partition
layout_text layout.TooManyPartitions = codes "TooManyPartitions"
layout_text layout.NoMemory = codes "NoMemory"

-- of a table's definition
abbrev pub def_text : DefError → List ℕ
def_text (def.Shape error) = shape_text error
def_text (def.Layout error) = layout_text error
def_text def.BadProperty = codes "BadProperty"
def_text def.NoMemory = codes "NoMemory"

-- of a map; a column is told by its name
abbrev pub admit_text : AdmitError → List ℕ
admit_text (admit.NoColumn column) = codes "NoColumn column=" ++ column
admit_text (admit.BadCast column) = codes "BadCast column=" ++ column
admit_text (admit.SumType column) = codes "SumType column=" ++ column
admit_text (admit.NeedsMonotone column) = codes "NeedsMonotone column=" ++ column
admit_text (admit.NeedsOneToOne column) = codes "NeedsOneToOne column=" ++ column
admit_text (admit.SumDefault column) = codes "SumDefault column=" ++ column
admit_text (admit.NeedsKey column) = codes "NeedsKey column=" ++ column

-- of an alteration
abbrev pub alter_text : AlterError → List ℕ
alter_text (alter.NoColumn column) = codes "NoColumn column=" ++ column
alter_text (alter.Shape error) = shape_text error
alter_text (alter.Map error) = admit_text error

-- of a reply; none where what was asked is done
abbrev pub refusal_text : Reply → List ℕ
refusal_text reply.Done = []
refusal_text (reply.Begun txn plan) = []
refusal_text (reply.Submitted placed) = []
refusal_text (reply.Published txn place) = []
refusal_text (reply.Committed txn place ahead) = []
refusal_text (reply.Aborted txn) = []
refusal_text (reply.Swept aborted cleaned) = []
refusal_text (reply.Snap snapshot) = []
refusal_text (reply.Shown report) = []
refusal_text (reply.Added job) = []
refusal_text (reply.Cancelled job) = []
refusal_text (reply.Advanced job state) = []
refusal_text (reply.Taken task) = []
refusal_text (reply.Given job state) = []
refusal_text reply.BadName = codes "BadName"
refusal_text reply.DbExists = codes "DbExists"
refusal_text reply.TooManyDbs = codes "TooManyDbs"
refusal_text reply.UnknownDb = codes "UnknownDb"
refusal_text reply.TableExists = codes "TableExists"
refusal_text reply.TooManyTables = codes "TooManyTables"
refusal_text (reply.BadTable error) = def_text error
refusal_text reply.UnknownTable = codes "UnknownTable"
refusal_text (reply.BadPartition error) = layout_text error
refusal_text reply.BadLabel = codes "BadLabel"
refusal_text (reply.Used txn state) = codes "Used txn=" ++ decimal txn ++ codes " state=" ++ state_text state
refusal_text reply.NoSuchTxn = codes "NoSuchTxn"
refusal_text (reply.WrongState state) = codes "WrongState state=" ++ state_text state
refusal_text (reply.Expired since) = codes "Expired since=" ++ decimal since
refusal_text reply.NothingToPublish = codes "NothingToPublish"
refusal_text reply.NothingToSweep = codes "NothingToSweep"
refusal_text (reply.Busy job) = codes "Busy job=" ++ decimal job
refusal_text reply.TooManyJobs = codes "TooManyJobs"
refusal_text reply.TooManyRollups = codes "TooManyRollups"
refusal_text reply.DoubleName = codes "DoubleName"
refusal_text (reply.BadAlter error) = alter_text error
refusal_text reply.NoJob = codes "NoJob"
refusal_text reply.NothingToAdvance = codes "NothingToAdvance"
refusal_text reply.NoTask = codes "NoTask"
refusal_text (reply.Stale live) = codes "Stale live=" ++ decimal live
refusal_text (reply.TaskOver state) = codes "TaskOver state=" ++ job_state_text state
refusal_text reply.KeeperFault = codes "KeeperFault"
refusal_text (reply.BadJournal seq) = codes "BadJournal seq=" ++ decimal seq
refusal_text reply.NoMemory = codes "NoMemory"
