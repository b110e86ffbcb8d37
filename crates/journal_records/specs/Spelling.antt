-- The one spelling of each record in bytes (this project's own, format 1).
use Rattle.std.specs.Prelude.{ℕ, ℤ, Bool, true, false, List, [], ◌∷◌, ◌++◌, length, Option, Some, None}
use Rattle.std.specs.List.{flat_map}
use Rattle.std.specs.Int.{w32, w64, to_be_bytes, cast_unsigned}
use Rattle.dl_values.specs.declared.cell.Cell.{Cell}
use Rattle.dl_values.specs.declared.cell.Cell.TheVariants as cells
use Rattle.dl_values.specs.declared.agg_kind.AggKind.TheVariants as merging
use Rattle.dl_values.specs.declared.col_type.ColType.{ColType}
use Rattle.dl_values.specs.declared.col_type.ColType.TheVariants as types
use Rattle.schema_models.specs.declared.column_def.ColumnDef.{ColumnDef}
use Rattle.schema_models.specs.declared.model.Model.{Model}
use Rattle.schema_models.specs.declared.model.Model.TheVariants as models
use Rattle.schema_models.specs.declared.role.Role.{Role}
use Rattle.schema_models.specs.declared.role.Role.TheVariants as roles
use Rattle.journal_records.specs.declared.change.Change.{Change}
use Rattle.journal_records.specs.declared.change.Change.TheVariants as changes
use Rattle.journal_records.specs.declared.layout_def.LayoutDef.{LayoutDef}
use Rattle.journal_records.specs.declared.new_job.NewJob.{NewJob}
use Rattle.journal_records.specs.declared.new_table.NewTable.{NewTable}
use Rattle.journal_records.specs.declared.origin.Origin.{Origin}
use Rattle.journal_records.specs.declared.origin.Origin.TheVariants as origins
use Rattle.journal_records.specs.declared.part.Part.{Part}
use Rattle.journal_records.specs.declared.rollup_def.RollupDef.{RollupDef}
use Rattle.journal_records.specs.declared.schema_def.SchemaDef.{SchemaDef}
use Rattle.journal_records.specs.declared.shape_def.ShapeDef.{ShapeDef}
use Rattle.journal_records.specs.declared.cause.Cause.{Cause}
use Rattle.journal_records.specs.declared.cause.Cause.TheVariants as causes
use Rattle.journal_records.specs.declared.load.Load.{Load}
use Rattle.journal_records.specs.declared.new_part.NewPart.{NewPart}
use Rattle.journal_records.specs.declared.record.Record.{Record}
use Rattle.journal_records.specs.declared.record.Record.TheVariants as kind

-- ---- fields

-- numbers of four and of eight bytes, the highest byte first
abbrev pub number32 : ℕ → List ℕ
number32 n = to_be_bytes w32 n

unfoldable pub number64 : ℕ → List ℕ
number64 n = to_be_bytes w64 n

-- an integer, as its two's complement of 64 bits
abbrev pub integer : ℤ → List ℕ
integer z = number64 (cast_unsigned w64 z)

-- a text behind its length
unfoldable pub text : List ℕ → List ℕ
text t = number32 (length t) ++ t

abbrev pub flag : Bool → List ℕ
flag false = 0 ∷ []
flag true = 1 ∷ []

-- 0, or 1 and the member
abbrev pub optional : {A : Type 0} → (A → List ℕ) → Option A → List ℕ
optional w None = 0 ∷ []
optional w (Some x) = 1 ∷ w x

-- the members behind their count
abbrev pub listed : {A : Type 0} → (A → List ℕ) → List A → List ℕ
listed w xs = number32 (length xs) ++ flat_map w xs

-- ---- parts of records

abbrev pub cell : Cell → List ℕ
cell cells.Null = 0 ∷ []
cell (cells.Int z) = 1 ∷ integer z
cell (cells.Day d) = 2 ∷ number32 d
cell (cells.Text t) = 3 ∷ text t

abbrev pub row : List Cell → List ℕ
row xs = listed cell xs

unfoldable pub rows : List (List Cell) → List ℕ
rows xs = listed row xs

unfoldable pub load : Load → List ℕ
load l = number64 l.txn ++ (number64 l.table ++ (text l.label ++ (number64 l.at ++ (flag l.two_phase ++ (number64 l.schema ++ (optional number64 l.cancelled ++ rows l.rows))))))

unfoldable pub bound : Option Cell → List ℕ
bound end = optional cell end

unfoldable pub new_part : NewPart → List ℕ
new_part p = number64 p.table ++ (text p.name ++ (bound p.low ++ bound p.high))

-- ---- tables and jobs, where a shape is spelled by the format of its record

abbrev pub column_type : ColType → List ℕ
column_type types.TinyInt = 0 ∷ []
column_type types.SmallInt = 1 ∷ []
column_type types.Int = 2 ∷ []
column_type types.BigInt = 3 ∷ []
column_type types.Date = 4 ∷ []
column_type (types.Varchar len) = 5 ∷ number32 len

abbrev pub role : Role → List ℕ
role roles.Key = 0 ∷ []
role roles.Plain = 1 ∷ []
role (roles.Agg merging.Sum) = 2 ∷ []
role (roles.Agg merging.Min) = 3 ∷ []
role (roles.Agg merging.Max) = 4 ∷ []
role (roles.Agg merging.Replace) = 5 ∷ []
role (roles.Agg merging.ReplaceIfNotNull) = 6 ∷ []

abbrev pub model : Model → List ℕ
model models.Duplicate = 0 ∷ []
model models.Unique = 1 ∷ []
model models.Aggregate = 2 ∷ []

unfoldable pub column : ℕ → ColumnDef → List ℕ
column format c = text c.name ++ (column_type c.kind ++ (flag c.nullable ++ (role c.role ++ bound c.default)))

unfoldable pub shape : ℕ → ShapeDef → List ℕ
shape format s = model s.model ++ listed (column format) s.columns

unfoldable pub part : Part → List ℕ
part p = text p.name ++ (bound p.low ++ bound p.high)

unfoldable pub layout : LayoutDef → List ℕ
layout l = optional text l.column ++ (listed part l.parts ++ (listed text l.hash ++ number32 l.buckets))

unfoldable pub new_table : ℕ → NewTable → List ℕ
new_table format t = text t.db ++ (text t.name ++ (shape format t.shape ++ layout t.layout))

abbrev pub origin : Origin → List ℕ
origin (origins.From name) = 0 ∷ text name
origin (origins.Constant c) = 1 ∷ cell c

unfoldable pub rollup : RollupDef → List ℕ
rollup r = text r.name ++ listed text r.columns

unfoldable pub schema : ℕ → SchemaDef → List ℕ
schema format s = shape format s.shape ++ listed origin s.origins

abbrev pub change : ℕ → Change → List ℕ
change format (changes.Rollup r) = 0 ∷ rollup r
change format (changes.Schema s) = 1 ∷ schema format s

unfoldable pub new_job : ℕ → NewJob → List ℕ
new_job format j = number64 j.job ++ (number64 j.table ++ (number64 j.at ++ change format j.change))

-- ---- causes

-- a column, and the row that cannot be converted
unfoldable pub data_cause : List ℕ × List Cell → List ℕ
data_cause x = text x.0 ++ row x.1

unfoldable pub cause : Cause → List ℕ
cause causes.Command = 0 ∷ []
cause (causes.Data column cells) = 1 ∷ data_cause (column, cells)
cause (causes.Load txn) = 2 ∷ number64 txn

-- two numbers
unfoldable pub pair : ℕ × ℕ → List ℕ
pair p = number64 p.0 ++ number64 p.1

-- ---- records

-- the byte of the kind, and the fields, in a format
abbrev pub fields : ℕ → Record → List ℕ
fields format (kind.CreateDb name) = 1 ∷ text name
fields format (kind.CreateTable t) = 2 ∷ new_table format t
fields format (kind.DropTable table at) = 3 ∷ pair (table, at)
fields format (kind.AddPartition p) = 4 ∷ new_part p
fields format (kind.IdRange upto) = 5 ∷ number64 upto
fields format (kind.Submit l) = 6 ∷ load l
fields format (kind.Commit txn at cancelled) = 7 ∷ (pair (txn, at) ++ optional number64 cancelled)
fields format (kind.Abort txn at) = 8 ∷ pair (txn, at)
fields format (kind.Publish txn at) = 9 ∷ pair (txn, at)
fields format (kind.AddJob j) = 10 ∷ new_job format j
fields format (kind.JobWaiting job watershed upto) = 11 ∷ (pair (job, watershed) ++ number64 upto)
fields format (kind.JobFinished job at) = 12 ∷ pair (job, at)
fields format (kind.JobCancelled job at c) = 13 ∷ (pair (job, at) ++ cause c)
fields format (kind.Sweep at) = 14 ∷ number64 at

-- the byte of the format, and these
abbrev pub spelling : Record → List ℕ
spelling r = 1 ∷ fields 1 r
