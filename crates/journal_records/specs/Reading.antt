-- Reading from left to right, up to the first field that cannot be read whole and in range.
use Rattle.std.specs.Prelude.{◌≡◌, ℕ, ℤ, zero, suc, ◌-◌, Bool, true, false, List, [], ◌∷◌, length, take, drop, Option, Some, None, Result, Ok, Err, nat_lt, ◌==◌, if◌then◌else◌}
use Rattle.std.specs.Str.{is_utf8}
use Rattle.std.specs.Int.{Width, w32, w64, byte_len, from_be_bytes, cast_signed}
use Rattle.dl_values.specs.declared.cell.Cell.{Cell}
use Rattle.dl_values.specs.declared.cell.Cell.TheVariants as cell
use Rattle.schema_models.specs.CellTypes.{is_calendar_day}
use Rattle.journal_records.specs.declared.stop.Stop.{Stop}
use Rattle.journal_records.specs.declared.stop.Stop.TheVariants as stop
use Rattle.journal_records.specs.declared.errors.DecodeError.{DecodeError}
use Rattle.journal_records.specs.declared.errors.DecodeError.TheVariants as wrong
use Rattle.dl_values.specs.declared.agg_kind.AggKind.TheVariants as merging
use Rattle.dl_values.specs.declared.col_type.ColType.{ColType}
use Rattle.dl_values.specs.declared.col_type.ColType.TheVariants as types
use Rattle.schema_models.specs.declared.column_def.ColumnDef.{ColumnDef}
use Rattle.schema_models.specs.declared.model.Model.{Model}
use Rattle.schema_models.specs.declared.model.Model.TheVariants as models
use Rattle.schema_models.specs.declared.role.Role.{Role}
use Rattle.schema_models.specs.declared.role.Role.TheVariants as roles
use Rattle.journal_records.specs.declared.change.Change.{Change}
use Rattle.journal_records.specs.declared.change.Change.TheVariants as changes
use Rattle.journal_records.specs.declared.layout_def.LayoutDef.{LayoutDef}
use Rattle.journal_records.specs.declared.new_job.NewJob.{NewJob}
use Rattle.journal_records.specs.declared.new_table.NewTable.{NewTable}
use Rattle.journal_records.specs.declared.origin.Origin.{Origin}
use Rattle.journal_records.specs.declared.origin.Origin.TheVariants as origins
use Rattle.journal_records.specs.declared.part.Part.{Part}
use Rattle.journal_records.specs.declared.rollup_def.RollupDef.{RollupDef}
use Rattle.journal_records.specs.declared.schema_def.SchemaDef.{SchemaDef}
use Rattle.journal_records.specs.declared.shape_def.ShapeDef.{ShapeDef}
use Rattle.journal_records.specs.declared.cause.Cause.{Cause}
use Rattle.journal_records.specs.declared.cause.Cause.TheVariants as causes
use Rattle.journal_records.specs.declared.load.Load.{Load}
use Rattle.journal_records.specs.declared.new_part.NewPart.{NewPart}
use Rattle.journal_records.specs.declared.record.Record.{Record}
use Rattle.journal_records.specs.declared.record.Record.TheVariants as kind

-- a reader gives a value and the bytes after it, or how many bytes are left from the faulty field on
abbrev pub Reader : Type 0 → Type 0
Reader A = List ℕ → Result (A × List ℕ) ℕ

abbrev pub bind : {A B : Type 0} → Result (A × List ℕ) ℕ → (A → Reader B) → Result (B × List ℕ) ℕ
bind (Ok x) f = f x.0 x.1
bind (Err n) f = Err n

infixl 10 ◌>>=◌
abbrev pub ◌>>=◌ : {A B : Type 0} → Reader A → (A → Reader B) → Reader B
(f >>= g) bytes = bind (f bytes) g

abbrev pub is : {A : Type 0} → A → Reader A
is x bytes = Ok (x, bytes)

-- What a function returned, seen by view, is what reading gives, unless memory ran out.
abbrev pub Fails : {Y : Type 0} → Stop → Result Y ℕ → Type 0
Fails stop.Memory read = Unit {0}
Fails (stop.Left n) read = read ≡ Err n

abbrev pub Gives : {X Y : Type 0} → (X → Y) → Result X Stop → Result Y ℕ → Type 0
Gives view (Ok x) read = read ≡ Ok (view x)
Gives view (Err e) read = Fails e read

-- ---- fields

abbrev pub number_at : Width → Reader ℕ
number_at w bytes = if nat_lt (length bytes) (byte_len w) then Err (length bytes) else Ok (from_be_bytes w (take (byte_len w) bytes), drop (byte_len w) bytes)

unfoldable pub integer_at : Reader ℤ
integer_at = number_at w64 >>= λ n. is (cast_signed w64 n)

-- a text is one field: its fault is where its length begins
unfoldable pub text_at : Reader (List ℕ)
text_at bytes = bind (number_at w32 bytes) (λ n rest. if nat_lt (length rest) n then Err (length bytes) else if is_utf8 (take n rest) then Ok (take n rest, drop n rest) else Err (length bytes))

unfoldable pub day_at : Reader ℕ
day_at bytes = bind (number_at w32 bytes) (λ n rest. if is_calendar_day n then Ok (n, rest) else Err (length bytes))

-- whether this byte comes next
abbrev pub heads : ℕ → List ℕ → Bool
heads n [] = false
heads n (b ∷ rest) = b == n

-- behind this byte the one, and else the other
abbrev pub tagged : {A : Type 0} → ℕ → Reader A → Reader A → Reader A
tagged n f g bytes = if heads n bytes then f (drop 1 bytes) else g bytes

-- none of the bytes that may stand here
abbrev pub no_tag : {A : Type 0} → Reader A
no_tag bytes = Err (length bytes)

unfoldable pub flag_at : Reader Bool
flag_at = tagged 0 (is false) (tagged 1 (is true) no_tag)

abbrev pub optional_at : {A : Type 0} → Reader A → Reader (Option A)
optional_at f = tagged 0 (is None) (tagged 1 (f >>= λ x. is (Some x)) no_tag)

-- so many times
abbrev pub times : {A : Type 0} → ℕ → Reader A → Reader (List A)
times zero f bytes = Ok ([], bytes)
times (suc n) f bytes = bind (f bytes) (λ x rest. bind (times n f rest) (λ xs. is (x ∷ xs)))

abbrev pub listed_at : {A : Type 0} → Reader A → Reader (List A)
listed_at f = number_at w32 >>= λ n. times n f

-- ---- parts of records

unfoldable pub cell_at : Reader Cell
cell_at =
    tagged 0 (is cell.Null)
    (tagged 1 (integer_at >>= λ z. is (cell.Int z))
    (tagged 2 (day_at >>= λ d. is (cell.Day d))
    (tagged 3 (text_at >>= λ t. is (cell.Text t)) no_tag)))

unfoldable pub row_at : Reader (List Cell)
row_at = listed_at cell_at

unfoldable pub rows_at : Reader (List (List Cell))
rows_at = listed_at row_at

unfoldable pub number64_at : Reader ℕ
number64_at = number_at w64

unfoldable pub job_at : Reader (Option ℕ)
job_at = optional_at number64_at

unfoldable pub load_at : Reader Load
load_at = do
  txn ← number64_at
  table ← number64_at
  label ← text_at
  at ← number64_at
  two_phase ← flag_at
  schema ← number64_at
  cancelled ← job_at
  rows ← rows_at
  is (record { txn = txn; table = table; label = label; at = at; two_phase = two_phase; schema = schema; cancelled = cancelled; rows = rows })

unfoldable pub bound_at : Reader (Option Cell)
bound_at = optional_at cell_at

unfoldable pub new_part_at : Reader NewPart
new_part_at = do
  table ← number64_at
  name ← text_at
  low ← bound_at
  high ← bound_at
  is (record { table = table; name = name; low = low; high = high })

unfoldable pub model_at : Reader Model
model_at = tagged 0 (is models.Duplicate) (tagged 1 (is models.Unique) (tagged 2 (is models.Aggregate) no_tag))

-- the role of a value that merges
unfoldable pub merging_at : Reader Role
merging_at =
    tagged 2 (is (roles.Agg merging.Sum))
    (tagged 3 (is (roles.Agg merging.Min))
    (tagged 4 (is (roles.Agg merging.Max))
    (tagged 5 (is (roles.Agg merging.Replace))
    (tagged 6 (is (roles.Agg merging.ReplaceIfNotNull)) no_tag))))

unfoldable pub role_at : Reader Role
role_at = tagged 0 (is roles.Key) (tagged 1 (is roles.Plain) merging_at)

unfoldable pub type_at : Reader ColType
type_at =
    tagged 0 (is types.TinyInt)
    (tagged 1 (is types.SmallInt)
    (tagged 2 (is types.Int)
    (tagged 3 (is types.BigInt)
    (tagged 4 (is types.Date)
    (tagged 5 (number_at w32 >>= λ len. is (types.Varchar len)) no_tag)))))

unfoldable pub column_at : ℕ → Reader ColumnDef
column_at format = do
  name ← text_at
  ty ← type_at
  nullable ← flag_at
  role ← role_at
  default ← bound_at
  is (record { name = name; kind = ty; nullable = nullable; role = role; default = default })

unfoldable pub shape_at : ℕ → Reader ShapeDef
shape_at format = do
  model ← model_at
  columns ← listed_at (column_at format)
  is (record { model = model; columns = columns })

unfoldable pub part_at : Reader Part
part_at = do
  name ← text_at
  low ← bound_at
  high ← bound_at
  is (record { name = name; low = low; high = high })

unfoldable pub layout_at : Reader LayoutDef
layout_at = do
  column ← optional_at text_at
  parts ← listed_at part_at
  hash ← listed_at text_at
  buckets ← number_at w32
  is (record { column = column; parts = parts; hash = hash; buckets = buckets })

unfoldable pub new_table_at : ℕ → Reader NewTable
new_table_at format = do
  db ← text_at
  name ← text_at
  shape ← shape_at format
  layout ← layout_at
  is (record { db = db; name = name; shape = shape; layout = layout })

unfoldable pub origin_at : Reader Origin
origin_at = tagged 0 (text_at >>= λ name. is (origins.From name)) (tagged 1 (cell_at >>= λ c. is (origins.Constant c)) no_tag)

unfoldable pub rollup_at : Reader RollupDef
rollup_at = do
  name ← text_at
  columns ← listed_at text_at
  is (record { name = name; columns = columns })

unfoldable pub schema_at : ℕ → Reader SchemaDef
schema_at format = do
  shape ← shape_at format
  sources ← listed_at origin_at
  is (record { shape = shape; origins = sources })

unfoldable pub change_at : ℕ → Reader Change
change_at format = tagged 0 (rollup_at >>= λ r. is (changes.Rollup r)) (tagged 1 (schema_at format >>= λ s. is (changes.Schema s)) no_tag)

unfoldable pub new_job_at : ℕ → Reader NewJob
new_job_at format = do
  job ← number64_at
  table ← number64_at
  at ← number64_at
  change ← change_at format
  is (record { job = job; table = table; at = at; change = change })

unfoldable pub data_cause_at : Reader (List ℕ × List Cell)
data_cause_at = do
  column ← text_at
  cells ← row_at
  is (column, cells)

unfoldable pub cause_at : Reader Cause
cause_at =
    tagged 0 (is causes.Command)
    (tagged 1 (data_cause_at >>= λ x. is (causes.Data x.0 x.1))
    (tagged 2 (number64_at >>= λ txn. is (causes.Load txn)) no_tag))

unfoldable pub pair_at : Reader (ℕ × ℕ)
pair_at = do
  a ← number64_at
  b ← number64_at
  is (a, b)

-- ---- records

unfoldable pub commit_at : Reader Record
commit_at = do
  p ← pair_at
  cancelled ← job_at
  is (kind.Commit p.0 p.1 cancelled)

unfoldable pub job_waiting_at : Reader Record
job_waiting_at = do
  p ← pair_at
  upto ← number64_at
  is (kind.JobWaiting p.0 p.1 upto)

unfoldable pub job_cancelled_at : Reader Record
job_cancelled_at = do
  p ← pair_at
  c ← cause_at
  is (kind.JobCancelled p.0 p.1 c)

-- the kinds from 8 on
unfoldable pub later_at : ℕ → Reader Record
later_at format =
    tagged 8 (pair_at >>= λ p. is (kind.Abort p.0 p.1))
    (tagged 9 (pair_at >>= λ p. is (kind.Publish p.0 p.1))
    (tagged 10 (new_job_at format >>= λ j. is (kind.AddJob j))
    (tagged 11 job_waiting_at
    (tagged 12 (pair_at >>= λ p. is (kind.JobFinished p.0 p.1))
    (tagged 13 job_cancelled_at
    (tagged 14 (number64_at >>= λ at. is (kind.Sweep at)) no_tag))))))

-- the byte of the kind, and the fields, in a format
unfoldable pub fields_at : ℕ → Reader Record
fields_at format =
    tagged 1 (text_at >>= λ name. is (kind.CreateDb name))
    (tagged 2 (new_table_at format >>= λ t. is (kind.CreateTable t))
    (tagged 3 (pair_at >>= λ p. is (kind.DropTable p.0 p.1))
    (tagged 4 (new_part_at >>= λ p. is (kind.AddPartition p))
    (tagged 5 (number64_at >>= λ upto. is (kind.IdRange upto))
    (tagged 6 (load_at >>= λ l. is (kind.Submit l))
    (tagged 7 commit_at (later_at format)))))))

-- the byte of the format, and these
unfoldable pub record_at : Reader Record
record_at = tagged 1 (fields_at 1) no_tag

-- ---- all of the bytes

abbrev pub ended : {A : Type 0} → A → List ℕ → Result A ℕ
ended x [] = Ok x
ended x (b ∷ rest) = Err (length (b ∷ rest))

abbrev pub to_end : {A : Type 0} → Result (A × List ℕ) ℕ → Result A ℕ
to_end (Ok x) = ended x.0 x.1
to_end (Err n) = Err n

-- the record that the bytes spell, or how many of them are left from the fault on
unfoldable pub record_of : List ℕ → Result Record ℕ
record_of bytes = to_end (record_at bytes)

-- What a call answered is the record, or the place of the fault, unless memory ran out.
abbrev pub Decodes : Result Record DecodeError → ℕ → Result Record ℕ → Type 0
Decodes (Ok r) total read = read ≡ Ok r
Decodes (Err wrong.NoMemory) total read = Unit {0}
Decodes (Err (wrong.BadRecord at)) total (Ok r) = ⊥
Decodes (Err (wrong.BadRecord at)) total (Err left) = at ≡ total - left
