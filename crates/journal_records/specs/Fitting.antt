-- Which values have a spelling that is read again (this project's own, format 1).
use Rattle.std.specs.Prelude.{◌≡◌, ℕ, ◌<◌, ◌^◌, Bool, true, ◌&&◌, nat_lt, List, length, Option, Some, None}
use Rattle.std.specs.List.{AllByRecursion, list_all}
use Rattle.std.specs.Str.{is_utf8}
use Rattle.std.specs.Int.{w64}
use Rattle.std.specs.Int.RustNames.{FitsSigned}
use Rattle.dl_values.specs.declared.cell.Cell.{Cell}
use Rattle.dl_values.specs.declared.cell.Cell.TheVariants as cell
use Rattle.schema_models.specs.CellTypes.{is_calendar_day}
use Rattle.dl_values.specs.declared.col_type.ColType.{ColType}
use Rattle.dl_values.specs.declared.col_type.ColType.TheVariants as types
use Rattle.schema_models.specs.declared.column_def.ColumnDef.{ColumnDef}
use Rattle.journal_records.specs.declared.change.Change.{Change}
use Rattle.journal_records.specs.declared.change.Change.TheVariants as changes
use Rattle.journal_records.specs.declared.layout_def.LayoutDef.{LayoutDef}
use Rattle.journal_records.specs.declared.new_job.NewJob.{NewJob}
use Rattle.journal_records.specs.declared.new_table.NewTable.{NewTable}
use Rattle.journal_records.specs.declared.origin.Origin.{Origin}
use Rattle.journal_records.specs.declared.origin.Origin.TheVariants as origins
use Rattle.journal_records.specs.declared.part.Part.{Part}
use Rattle.journal_records.specs.declared.rollup_def.RollupDef.{RollupDef}
use Rattle.journal_records.specs.declared.schema_def.SchemaDef.{SchemaDef}
use Rattle.journal_records.specs.declared.shape_def.ShapeDef.{ShapeDef}
use Rattle.journal_records.specs.declared.cause.Cause.{Cause}
use Rattle.journal_records.specs.declared.cause.Cause.TheVariants as causes
use Rattle.journal_records.specs.declared.load.Load.{Load}
use Rattle.journal_records.specs.declared.new_part.NewPart.{NewPart}
use Rattle.journal_records.specs.declared.record.Record.{Record}
use Rattle.journal_records.specs.declared.record.Record.TheVariants as kind

-- ---- texts and lists shorter than 2 ^ 32

abbrev pub short_text : List ℕ → Bool
short_text t = nat_lt (length t) 4294967296

abbrev pub short_list : {A : Type 0} → (A → Bool) → List A → Bool
short_list short xs = nat_lt (length xs) 4294967296 && list_all short xs

abbrev pub short_cell : Cell → Bool
short_cell (cell.Text t) = short_text t
short_cell _ = true

abbrev pub short_row : List Cell → Bool
short_row cells = short_list short_cell cells

abbrev pub short_rows : List (List Cell) → Bool
short_rows rows = short_list short_row rows

abbrev pub short_load : Load → Bool
short_load l = short_text l.label && short_rows l.rows

abbrev pub short_bound : Option Cell → Bool
short_bound None = true
short_bound (Some c) = short_cell c

abbrev pub short_part : NewPart → Bool
short_part p = short_text p.name && (short_bound p.low && short_bound p.high)

abbrev pub short_option : {A : Type 0} → (A → Bool) → Option A → Bool
short_option short None = true
short_option short (Some x) = short x

abbrev pub short_column : ColumnDef → Bool
short_column c = short_text c.name && short_bound c.default

abbrev pub short_shape : ShapeDef → Bool
short_shape s = short_list short_column s.columns

abbrev pub short_range : Part → Bool
short_range p = short_text p.name && (short_bound p.low && short_bound p.high)

abbrev pub short_layout : LayoutDef → Bool
short_layout l = short_option short_text l.column && (short_list short_range l.parts && short_list short_text l.hash)

abbrev pub short_table : NewTable → Bool
short_table t = short_text t.db && (short_text t.name && (short_shape t.shape && short_layout t.layout))

abbrev pub short_origin : Origin → Bool
short_origin (origins.From name) = short_text name
short_origin (origins.Constant c) = short_cell c

abbrev pub short_rollup : RollupDef → Bool
short_rollup r = short_text r.name && short_list short_text r.columns

abbrev pub short_schema : SchemaDef → Bool
short_schema s = short_shape s.shape && short_list short_origin s.origins

abbrev pub short_change : Change → Bool
short_change (changes.Rollup r) = short_rollup r
short_change (changes.Schema s) = short_schema s

abbrev pub short_job : NewJob → Bool
short_job j = short_change j.change

abbrev pub short_cause : Cause → Bool
short_cause (causes.Data column cells) = short_text column && short_row cells
short_cause _ = true

abbrev pub short : Record → Bool
short (kind.CreateDb name) = short_text name
short (kind.CreateTable t) = short_table t
short (kind.Submit l) = short_load l
short (kind.AddPartition p) = short_part p
short (kind.AddJob j) = short_job j
short (kind.JobCancelled job at c) = short_cause c
short _ = true

-- ---- days that the calendar has, and texts of UTF-8

abbrev pub readable_cell : Cell → Bool
readable_cell (cell.Day d) = is_calendar_day d
readable_cell (cell.Text t) = is_utf8 t
readable_cell _ = true

abbrev pub readable_row : List Cell → Bool
readable_row cells = list_all readable_cell cells

abbrev pub readable_rows : List (List Cell) → Bool
readable_rows rows = list_all readable_row rows

-- ---- all of these, and numbers in their width

abbrev pub Fits64 : ℕ → Type 0
Fits64 n = n < 2 ^ 64

abbrev pub FitsText : List ℕ → Type 0
FitsText t = (length t < 2 ^ 32) × (is_utf8 t ≡ true)

abbrev pub FitsDay : ℕ → Type 0
FitsDay d = (d < 2 ^ 32) × (is_calendar_day d ≡ true)

abbrev pub FitsOption : {A : Type 0} → (A → Type 0) → Option A → Type 0
FitsOption F None = Unit {0}
FitsOption F (Some x) = F x

abbrev pub FitsList : {A : Type 0} → (A → Type 0) → List A → Type 0
FitsList F xs = (length xs < 2 ^ 32) × AllByRecursion F xs

abbrev pub FitsCell : Cell → Type 0
FitsCell cell.Null = Unit {0}
FitsCell (cell.Int z) = FitsSigned w64 z
FitsCell (cell.Day d) = FitsDay d
FitsCell (cell.Text t) = FitsText t

-- the numbers alone
abbrev pub InWidth : Cell → Type 0
InWidth (cell.Int z) = FitsSigned w64 z
InWidth (cell.Day d) = d < 2 ^ 32
InWidth _ = Unit {0}

abbrev pub FitsRow : List Cell → Type 0
FitsRow cells = FitsList FitsCell cells

abbrev pub FitsLoad : Load → Type 0
FitsLoad l = Fits64 l.txn × (Fits64 l.table × (FitsText l.label × (Fits64 l.at × (Unit {0} × (Fits64 l.schema × (FitsOption Fits64 l.cancelled × FitsList FitsRow l.rows))))))

abbrev pub FitsPart : NewPart → Type 0
FitsPart p = Fits64 p.table × (FitsText p.name × (FitsOption FitsCell p.low × FitsOption FitsCell p.high))

abbrev pub Fits32 : ℕ → Type 0
Fits32 n = n < 2 ^ 32

abbrev pub FitsType : ColType → Type 0
FitsType (types.Varchar len) = Fits32 len
FitsType _ = Unit {0}

abbrev pub FitsColumn : ColumnDef → Type 0
FitsColumn c = FitsText c.name × (FitsType c.kind × (Unit {0} × (Unit {0} × FitsOption FitsCell c.default)))

abbrev pub FitsShape : ShapeDef → Type 0
FitsShape s = Unit {0} × FitsList FitsColumn s.columns

abbrev pub FitsRange : Part → Type 0
FitsRange p = FitsText p.name × (FitsOption FitsCell p.low × FitsOption FitsCell p.high)

abbrev pub FitsLayout : LayoutDef → Type 0
FitsLayout l = FitsOption FitsText l.column × (FitsList FitsRange l.parts × (FitsList FitsText l.hash × Fits32 l.buckets))

abbrev pub FitsTable : NewTable → Type 0
FitsTable t = FitsText t.db × (FitsText t.name × (FitsShape t.shape × FitsLayout t.layout))

abbrev pub FitsOrigin : Origin → Type 0
FitsOrigin (origins.From name) = FitsText name
FitsOrigin (origins.Constant c) = FitsCell c

abbrev pub FitsRollup : RollupDef → Type 0
FitsRollup r = FitsText r.name × FitsList FitsText r.columns

abbrev pub FitsSchema : SchemaDef → Type 0
FitsSchema s = FitsShape s.shape × FitsList FitsOrigin s.origins

abbrev pub FitsChange : Change → Type 0
FitsChange (changes.Rollup r) = FitsRollup r
FitsChange (changes.Schema s) = FitsSchema s

abbrev pub FitsJob : NewJob → Type 0
FitsJob j = Fits64 j.job × (Fits64 j.table × (Fits64 j.at × FitsChange j.change))

abbrev pub FitsData : List ℕ × List Cell → Type 0
FitsData x = FitsText x.0 × FitsRow x.1

abbrev pub FitsCause : Cause → Type 0
FitsCause causes.Command = Unit {0}
FitsCause (causes.Data column cells) = FitsData (column, cells)
FitsCause (causes.Load txn) = Fits64 txn

abbrev pub FitsPair : ℕ × ℕ → Type 0
FitsPair p = Fits64 p.0 × Fits64 p.1

abbrev pub Fits : Record → Type 0
Fits (kind.CreateDb name) = FitsText name
Fits (kind.CreateTable t) = FitsTable t
Fits (kind.DropTable table at) = FitsPair (table, at)
Fits (kind.AddPartition p) = FitsPart p
Fits (kind.IdRange upto) = Fits64 upto
Fits (kind.Submit l) = FitsLoad l
Fits (kind.Commit txn at cancelled) = FitsPair (txn, at) × FitsOption Fits64 cancelled
Fits (kind.Abort txn at) = FitsPair (txn, at)
Fits (kind.Publish txn at) = FitsPair (txn, at)
Fits (kind.AddJob j) = FitsJob j
Fits (kind.JobWaiting job watershed upto) = FitsPair (job, watershed) × Fits64 upto
Fits (kind.JobFinished job at) = FitsPair (job, at)
Fits (kind.JobCancelled job at c) = FitsPair (job, at) × FitsCause c
Fits (kind.Sweep at) = Fits64 at
