-- What a report shows (Apache Doris documentation, "SHOW TABLES", "SHOW PARTITIONS", "DESC", "SHOW ALTER TABLE", "SHOW TRANSACTION"; the columns are this project's own).
use Rattle.std.specs.Prelude.{◌≡◌, ℕ, ◌+◌, ◌%◌, ◌^◌, Bool, false, cond, ◌&&◌, List, [], ◌∷◌, Option, Some, None, map, filter, nat_eq, codes, is_none}
use Rattle.std.specs.Int.{cast_signed}
use Rattle.std.specs.List.{flat_map}
use mir.Syntax.{w64}
use Rattle.dl_values.specs.Write.{cell_text}
use Rattle.dl_values.specs.declared.cell.Cell.{Cell}
use Rattle.dl_values.specs.declared.cell.Cell.TheVariants as cell
use Rattle.dl_values.specs.declared.result_set.ResultSet.{ResultSet}
use Rattle.schema_models.specs.Faults.{refuse_if}
use Rattle.schema_models.specs.ShapeRules.{is_key}
use Rattle.schema_models.specs.declared.column_def.ColumnDef.{ColumnDef}
use Rattle.partitions.specs.declared.part_def.PartDef.{PartDef}
use Rattle.row_map.specs.Maps.{rollup_shape}
use Rattle.alter_core.specs.declared.job.Cause.{Cause}
use Rattle.alter_core.specs.declared.job.Change.{Change}
use Rattle.alter_core.specs.declared.job.Change.TheVariants as change
use Rattle.alter_core.specs.declared.job.JobInfo.{JobInfo}
use Rattle.alter_core.specs.declared.job.JobKind.{JobKind}
use Rattle.front_defs.specs.declared.event.Event.{Event}
use Rattle.front_defs.specs.declared.event.Event.TheVariants as event
use Rattle.front_defs.specs.declared.catalogue.Table.{Table}
use Rattle.front_defs.specs.declared.catalogue.Rollup.{Rollup}
use Rattle.front_defs.specs.declared.txn.Txn.{Txn}
use Rattle.front_defs.specs.declared.command.TxnKey.TheVariants as key
use Rattle.front_defs.specs.declared.show_what.ShowWhat.{ShowWhat}
use Rattle.front_defs.specs.declared.show_what.ShowWhat.TheVariants as show
use Rattle.front_defs.specs.declared.reply.Reply.{Reply}
use Rattle.front_defs.specs.declared.reply.Reply.TheVariants as reply
use Rattle.front_defs.specs.Names.{same}
use Rattle.front_defs.specs.Words.{cause_text, extra_text, job_state_text, state_text, true_text, type_text, yes_text}
use Rattle.front_defs.specs.Catalogue.{table_at, table_named, tables_of}
use Rattle.front_defs.specs.Jobs.{jobs_of, kind_of, same_kind}
use Rattle.front_defs.specs.Stored.{committed_of, version_of}
use Rattle.front_defs.specs.Transactions.{txn_by, txns_of}

-- the columns of a report by name and type, and its rows
pub record Report : Type 0 where
  pub names : List (List ℕ)
  pub types : List (List ℕ)
  pub rows : List (List Cell)

abbrev pub texts : List ℕ
texts = codes "VARCHAR"

abbrev pub numbers : List ℕ
numbers = codes "BIGINT"

-- a number stands in a BIGINT column modulo 2^64, in two's complement
abbrev pub number : ℕ → Cell
number n = cell.Int (cast_signed w64 (n % 2 ^ 64))

-- the tables of a database, in the order of their making
abbrev pub tables_report : List ℕ → List Table → Report
tables_report db tables = record { names = codes "Name" ∷ []; types = texts ∷ []; rows = map (λ t. cell.Text t.name ∷ []) (filter (λ (t : Table). same t.db db) tables) }

-- the partitions of a table, in their order, with their visible and their committed versions
abbrev pub part_rows : List Event → Table → ℕ → List PartDef → List (List Cell)
part_rows Es t n [] = []
part_rows Es t n (p ∷ ps) = (cell.Text p.name ∷ number (version_of Es t.number n) ∷ number (committed_of Es t n) ∷ []) ∷ part_rows Es t (n + 1) ps

abbrev pub parts_of : List Event → Option Table → List (List Cell)
parts_of Es None = []
parts_of Es (Some t) = part_rows Es t 0 t.layout.parts

abbrev pub partitions_report : List Event → Option Table → Report
partitions_report Es o = record { names = codes "PartitionName" ∷ codes "VisibleVersion" ∷ codes "CommittedVersion" ∷ []; types = texts ∷ numbers ∷ numbers ∷ []; rows = parts_of Es o }

-- the columns of the base and then those of each rollup, the oldest first
abbrev pub default_cell : Option Cell → Cell
default_cell None = cell.Null
default_cell (Some x) = cell.Text (cell_text x)

abbrev pub field_row : List ℕ → ColumnDef → List Cell
field_row index c =
    cell.Text index ∷ cell.Text c.name ∷ cell.Text (type_text c.kind) ∷ cell.Text (yes_text c.nullable) ∷ cell.Text (true_text (is_key c.role)) ∷ default_cell c.default ∷ cell.Text (extra_text c.role) ∷ []

abbrev pub rollup_rows : Table → Rollup → List (List Cell)
rollup_rows t r = map (field_row r.name) (rollup_shape t.shape r.columns).columns

abbrev pub fields_of : Option Table → List (List Cell)
fields_of None = []
fields_of (Some t) = flat_map (λ (l : List (List Cell)). l) (map (field_row t.name) t.shape.columns ∷ map (rollup_rows t) t.rollups)

abbrev pub indexes_report : Option Table → Report
indexes_report o = record {
  names = codes "IndexName" ∷ codes "Field" ∷ codes "Type" ∷ codes "Null" ∷ codes "Key" ∷ codes "Default" ∷ codes "Extra" ∷ [];
  types = texts ∷ texts ∷ texts ∷ texts ∷ texts ∷ texts ∷ texts ∷ [];
  rows = fields_of o;
}

-- The database and the name of the table that a job was added to: the table may be gone while the job is kept.
pub record JobName : Type 0 where
  pub db : List ℕ
  pub table : List ℕ

abbrev pub name_in : Option Table → Option JobName
name_in None = None
name_in (Some t) = Some (record { db = t.db; table = t.name })

abbrev pub job_name_after : Event → ℕ → List Table → Option JobName → Option JobName
job_name_after (event.JobAdded a) job tables before = cond (nat_eq a.job job) (name_in (table_at a.table tables)) before
job_name_after _ job tables before = before

abbrev pub job_name_of : List Event → ℕ → Option JobName
job_name_of [] job = None
job_name_of (e ∷ Es) job = job_name_after e job (tables_of Es) (job_name_of Es job)

abbrev pub is_job_in : List ℕ → Option JobName → Bool
is_job_in db None = false
is_job_in db (Some n) = same n.db db

abbrev pub job_table : Option JobName → List ℕ
job_table None = []
job_table (Some n) = n.table

-- the index that a job adds
abbrev pub index_name : Change → List ℕ
index_name (change.Rollup name columns) = name

abbrev pub watershed_cell : Option ℕ → Cell
watershed_cell None = cell.Null
watershed_cell (Some n) = number n

abbrev pub cause_cell : Option Cause → Cell
cause_cell None = cell.Text []
cause_cell (Some c) = cell.Text (cause_text c)

abbrev pub job_row : (ℕ → Option JobName) → JobInfo → List Cell
job_row named j =
    number j.job ∷ cell.Text (job_table (named j.job)) ∷ cell.Text (index_name j.change) ∷ watershed_cell j.watershed ∷ cell.Text (job_state_text j.state) ∷ cause_cell j.cause ∷ []

abbrev pub is_shown : List ℕ → JobKind → (ℕ → Option JobName) → JobInfo → Bool
is_shown db kind named j = same_kind (kind_of j.change) kind && is_job_in db (named j.job)

-- the kept jobs of a kind in a database, by number
abbrev pub jobs_report : List ℕ → JobKind → List JobInfo → (ℕ → Option JobName) → Report
jobs_report db kind jobs named = record {
  names = codes "JobId" ∷ codes "TableName" ∷ codes "IndexName" ∷ codes "TransactionId" ∷ codes "State" ∷ codes "Msg" ∷ [];
  types = numbers ∷ texts ∷ texts ∷ numbers ∷ texts ∷ texts ∷ [];
  rows = map (job_row named) (filter (is_shown db kind named) jobs);
}

-- a transaction
abbrev pub txn_rows : Option Txn → List (List Cell)
txn_rows None = []
txn_rows (Some t) = (number t.id ∷ cell.Text t.label ∷ cell.Text (state_text t.state) ∷ []) ∷ []

abbrev pub txn_report : Option Txn → Report
txn_report o = record { names = codes "TransactionId" ∷ codes "Label" ∷ codes "TransactionStatus" ∷ []; types = numbers ∷ texts ∷ texts ∷ []; rows = txn_rows o }

-- The report of what is asked of a database, after what happened.
abbrev pub report : List Event → List ℕ → ShowWhat → Report
report Es db show.Tables = tables_report db (tables_of Es)
report Es db (show.Partitions name) = partitions_report Es (table_named db name (tables_of Es))
report Es db (show.Indexes name) = indexes_report (table_named db name (tables_of Es))
report Es db (show.Jobs kind) = jobs_report db kind (jobs_of Es) (job_name_of Es)
report Es db (show.ById id) = txn_report (txn_by db (key.Id id) (txns_of Es))
report Es db (show.ByLabel label) = txn_report (txn_by db (key.Label label) (txns_of Es))

-- what it is asked of has to be there
abbrev pub shown_refusal : List ℕ → ShowWhat → List Table → List Txn → Option Reply
shown_refusal db show.Tables tables txns = None
shown_refusal db (show.Partitions name) tables txns = refuse_if (is_none (table_named db name tables)) reply.UnknownTable
shown_refusal db (show.Indexes name) tables txns = refuse_if (is_none (table_named db name tables)) reply.UnknownTable
shown_refusal db (show.Jobs kind) tables txns = None
shown_refusal db (show.ById id) tables txns = refuse_if (is_none (txn_by db (key.Id id) txns)) reply.NoSuchTxn
shown_refusal db (show.ByLabel label) tables txns = refuse_if (is_none (txn_by db (key.Label label) txns)) reply.NoSuchTxn

-- a result that is the report
pub record IsReport (r : Report) (set : ResultSet) : Type 0 where
  pub names : set.names.items ≡ r.names
  pub types : set.types.items ≡ r.types
  pub rows : set.rows ≡ r.rows

abbrev pub Reports : Report → Reply → Type 0
Reports x (reply.Shown set) = IsReport x set
Reports x _ = ⊥
