-- Worked histories of one table, the newest entry first: what is asked and what is answered.
use Rattle.std.specs.Prelude.{◌≡◌, ℕ, Bool, true, false, List, [], ◌∷◌, Some, None, map, pos, ◌⊎◌}
use Rattle.dl_values.specs.declared.cell.Cell.{Cell}
use Rattle.rowsets.specs.RowsetView.{rowset_rows}
use Rattle.dl_values.specs.declared.cell.Cell.TheVariants as cell
use Rattle.schema_models.specs.declared.model.Model.TheVariants as model
use Rattle.schema_models.specs.Folds.{fold_of}
use Rattle.sql_text.specs.declared.part.Part.{Part}
use Rattle.sql_text.specs.declared.part.PartBounds.TheVariants.{Less}
use Rattle.sql_text.specs.declared.table_def.ColumnText.{ColumnText}
use Rattle.sql_text.specs.declared.table_def.ColumnType.TheVariants as kind
use Rattle.sql_text.specs.declared.table_def.TableDef.{TableDef}
use Rattle.sql_text.specs.declared.query.Query.{Query}
use Rattle.table_defs.specs.Columns.{shape_of}
use Rattle.table_defs.specs.Defined.{layout_of}
use Rattle.shadow_writes.specs.declared.plan.Plan.{Plan}
use Rattle.shadow_writes.specs.declared.built.Built.{Built}
use Rattle.front_defs.specs.declared.catalogue.Table.{Table}
use Rattle.front_defs.specs.declared.command.Command.{Command}
use Rattle.front_defs.specs.declared.command.Command.TheVariants as command
use Rattle.front_defs.specs.declared.command.TxnKey.TheVariants as key
use Rattle.front_defs.specs.declared.reply.Reply.{Reply}
use Rattle.front_defs.specs.declared.reply.Reply.TheVariants as reply
use Rattle.front_defs.specs.declared.history.Call.{Call}
use Rattle.front_defs.specs.declared.history.Entry.{Entry}
use Rattle.front_defs.specs.declared.history.Entry.TheVariants.{Made}
use Rattle.row_map.specs.declared.map.RowMap.{RowMap}
use Rattle.row_map.specs.Maps.{rollup_map}
use Rattle.alter_core.specs.declared.job.JobState.TheVariants as job_state
use Rattle.history_convert.specs.declared.task.Piece.{Piece}
use Rattle.history_convert.specs.declared.task.PieceResult.{PieceResult}
use Rattle.history_convert.specs.declared.task.Task.{Task}
use Rattle.front_defs.specs.declared.command.AlterDef.TheVariants as alter
use Rattle.front_defs.specs.Alters.{given_state}
use Rattle.front_defs.specs.Answer.{Answer}
use Rattle.front_defs.specs.History.{happened, opening}
use Rattle.front_defs.specs.Script.{Script, Ends, Asks}
use Rattle.front_laws.specs.Laws.{joined}

-- `d`, `t`, `k`, `v`
abbrev pub d : List ℕ
d = 100 ∷ []

abbrev pub t : List ℕ
t = 116 ∷ []

abbrev pub k : List ℕ
k = 107 ∷ []

abbrev pub v : List ℕ
v = 118 ∷ []

-- `(k INT, v INT) DUPLICATE KEY(k) DISTRIBUTED BY HASH(k) BUCKETS 1`
abbrev pub int_column : List ℕ → ColumnText
int_column name = record { name = name; kind = kind.Int; agg = None; nullable = true; default = None }

abbrev pub def : TableDef
def = record { columns = int_column k ∷ int_column v ∷ []; key = Some (record { model = model.Duplicate; names = k ∷ [] }); ranges = None; hash = k ∷ []; buckets = Some 1; properties = [] }

-- the plan of a load of the table
abbrev pub plan : ℕ → Plan
plan id = record { txn = id; schema = 0; layout = layout_of t def; base = shape_of def; targets = [] }

-- the table as the catalogue has it
abbrev pub table : Table
table = record { number = 1; db = d; name = t; schema = 0; shape = shape_of def; layout = layout_of t def; steps = record { number = 0; shape = shape_of def } ∷ []; rollups = [] }

-- a call of the one seat, over a keeper that meets no fault
abbrev pub plain : Command → Reply → Call
plain c r = record { seat = []; command = c; reply = r; opened = false; rose = false; took = false; faults_in = 0; faults_out = 0 }

abbrev pub call : Command → Reply → Entry
call c r = Made (plain c r)

-- a database and a table were made
abbrev pub made : List Entry
made = call (command.CreateTable d t def false) reply.Done ∷ call (command.CreateDb d false) reply.Done ∷ []

-- the labels `a1` and `b`
abbrev pub a1 : List ℕ
a1 = 97 ∷ 49 ∷ []

abbrev pub b : List ℕ
b = 98 ∷ []

abbrev pub row : ℕ → ℕ → List Cell
row x y = cell.Int (pos x) ∷ cell.Int (pos y) ∷ []

-- the rows `1,5`, `2,7` and `1,6`
abbrev pub rows : List (List Cell)
rows = row 1 5 ∷ row 2 7 ∷ row 1 6 ∷ []

abbrev pub begin : List ℕ → Command
begin label = command.Begin d t (Some label) false 0

abbrev pub submit : ℕ → Built → Command
submit id built = command.Submit id built 0

-- a first load: begun, submitted, published
abbrev pub begun : List Entry
begun = call (begin a1) (reply.Begun 1 (plan 1)) ∷ made

abbrev pub submitted : Built → List Entry
submitted built = call (submit 1 built) (reply.Submitted (Some (record { place = 1; ahead = 0 }))) ∷ begun

abbrev pub loaded : Built → List Entry
loaded built = call (command.Publish 0) (reply.Published 1 1) ∷ submitted built

-- the one answer but want of memory
abbrev pub OneAnswer : List Entry → Command → Reply → Type 0
OneAnswer H c r = Answer (happened H) c r × ((x : Reply) → Answer (happened H) c x → (x ≡ reply.NoMemory) ⊎ (x ≡ r))

-- The same over a keeper that failed in the Submit, with its record kept or lost.
abbrev pub faulted : Built → Bool → List Entry
faulted built took = Made (record { seat = []; command = submit 1 built; reply = reply.KeeperFault; opened = false; rose = true; took = took; faults_in = 0; faults_out = 1 }) ∷ begun

-- the one answer but want of memory, where the service is opened again first
abbrev pub OneAnswerReopened : List Entry → Command → Reply → Type 0
OneAnswerReopened H c r = Answer (opening true (happened H)) c r × ((x : Reply) → Answer (opening true (happened H)) c x → (x ≡ reply.NoMemory) ⊎ (x ≡ r))

-- Two loads, of labels `a1` and `b`, the second of them submitted first.
abbrev pub both_begun : List Entry
both_begun = call (begin b) (reply.Begun 2 (plan 2)) ∷ begun

abbrev pub later_first : Built → List Entry
later_first second = call (submit 2 second) (reply.Submitted (Some (record { place = 1; ahead = 0 }))) ∷ both_begun

abbrev pub both_submitted : Built → Built → List Entry
both_submitted first second = call (submit 1 first) (reply.Submitted (Some (record { place = 2; ahead = 1 }))) ∷ later_first second

abbrev pub one_published : Built → Built → List Entry
one_published first second = call (command.Publish 0) (reply.Published 2 1) ∷ both_submitted first second

abbrev pub both_published : Built → Built → List Entry
both_published first second = call (command.Publish 0) (reply.Published 1 2) ∷ one_published first second

-- A two-phase load of label `b` that is aborted, before its Submit or after it.
abbrev pub begin_two_phase : Command
begin_two_phase = command.Begin d t (Some b) true 0

abbrev pub abort_b : Command
abort_b = command.Abort d (key.Label b) 10

abbrev pub two_phase_begun : List Entry
two_phase_begun = call begin_two_phase (reply.Begun 1 (plan 1)) ∷ made

abbrev pub ended : List Entry
ended = call abort_b (reply.Aborted 1) ∷ two_phase_begun

abbrev pub precommitted : Built → List Entry
precommitted built = call (submit 1 built) (reply.Submitted None) ∷ two_phase_begun

abbrev pub aborted : Built → List Entry
aborted built = call abort_b (reply.Aborted 1) ∷ precommitted built

-- `SELECT * FROM t`
abbrev pub all_of_t : Query
all_of_t = record { table = t; star = true; items = []; filters = []; group = []; order = []; limit = None }

abbrev pub select : Command
select = command.Snapshot d t all_of_t

-- a snapshot whose lists fold to these rows
abbrev pub ShowsRows : List (List Cell) → Reply → Type 0
ShowsRows shown (reply.Snap s) = fold_of (shape_of def) (joined (map (λ l. rowset_rows l.value) s.lists)) ≡ shown
ShowsRows shown _ = ⊥

-- a snapshot has these rows, but for want of memory
abbrev pub Reads : List Entry → List (List Cell) → Type 0
Reads H shown = (r : Reply) → Answer (happened H) select r → (r ≡ reply.NoMemory) ⊎ ShowsRows shown r

-- the definition with another hash column, and with a column twice
abbrev pub hashed_by_x : TableDef
hashed_by_x = record def { hash = (120 ∷ []) ∷ [] }

abbrev pub twice_k : TableDef
twice_k = record def { columns = int_column k ∷ int_column k ∷ [] }

-- a script that publishes one load and responds with the reply
abbrev pub publish_one : Script Reply
publish_one = Asks (command.Publish 0) (λ r. Ends r)

-- the calls of that script are one call, whose reply is the response
abbrev pub IsOnePublish : List Call → Reply → Type 0
IsOnePublish calls response = (c : Call) × (calls ≡ c ∷ []) × (c.command ≡ command.Publish 0) × (response ≡ c.reply)

-- The table is dropped, while its load waits to become visible; the load becomes visible all the same, and the table is made again.
abbrev pub drop_t : ℕ → Command
drop_t at = command.DropTable d t false at

abbrev pub gone : List Entry → List Entry
gone H = call (drop_t 5) reply.Done ∷ H

abbrev pub shown_gone : Built → List Entry
shown_gone built = call (command.Publish 6) (reply.Published 1 1) ∷ gone (submitted built)

abbrev pub made_again : Built → List Entry
made_again built = call (command.CreateTable d t def false) reply.Done ∷ shown_gone built

-- the table is made once more
abbrev pub remade : List Entry → List Entry
remade H = call (command.CreateTable d t def false) reply.Done ∷ H

-- a two-phase load that is committed
abbrev pub commit_b : ℕ → Command
commit_b at = command.Commit d (key.Label b) at

abbrev pub committed : Built → List Entry
committed built = call (commit_b 10) (reply.Committed 1 1 0) ∷ precommitted built

-- and becomes visible
abbrev pub committed_shown : Built → List Entry
committed_shown built = call (command.Publish 20) (reply.Published 1 1) ∷ committed built

-- `PARTITION p VALUES LESS THAN (MAXVALUE)`
abbrev pub part : Part
part = record { name = 112 ∷ []; bounds = Less None }

-- `ALTER TABLE t ADD ROLLUP r (k)`, after a load
abbrev pub r : List ℕ
r = 114 ∷ []

abbrev pub alter_t : Command
alter_t = command.AddAlter d t (alter.Rollup r (k ∷ [])) 20

abbrev pub advance : Command
advance = command.Advance 30

abbrev pub added : Built → List Entry
added built = call alter_t (reply.Added 1) ∷ loaded built

-- its watershed is the number 2
abbrev pub waiting : Built → List Entry
waiting built = call advance (reply.Advanced 1 job_state.WaitingTxn) ∷ added built

abbrev pub running : Built → List Entry
running built = call advance (reply.Advanced 1 job_state.Running) ∷ waiting built

-- its one task, and what comes of it
abbrev pub piece_of : PieceResult → Piece
piece_of result = record { number = 1; born = 0; job = 1; index = 0; part = 0; bucket = 0; result = result }

abbrev pub taken : Task → Built → List Entry
taken task built = call command.Take (reply.Taken task) ∷ running built

abbrev pub given : PieceResult → Task → Built → List Entry
given result task built = call (command.Give (piece_of result) 40) (reply.Given 1 (given_state result)) ∷ taken task built

abbrev pub finished : PieceResult → Task → Built → List Entry
finished result task built = call advance (reply.Advanced 1 job_state.Finished) ∷ given result task built

-- the map of the rollup, and what it makes of rows
abbrev pub map_of_r : RowMap
map_of_r = rollup_map (shape_of def) (k ∷ [])

-- what the plan of the next load has
abbrev pub plan_with_r : ℕ → Plan
plan_with_r id = record (plan id) { targets = record { index = 1; shape = map_of_r.to; map = map_of_r } ∷ [] }
