-- What a request asks of the core, command after command, and what is answered (this project's own; loads after the Apache Doris documentation, "Stream Load").
use Rattle.std.specs.Prelude.{ℕ, zero, suc, ◌+◌, Bool, true, false, List, [], Option, Some, None, cond, nat_le, nat_lt, length, map}
use Rattle.csv_load.specs.Body.{body as parsed_of, records_by}
use Rattle.csv_load.specs.Limit.{fails}
use Rattle.csv_load.specs.Refusal.{max_records}
use Rattle.csv_load.specs.declared.options.Options.{Options}
use Rattle.csv_load.specs.declared.parsed.Parsed.{Parsed}
use Rattle.dl_values.specs.declared.cell.Cell.{Cell}
use Rattle.partitions.specs.Places.{is_inside}
use Rattle.rowsets.specs.RowsetView.{rowset_rows}
use Rattle.shadow_writes.specs.declared.plan.Plan.{Plan}
use Rattle.shadow_writes.specs.declared.built.Built.{Built}
use Rattle.sql_text.specs.declared.plain_def.PlainDef.{PlainDef}
use Rattle.sql_text.specs.declared.query.Query.{Query}
use Rattle.front_defs.specs.declared.command.Command.TheVariants as command
use Rattle.front_defs.specs.declared.command.TxnKey.{TxnKey}
use Rattle.front_defs.specs.declared.command.TxnKey.TheVariants as key
use Rattle.front_defs.specs.declared.reply.Reply.{Reply}
use Rattle.front_defs.specs.declared.reply.Reply.TheVariants as reply
use Rattle.front_defs.specs.declared.reply.Placed.{Placed}
use Rattle.front_defs.specs.Script.{Script, Ends, Asks, Works}
use Rattle.load_requests.specs.declared.end_key.EndKey.{EndKey}
use Rattle.load_requests.specs.declared.end_key.EndKey.TheVariants as named
use Rattle.load_requests.specs.declared.request.Request.{Request}
use Rattle.load_requests.specs.declared.request.Request.TheVariants as request
use Rattle.reply_json.specs.Results.{done_json}
use Rattle.reply_json.specs.Statements.{refused_json}
use Rattle.reply_texts.specs.Texts.{refusal_text}
use Rattle.load_server.specs.Ends.{ended, refused_end}
use Rattle.load_server.specs.Reports.{succeeded, delayed, failed, refused_load, used_load, too_many_rows, too_many_filtered}
use Rattle.load_server.specs.Responses.{Response, well, not_found, keeper_fault, out_of_memory}
use Rattle.load_server.specs.Results.{all_json}
use Rattle.load_server.specs.WholeDef.{whole_def}
use Rattle.load_server.specs.declared.load.Load.{Load}

-- it goes on so, or memory is short
abbrev pub or_lacking : Script Response → Script Response
or_lacking script = Works script (Ends out_of_memory)

-- a response that takes memory to make
abbrev pub made : Response → Script Response
made response = or_lacking (Ends response)

-- ---- loads

-- after one publish turn: until the load's place is reached, or nothing waits; a fault leaves it committed
abbrev pub after_publish : (good late : Response) → ℕ → Script Response → Reply → Script Response
after_publish good late place later (reply.Published txn reached) = cond (nat_le place reached) (made good) later
after_publish good late place later reply.NothingToPublish = made good
after_publish good late place later reply.NoMemory = Ends out_of_memory
after_publish good late place later _ = made late

-- the publish turns, so many at most
abbrev pub publishing : (good late : Response) → ℕ → ℕ → ℕ → Script Response
publishing good late at place zero = made good
publishing good late at place (suc most) = Asks (command.Publish at) (after_publish good late place (publishing good late at place most))

-- the publish turns of a load that has this place; one that waits for its commit has none
abbrev pub publishing_from : (good late : Response) → ℕ → Option Placed → Script Response
publishing_from good late at None = made good
publishing_from good late at (Some p) = publishing good late at p.place (p.ahead + 1)

-- after an abort for another cause than want of memory
abbrev pub after_abort : Response → Reply → Script Response
after_abort response reply.KeeperFault = Ends keeper_fault
after_abort response reply.NoMemory = Ends out_of_memory
after_abort response _ = made response

abbrev pub aborting : Load → ℕ → Response → Script Response
aborting load txn response = Asks (command.Abort load.db (key.Id txn) load.at) (after_abort response)

-- an abort since memory was short
abbrev pub giving_up : Load → ℕ → Script Response
giving_up load txn = Asks (command.Abort load.db (key.Id txn) load.at) (λ r. Ends out_of_memory)

-- after the Submit, with how many records were filtered, and how many there are
abbrev pub after_submit : Load → ℕ → ℕ → ℕ → Reply → Script Response
after_submit load txn filtered total (reply.Submitted placed) = publishing_from (succeeded load.sent txn filtered total) (delayed load.sent txn filtered total) load.at placed
after_submit load txn filtered total (reply.Expired since) = aborting load txn (failed load.sent txn (refusal_text (reply.Expired since)) filtered total)
after_submit load txn filtered total reply.NoMemory = giving_up load txn
after_submit load txn filtered total reply.KeeperFault = Ends keeper_fault
after_submit load txn filtered total r = made (failed load.sent txn (refusal_text r) filtered total)

-- the body was read: the load fails where too many records were filtered, and else is built and submitted
abbrev pub submitting : (Plan → List (List Cell) → Built) → Load → ℕ → Plan → Parsed → Script Response
submitting building load txn plan parsed = cond (fails parsed.filtered parsed.total load.options.ratio)
    (aborting load txn (failed load.sent txn (too_many_filtered parsed.filtered parsed.total) parsed.filtered parsed.total))
    (Asks (command.Submit txn (building plan parsed.rows) load.at) (after_submit load txn parsed.filtered parsed.total))

-- what a body gives by a plan: a row outside every partition of the table is filtered
abbrev pub parsed_by : Plan → Options → List ℕ → Parsed
parsed_by plan options body = parsed_of plan.base (is_inside plan.layout) options body

-- the load has begun: it fails where its body has too many records
abbrev pub reading : (Plan → List (List Cell) → Built) → Load → List ℕ → ℕ → Plan → Script Response
reading building load body txn plan = cond (nat_lt max_records (length (records_by load.options body)))
    (aborting load txn (failed load.sent txn too_many_rows 0 0))
    (submitting building load txn plan (parsed_by plan load.options body))

-- after the Begin
abbrev pub after_begin : (Plan → List (List Cell) → Built) → Load → List ℕ → Reply → Script Response
after_begin building load body (reply.Begun txn plan) = Works (reading building load body txn plan) (giving_up load txn)
after_begin building load body (reply.Used txn state) = made (used_load load.sent.label txn state)
after_begin building load body reply.KeeperFault = Ends keeper_fault
after_begin building load body reply.NoMemory = Ends out_of_memory
after_begin building load body r = made (refused_load load.sent.label (refusal_text r))

abbrev pub loading : (Plan → List (List Cell) → Built) → Load → List ℕ → List ℕ → Script Response
loading building load table body = or_lacking (Asks (command.Begin load.db table load.sent.label load.two_phase load.at) (after_begin building load body))

-- ---- ends of two-phase loads

-- the transaction that an end names
abbrev pub key_of : EndKey → TxnKey
key_of (named.Id id) = key.Id id
key_of (named.Label label) = key.Label label

-- an end that the core refused
abbrev pub refused_by : Reply → Script Response
refused_by reply.KeeperFault = Ends keeper_fault
refused_by reply.NoMemory = Ends out_of_memory
refused_by r = made (refused_end (refusal_text r))

-- after a Commit: the publish turns of the load that was committed
abbrev pub after_commit : ℕ → Reply → Script Response
after_commit at (reply.Committed txn place ahead) = publishing (ended true true txn) (ended true false txn) at place (ahead + 1)
after_commit at r = refused_by r

-- after an Abort that was asked for
abbrev pub after_asked_abort : Reply → Script Response
after_asked_abort (reply.Aborted txn) = made (ended false false txn)
after_asked_abort r = refused_by r

abbrev pub ending : List ℕ → TxnKey → Bool → ℕ → Script Response
ending db txn true at = Asks (command.Commit db txn at) (after_commit at)
ending db txn false at = Asks (command.Abort db txn at) after_asked_abort

-- ---- statements

-- a statement that the core refused
abbrev pub refused : Reply → Script Response
refused reply.KeeperFault = Ends keeper_fault
refused reply.NoMemory = Ends out_of_memory
refused r = made (well (refused_json (refusal_text r)))

-- after a statement without a result
abbrev pub after_create : Reply → Script Response
after_create reply.Done = made (well done_json)
after_create r = refused r

-- a table of one partition, whose definition takes memory to write out
abbrev pub creating : List ℕ → List ℕ → PlainDef → Script Response
creating db table def = or_lacking (Asks (command.CreateTable db table (whole_def def) false) after_create)

-- after the snapshot of a query
abbrev pub after_snapshot : Reply → Script Response
after_snapshot (reply.Snap s) = made (well (all_json s.index (map (λ l. rowset_rows l.value) s.lists)))
after_snapshot r = refused r

-- `SELECT * FROM table`
abbrev pub all_of : List ℕ → Query
all_of table = record { table = table; star = true; items = []; filters = []; group = []; order = []; limit = None }

abbrev pub selecting : List ℕ → List ℕ → Script Response
selecting db table = or_lacking (Asks (command.Snapshot db table (all_of table)) after_snapshot)

-- ---- requests

-- the script of a request with this body, which came at this moment
abbrev pub script_of : (Plan → List (List Cell) → Built) → ℕ → List ℕ → Request → Script Response
script_of building at body request.Unknown = Ends not_found
script_of building at body (request.Load db table label two_phase options) = loading building (record { db = db; sent = record { label = label; bytes = length body }; two_phase = two_phase; options = options; at = at }) table body
script_of building at body (request.BadLoad label message) = made (refused_load label message)
script_of building at body (request.End db key commit) = ending db (key_of key) commit at
script_of building at body (request.BadEnd message) = made (refused_end message)
script_of building at body (request.CreateDb name) = Asks (command.CreateDb name false) after_create
script_of building at body (request.CreateTable db table def) = creating db table def
script_of building at body (request.Select db table) = selecting db table
script_of building at body (request.BadStatement message) = made (well (refused_json message))
