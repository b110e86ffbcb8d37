-- A response: a status and a body of JSON (this project's own).
use Rattle.std.specs.Prelude.{ℕ, List, codes}
use Rattle.serde_json.specs.Data.{Data}
use Rattle.serde_json.specs.Written.{compact_text}
use Rattle.reply_json.specs.Statements.{error_json}
use Rattle.http_wire.specs.declared.error.WireError.{WireError}
use Rattle.http_wire.specs.declared.error.WireError.TheVariants as wire
use Rattle.load_server.specs.declared.answer.Answer.{Answer}
use Rattle.load_server.specs.declared.answer.Answer.TheVariants as answer

pub record Response : Type 0 where
  pub status : ℕ
  pub body : List ℕ

-- the response of a request that was served
abbrev pub well : Data → Response
well json = record { status = 200; body = compact_text json }

-- the body that names a fault
unfoldable pub fault_body : List ℕ → List ℕ
fault_body name = compact_text (error_json name)

abbrev pub fault : ℕ → List ℕ → Response
fault status name = record { status = status; body = fault_body name }

-- no such target is served
abbrev pub not_found : Response
not_found = fault 404 (codes "NotFound")

-- the keeper of the records failed
abbrev pub keeper_fault : Response
keeper_fault = fault 503 (codes "KeeperFault")

-- memory was short
abbrev pub out_of_memory : Response
out_of_memory = fault 503 (codes "OutOfMemory")

-- what an answer stands for
abbrev pub response_of : Answer → Response
response_of (answer.Json body) = record { status = 200; body = body.items }
response_of answer.NotFound = not_found
response_of answer.KeeperFault = keeper_fault
response_of answer.OutOfMemory = out_of_memory

-- the name of what is wrong on the wire
abbrev pub wire_name : WireError → List ℕ
wire_name (wire.BadHead at) = codes "BadHead"
wire_name (wire.BadLength at) = codes "BadLength"
wire_name (wire.BodyTooLong at) = codes "BodyTooLong"
wire_name (wire.CutBody at got wanted) = codes "CutBody"
wire_name (wire.BadChunk at) = codes "BadChunk"
wire_name wire.ReadFault = codes "ReadFault"
wire_name wire.NoMemory = codes "NoMemory"
