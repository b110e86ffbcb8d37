-- A request that was served, and the bytes that answer it.
use Rattle.std.specs.Prelude.{ℕ, true, List, [], ◌∷◌, ◌++◌, Option, Some, None, cond}
use Rattle.dl_values.specs.declared.cell.Cell.{Cell}
use Rattle.shadow_writes.specs.declared.plan.Plan.{Plan}
use Rattle.shadow_writes.specs.declared.built.Built.{Built}
use Rattle.front_defs.specs.declared.history.Call.{Call}
use Rattle.front_defs.specs.declared.history.Entry.{Entry}
use Rattle.front_defs.specs.Script.{Script, Served, Answered}
use Rattle.http_wire.specs.Connections.{closes, expects_continue}
use Rattle.http_wire.specs.Requests.{Request}
use Rattle.http_wire.specs.Responses.{continue_text, response_text}
use Rattle.http_wire.specs.declared.error.WireError.{WireError}
use Rattle.http_wire.specs.declared.head.Head.{Head}
use Rattle.load_requests.specs.Requests.{request_of}
use Rattle.load_server.specs.Building.{IsBuilding}
use Rattle.load_server.specs.Responses.{Response, fault_body, wire_name}
use Rattle.load_server.specs.Scripts.{or_lacking, script_of}

-- a request, the moment at which it came, its calls, and its response
pub record Exchange : Type 0 where
  pub request : Request
  pub moment : ℕ
  pub calls : List Call
  pub response : Response

-- what a request asks, by what its head and its body say; reading it may want memory
abbrev pub asked : (Plan → List (List Cell) → Built) → ℕ → Request → Script Response
asked building at q = or_lacking (script_of building at q.body (request_of q.head q.body))

-- by its calls the request was served, and this is the response
pub record IsServed (x : Exchange) : Type 0 where
  pub building : Plan → List (List Cell) → Built
  pub builds : IsBuilding building
  pub served : Served (asked building x.moment x.request) x.calls x.response

-- what stood for the seen and the own list stands for them after a request that was answered
pub record AnsweredBy (stands : List Entry → List Entry → Type 0) (seen own : List Entry) (script : (Plan → List (List Cell) → Built) → Script Response) (response : Response) : Type 0 where
  pub building : Plan → List (List Cell) → Built
  pub builds : IsBuilding building
  pub answered : Answered stands seen own (script building) response

-- the interim response, where it is due
abbrev pub interim : Head → List (List ℕ)
interim head = cond (expects_continue head) (continue_text ∷ []) []

-- the texts that answer a request
abbrev pub texts_of : Exchange → List (List ℕ)
texts_of x = interim x.request.head ++ response_text x.response.status (closes x.request.head) x.response.body ∷ []

-- what answers a request that cannot be read
abbrev pub refusal_of : WireError → List ℕ
refusal_of error = response_text 400 true (fault_body (wire_name error))

-- what stands behind the requests that were served: perhaps the head of one whose body was not read, perhaps why it cannot be read
pub record Behind : Type 0 where
  pub head : Option Head
  pub error : Option WireError

abbrev pub nothing_behind : Behind
nothing_behind = record { head = None; error = None }

abbrev pub head_texts : Option Head → List (List ℕ)
head_texts None = []
head_texts (Some head) = interim head

abbrev pub error_texts : Option WireError → List (List ℕ)
error_texts None = []
error_texts (Some error) = refusal_of error ∷ []

abbrev pub behind_texts : Behind → List (List ℕ)
behind_texts b = head_texts b.head ++ error_texts b.error
