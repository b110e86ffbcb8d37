-- One request of a session.
use Rattle.std.specs.Prelude.{◌≡◌, ◌≤◌, ◌-◌, ◌⊎◌, ℕ, Bool, true, false, List, [], ◌∷◌, ◌++◌, Option, Some, None, IfSome, map, length}
use Rattle.std.specs.List.{AllByRecursion, flat_map}
use Rattle.std.specs.Io.KnownBytes.{Appends}
use Rattle.dl_outside.specs.Writing.{AppendsFront}
use Rattle.front_defs.specs.declared.history.Call.{Call}
use Rattle.front_defs.specs.declared.history.Entry.{Entry}
use Rattle.front_defs.specs.Script.{Moved}
use Rattle.http_wire.specs.Connections.{closes}
use Rattle.http_wire.specs.Heads.{TakesHead}
use Rattle.http_wire.specs.Reader.{place_after}
use Rattle.http_wire.specs.Requests.{Fails, Request}
use Rattle.http_wire.specs.declared.error.WireError.{WireError}
use Rattle.http_wire.specs.Responses.{response_text}
use Rattle.http_wire.specs.declared.head.Head.{Head}
use Rattle.load_server.specs.Exchanges.{Exchange, IsServed, Behind, behind_texts, texts_of, nothing_behind}
use Rattle.load_server.specs.Responses.{Response}
use Rattle.load_server.specs.Sessions.{Begins, Ended, GivesMoments, HasItsHead, LastCloses, ReadText, Wrote, closing, joined, requests_of}
use Rattle.load_server.specs.declared.session_end.SessionEnd.{SessionEnd}
use Rattle.load_server.specs.declared.session_end.SessionEnd.TheVariants as ends

-- the response of a served request was written, and the connection closes or stays open; or a front of it was written
abbrev pub Writes : Option SessionEnd → Bool → Option (List ℕ) → Option (List ℕ) → List ℕ → Type 0
Writes None close before now text = (close ≡ false) × Appends before now text
Writes (Some ends.Done) close before now text = (close ≡ true) × Appends before now text
Writes (Some ends.WriteFault) close before now text = AppendsFront before now text
Writes (Some _) close before now text = ⊥

-- a request whose body was read was served, and its response written
pub record Answers (q : Request) (before now given given_now : Option (List ℕ)) (stands : List Entry → List Entry → Type 0) (seen own : List Entry) (end : Option SessionEnd) : Type 0 where
  pub moment : ℕ
  pub calls : List Call
  pub response : Response
  pub served : IsServed (record { request = q; moment = moment; calls = calls; response = response })
  pub moved : Moved stands seen own calls
  pub moments : GivesMoments given given_now (moment ∷ [])
  pub wrote : Writes end (closes q.head) before now (response_text response.status (closes q.head) response.body)

-- how the requests of one step stand where the session ends with it: the input ended, or the one request closes
abbrev pub EndsWith : SessionEnd → List Exchange → Behind → Type 0
EndsWith ends.Done xs behind = (behind ≡ nothing_behind) × ((xs ≡ []) ⊎ LastCloses xs)
EndsWith ends.ReadFault xs behind = Ended ends.ReadFault xs behind
EndsWith ends.WriteFault xs behind = Ended ends.WriteFault xs behind
EndsWith (ends.Refused at) xs behind = Ended (ends.Refused at) xs behind
EndsWith ends.Enough xs behind = Ended ends.Enough xs behind
EndsWith ends.NoMemory xs behind = Ended ends.NoMemory xs behind

-- how the requests stand where the session goes on, or ends
abbrev pub StepEnded : Option SessionEnd → List Exchange → Behind → Type 0
StepEnded None xs behind = (x : Exchange) × (xs ≡ x ∷ []) × (closing x ≡ false) × (behind ≡ nothing_behind)
StepEnded (Some end) xs behind = EndsWith end xs behind

-- what is read of the text where the session goes on, or ends; unread is what the source has left
abbrev pub StepRead : Option SessionEnd → List Exchange → Behind → ℕ → ℕ → Option (List ℕ) → Option (List ℕ) → List ℕ → Type 0
StepRead None xs behind at at_now left unread text = (rest : List ℕ) × Begins at text (requests_of xs) at_now rest × (left ≡ Some rest)
StepRead (Some end) xs behind at at_now left unread text = ReadText end xs behind at unread text

abbrev pub StepWrote : Option SessionEnd → Option (List ℕ) → Option (List ℕ) → List (List ℕ) → Type 0
StepWrote None before now texts = Appends before now (joined texts)
StepWrote (Some end) before now texts = Wrote end before now texts

-- how many requests were served where the session goes on, or ends
abbrev pub StepCounts : Option SessionEnd → ℕ → Type 0
StepCounts None n = n ≡ 1
StepCounts (Some ends.Done) n = n ≤ 1
StepCounts (Some ends.WriteFault) n = n ≤ 1
StepCounts (Some ends.Enough) n = ⊥
StepCounts (Some _) n = n ≡ 0

-- One request of a session, or its end: at most one request was served. The text, whose first byte has that place, is what was left of the input before it; left is what is left of the input now, and unread what the source has of that.
pub record Step (at : ℕ) (text : Option (List ℕ)) (at_now : ℕ) (left unread before now given given_now : Option (List ℕ)) (stands : List Entry → List Entry → Type 0) (seen own : List Entry) (end : Option SessionEnd) : Type 0 where
  pub exchanges : List Exchange
  pub behind : Behind
  pub one : StepCounts end (length exchanges)
  pub served : AllByRecursion IsServed exchanges
  pub moved : Moved stands seen own (flat_map (λ x. x.calls) exchanges)
  pub moments : GivesMoments given given_now (map (λ x. x.moment) exchanges)
  pub read : IfSome text (StepRead end exchanges behind at at_now left unread)
  pub named : HasItsHead behind
  pub wrote : StepWrote end before now (flat_map texts_of exchanges ++ behind_texts behind)
  pub ended : StepEnded end exchanges behind

-- the head was read from the front of the text, and these are the place and the text behind it
abbrev pub HeadRead : ℕ → Option (List ℕ) → Head → ℕ → Option (List ℕ) → Type 0
HeadRead at text head at_now left = IfSome text (λ t. (rest : List ℕ) × TakesHead at t head rest × (left ≡ Some rest) × (at_now ≡ place_after at (length t - length rest)))

-- a request that closes ends the session
abbrev pub end_after : Bool → Option SessionEnd
end_after true = Some ends.Done
end_after false = None

-- how a request whose body was read ends, by whether it closes
abbrev pub ClosesBy : Bool → Option SessionEnd → Type 0
ClosesBy close None = close ≡ false
ClosesBy close (Some ends.Done) = close ≡ true
ClosesBy close (Some ends.WriteFault) = Unit {0}
ClosesBy close (Some _) = ⊥

-- What a step takes of the text, whoever serves its request: one request, which closes where the session is done, or nothing where the text has ended; it refuses none that can be read.
abbrev pub Takes : Option SessionEnd → ℕ → ℕ → Option (List ℕ) → List ℕ → Type 0
Takes None at at_now left text = (q : Request) × (rest : List ℕ) × Begins at text (q ∷ []) at_now rest × (left ≡ Some rest) × (closes q.head ≡ false)
Takes (Some ends.Done) at at_now left text = (text ≡ []) ⊎ ((q : Request) × (place : ℕ) × (rest : List ℕ) × Begins at text (q ∷ []) place rest × (closes q.head ≡ true))
Takes (Some (ends.Refused place)) at at_now left text = (error : WireError) × Fails at text error
Takes (Some ends.Enough) at at_now left text = ⊥
Takes (Some ends.ReadFault) at at_now left text = Unit {0}
Takes (Some ends.WriteFault) at at_now left text = Unit {0}
Takes (Some ends.NoMemory) at at_now left text = Unit {0}
