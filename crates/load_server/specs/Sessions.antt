-- What a session did: the requests that it read, their moments and calls, and the bytes that it wrote (this project's own).
use Rattle.std.specs.Prelude.{◌≡◌, ◌<◌, ◌≤◌, ◌+◌, ◌-◌, ◌⊎◌, ℕ, Bool, true, false, List, [], ◌∷◌, ◌++◌, Option, Some, None, IfSome, is_some, length, map, take}
use Rattle.std.specs.List.{AllByRecursion, flat_map}
use Rattle.std.specs.Io.KnownBytes.{Appends, Consumes}
use Rattle.front_defs.specs.declared.history.Entry.{Entry}
use Rattle.front_defs.specs.Script.{Moved}
use Rattle.http_wire.specs.Connections.{closes}
use Rattle.http_wire.specs.Bodies.{TakesPart}
use Rattle.http_wire.specs.Heads.{HasNoHead, TakesHead}
use Rattle.http_wire.specs.Reader.{place_after}
use Rattle.http_wire.specs.Requests.{Request, Requests, Fails, TakesBody}
use Rattle.http_wire.specs.declared.error.WireError.{WireError}
use Rattle.http_wire.specs.declared.error.WireError.TheVariants as wire
use Rattle.http_wire.specs.declared.head.Head.{Head}
use Rattle.load_server.specs.Exchanges.{Exchange, IsServed, Behind, behind_texts, texts_of, nothing_behind}
use Rattle.load_server.specs.declared.session_end.SessionEnd.{SessionEnd}
use Rattle.load_server.specs.declared.session_end.SessionEnd.TheVariants as ends

-- how many requests a session answers at most
abbrev pub most_requests : ℕ
most_requests = 1000000

-- where a clock tells after a call, it told before, and these moments are the ones added
abbrev pub GivesMoments : Option (List ℕ) → Option (List ℕ) → List ℕ → Type 0
GivesMoments old None moments = Unit {0}
GivesMoments None (Some now) moments = ⊥
GivesMoments (Some before) (Some now) moments = now ≡ before ++ moments

-- the text, whose first byte has that place, begins with these requests, and goes on with rest at its place
abbrev pub Begins : ℕ → List ℕ → List Request → ℕ → List ℕ → Type 0
Begins at text [] place rest = (place ≡ at) × (rest ≡ text)
Begins at text (q ∷ qs) place rest =
    (behind : List ℕ) × (left : List ℕ) × TakesHead at text q.head behind × TakesBody behind q.head q.body left
    × Begins (place_after (place_after at (length text - length behind)) (length q.body)) left qs place rest

-- a head that was read stands there
abbrev pub HeadStands : ℕ → List ℕ → Option Head → Type 0
HeadStands at text None = Unit {0}
HeadStands at text (Some head) = (rest : List ℕ) × TakesHead at text head rest

-- a request that cannot be read stands there
abbrev pub ErrorStands : ℕ → List ℕ → Option WireError → Type 0
ErrorStands at text None = Unit {0}
ErrorStands at text (Some error) = Fails at text error

abbrev pub requests_of : List Exchange → List Request
requests_of xs = map (λ x. x.request) xs

abbrev pub closing : Exchange → Bool
closing x = closes x.request.head

-- no exchange closes the connection
abbrev pub StayOpen : List Exchange → Type 0
StayOpen xs = AllByRecursion (λ x. closing x ≡ false) xs

-- the last one closes it, and no other
abbrev pub LastCloses : List Exchange → Type 0
LastCloses xs = (front : List Exchange) × (x : Exchange) × (xs ≡ front ++ x ∷ []) × StayOpen front × (closing x ≡ true)

-- the text is read to its end, or the last request closes
abbrev pub ReadsAll : SessionEnd → List Exchange → List ℕ → Type 0
ReadsAll ends.Done xs rest = (rest ≡ []) ⊎ LastCloses xs
ReadsAll _ xs rest = Unit {0}

-- Of the text, whose first byte has that place, something was read and this is left: in what was read stands no head, or the head that was read and less than its body.
abbrev pub HoldsNone : ℕ → List ℕ → Option (List ℕ) → Option Head → Type 0
HoldsNone at text left None = (got : List ℕ) × HasNoHead got × Consumes (Some text) left got
HoldsNone at text left (Some head) = (behind : List ℕ) × TakesHead at text head behind × TakesPart head.body (Some behind) left

-- where a read failed, what was read behind the requests that were served holds no whole request
abbrev pub Unread : SessionEnd → ℕ → List ℕ → Option (List ℕ) → Option Head → Type 0
Unread ends.ReadFault at text left head = HoldsNone at text left head
Unread ends.Done at text left head = Unit {0}
Unread ends.WriteFault at text left head = Unit {0}
Unread (ends.Refused place) at text left head = Unit {0}
Unread ends.Enough at text left head = Unit {0}
Unread ends.NoMemory at text left head = Unit {0}

-- the text begins with the requests that were served, and behind them stands what is said; left is what the source has left
pub record ReadText (end : SessionEnd) (xs : List Exchange) (behind : Behind) (at : ℕ) (left : Option (List ℕ)) (text : List ℕ) : Type 0 where
  pub place : ℕ
  pub rest : List ℕ
  pub begins : Begins at text (requests_of xs) place rest
  pub head : HeadStands place rest behind.head
  pub error : ErrorStands place rest behind.error
  pub all : ReadsAll end xs rest
  pub unread : Unread end place rest left behind.head

-- the place that an error names
abbrev pub IsAt : ℕ → WireError → Type 0
IsAt at (wire.BadHead place) = place ≡ at
IsAt at (wire.BadLength place) = place ≡ at
IsAt at (wire.BodyTooLong place) = place ≡ at
IsAt at (wire.CutBody place got wanted) = place ≡ at
IsAt at (wire.BadChunk place) = place ≡ at
IsAt at wire.ReadFault = ⊥
IsAt at wire.NoMemory = ⊥

-- an error at that place stands behind
abbrev pub RefusedAt : ℕ → Option WireError → Type 0
RefusedAt at None = ⊥
RefusedAt at (Some error) = IsAt at error

-- an error in a body
abbrev pub is_in_body : WireError → Bool
is_in_body (wire.BadHead place) = false
is_in_body (wire.BadLength place) = false
is_in_body (wire.BodyTooLong place) = true
is_in_body (wire.CutBody place got wanted) = true
is_in_body (wire.BadChunk place) = true
is_in_body wire.ReadFault = false
is_in_body wire.NoMemory = false

-- where an error stands behind, a head does where the error is in its body, and only there
abbrev pub HasItsHead : Behind → Type 0
HasItsHead b = IfSome b.error (λ e. is_some b.head ≡ is_in_body e)

-- How the requests stand at each end. The input ends before as many as may be answered, or a request closes.
abbrev pub Ended : SessionEnd → List Exchange → Behind → Type 0
Ended ends.Done xs behind = (behind ≡ nothing_behind) × ((StayOpen xs × (length xs < most_requests)) ⊎ LastCloses xs)
Ended ends.ReadFault xs behind = StayOpen xs × (behind.error ≡ None)
Ended ends.WriteFault xs behind = StayOpen xs ⊎ (LastCloses xs × (behind ≡ nothing_behind))
Ended (ends.Refused at) xs behind = StayOpen xs × RefusedAt at behind.error
Ended ends.Enough xs behind = StayOpen xs × (behind ≡ nothing_behind)
Ended ends.NoMemory xs behind = StayOpen xs × (behind.error ≡ None)

-- a session ends with Enough after so many responses, and with any other end but a close or a failed write before
abbrev pub CountsTo : SessionEnd → ℕ → Type 0
CountsTo ends.Enough n = n ≡ most_requests
CountsTo ends.Done n = n ≤ most_requests
CountsTo ends.WriteFault n = n ≤ most_requests
CountsTo _ n = n < most_requests

abbrev pub joined : List (List ℕ) → List ℕ
joined texts = flat_map (λ t. t) texts

-- the last of the texts was written in part, and all before it whole
abbrev pub WroteFront : Option (List ℕ) → Option (List ℕ) → List (List ℕ) → Type 0
WroteFront before now texts = (fronts : List (List ℕ)) × (last : List ℕ) × (n : ℕ) × (texts ≡ fronts ++ last ∷ []) × Appends before now (joined fronts ++ take n last)

abbrev pub Wrote : SessionEnd → Option (List ℕ) → Option (List ℕ) → List (List ℕ) → Type 0
Wrote ends.WriteFault before now texts = WroteFront before now texts
Wrote _ before now texts = Appends before now (joined texts)

-- ---- what a text asks for

-- no request closes the connection
abbrev pub AllStayOpen : List Request → Type 0
AllStayOpen qs = AllByRecursion (λ q. closes q.head ≡ false) qs

-- the last request closes it, and no other
abbrev pub LastOneCloses : List Request → Type 0
LastOneCloses qs = (front : List Request) × (q : Request) × (qs ≡ front ++ q ∷ []) × AllStayOpen front × (closes q.head ≡ true)

-- The text, whose first byte has that place, asks for these requests after n others: they are those up to its end, fewer than may still be answered; or they are those up to one that closes, whatever stands behind it, and no more than may be answered.
abbrev pub AsksFrom : ℕ → ℕ → List Request → List ℕ → Type 0
AsksFrom n at qs text = (Requests at text qs None × AllStayOpen qs × (n + length qs < most_requests)) ⊎ ((place : ℕ) × (rest : List ℕ) × Begins at text qs place rest × LastOneCloses qs × (n + length qs ≤ most_requests))

abbrev pub AsksFor : List Request → List ℕ → Type 0
AsksFor qs text = AsksFrom 0 0 qs text

-- a session that is done has answered all that its text asks for
abbrev pub AnswersAll : SessionEnd → List Exchange → List ℕ → Type 0
AnswersAll end xs text = (qs : List Request) → AsksFor qs text → end ≡ ends.Done → requests_of xs ≡ qs

-- What a session did, with what the source told at first and now, what the sink told at first and now, and what the clock did.
pub record SessionDid (told left before now given given_now : Option (List ℕ)) (stands : List Entry → List Entry → Type 0) (seen own : List Entry) (end : SessionEnd) : Type 0 where
  pub exchanges : List Exchange
  pub behind : Behind
  pub served : AllByRecursion IsServed exchanges
  pub moved : Moved stands seen own (flat_map (λ x. x.calls) exchanges)
  pub moments : GivesMoments given given_now (map (λ x. x.moment) exchanges)
  pub read : IfSome told (ReadText end exchanges behind 0 left)
  pub named : HasItsHead behind
  pub wrote : Wrote end before now (flat_map texts_of exchanges ++ behind_texts behind)
  pub ended : Ended end exchanges behind
  pub count : CountsTo end (length exchanges)
  pub answered : IfSome told (AnswersAll end exchanges)

-- where no device fails, what a text asks for is answered, but for want of memory
abbrev pub IsComplete : SessionEnd → List ℕ → Type 0
IsComplete end text = (qs : List Request) → AsksFor qs text → (end ≡ ends.Done) ⊎ (end ≡ ends.NoMemory)
