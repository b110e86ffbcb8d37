-- The requests of a text (this project's profile of RFC 9112, section 9.3.2): one behind the other, up to the end of the text or to the first that cannot be read.
use Rattle.std.specs.Prelude.{◌≡◌, ◌++◌, ◌-◌, List, [], ◌∷◌, Option, None, Some, ℕ, length}
use Rattle.http_wire.specs.declared.error.WireError.{WireError}
use Rattle.http_wire.specs.declared.error.WireError.TheVariants.{BadHead, BadLength, BodyTooLong, CutBody, BadChunk, ReadFault, NoMemory}
use Rattle.http_wire.specs.declared.head.Head.{Head}
use Rattle.http_wire.specs.Bodies.{IsBodyOf, IsCut, IsTooLong}
use Rattle.http_wire.specs.Heads.{LacksHead, LacksLength, TakesHead}
use Rattle.http_wire.specs.Reader.{place_after}

-- a request: its head and the bytes of its body
pub record Request : Type 0 where
  pub head : Head
  pub body : List ℕ

-- the text behind a head begins with that whole body, and goes on with rest
pub record TakesBody (text : List ℕ) (head : Head) (body rest : List ℕ) : Type 0 where
  pub whole : IsBodyOf head.body body
  pub parts : text ≡ body ++ rest

-- the request at the front of the text, whose first byte has that place, cannot be read
abbrev pub Fails : ℕ → List ℕ → WireError → Type 0
Fails at text (BadHead place) = (place ≡ at) × LacksHead text
Fails at text (BadLength place) = (place ≡ at) × LacksLength text
Fails at text (BodyTooLong place) = (place ≡ at) × (head : Head) × (rest : List ℕ) × TakesHead at text head rest × IsTooLong head.body
Fails at text (CutBody place got wanted) = (place ≡ at) × (head : Head) × (rest : List ℕ) × TakesHead at text head rest × IsCut head.body (Some rest) got wanted
Fails at text (BadChunk place) = ⊥
Fails at text ReadFault = ⊥
Fails at text NoMemory = ⊥

-- no request stands there: the text has ended, or its request cannot be read
abbrev pub Ends : ℕ → List ℕ → Option WireError → Type 0
Ends at text None = text ≡ []
Ends at text (Some error) = Fails at text error

-- the requests of the text, whose first byte has that place, and its end
abbrev pub Requests : ℕ → List ℕ → List Request → Option WireError → Type 0
Requests at text [] end = Ends at text end
Requests at text (q ∷ qs) end =
    (behind : List ℕ) × (rest : List ℕ) × TakesHead at text q.head behind × TakesBody behind q.head q.body rest
    × Requests (place_after (place_after at (length text - length behind)) (length q.body)) rest qs end
