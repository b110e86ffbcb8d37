-- The head of a request at the front of a text, within the limits of this project (RFC 9112, sections 2 to 5).
use Rattle.std.specs.Prelude.{◌≡◌, ◌≢◌, ◌≤◌, IfSome, List, [], Option, ⊤, ℕ, drop, length, map, take}
use Rattle.httparse.specs.Grammar.{RequestHead, ReadsRequest, print_request}
use Rattle.httparse.specs.Spans.{IsRequestAt, name_and_value}
use Rattle.httparse.specs.declared.spans.HeaderSpan.{HeaderSpan}
use Rattle.httparse.specs.declared.spans.RequestSpans.{RequestSpans}
use Rattle.dl_outside.specs.Faults.{HasRisen}
use Rattle.http_wire.specs.declared.error.WireError.{WireError}
use Rattle.http_wire.specs.declared.error.WireError.TheVariants.{BadHead, BadLength, BodyTooLong, CutBody, BadChunk, ReadFault, NoMemory}
use Rattle.http_wire.specs.declared.head.BodyLength.TheVariants.{Fixed}
use Rattle.http_wire.specs.declared.head.Head.{Head}
use Rattle.http_wire.specs.Lengths.{HasLength, HasBadLength}
use Rattle.http_wire.specs.Reader.{Reader, place_after}

-- the text begins with that head, of at most 16,384 bytes and 64 fields, and goes on with rest
pub record BeginsWith (text : List ℕ) (tree : RequestHead) (rest : List ℕ) : Type 0 where
  pub reads : ReadsRequest text tree rest
  pub short : length (print_request tree) ≤ 16384
  pub few : length tree.fields ≤ 64

-- no head stands at the front of the text
abbrev pub HasNoHead : List ℕ → Type 0
HasNoHead text = (tree : RequestHead) (rest : List ℕ) → ¬ (BeginsWith text tree rest)

-- the names and the values of a head's fields
abbrev pub fields_of : RequestHead → List (List ℕ × List ℕ)
fields_of tree = map name_and_value tree.fields

-- the head at a place, as it is handed out
abbrev pub head_at : ℕ → RequestHead → ℕ → Head
head_at at tree n = record { method = tree.method; target = tree.target; fields = fields_of tree; minor = tree.minor; at = at; body = Fixed n }

-- the head of a tree, which gives its body a length
abbrev pub IsHeadOf : ℕ → RequestHead → Head → Type 0
IsHeadOf at tree head = (size : ℕ) × HasLength (fields_of tree) size × (head ≡ head_at at tree size)

-- the parser found the tree at the front of the bytes, with its parts at these places
pub record IsFoundAt (bytes : List ℕ) (spans : List HeaderSpan) (found : RequestSpans) (tree : RequestHead) : Type 0 where
  pub reads : IsRequestAt bytes spans found tree
  pub short : length (print_request tree) ≤ 16384
  pub few : length tree.fields ≤ 64

-- the text, whose first byte has that place, begins with that head, which gives its body a length
pub record TakesHead (at : ℕ) (text : List ℕ) (head : Head) (rest : List ℕ) : Type 0 where
  pub tree : RequestHead
  pub begins : BeginsWith text tree rest
  pub is : IsHeadOf at tree head

-- the text has a byte, and does not begin with a head
abbrev pub LacksHead : List ℕ → Type 0
LacksHead text = (text ≢ []) × HasNoHead text

-- the text begins with a head that gives its body no length
abbrev pub LacksLength : List ℕ → Type 0
LacksLength text = (tree : RequestHead) × (rest : List ℕ) × BeginsWith text tree rest × HasBadLength (fields_of tree)

-- why no head was read from the text at that place, with the counts of the source's faults before and now
abbrev pub HeadFault : ℕ → Option (List ℕ) → ℕ → ℕ → WireError → Type 0
HeadFault at text before now (BadHead place) = (place ≡ at) × IfSome text LacksHead
HeadFault at text before now (BadLength place) = (place ≡ at) × IfSome text LacksLength
HeadFault at text before now (BodyTooLong place) = ⊥
HeadFault at text before now (CutBody place got wanted) = ⊥
HeadFault at text before now (BadChunk place) = ⊥
HeadFault at text before now ReadFault = HasRisen before now
HeadFault at text before now NoMemory = ⊤

-- why no head was made of a tree
abbrev pub MakeFault : ℕ → RequestHead → WireError → Type 0
MakeFault at tree (BadHead place) = ⊥
MakeFault at tree (BadLength place) = (place ≡ at) × HasBadLength (fields_of tree)
MakeFault at tree (BodyTooLong place) = ⊥
MakeFault at tree (CutBody place got wanted) = ⊥
MakeFault at tree (BadChunk place) = ⊥
MakeFault at tree ReadFault = ⊥
MakeFault at tree NoMemory = ⊤

-- the head of the tree that was found left the pending bytes
pub record HandsOut (old : Reader) (spans : List HeaderSpan) (found : RequestSpans) (head : Head) (new : Reader) : Type 0 where
  pub tree : RequestHead
  pub stands : IsFoundAt (take 16384 old.pending) spans found tree
  pub is : IsHeadOf old.at tree head
  pub left : new ≡ record { pending = drop found.len old.pending; at = place_after old.at found.len }

-- no head was made of the tree that was found, and the reader is as it was
pub record KeepsBack (old : Reader) (spans : List HeaderSpan) (found : RequestSpans) (error : WireError) (new : Reader) : Type 0 where
  pub tree : RequestHead
  pub stands : IsFoundAt (take 16384 old.pending) spans found tree
  pub fault : MakeFault old.at tree error
  pub same : new ≡ old
