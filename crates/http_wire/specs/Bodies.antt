-- The body of a request (RFC 9112, section 6).
use Rattle.std.specs.Prelude.{◌≡◌, ◌≤◌, ◌<◌, IfSome, List, Option, ⊤, ℕ, length}
use Rattle.dl_outside.specs.Faults.{HasRisen}
use Rattle.http_wire.specs.declared.error.WireError.{WireError}
use Rattle.http_wire.specs.declared.error.WireError.TheVariants.{BadHead, BadLength, BodyTooLong, CutBody, BadChunk, ReadFault, NoMemory}
use Rattle.http_wire.specs.declared.head.BodyLength.{BodyLength}
use Rattle.http_wire.specs.declared.head.BodyLength.TheVariants.{Fixed, Chunked}
use Rattle.http_wire.specs.declared.head.Head.{Head}
use Rattle.http_wire.specs.Taking.{TakesLess}

-- the length is a number
abbrev pub IsSized : BodyLength → Type 0
IsSized (Fixed n) = Unit {0}
IsSized Chunked = ⊥

-- the length is above the limit
abbrev pub IsTooLong : BodyLength → Type 0
IsTooLong (Fixed n) = 16777216 < n
IsTooLong Chunked = ⊥

-- the bytes are a whole body of that length, within the limit
abbrev pub IsBodyOf : BodyLength → List ℕ → Type 0
IsBodyOf (Fixed n) body = (length body ≡ n) × (n ≤ 16777216)
IsBodyOf Chunked body = ⊥

-- the text has only got of the wanted bytes of a body of that length
abbrev pub IsCut : BodyLength → Option (List ℕ) → ℕ → ℕ → Type 0
IsCut (Fixed n) text got wanted = (wanted ≡ n) × (n ≤ 16777216) × (got < wanted) × IfSome text (λ bytes. length bytes ≡ got)
IsCut Chunked text got wanted = ⊥

-- fewer bytes than the body of that length has left the front of the text, and what stands behind them is left
abbrev pub TakesPart : BodyLength → Option (List ℕ) → Option (List ℕ) → Type 0
TakesPart (Fixed n) text left = TakesLess n text left
TakesPart Chunked text left = ⊥

-- why no body was read for the head from the text behind it, with the counts of the source's faults before and now
abbrev pub BodyFault : Head → Option (List ℕ) → ℕ → ℕ → WireError → Type 0
BodyFault head text before now (BadHead place) = ⊥
BodyFault head text before now (BadLength place) = (place ≡ head.at) × (head.body ≡ Chunked)
BodyFault head text before now (BodyTooLong place) = (place ≡ head.at) × IsTooLong head.body
BodyFault head text before now (CutBody place got wanted) = (place ≡ head.at) × IsCut head.body text got wanted
BodyFault head text before now (BadChunk place) = ⊥
BodyFault head text before now ReadFault = HasRisen before now
BodyFault head text before now NoMemory = ⊤
