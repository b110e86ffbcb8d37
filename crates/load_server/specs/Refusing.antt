-- What is written for a request that cannot be read, and how the session ends then.
use Rattle.std.specs.Prelude.{◌≡◌, ℕ, List, Option}
use Rattle.std.specs.Io.KnownBytes.{Appends, Keeps}
use Rattle.dl_outside.specs.Writing.{AppendsFront}
use Rattle.http_wire.specs.declared.error.WireError.{WireError}
use Rattle.http_wire.specs.declared.error.WireError.TheVariants as wire
use Rattle.load_server.specs.Exchanges.{refusal_of}
use Rattle.load_server.specs.declared.session_end.SessionEnd.{SessionEnd}
use Rattle.load_server.specs.declared.session_end.SessionEnd.TheVariants as ends

-- the response 400 was written, or a front of it
abbrev pub Tries : ℕ → WireError → Option (List ℕ) → Option (List ℕ) → SessionEnd → Type 0
Tries at error before now (ends.Refused place) = (place ≡ at) × Appends before now (refusal_of error)
Tries at error before now ends.WriteFault = AppendsFront before now (refusal_of error)
Tries at error before now _ = ⊥

-- a fault of the source and want of memory are no fault of the request, and nothing is written
abbrev pub Refuses : WireError → Option (List ℕ) → Option (List ℕ) → SessionEnd → Type 0
Refuses (wire.BadHead at) before now end = Tries at (wire.BadHead at) before now end
Refuses (wire.BadLength at) before now end = Tries at (wire.BadLength at) before now end
Refuses (wire.BodyTooLong at) before now end = Tries at (wire.BodyTooLong at) before now end
Refuses (wire.CutBody at got wanted) before now end = Tries at (wire.CutBody at got wanted) before now end
Refuses (wire.BadChunk at) before now end = Tries at (wire.BadChunk at) before now end
Refuses wire.ReadFault before now end = (end ≡ ends.ReadFault) × Keeps before now
Refuses wire.NoMemory before now end = (end ≡ ends.NoMemory) × Keeps before now
