-- Taking bytes from the front of an input.
use Rattle.std.specs.Prelude.{◌≡◌, ◌≤◌, ◌<◌, ◌++◌, IfSome, List, Option, ⊤, ℕ, length}
use Rattle.std.specs.Io.KnownBytes.{Consumes}
use Rattle.dl_outside.specs.Faults.{HasRisen}
use Rattle.http_wire.specs.declared.body.NoBody.{NoBody}
use Rattle.http_wire.specs.declared.body.NoBody.TheVariants.{Cut, Fault, NoMemory}

-- a piece left the pending bytes for the end of the body, which got no longer than wanted
pub record MovesPiece (wanted : ℕ) (pending body pending_after body_after : List ℕ) : Type 0 where
  pub piece : List ℕ
  pub some : 0 < length piece
  pub fits : length body_after ≤ wanted
  pub taken : pending ≡ piece ++ pending_after
  pub added : body_after ≡ body ++ piece

-- fewer bytes than wanted left the front of the text, and what stands behind them is left
pub record TakesLess (wanted : ℕ) (text left : Option (List ℕ)) : Type 0 where
  pub got : List ℕ
  pub fewer : length got < wanted
  pub gone : Consumes text left got

-- why fewer bytes than wanted were taken, with the counts of the source's faults before and now
abbrev pub StopsShort : ℕ → Option (List ℕ) → ℕ → ℕ → NoBody → Type 0
StopsShort wanted text before now (Cut got) = (got < wanted) × IfSome text (λ bytes. length bytes ≡ got)
StopsShort wanted text before now Fault = HasRisen before now
StopsShort wanted text before now NoMemory = ⊤
