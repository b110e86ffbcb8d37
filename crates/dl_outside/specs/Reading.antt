-- Reading a source piece by piece.
use Rattle.std.specs.Prelude.{◌≡◌, ℕ, List, ◌++◌, Option, length}
use Rattle.std.specs.Io.KnownBytes.{Consumes, IsAtEnd}

-- some bytes at the front of what was left are gone
abbrev pub ConsumesSome : Option (List ℕ) → Option (List ℕ) → Type 0
ConsumesSome old new = (bytes : List ℕ) × Consumes old new bytes

-- a read of n bytes, none only at the end: they left the source, and stand behind what was read before
pub record AddsPiece (n : ℕ) (left : Option (List ℕ)) (read : List ℕ) (left_after : Option (List ℕ)) (read_after : List ℕ) : Type 0 where
  pub piece : List ℕ
  pub count : length piece ≡ n
  pub consumed : Consumes left left_after piece
  pub added : read_after ≡ read ++ piece
  pub ends : n ≡ 0 → IsAtEnd left_after
