-- What contracts see of a source and a sink in memory.
use Rattle.std.specs.Prelude.{ℕ, List}

-- a source: the bytes that are left, and how often it has failed
pub record Giver : Type 0 where
  pub left : List ℕ
  pub faults : ℕ

-- a sink: the bytes that were written, and how often it has failed
pub record Taker : Type 0 where
  pub written : List ℕ
  pub faults : ℕ
