-- The rows so far stand by partition and bucket.
use Rattle.std.proofs.Common.{◌≡◌, take}
use Rattle.load_build.specs.Spreading.{spread_rows}
use Rattle.load_build.proofs.spreading.spread.Given as goal

abbrev pub invariant-loop-place : goal.invariant-loop-place
invariant-loop-place l = l.parts.items ≡ spread_rows l.layout (take l.place l.rows)
