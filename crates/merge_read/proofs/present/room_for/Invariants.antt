-- As many cells as passes.
use Rattle.std.proofs.Common.{◌≡◌, length}
use Rattle.merge_read.proofs.present.room_for.Given as goal

abbrev pub invariant-loop : goal.invariant-loop
invariant-loop l = length l.cells.items ≡ l.counter
