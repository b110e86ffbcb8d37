-- As many zeros as passes.
use Rattle.std.proofs.Common.{◌≡◌, replicate}
use Rattle.merge_read.proofs.stream.zeros.Given as goal

abbrev pub invariant-loop : goal.invariant-loop
invariant-loop l = l.places.items ≡ replicate l.counter 0
