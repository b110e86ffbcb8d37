-- So many empty partitions so far.
use Rattle.std.proofs.Common.{◌≡◌, replicate}
use Rattle.tablets.specs.SetView.{empty_part}
use Rattle.tablets.proofs.index.empty_parts.Given as goal

abbrev pub invariant-loop : goal.invariant-loop
invariant-loop l = l.parts.items ≡ replicate l.counter (empty_part l.shape l.size.1)
