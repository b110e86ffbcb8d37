-- Some shadows have taken their places, and each time an index is less.
use Rattle.std.proofs.Common.{length}
use Rattle.tablets.specs.Parting.{IsOnTheWay}
use Rattle.tablets.proofs.switching.switch_shadows.Given as goal

abbrev pub invariant-turns : goal.invariant-turns
invariant-turns l = IsOnTheWay l.job l.fn.indexes.items l.indexes.items

abbrev pub decreases-turns : goal.decreases-turns
decreases-turns l = length l.indexes.items
