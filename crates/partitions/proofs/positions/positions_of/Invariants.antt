-- The positions so far, with those of the names that are left, are all.
use Rattle.std.proofs.Common.{◌≡◌, ◌++◌, drop}
use Rattle.partitions.specs.Search as search
use Rattle.partitions.proofs.positions.positions_of.Given as goal

abbrev pub invariant-loop-name : goal.invariant-loop-name
invariant-loop-name l = l.positions.items ++ search.positions_of l.names (drop l.name-index l.wanted) ≡ search.positions_of l.names l.wanted
