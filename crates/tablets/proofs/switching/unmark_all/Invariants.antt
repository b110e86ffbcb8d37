-- The first are unmarked, the others stand as before.
use Rattle.std.proofs.Common.{◌≡◌, ◌++◌, drop, map, take}
use Rattle.tablets.specs.Shadows as shadows
use Rattle.tablets.proofs.switching.unmark_all.Given as goal

abbrev pub invariant-loop-index : goal.invariant-loop-index
invariant-loop-index l = l.indexes ≡ map (shadows.unmarked l.job) (take l.index-index l.fn.indexes) ++ drop l.index-index l.fn.indexes
