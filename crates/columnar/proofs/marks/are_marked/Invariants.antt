-- The first columns have their marks.
use Rattle.std.proofs.Common.{◌≡◌, map, take}
use Rattle.columnar.specs.Marks.{mark_of}
use Rattle.columnar.proofs.marks.are_marked.Given as goal

abbrev pub invariant-loop-i : goal.invariant-loop-i
invariant-loop-i l = take l.i l.marks ≡ map mark_of (take l.i l.columns)
