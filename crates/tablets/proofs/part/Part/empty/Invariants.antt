-- So many empty tablets so far.
use Rattle.std.proofs.Common.{◌≡◌, replicate}
use Rattle.tablets.specs.SetView.{empty_tablet}
use Rattle.tablets.proofs.part.Part.empty.Given as goal

abbrev pub invariant-loop : goal.invariant-loop
invariant-loop l = l.tablets.items ≡ replicate l.counter (empty_tablet l.shape)
