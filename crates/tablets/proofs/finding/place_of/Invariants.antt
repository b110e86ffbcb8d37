-- The first indexes have other numbers, so the others decide.
use Rattle.std.proofs.Common.{◌≡◌, drop}
use Rattle.tablets.specs.SetView.{index_at}
use Rattle.tablets.proofs.finding.place_of.Given as goal

abbrev pub invariant-loop-place : goal.invariant-loop-place
invariant-loop-place l = index_at l.number (drop l.place l.indexes) ≡ index_at l.number l.indexes
