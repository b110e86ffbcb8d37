-- The ends of the first cells.
use Rattle.std.proofs.Common.{◌≡◌, fold, take}
use Rattle.zones.specs.Ends.{first_or, higher, lower}
use Rattle.zones.proofs.zone.least_and_greatest.Given as goal

abbrev pub invariant-loop-cell : goal.invariant-loop-cell
invariant-loop-cell l = record {
  low : l.least ≡ fold lower (first_or l.cells l.null) (take l.cell-index l.cells);
  high : l.greatest ≡ fold higher (first_or l.cells l.null) (take l.cell-index l.cells);
}
