-- The first rowsets are up to the version, so the others decide.
use Rattle.std.proofs.Common.{◌≡◌, ◌+◌, drop}
use Rattle.std.specs.List.{prefix_len}
use Rattle.tablets.specs.TabletView.{is_to}
use Rattle.tablets.proofs.held.count_to.Given as goal

abbrev pub invariant-loop-count : goal.invariant-loop-count
invariant-loop-count l = l.count + prefix_len (is_to l.version) (drop l.count l.lists) ≡ prefix_len (is_to l.version) l.lists
