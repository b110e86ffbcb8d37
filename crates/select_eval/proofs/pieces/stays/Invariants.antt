use Rattle.std.proofs.Common.{◌≡◌, drop}
use Rattle.std.specs.List.{list_all}
use Rattle.select_eval.proofs.pieces.stays.Given as goal

abbrev pub invariant-loop-test : goal.invariant-loop-test
invariant-loop-test g l = list_all (g.R.Zones.may l.list l.block) (drop l.test-index l.tests) ≡ list_all (g.R.Zones.may l.list l.block) l.tests
