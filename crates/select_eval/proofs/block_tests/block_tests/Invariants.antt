use Rattle.std.proofs.Common.{◌≡◌, take}
use Rattle.select_eval.specs.BlockTests.{tests_in}
use Rattle.select_eval.proofs.block_tests.block_tests.Given as goal

abbrev pub invariant-loop-condition : goal.invariant-loop-condition
invariant-loop-condition l = l.tests.items ≡ tests_in l.width (take l.condition-index l.conditions)
