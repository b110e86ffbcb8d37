use Rattle.std.proofs.Common.{◌≡◌}
use Rattle.load_build.specs.PartLists.{empty_lists}
use Rattle.load_build.proofs.part_rows.lists_without_rows.Given as goal

abbrev pub invariant-loop : goal.invariant-loop
invariant-loop l = l.lists.items ≡ empty_lists l.counter
