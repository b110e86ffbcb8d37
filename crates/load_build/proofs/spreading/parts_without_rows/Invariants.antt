use Rattle.std.proofs.Common.{◌≡◌}
use Rattle.load_build.specs.PartLists.{no_parts}
use Rattle.load_build.proofs.spreading.parts_without_rows.Given as goal

abbrev pub invariant-loop-part : goal.invariant-loop-part
invariant-loop-part l = l.parts.items ≡ no_parts l.part
