use Rattle.std.proofs.Common.{◌≡◌, map, take}
use Rattle.table_defs.specs.Parts.{part_of}
use Rattle.table_defs.proofs.parts.all_parts.Given as goal

abbrev pub invariant-loop-part : goal.invariant-loop-part
invariant-loop-part l = l.all ≡ map (part_of l.kind) (take l.part-index l.list)
