use Rattle.std.proofs.Common.{List, sym, subst}
use Rattle.partitions.specs.LayoutFaults.{Tests, part_faults, room_faults}
use Rattle.partitions.specs.Ranges.{with_range}
use Rattle.partitions.specs.declared.part_def.PartDef.{PartDef}
use Rattle.schema_models.specs.Faults.{first_of}
use Rattle.partitions.proofs.Tested.{tests_front, tests_back}
use Rattle.partitions.proofs.faults.tested_part.Goals as goal

pub returns-in-Ok-clause-tested : goal.returns-in-Ok-clause-tested
returns-in-Ok-clause-tested c =
    let part = c.args.part.now in
    λ l column kind parts.
    tests_back (part_faults l part) (room_faults l.parts (with_range l.parts part)) c.apart_part.result (c.in-Ok.ensures l column kind parts)
    (subst (λ (ps : List PartDef). Tests (first_of (room_faults ps (with_range ps part))) c.apart_part.result) (sym parts) c.apart_part.ensures.tested)

pub returns-in-Err-clause-tested : goal.returns-in-Err-clause-tested
returns-in-Err-clause-tested c =
    let part = c.args.part.now in
    λ l column kind parts. tests_front (part_faults l part) (room_faults l.parts (with_range l.parts part)) c.in-Err.fault (c.in-Err.ensures l column kind parts)
