-- No partition so far is at fault, so the others decide.
use Rattle.std.proofs.Common.{◌≡◌, [], take, drop}
use Rattle.partitions.specs.LayoutFaults as faults
use Rattle.partitions.proofs.faults.first_meeting.Given as goal

abbrev pub invariant-loop-i : goal.invariant-loop-i
invariant-loop-i l = faults.first_beside faults.meets (take l.i l.parts) (drop l.i l.parts) ≡ faults.first_beside faults.meets [] l.parts
