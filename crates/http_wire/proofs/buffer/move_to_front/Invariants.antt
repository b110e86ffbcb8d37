use Rattle.std.proofs.Common.{◌≡◌, take, drop}
use Rattle.http_wire.proofs.buffer.move_to_front.Given as goal

abbrev pub invariant-loop-i : goal.invariant-loop-i
invariant-loop-i l = record {
  front : take l.i l.bytes ≡ take l.i (drop l.start l.initial.bytes);
  rest : drop l.i l.bytes ≡ drop l.i l.initial.bytes;
}
