use Rattle.std.proofs.Common.{refl, arith}
use Rattle.http_wire.proofs.Ranges.{moved, unmoved}
use Rattle.http_wire.proofs.buffer.move_to_front.Goals as goal

pub loop-i-preserved : goal.loop-i-preserved
loop-i-preserved c =
    let inv = c.loop-i.invariant in
    record {
      front = moved c.args.bytes.now c.loop-i.bytes c.args.start c.loop-i.i _ (omega arith) (omega arith) inv.front inv.rest refl;
      rest = unmoved c.args.bytes.now c.loop-i.bytes c.loop-i.i _ inv.rest;
    }
