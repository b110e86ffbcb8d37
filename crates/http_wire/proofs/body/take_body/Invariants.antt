use Rattle.std.proofs.Common.{◌≤◌, ◌-◌, length}
use Rattle.std.specs.Io.KnownBytes.{Consumes, prepend_known}
use Rattle.http_wire.proofs.body.take_body.Given as goal

abbrev pub invariant-loop-buffer : goal.invariant-loop-buffer
invariant-loop-buffer g l = record {
  gone : Consumes (prepend_known l.fn.buffer (g.S.Source.left l.fn.source)) (prepend_known l.buffer (g.S.Source.left l.source)) l.body.items;
  short : length l.body.items ≤ l.wanted;
  later : g.S.Source.faults l.fn.source ≤ g.S.Source.faults l.source;
}

abbrev pub decreases-loop-buffer : goal.decreases-loop-buffer
decreases-loop-buffer g l = l.wanted - length l.body.items
