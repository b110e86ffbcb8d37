use Rattle.std.proofs.Common.{◌≡◌, ◌≢◌, ◌≤◌, ◌-◌, [], length, take}
use Rattle.std.specs.Io.KnownBytes.{Keeps, prepend_known}
use Rattle.httparse.specs.Grammar.{HasNoRequest}
use Rattle.http_wire.proofs.find.find_head.Given as goal

abbrev pub invariant-loop-found : goal.invariant-loop-found
invariant-loop-found g l = record {
  room : length l.spans ≡ 64;
  some : l.buffer ≢ [];
  keeps : Keeps (prepend_known l.fn.buffer (g.S.Source.left l.fn.source)) (prepend_known l.buffer (g.S.Source.left l.source));
  seen : l.seen ≤ length (take 16384 l.buffer);
  none : HasNoRequest (take l.seen (take 16384 l.buffer));
  later : g.S.Source.faults l.fn.source ≤ g.S.Source.faults l.source;
}

abbrev pub decreases-loop-found : goal.decreases-loop-found
decreases-loop-found g l = 16384 - length l.buffer
