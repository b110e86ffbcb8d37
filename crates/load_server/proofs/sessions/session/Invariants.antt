use Rattle.std.proofs.Common.{◌≤◌, List}
use Rattle.front_defs.specs.declared.history.Entry.{Entry}
use Rattle.http_wire.specs.Reader.{input}
use Rattle.load_server.proofs.Asking.{Asking}
use Rattle.load_server.proofs.Continuing.{Sofar}
use Rattle.load_server.proofs.sessions.session.Given as goal

abbrev pub invariant-loop-request : goal.invariant-loop-request
invariant-loop-request g l = record {
  did : (seen own : List Entry) → g.T.Turns.stands l.fn.turns seen own → Sofar (g.S.Source.left l.fn.source) (input l.reader (g.S.Source.left l.source)) (g.K.Sink.written l.fn.sink) (g.K.Sink.written l.sink) (g.C.Clock.given l.fn.clock) (g.C.Clock.given l.clock) l.reader.at (g.T.Turns.stands l.turns) seen own l._request;
  asking : Asking (g.S.Source.left l.fn.source) (input l.reader (g.S.Source.left l.source)) l.reader.at l._request;
  later : g.S.Source.faults l.fn.source ≤ g.S.Source.faults l.source;
  later_sink : g.K.Sink.faults l.fn.sink ≤ g.K.Sink.faults l.sink;
}
