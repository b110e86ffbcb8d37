use Rattle.std.proofs.Common.{◌≡◌, ◌∙◌, ℕ, Option, Some, List, sym, ap, subst, arith}
use Rattle.std.proofs.KnownBytes.{prepend_known-nil}
use Rattle.http_wire.specs.Reader.{Reader, input}
use Rattle.load_server.specs.declared.session_end.SessionEnd.{SessionEnd}
use Rattle.load_server.proofs.Asking.{Asking, asking_ends, asking_enough, asking_more, asking_start}
use Rattle.load_server.proofs.Continuing.{Sofar, session_ends, session_enough, sofar_more, sofar_start}
use Rattle.load_server.proofs.sessions.session.Goals as goal

asking_at : (told left : Option (List ℕ)) (at n : ℕ) → at ≡ 0 → Asking told left 0 n → Asking told left at n
asking_at told left at n e a = subst (λ (k : ℕ). Asking told left k n) (sym e) a

pub loop-request-init : goal.loop-request-init
loop-request-init g c = record {
  did = λ seen own s.
      subst (λ (n : ℕ). Sofar (g.S.Source.left c.args.source.now) (input c.new-reader.result (g.S.Source.left c.args.source.now)) (g.K.Sink.written c.args.sink.now) (g.K.Sink.written c.args.sink.now) (g.C.Clock.given c.args.clock.now) (g.C.Clock.given c.args.clock.now) n (g.T.Turns.stands c.args.turns.now) seen own 0)
      (sym (ap (λ (r : Reader). r.at) c.new-reader.ensures))
      (sofar_start (g.S.Source.left c.args.source.now) _ _ _ (g.T.Turns.stands c.args.turns.now) seen own (ap (λ (r : Reader). input r (g.S.Source.left c.args.source.now)) c.new-reader.ensures ∙ prepend_known-nil (g.S.Source.left c.args.source.now)) s);
  asking = asking_at _ _ _ _ (ap (λ (r : Reader). r.at) c.new-reader.ensures) (asking_start (g.S.Source.left c.args.source.now) _ (ap (λ (r : Reader). input r (g.S.Source.left c.args.source.now)) c.new-reader.ensures ∙ prepend_known-nil (g.S.Source.left c.args.source.now)));
  later = omega arith;
  later_sink = omega arith;
}

pub loop-request-preserved : goal.loop-request-preserved
loop-request-preserved g c = record {
  did = λ seen own s. sofar_more _ _ _ _ _ _ _ _ _ _ _ _ _ _ seen own c.loop-request._request (c.loop-request.invariant.did seen own s) c.in-None.ensures.did;
  asking = asking_more _ _ _ _ _ c.loop-request._request c.loop-request.invariant.asking c.in-None.ensures.takes;
  later = omega (arith, c.loop-request.invariant.later, c.exchange.ensures.later);
  later_sink = omega (arith, c.loop-request.invariant.later_sink, c.exchange.ensures.later_sink);
}

pub returns-in-Some-clause-did : goal.returns-in-Some-clause-did
returns-in-Some-clause-did g c = λ seen own s.
    session_ends _ _ _ _ _ _ _ _ _ _ _ _ _ _ seen own c.loop-request._request c.in-Some.end c.loop-request-test.true (c.loop-request.invariant.did seen own s) c.in-Some.ensures.did

pub returns-clause-did : goal.returns-clause-did
returns-clause-did g c = λ seen own s.
    session_enough _ _ _ _ _ _ _ _ _ seen own c.loop-request._request (omega (arith, c.loop-request-test.false, c.loop-request.auto)) (c.loop-request.invariant.did seen own s)

pub returns-in-Some-clause-complete : goal.returns-in-Some-clause-complete
returns-in-Some-clause-complete g c = λ no_read no_write.
    asking_ends _ _ _ _ _ c.loop-request._request c.in-Some.end
    (λ e. let h = c.in-Some.ensures.read_fault (ap (λ (x : SessionEnd). Some x) e) in no_read (omega (arith, h, c.loop-request.invariant.later)))
    (λ e. let h = c.in-Some.ensures.write_fault (ap (λ (x : SessionEnd). Some x) e) in no_write (omega (arith, h, c.loop-request.invariant.later_sink)))
    c.loop-request.invariant.asking c.in-Some.ensures.takes

pub returns-clause-complete : goal.returns-clause-complete
returns-clause-complete g c = λ no_read no_write.
    asking_enough _ _ _ c.loop-request._request _ (omega (arith, c.loop-request-test.false, c.loop-request.auto)) c.loop-request.invariant.asking
