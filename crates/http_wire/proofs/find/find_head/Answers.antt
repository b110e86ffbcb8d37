use Rattle.std.proofs.Common.{◌≡◌, ◌≤◌, ◌∙◌, rules, arith, take, length, length-take, ap, sym, subst, length-append, List, ℕ}
use Rattle.std.specs.Io.KnownBytes.{prepend_known}
use Rattle.httparse.specs.Grammar.{HasNoRequest}
use Rattle.httparse.specs.Spans.{RequestOverflows}
use Rattle.http_wire.specs.Heads.{HasNoHead, IsFoundAt, LacksHead}
use Rattle.http_wire.proofs.LineFacts.{no-head_of_nothing, seen-again}
use Rattle.http_wire.proofs.HeadFacts.{back, found, kept-more, no_head-all, nothing, lacks-end, lacks-error, lacks-full}
use Rattle.http_wire.proofs.find.find_head.Goals as goal

pub returns-in-Ok-Complete-clause-head : goal.returns-in-Ok-Complete-clause-head
returns-in-Ok-Complete-clause-head g c =
    let r = rw c.in-Ok-Complete.field-0-is at c.in-Ok-Complete.ensures in
    let short : length c.front.result.now ≤ 16384 = omega (arith, ap length c.front.ensures, length-take 16384 c.loop-found.buffer) in
    let room : length c.parse_new.new.spans ≡ 64 = omega arith in (
      r.complete.0,
      subst (λ (bytes : List ℕ). IsFoundAt bytes c.parse_new.new.spans c.in-Ok-Complete.found r.complete.0) c.front.ensures
          (found c.front.result.now c.parse_new.new.spans c.in-Ok-Complete.found r.complete.0 short room r.within r.complete.1),
    )

pub returns-in-Err-clause-bad : goal.returns-in-Err-clause-bad
returns-in-Err-clause-bad g c = λ e.
    back (prepend_known c.args.buffer.now (g.S.Source.left c.args.source.now)) (prepend_known c.loop-found.buffer (g.S.Source.left c.loop-found.source)) LacksHead c.loop-found.invariant.keeps
    (lacks-error c.loop-found.buffer (g.S.Source.left c.loop-found.source) c.loop-found.invariant.some
    (subst (λ (bytes : List ℕ). RequestOverflows 64 bytes) c.front.ensures (subst (λ (n : ℕ). RequestOverflows n c.front.result.now) c.loop-found.invariant.room c.in-Err.ensures.no_room)))

pub returns-then-seen-ge-MAX_HEAD-clause-bad : goal.returns-then-seen-ge-MAX_HEAD-clause-bad
returns-then-seen-ge-MAX_HEAD-clause-bad g c = λ e.
    back (prepend_known c.args.buffer.now (g.S.Source.left c.args.source.now)) (prepend_known c.loop-found.buffer (g.S.Source.left c.loop-found.source)) LacksHead c.loop-found.invariant.keeps
    (lacks-full c.loop-found.buffer (g.S.Source.left c.loop-found.source) (omega arith) (search rules))

pub returns-in-Ok-eq0-clause-bad : goal.returns-in-Ok-eq0-clause-bad
returns-in-Ok-eq0-clause-bad g c = λ e.
    let read = c.in-Ok-eq0.ensures.read in
    let none : HasNoRequest (take 16384 c.loop-found.buffer) = search rules in
    back (prepend_known c.args.buffer.now (g.S.Source.left c.args.source.now)) (prepend_known c.loop-found.buffer (g.S.Source.left c.loop-found.source)) LacksHead c.loop-found.invariant.keeps
    (lacks-end c.loop-found.buffer read.piece (g.S.Source.left c.loop-found.source) (g.S.Source.left c.refill.new.source) c.loop-found.invariant.some (omega arith) none
    read.consumed (read.count ∙ c.in-Ok-eq0.field-0-test) (read.ends c.in-Ok-eq0.field-0-test))

pub loop-found-init : goal.loop-found-init
loop-found-init g c = record {
  room = search rules;
  some = search rules;
  keeps = search rules;
  seen = omega arith;
  none = no-head_of_nothing;
  later = omega arith;
}

pub loop-found-preserved : goal.loop-found-preserved
loop-found-preserved g c =
    let read = c.in-Ok.ensures.read in
    let none : HasNoRequest (take 16384 c.loop-found.buffer) = search rules in
    let again = seen-again c.loop-found.buffer read.piece (omega arith) none in
    let grown : length c.loop-found.buffer ≤ length (take 16384 c.refill.new.self) = omega (arith, length-take 16384 c.refill.new.self, ap length read.added, length-append c.loop-found.buffer read.piece) in
    let old : HasNoRequest (take (length c.loop-found.buffer) (take 16384 c.refill.new.self)) = subst (λ (l : List ℕ). HasNoRequest (take (length c.loop-found.buffer) (take 16384 l))) (sym read.added) again in
    record {
      room = omega arith;
      some = λ e. c.loop-found.invariant.some (nothing c.loop-found.buffer read.piece (sym read.added ∙ e));
      keeps = kept-more _ c.loop-found.buffer read.piece c.refill.new.self (g.S.Source.left c.loop-found.source) _ c.loop-found.invariant.keeps read.consumed read.added;
      seen = omega arith;
      none = subst (λ (n : ℕ). HasNoRequest (take n (take 16384 c.refill.new.self))) (sym c.len-seen.ensures) old;
      later = omega (arith, c.in-Ok.ensures.later);
    }

pub returns-in-Err-refill-clause-unread : goal.returns-in-Err-refill-clause-unread
returns-in-Err-refill-clause-unread g c = λ e.
    let none : HasNoRequest (take 16384 c.loop-found.buffer) = search rules in
    subst HasNoHead (sym c.in-Err-refill.ensures.read.0) (no_head-all c.loop-found.buffer (omega arith) none)
