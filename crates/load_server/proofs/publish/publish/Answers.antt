use Rattle.std.proofs.Common.{◌≡◌, ◌∙◌, ◌+◌, ◌-◌, ap, arith}
use Rattle.load_server.specs.Scripts.{publishing}
use Rattle.load_server.proofs.Going.{going_on, going_ends, going_as, going_start}
use Rattle.load_server.proofs.Answering.{publish_other, publish_reached, publish_below, publishing_next, publishing_done}
use Rattle.load_server.proofs.publish.publish.Goals as goal

pub returns-in_default : goal.returns-in_default
returns-in_default g c = λ good late response served seen own s.
    going_ends _ seen own _ _ _
    (going_on _ _ seen own _ _ _ _ c.turn.result (c.loop-reached.invariant good late seen own s) (publishing_next good late c.args.at c.args.place c.loop-reached.more) c.turn.ensures.turned tt)
    (rw (publish_other good late c.args.place _ c.turn.result c.in_default.not-Published c.in_default.not-NothingToPublish c.in_default.not-NoMemory) served)

pub returns-then-place-reached : goal.returns-then-place-reached
returns-then-place-reached g c = λ good late response served seen own s.
    going_ends _ seen own _ _ _
    (going_on _ _ seen own _ _ _ _ c.turn.result (c.loop-reached.invariant good late seen own s) (publishing_next good late c.args.at c.args.place c.loop-reached.more) c.turn.ensures.turned tt)
    (rw (publish_reached good late c.args.place _ c.turn.result c.in-Published.txn c.in-Published.reached c.in-Published.is c.if-place-reached.true) served)

pub returns-in-NothingToPublish : goal.returns-in-NothingToPublish
returns-in-NothingToPublish g c = λ good late response served seen own s.
    going_ends _ seen own _ _ _
    (going_on _ _ seen own _ _ _ _ c.turn.result (c.loop-reached.invariant good late seen own s) (publishing_next good late c.args.at c.args.place c.loop-reached.more) c.turn.ensures.turned tt)
    (rw c.in-NothingToPublish.is served)

pub returns-in-NoMemory : goal.returns-in-NoMemory
returns-in-NoMemory g c = λ good late response served seen own s.
    going_ends _ seen own _ _ _
    (going_on _ _ seen own _ _ _ _ c.turn.result (c.loop-reached.invariant good late seen own s) (publishing_next good late c.args.at c.args.place c.loop-reached.more) c.turn.ensures.turned tt)
    (rw c.in-NoMemory.is served)

pub returns-then-more-eq0 : goal.returns-then-more-eq0
returns-then-more-eq0 g c = λ good late response served seen own s.
    going_ends _ seen own _ _ _
    (going_as _ seen own _ _ _
    (going_on _ _ seen own _ _ _ _ c.turn.result (c.loop-reached.invariant good late seen own s) (publishing_next good late c.args.at c.args.place c.loop-reached.more) c.turn.ensures.turned tt)
    (publish_below good late c.args.place _ c.turn.result c.in-Published.txn c.in-Published.reached c.in-Published.is c.if-place-reached.false ∙ publishing_done good late c.args.at c.args.place c.loop-reached.more c.if-more-eq0.true))
    served

pub loop-reached-preserved : goal.loop-reached-preserved
loop-reached-preserved g c = λ good late seen own s.
    going_as _ seen own _ _ _
    (going_on _ _ seen own _ _ _ _ c.turn.result (c.loop-reached.invariant good late seen own s) (publishing_next good late c.args.at c.args.place c.loop-reached.more) c.turn.ensures.turned tt)
    (publish_below good late c.args.place _ c.turn.result c.in-Published.txn c.in-Published.reached c.in-Published.is c.if-place-reached.false
    ∙ (let e : c.loop-reached.more ≡ (c.loop-reached.more - 1) + 1 = omega arith in ap (publishing good late c.args.at c.args.place) e))

pub loop-reached-init : goal.loop-reached-init
loop-reached-init g c = λ good late seen own s. going_start _ seen own _ s
