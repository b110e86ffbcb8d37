use Rattle.std.proofs.Common.{◌∙◌, ap, Option, None, Result, Ok, Err, subst}
use Rattle.std.specs.Prelude.{IfOk, IfSome}
use Rattle.http_wire.specs.Bodies.{IsSized}
use Rattle.http_wire.specs.Reader.{input}
use Rattle.http_wire.specs.declared.error.WireError.{WireError}
use Rattle.http_wire.specs.declared.head.Head.{Head}
use Rattle.load_server.proofs.StepFacts.{head_read, meets_no_head, step_done, step_no_head, takes_none, takes_refused}
use Rattle.load_server.proofs.exchange.exchange.Goals as goal

pub take_in-requires : goal.take_in-requires
take_in-requires g c =
    subst (λ (r : Result (Option Head) WireError). IfOk r (λ found. IfSome found (λ head. IsSized head.body))) (c.in-Ok-Some.is ∙ ap (λ (found : Option Head). Ok found) c.in-Ok-Some.field-0-is) c.next_head.ensures.sized

pub returns-in-Ok-Some-clause-did : goal.returns-in-Ok-Some-clause-did
returns-in-Ok-Some-clause-did g c = λ seen own s.
    c.take_in.ensures.did seen own s c.args.reader.now.at (input c.args.reader.now (g.S.Source.left c.args.source.now))
    (head_read c.args.reader.now.at (input c.args.reader.now (g.S.Source.left c.args.source.now)) _ _ c.next_head.result c.in-Ok-Some.head (c.in-Ok-Some.is ∙ ap (λ (found : Option Head). Ok found) c.in-Ok-Some.field-0-is) c.next_head.ensures.head)

pub returns-in-Ok-Some-clause-takes : goal.returns-in-Ok-Some-clause-takes
returns-in-Ok-Some-clause-takes g c =
    c.take_in.ensures.takes c.args.reader.now.at (input c.args.reader.now (g.S.Source.left c.args.source.now))
    (head_read c.args.reader.now.at (input c.args.reader.now (g.S.Source.left c.args.source.now)) _ _ c.next_head.result c.in-Ok-Some.head (c.in-Ok-Some.is ∙ ap (λ (found : Option Head). Ok found) c.in-Ok-Some.field-0-is) c.next_head.ensures.head)

pub returns-in-Ok-None-clause-did : goal.returns-in-Ok-None-clause-did
returns-in-Ok-None-clause-did g c = λ seen own s.
    step_done _ _ _ _ _ _ _ _ seen own (c.next_head.ensures.none (c.in-Ok-None.is ∙ ap (λ (found : Option Head). Ok found) c.in-Ok-None.field-0-is)) s

pub returns-in-Ok-None-clause-takes : goal.returns-in-Ok-None-clause-takes
returns-in-Ok-None-clause-takes g c =
    takes_none _ 0 _ None (c.next_head.ensures.none (c.in-Ok-None.is ∙ ap (λ (found : Option Head). Ok found) c.in-Ok-None.field-0-is))

pub returns-in-Err-clause-did : goal.returns-in-Err-clause-did
returns-in-Err-clause-did g c = λ seen own s.
    step_no_head _ _ _ _ _ _ _ _ _ seen own c.in-Err.error c.refuse.result
    (meets_no_head _ _ _ _ _ _ c.in-Err.error c.in-Err.ensures.fault c.in-Err.ensures.stays.0 (λ e. c.in-Err.ensures.unread (ap Err e))) c.refuse.ensures.did s

pub returns-in-Err-clause-takes : goal.returns-in-Err-clause-takes
returns-in-Err-clause-takes g c =
    takes_refused _ _ _ _ _ _ _ None c.in-Err.error c.refuse.result c.refuse.ensures.did
    (meets_no_head _ _ (g.S.Source.left c.next_head.new.source) _ _ _ c.in-Err.error c.in-Err.ensures.fault c.in-Err.ensures.stays.0 (λ e. c.in-Err.ensures.unread (ap Err e)))
