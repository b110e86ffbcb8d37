use Rattle.std.proofs.Common.{Some, Err, ap}
use Rattle.load_server.proofs.StepFacts.{meets_no_body, step_no_body, step_served, takes_refused, takes_served}
use Rattle.load_server.proofs.exchange.take_body.Goals as goal

pub returns-in-Ok-clause-did : goal.returns-in-Ok-clause-did
returns-in-Ok-clause-did g c = λ seen own s at text read start first.
    step_served at text c.args.head.now c.in-Ok.body.items _ _ _ _ _ start _ _ _ _ _ seen own _ read first c.in-Ok.ensures.body c.in-Ok.ensures.input c.in-Ok.ensures.place (c.answer.ensures.did seen own s)

pub returns-in-Ok-clause-takes : goal.returns-in-Ok-clause-takes
returns-in-Ok-clause-takes g c = λ at text read.
    takes_served at text c.args.head.now c.in-Ok.body.items _ _ _ _ _ read c.in-Ok.ensures.body c.in-Ok.ensures.input c.in-Ok.ensures.place c.answer.ensures.ends

pub returns-in-Err-clause-did : goal.returns-in-Err-clause-did
returns-in-Err-clause-did g c = λ seen own s at text read start first.
    step_no_body at text c.args.head.now _ _ _ _ _ start _ _ _ _ seen own c.in-Err.error c.refuse.result read first (meets_no_body at text _ c.args.head.now _ _ _ _ c.in-Err.error c.requires read c.in-Err.ensures.fault (λ e. c.in-Err.ensures.unread (ap Err e))) c.refuse.ensures.did s

pub returns-in-Err-clause-takes : goal.returns-in-Err-clause-takes
returns-in-Err-clause-takes g c = λ at text read.
    takes_refused at _ text _ _ _ _ (Some c.args.head.now) c.in-Err.error c.refuse.result c.refuse.ensures.did
    (meets_no_body at text (g.S.Source.left c.read_body.new.source) c.args.head.now _ _ _ _ c.in-Err.error c.requires read c.in-Err.ensures.fault (λ e. c.in-Err.ensures.unread (ap Err e)))
