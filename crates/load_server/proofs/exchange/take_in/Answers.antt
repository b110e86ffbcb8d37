use Rattle.load_server.proofs.StepFacts.{step_cut, takes_cut}
use Rattle.load_server.proofs.exchange.take_in.Goals as goal

pub returns-in-Ok-clause-did : goal.returns-in-Ok-clause-did
returns-in-Ok-clause-did g c = λ seen own s at text read. c.take_body.ensures.did seen own s at text read _ c.in-Ok.ensures.ok

pub returns-in-Err-clause-did : goal.returns-in-Err-clause-did
returns-in-Err-clause-did g c = λ seen own s at text read.
    step_cut at text c.args.head.now _ _ _ _ _ _ _ _ _ seen own read c.in-Err.ensures.err s

pub returns-in-Err-clause-takes : goal.returns-in-Err-clause-takes
returns-in-Err-clause-takes g c = λ at text read. takes_cut at at text text
