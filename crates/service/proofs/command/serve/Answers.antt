-- The session over a new core did what a run does.
use Rattle.std.proofs.Common.{[]}
use Rattle.service.proofs.Serves.{run_answered, session_ran}
use Rattle.service.proofs.command.serve.Goals as goal

pub returns-clause-served : goal.returns-clause-served
returns-clause-served g c = (c.session.result, c.exit_of.ensures, session_ran c.session.new.turns.front _ _ _ _ _ _ c.session.result (c.session.ensures.did [] [] c.new-turns.ensures))

pub returns-clause-answered : goal.returns-clause-answered
returns-clause-answered g c = λ no_read no_write. run_answered _ c.session.result c.exit_of.result c.exit_of.ensures (c.session.ensures.complete no_read no_write)
