use Rattle.http_wire.proofs.Unique.{bodies, empty, fails-or-takes, heads}
use Rattle.http_wire.proofs.laws.first_requests_are_unique.Goals as goal

pub returns-clause-heads : goal.returns-clause-heads
returns-clause-heads c = heads

pub returns-clause-bodies : goal.returns-clause-bodies
returns-clause-bodies c = bodies

pub returns-clause-some : goal.returns-clause-some
returns-clause-some c = λ at head rest takes. empty takes.tree rest takes.begins

pub returns-clause-whole : goal.returns-clause-whole
returns-clause-whole c = fails-or-takes
