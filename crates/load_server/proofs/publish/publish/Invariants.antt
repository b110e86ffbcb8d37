use Rattle.std.proofs.Common.{List, ◌+◌}
use Rattle.front_defs.specs.declared.history.Entry.{Entry}
use Rattle.load_server.specs.Responses.{Response}
use Rattle.load_server.specs.Scripts.{publishing}
use Rattle.load_server.proofs.Going.{Going}
use Rattle.load_server.proofs.publish.publish.Given as goal

abbrev pub invariant-loop-reached : goal.invariant-loop-reached
invariant-loop-reached g l = (good late : Response) (seen own : List Entry) → g.T.Turns.stands l.fn.turns seen own → Going (g.T.Turns.stands l.turns) seen own (publishing good late l.at l.place (l.ahead + 1)) (publishing good late l.at l.place (l.more + 1))

abbrev pub decreases-loop-reached : goal.decreases-loop-reached
decreases-loop-reached g l = l.more
