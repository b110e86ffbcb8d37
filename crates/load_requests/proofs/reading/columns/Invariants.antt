use Rattle.std.proofs.Common.{length}
use Rattle.load_requests.specs.Tokens.{tokens_of}
use Rattle.load_requests.specs.Statements.{columns_at}
use Rattle.load_requests.proofs.Lists.{Reading}
use Rattle.load_requests.proofs.reading.columns.Given as goal

abbrev pub invariant-more : goal.invariant-more
invariant-more l = Reading columns_at l.found (tokens_of l.left) (columns_at (tokens_of l.text))

abbrev pub decreases-more : goal.decreases-more
decreases-more l = length (tokens_of l.left)
