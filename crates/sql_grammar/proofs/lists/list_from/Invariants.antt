use Rattle.std.proofs.Common.{length}
use Rattle.sql_grammar.specs.Reading.{list_from, mark_of, separator_at, next}
use Rattle.sql_grammar.proofs.Loops.{Reading}
use Rattle.sql_grammar.proofs.lists.list_from.Given as goal

abbrev pub invariant-more : goal.invariant-more
invariant-more g l = Reading (mark_of l.separator) (next (separator_at l.separator) (λ _. g.T.Piece.reader)) l.found.items l.rest (list_from (mark_of l.separator) (separator_at l.separator) g.T.Piece.reader l.fn.first l.tokens)

abbrev pub decreases-more : goal.decreases-more
decreases-more g l = length l.rest
