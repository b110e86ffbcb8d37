use Rattle.std.proofs.Common.{◌≡◌, drop}
use Rattle.std.specs.List.{list_all}
use Rattle.journal_records.proofs.lists.are_short.Given as goal

abbrev pub invariant-loop-piece : goal.invariant-loop-piece
invariant-loop-piece g l = list_all g.T.Piece.short (drop l.piece-index l.pieces) ≡ list_all g.T.Piece.short l.pieces
