use Rattle.std.proofs.Common.{◌≡◌, ◌++◌, length, take}
use Rattle.std.specs.List.{flat_map}
use Rattle.journal_records.specs.Spelling.{number32}
use Rattle.journal_records.proofs.lists.put_list.Given as goal

abbrev pub invariant-loop-piece : goal.invariant-loop-piece
invariant-loop-piece g l = l.out.items ≡ l.fn.out.items ++ (number32 (length l.pieces) ++ flat_map (g.T.Piece.spelled l.format) (take l.piece-index l.pieces))
