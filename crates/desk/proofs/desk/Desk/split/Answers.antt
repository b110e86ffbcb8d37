use Rattle.std.proofs.Common.{rules}
use Rattle.desk.proofs.Splits.{splits_it}
use Rattle.desk.proofs.desk.Desk.split.Goals as goal

pub split_seat-place-requires : goal.split_seat-place-requires
split_seat-place-requires g c = let E = g.E.Engine in (search rules, search rules, splits_it E.seat_of E.stands E.legal _ _ _ c.args.seat.now.idle.2)
