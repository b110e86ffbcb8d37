use Rattle.std.proofs.Common.{rules, ◌≡◌, [], ◌∷◌, map, sym, subst}
use Rattle.desk.specs.Closing.{AreAll}
use Rattle.desk.specs.Seats.{view_of}
use Rattle.desk.proofs.Back.{all_in_one}
use Rattle.desk_tests.proofs.ends.total_at_the_end.Goals as goal

pub close-requires-clause-all : goal.close-requires-clause-all
close-requires-clause-all c =
    let items : c.in_ok-seats.seats.items ≡ c.args.seat ∷ [] = search rules in
    subst (λ l. AreAll (map view_of l)) (sym items) (all_in_one _ (view_of c.args.seat) c.args.seat.idle.2 c.requires.back)
