use Rattle.std.proofs.Common.{rules, ◌≡◌, [], ◌∷◌, map, sym, subst}
use Rattle.desk.specs.Closing.{AreAll}
use Rattle.desk.specs.Seats.{view_of}
use Rattle.desk_tests.proofs.Three.{three_all}
use Rattle.desk_tests.proofs.ends.total_of_three.Goals as goal

pub close-requires-clause-all : goal.close-requires-clause-all
close-requires-clause-all c =
    let a = c.args in
    let items : c.in_ok-seats.seats.items ≡ a.third ∷ a.first ∷ a.second ∷ [] = search rules in
    subst (λ l. AreAll (map view_of l)) (sym items) (three_all (view_of a.first) (view_of a.second) (view_of a.third) a.first.idle.2 a.second.idle.2 a.third.idle.2 c.requires.names)
