use Rattle.std.proofs.Common.{◌≡◌, map, All}
use Rattle.desk.specs.Closing.{gathered}
use Rattle.desk.specs.Seats.{view_of, IsOf}
use Rattle.desk.proofs.desk.Desk.gather.Given as goal

abbrev pub invariant-loop-other : goal.invariant-loop-other
invariant-loop-other g l =
    IsOf l.self l.seat × All (λ s. IsOf l.self s) l.seats.items
    × (gathered (view_of l.seat) (map view_of l.seats.items) ≡ gathered (view_of l.initial.seat) (map view_of l.initial.seats.items))

abbrev pub decreases-loop-other : goal.decreases-loop-other
decreases-loop-other g l = goal.left-loop-other g l
