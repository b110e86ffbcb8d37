use Rattle.desk.specs.Seats.{view_of, IsOf}
use Rattle.desk_tests.specs.Seats.{IsSame}
use Rattle.desk_tests.proofs.work.adds.Given as goal

abbrev pub invariant-loop : goal.invariant-loop
invariant-loop g l = IsOf l.desk l.seat × IsSame (view_of l.initial.seat) (view_of l.seat)
