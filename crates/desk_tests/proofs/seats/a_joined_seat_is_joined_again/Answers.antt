use Rattle.std.proofs.Common.{subst}
use Rattle.desk.specs.Seats.{view_of}
use Rattle.desk.specs.Lacking.{CameBack}
use Rattle.desk.proofs.Back.{took_in, itself, stayed, back_again}
use Rattle.desk_tests.proofs.seats.a_joined_seat_is_joined_again.Goals as goal

pub total_at_the_end-requires-clause-back : goal.total_at_the_end-requires-clause-back
total_at_the_end-requires-clause-back g c =
    let f = view_of c.split-second.new.seat in
    let s = view_of c.split-third.new.seat in
    let t = view_of c.add.new.seat in
    let third = took_in (view_of c.split-second.result) s (view_of c.split-third.result) s t (view_of c.join.new.seat) c.split-third.ensures.views.0 c.split-third.ensures.views.1 c.join.ensures.view
    c.split-third.new.seat.idle.2 c.add.new.seat.idle.2 (itself s) (stayed (view_of c.split-third.result) t c.add.ensures.same) in
    let u = view_of c.add-2.new.seat in
    let second = back_again (view_of c.split-second.result) (view_of c.join.new.seat) u third (stayed (view_of c.join.new.seat) u c.add-2.ensures.same) in
    let first = took_in (view_of c.in_ok-desk.first) f (view_of c.split-second.result) f u (view_of c.join-2.new.seat) c.split-second.ensures.views.0 c.split-second.ensures.views.1 c.join-2.ensures.view
    c.split-second.new.seat.idle.2 c.add-2.new.seat.idle.2 (itself f) second in
    let w = view_of c.add-3.new.seat in
    subst (λ v. CameBack v w) c.in_ok-desk.ensures.1 (back_again (view_of c.in_ok-desk.first) (view_of c.join-2.new.seat) w first (stayed (view_of c.join-2.new.seat) w c.add-3.ensures.same))
