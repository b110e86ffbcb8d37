use Rattle.std.proofs.Common.{rules, refl, sym, ap, ◌∙◌, subst, inl}
use Rattle.std.specs.Prelude.{is_some}
use Rattle.desk.specs.History.{GoesOn}
use Rattle.desk.specs.Names.{In}
use Rattle.desk.specs.Rule.{known_of, IsIdle}
use Rattle.desk.specs.Seats.{view_of}
use Rattle.desk.proofs.Keeps.{looks_at}
use Rattle.desk.proofs.Joins.{joins_it}
use Rattle.desk.proofs.Lists.{longer_first}
use Rattle.desk.proofs.desk.Desk.join.Goals as goal

pub join_seat-requires : goal.join_seat-requires
join_seat-requires g c =
    let E = g.E.Engine in
    let other = subst (λ p. IsIdle p.me) (sym c.into_place.ensures) c.args.other.idle in
    (search rules, search rules, other.0, search rules, joins_it E.seat_of E.stands E.legal _ _ _ _ _ c.args.seat.now.idle.2 other.2 other.1)

pub load-requires : goal.load-requires
load-requires g c =
    let E = g.E.Engine in
    (search rules, search rules, looks_at E.seat_of E.stands E.legal _ _ _ _ (ap (λ m. is_some m.0.start) c.join_seat.ensures.2 ∙ c.args.seat.now.idle.2))

pub returns-clause-seen : goal.returns-clause-seen
returns-clause-seen g c =
    let v = view_of c.args.seat.now in
    let w = c.into_place.result.me.0 in
    let me = c.join_seat.ensures.2 in
    let look = c.load.ensures.2 in
    let seen = ap (λ m. m.0.seen) look.0 in (
      subst (λ l. GoesOn l v.seen) (sym (seen ∙ ap (λ m. m.0.seen) me)) (longer_first v.seen w.seen),
      subst (λ p. GoesOn c.load.new.seat.me.0.seen p.me.0.seen) c.into_place.ensures
          (subst (λ l. GoesOn l w.seen) (sym seen) (look.1 (known_of w) (subst (λ m. In (known_of w) m.0.joined) (sym me) (inl refl)))),
    )
