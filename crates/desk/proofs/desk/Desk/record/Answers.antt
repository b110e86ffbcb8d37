use Rattle.std.proofs.Common.{rules}
use Rattle.desk.proofs.Keeps.{adds_it}
use Rattle.desk.proofs.desk.Desk.record.Goals as goal

pub fetch_add-requires : goal.fetch_add-requires
fetch_add-requires g c =
    let E = g.E.Engine in let k = c.requires.event in
    (search rules, search rules, adds_it E.seat_of E.stands E.legal _ _ _ _ _ k.1 k.0 k.5 k.3 k.2 k.4)

pub returns-clause-event : goal.returns-clause-event
returns-clause-event g c log held = c.fetch_add.ensures.2 log held
