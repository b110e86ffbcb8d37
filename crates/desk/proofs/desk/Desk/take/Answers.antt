use Rattle.std.proofs.Common.{rules, ap, ◌∙◌, sym, ◌∷◌, Some}
use Rattle.std.specs.Prelude.{is_some}
use Rattle.atomic_table.specs.Table.{rest}
use Rattle.desk.proofs.Keeps.{takes_it}
use Rattle.desk.proofs.desk.Desk.take.Goals as goal

pub compare_exchange-requires : goal.compare_exchange-requires
compare_exchange-requires g c =
    let same = ap (λ m. m.0) c.loop.invariant.2 in
    let idle = c.requires.1 in
    (search rules, search rules, takes_it g.E.Engine.seat_of g.E.Engine.stands g.E.Engine.legal _ _ _ _ (ap (λ v. v.held) same ∙ idle.1) (ap (λ v. is_some v.start) same ∙ idle.2))

pub exchange-requires : goal.exchange-requires
exchange-requires g c =
    let t = c.compare_exchange.ensures.2.0 c.if-compare_exchange-eq0.true in
    let e = ap (λ m. m.1) t.2 in
    (search rules, (Some t.0, e ∙ ap (λ l. (0, Some t.0) ∷ l) (sym (ap rest e))))
