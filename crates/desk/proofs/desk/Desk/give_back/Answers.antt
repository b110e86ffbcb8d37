use Rattle.std.proofs.Common.{rules, ◌∷◌, Some, ap, sym, subst, ◌∙◌}
use Rattle.atomic_table.specs.Table.{rest}
use Rattle.desk.specs.Rule.{StandsFrom}
use Rattle.desk.proofs.Keeps.{gives_it}
use Rattle.desk.proofs.desk.Desk.give_back.Goals as goal

pub store-requires : goal.store-requires
store-requires g c =
    let E = g.E.Engine in
    let e = c.requires.engine in
    let x = c.exchange-vacant.ensures in (
      search rules,
      search rules,
      gives_it E.seat_of E.stands E.legal _ _ _ c.exchange-vacant.new.seat.me c.args.home e.0 (ap (λ m. m.0.held) x.3 ∙ e.1)
          (ap (λ m. m.1) x.3 ∙ ap (λ l. (0, Some c.args.home) ∷ rest l) c.requires.place.1)
          (subst (λ v. StandsFrom E.stands E.legal v.start c.args.home.engine e.0) (sym (ap (λ m. m.0) x.3)) e.2) e.3,
    )
