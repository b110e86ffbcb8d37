use Rattle.std.proofs.Common.{◌≡◌, List, [], ◌∷◌, ◌++◌, Some, Option, sym, subst, ap, ◌∙◌}
use Rattle.atomic_table.specs.Table.{opening}
use Rattle.desk.specs.declared.book.Home.{Home}
use Rattle.desk.specs.Rule.{Kept, newcomer}
use Rattle.desk.proofs.Keeps.{opens}
use Rattle.desk.proofs.desk.Desk.set_up.Goals as goal

pub new-requires-2 : goal.new-requires-2
new-requires-2 g c =
    let E = g.E.Engine in
    let home : Home g.row.E.Denot g.row.E-Entry.Denot = record { engine = c.args.engine; book = c.in-Ok.book } in
    let e : c.push.new.self.items ≡ Some home ∷ [] = c.in_default-push.ensures.items ∙ ap (λ l. l ++ Some home ∷ []) c.new-slots.ensures.items in
    subst (λ (l : List (Option (Home g.row.E.Denot g.row.E-Entry.Denot))). Kept E.seat_of E.stands E.legal c.of-about.result.value (opening (0 ∷ 0 ∷ []) l (newcomer c.of-about.result.value)))
    (sym e) (opens E.seat_of E.stands E.legal c.of-about.result.value home (sym c.of-about.ensures) c.in-Ok.ensures)
