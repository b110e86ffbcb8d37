use Rattle.std.proofs.Common.{◌≡◌, Some, sym, ◌∙◌, subst}
use mathlib.Core.Option.{some-injective}
use Rattle.desk.specs.declared.book.Home.{Home}
use Rattle.desk.specs.Closing.{Ended}
use Rattle.desk.specs.Seats.{opening_of}
use Rattle.desk.proofs.Books.{none_some, some_some}
use Rattle.desk.proofs.Closes.{ends_with}
use Rattle.desk.proofs.desk.Desk.end.Goals as goal

pub unreachable-requires : goal.unreachable-requires
unreachable-requires g c =
    let E = g.E.Engine in
    let free = c.requires.place.1 in
    let f = ends_with E.seat_of E.stands E.legal (opening_of c.args.self) _ _ c.args.place.id c.args.place.me.0 c.close_with-closed.ensures.values.2 free.1 free.2 c.requires.all in
    let same : c.take-taken.result ≡ Some f.0 = some-injective c.take-taken.result (Some f.0) (sym c.take-taken.ensures.value ∙ f.1) in
    none_some f.0 (sym c.in_default.is ∙ same)

pub returns : goal.returns
returns g c =
    let E = g.E.Engine in
    let free = c.requires.place.1 in
    let f = ends_with E.seat_of E.stands E.legal (opening_of c.args.self) _ _ c.args.place.id c.args.place.me.0 c.close_with-closed.ensures.values.2 free.1 free.2 c.requires.all in
    let same : c.take-taken.result ≡ Some f.0 = some-injective c.take-taken.result (Some f.0) (sym c.take-taken.ensures.value ∙ f.1) in
    subst (λ (home : Home g.row.E.Denot g.row.E-Entry.Denot). Ended E.seat_of E.stands E.legal (opening_of c.args.self) home.engine c.args.place.me.0)
    (some_some f.0 c.in-Some.field-0 (sym same ∙ c.in-Some.is)) f.2
