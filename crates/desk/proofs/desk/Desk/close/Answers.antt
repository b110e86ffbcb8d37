use Rattle.std.proofs.Common.{◌≡◌, [], ◌∷◌, ◌++◌, map, sym, ap, ◌∙◌, subst}
use mathlib.Core.List.{map-append}
use Rattle.desk.specs.Closing.{gathered, AreAll, Ended, IsWhole}
use Rattle.desk.specs.Names.{KnowsAll}
use Rattle.desk.specs.Rule.{tag, IsLive}
use Rattle.desk.specs.Seats.{view_of, opening_of}
use Rattle.desk.proofs.Closes.{knows_all, all_whole}
use Rattle.desk.proofs.Lists.{of_map}
use Rattle.desk.proofs.desk.Desk.close.Goals as goal

pub end-requires-clause-all : goal.end-requires-clause-all
end-requires-clause-all g c =
    let v = view_of c.in-Some.seat in
    let ws = map view_of c.pop.new.self.items in
    let views : map view_of c.args.seats.items ≡ ws ++ v ∷ [] = ap (map view_of) c.in-Some.ensures.items ∙ map-append view_of c.pop.new.self.items (c.in-Some.seat ∷ []) in
    let last : c.into_place-place.result.me.0 ≡ gathered v ws = ap (λ p. p.me.0) c.into_place-place.ensures ∙ c.gather.ensures.view in
    subst (λ u. KnowsAll (tag u)) (sym last) (knows_all v ws c.in-Some.seat.idle.2
    (λ u i. let t = of_map view_of u c.pop.new.self.items i in subst (λ x. IsLive x) (sym t.2) t.0.idle.2)
    (subst (λ l. AreAll l) views c.requires.all))

pub returns : goal.returns
returns g c =
    let E = g.E.Engine in
    let v = view_of c.in-Some.seat in
    let ws = map view_of c.pop.new.self.items in
    let views : map view_of c.args.seats.items ≡ ws ++ v ∷ [] = ap (map view_of) c.in-Some.ensures.items ∙ map-append view_of c.pop.new.self.items (c.in-Some.seat ∷ []) in
    let last : c.into_place-place.result.me.0 ≡ gathered v ws = ap (λ p. p.me.0) c.into_place-place.ensures ∙ c.gather.ensures.view in
    let key = opening_of c.args.self in
    subst (λ l. IsWhole E.seat_of E.stands E.legal key c.end.result l) (sym views) (all_whole E.seat_of E.stands E.legal key c.end.result v ws
    (λ u i. let t = of_map view_of u c.pop.new.self.items i in subst (λ x. IsLive x) (sym t.2) t.0.idle.2)
    (subst (λ u. Ended E.seat_of E.stands E.legal key c.end.result u) last c.end.ensures))
