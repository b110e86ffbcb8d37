use Rattle.std.proofs.Common.{◌≡◌, [], ◌∷◌, ◌++◌, map, All, sym, ap, ◌∙◌, subst}
use mathlib.Core.List.{map-append}
use Rattle.desk.specs.Closing.{gathered}
use Rattle.desk.specs.Seats.{view_of, IsOf}
use Rattle.desk.proofs.Closes.{gathered_last}
use Rattle.desk.proofs.Lists.{all_front}
use Rattle.desk.proofs.desk.Desk.gather.Goals as goal

pub loop-other-preserved : goal.loop-other-preserved
loop-other-preserved g c =
    let desk = c.args.self.now in
    let v = view_of c.loop-other.seat in
    let w = view_of c.in-Some.other in
    let ws = map view_of c.pop.new.self.items in
    let same : c.loop-other.seats.items ≡ c.pop.new.self.items ++ c.in-Some.other ∷ [] = c.in-Some.ensures.items in
    let views : map view_of c.loop-other.seats.items ≡ ws ++ w ∷ [] = ap (map view_of) same ∙ map-append view_of c.pop.new.self.items (c.in-Some.other ∷ []) in (
      c.join.ensures.place,
      all_front (λ x. IsOf desk x) c.pop.new.self.items (c.in-Some.other ∷ []) (subst (All (λ x. IsOf desk x)) same c.loop-other.invariant.1),
      ap (λ u. gathered u ws) c.join.ensures.view ∙ sym (gathered_last v w ws) ∙ ap (gathered v) (sym views) ∙ c.loop-other.invariant.2,
    )
