use Rattle.std.proofs.Common.{ℕ, List, [], ◌∷◌, ◌++◌, Option, rules, sym, ap, ap₂, ◌∙◌}
use Rattle.std.proofs.lemmas.List.{map_more}
use Rattle.select_eval.specs.Places.{place_of}
use Rattle.select_eval.proofs.grouping.places_of.Goals as goal

pub loop-name-preserved : goal.loop-name-preserved
loop-name-preserved c =
    c.in_ok-push.ensures.items
    ∙ ap₂ (λ (l : List (Option ℕ)) (p : Option ℕ). l ++ p ∷ []) c.loop-name.invariant (c.position.ensures ∙ ap (place_of c.args.index.now) c.name-item.is)
    ∙ sym (map_more (place_of c.args.index.now) c.args.group.now c.loop-name.name-index c.name-item.result (search rules))
