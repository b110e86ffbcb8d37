use Rattle.std.proofs.Common.{◌≡◌, ◌∷◌, List, rules, arith, ap, ◌∙◌, length, nat_lt}
use Rattle.std.proofs.lemmas.Fn.{filter_same}
use Rattle.tablets.specs.TabletView.{StoredList, lists_past}
use Rattle.tablets.proofs.tablet.replace.Goals as goal

pub unreachable-requires : goal.unreachable-requires
unreachable-requires c =
    let kept : c.retain.new.self.items ≡ lists_past c.args.held.last c.args.lists.now.items = filter_same _ (λ (l : StoredList). nat_lt c.args.held.last l.last) _ (λ x b f k. search rules) _ _ c.retain.ensures.filtered in
    let few = ap length kept in
    omega (arith, few, c.retain.new.self.ok.0, c.retain.ensures.capacity, c.in-Err.ensures.full, c.requires)

pub returns-clause-lists : goal.returns-clause-lists
returns-clause-lists c =
    let kept : c.retain.new.self.items ≡ lists_past c.args.held.last c.args.lists.now.items = filter_same _ (λ (l : StoredList). nat_lt c.args.held.last l.last) _ (λ x b f k. search rules) _ _ c.retain.ensures.filtered in
    let put : c.insert.new.self.items ≡ c.args.held ∷ c.retain.new.self.items = c.in-Ok.ensures.items in
    put ∙ ap (λ (ls : List StoredList). c.args.held ∷ ls) kept

pub returns-clause-room : goal.returns-clause-room
returns-clause-room c =
    let kept : c.retain.new.self.items ≡ lists_past c.args.held.last c.args.lists.now.items = filter_same _ (λ (l : StoredList). nat_lt c.args.held.last l.last) _ (λ x b f k. search rules) _ _ c.retain.ensures.filtered in
    let few = ap length kept in
    (c.in-Ok.ensures.in_place (omega (arith, few, c.retain.new.self.ok.0, c.retain.ensures.capacity, c.requires))).1.0 ∙ c.retain.ensures.capacity
