use Rattle.std.proofs.Common.{◌≡◌, ℕ, List, map, take, subst, sym, ap, ◌∙◌, IfOk}
use Rattle.std.specs.List.{prefix_len}
use Rattle.tablets.specs.TabletView.{StoredList, TabletView, is_to, lists_to}
use Rattle.tablets.proofs.Versions.{to_front}
use Rattle.tablets.proofs.tablet.Tablet.snapshot.Goals as goal

pub returns : goal.returns
returns c =
    let v = c.args.version in
    let items = c.self.inside.lists.items in
    let front : c.split_at.result.0.now ≡ take c.count_to.result items = c.split_at.ensures.front ∙ ap (take c.count_to.result) c.deref.ensures.value in
    let count : c.count_to.result ≡ prefix_len (is_to v) items = c.count_to.ensures.is ∙ ap (prefix_len (is_to v)) c.deref-2.ensures.value in
    let shown : c.split_at.result.0.now ≡ lists_to v items = front ∙ ap (λ (n : ℕ). take n items) count ∙ sym (to_front v items c.self.invariant.rising) in
    subst (λ (t : TabletView). IfOk c.shared.result (λ all. map (λ l. l.value) all ≡ map (λ l. l.rowset) (lists_to v t.lists))) c.self.view_is
    (subst (λ (ls : List StoredList). IfOk c.shared.result (λ all. map (λ l. l.value) all ≡ map (λ l. l.rowset) ls)) shown c.shared.ensures)
