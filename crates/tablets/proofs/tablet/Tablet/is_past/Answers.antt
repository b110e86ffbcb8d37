use Rattle.std.proofs.Common.{◌≡◌, ◌-◌, ◌<◌, ◌↔◌, List, Some, length, nat_lt, IsTrue, sym, ap, subst, arith}
use Rattle.std.proofs.lemmas.Bool.Decides.{nat_tests}
use Rattle.std.specs.Prelude.{slice_get}
use Rattle.tablets.specs.TabletView.{IsPast, StoredList, TabletView}
use Rattle.tablets.proofs.Marks.{all_at}
use Rattle.tablets.proofs.Past.{above_last}
use Rattle.tablets.proofs.tablet.Tablet.is_past.Goals as goal

pub returns-in-Some : goal.returns-in-Some
returns-in-Some c =
    let v = c.args.version in
    let items = c.self.inside.lists.items in
    let last = c.in-Some.list.now in
    let there : slice_get items (length items - 1) ≡ Some last = subst (λ (ls : List StoredList). slice_get ls (length ls - 1) ≡ Some last) c.deref.ensures.value (sym c.in-Some.ensures.value) in
    let same : c.list.inside.last ≡ last.last = ap (λ (l : StoredList). l.last) c.list.view_is in
    let below : IsTrue (nat_lt c.list.inside.last v) → last.last < v = (λ t. grind (arith, nat_tests, same, t)) in
    let above : last.last < v → IsTrue (nat_lt c.list.inside.last v) = (λ t. grind (arith, nat_tests, same, t)) in
    subst (λ (t : TabletView). IsTrue (nat_lt c.list.inside.last v) ↔ IsPast v t.lists) c.self.view_is
    (λ t. above_last v items last c.self.invariant.rising there (below t), λ p. above (all_at (λ l. l.last < v) items (length items - 1) last p there))
