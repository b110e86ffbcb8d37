use Rattle.std.proofs.Common.{◌≡◌, ◌++◌, ◌∷◌, [], List, ℕ, subst, sym, ap, false, true}
use Rattle.partitions.specs.LayoutFaults.{meets}
use Rattle.partitions.specs.Search as search
use Rattle.partitions.specs.declared.part_def.PartDef.{PartDef}
use Rattle.partitions.specs.contracts.layout.Layout.{the_view}
use Rattle.partitions.specs.LayoutView.{LayoutView}
use Rattle.partitions.proofs.Growing.{order_grows}
use Rattle.partitions.proofs.layout.Layout.push.Goals as goal

pub invariant_of-self-2 : goal.invariant_of-self-2
invariant_of-self-2 c =
    let parts = c.self.inside.parts in
    let part = c.args.part in
    let apart : meets parts part ≡ false = subst (λ (l : LayoutView). meets l.parts part ≡ false) (sym c.self.view_is) c.requires.apart in
    let pushed : parts ++ part ∷ [] ≡ c.push_part.new.parts = cc (c.in_ok-push_part.ensures.ok) in
    let order : search.with_number parts part.bounds c.self.inside.order.items ≡ c.in_ok-order.order.items = cc (c.in_ok-order.ensures, c.as_slice-parts.ensures, c.as_slice.ensures.value) in
    let grown = order_grows parts part c.self.inside.order.items c.requires.rise apart c.self.invariant.ordered in
    record {
      ordered = subst (λ (ps : List PartDef). search.IsOrder ps c.in_ok-order.order.items) pushed (subst (λ (o : List ℕ). search.IsOrder (parts ++ part ∷ []) o) order grown);
      column = c.self.invariant.column;
      hash = c.self.invariant.hash;
    }
