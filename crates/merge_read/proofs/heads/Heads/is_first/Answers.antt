use Rattle.std.proofs.Common.{◌≤◌, ◌∙◌, arith, length, List, [], ◌∷◌, not, ap, sym, subst}
use Rattle.std.specs.BinaryHeap.{IsUpperBound, heap_items}
use Rattle.merge_read.proofs.FirstHeads.{before_all}
use Rattle.merge_read.specs.HeadOrder.{head_cmp}
use Rattle.merge_read.specs.HeadsView.{HeadsView}
use Rattle.merge_read.specs.declared.head.Head.{Head}
use Rattle.merge_read.proofs.heads.Heads.is_first.Goals as goal

none : (items : List Head) (head : Head) → length items ≤ 0 → IsUpperBound head_cmp head items
none [] head h = tt
none (x ∷ xs) head h = let no : ⊥ = omega arith in absurd no

pub returns-in-None : goal.returns-in-None
returns-in-None c =
    λ e. subst (λ (v : HeadsView). IsUpperBound head_cmp c.args.head.now v.items) c.self.view_is (none (heap_items c.self.inside.heap) c.args.head.now c.in-None.ensures.item.3)

pub returns-in-Some : goal.returns-in-Some
returns-in-Some c =
    λ e. before_all c.in-Some.best.now c.args.head.now c.args.self.now.items (sym e ∙ ap not c.gt.ensures) (subst (λ (v : HeadsView). IsUpperBound head_cmp c.in-Some.best.now v.items) c.self.view_is (c.in-Some.ensures.greatest c.self.invariant))
