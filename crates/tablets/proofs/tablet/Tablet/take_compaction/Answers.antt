use Rattle.std.proofs.Common.{◌≤◌, List, Global, map, length, ap, ◌∙◌, subst, arith}
use Rattle.std.specs.declared.sync.Arc.{Arc}
use Rattle.rowsets.specs.declared.rowset.Rowset.{Rowset}
use Rattle.tablets.specs.Compactions.{IsCompactionOf, versions_of}
use Rattle.tablets.specs.TabletView.{StoredList, TabletView}
use Rattle.tablets.proofs.Merging.{sorted_shared}
use Rattle.tablets.proofs.tablet.Tablet.take_compaction.Goals as goal

pub returns : goal.returns
returns c =
    let items = c.self.inside.lists.items in
    let compaction = c.in_ok-compaction.compaction in
    let shared = c.in_ok-compaction.ensures.lists ∙ ap (λ (ls : List StoredList). map (λ l. l.rowset) ls) c.deref.ensures.value in
    let five : 5 ≤ length items = omega (arith, c.deref.ensures.len, ap length c.deref.ensures.value, c.len.ensures, c.if-len-lt5.false) in
    subst (λ (t : TabletView). (5 ≤ length t.lists) × IsCompactionOf t compaction) c.self.view_is (
      five,
      record {
        shape = c.in_ok-compaction.ensures.shape;
        versions = c.in_ok-compaction.ensures.versions ∙ ap versions_of c.deref.ensures.value;
        lists = shared;
        sorted = sorted_shared c.self.inside.shape (λ (l : Arc Rowset Global). l.value) compaction.lists items c.self.invariant.sorted shared;
      },
    )
