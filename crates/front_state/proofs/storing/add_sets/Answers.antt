use Rattle.std.proofs.Common.{List, ℕ, map, rules, subst, sym, ◌∙◌}
use Rattle.std.proofs.lemmas.List.{with_items_is, places}
use Rattle.shadow_writes.specs.declared.built.TabletRows.{TabletRows}
use Rattle.front_defs.specs.May.{seen_set}
use Rattle.front_laws.specs.Tidy.{Each}
use Rattle.front_state.specs.Ready.{AreRaised, IsNext}
use Rattle.front_state.specs.Tablets.{HasSets, indexes_seen, table_seen}
use Rattle.front_state.specs.declared.ready.ReadyList.{ReadyList}
use Rattle.front_state.proofs.Sets.{has_sets}
use Rattle.front_state.proofs.storing.add_sets.Goals as goal

pub returns-clause-ok : goal.returns-clause-ok
returns-clause-ok c =
    let stored = c.args.stored.now in
    let lists = c.in_ok-lists.lists.items in
    let sets = map (λ (s : TabletRows). seen_set s) c.args.sets.now in
    let old = stored.versions.items in
    let new = c.raise.new.versions in
    let set = c.put_all.new.set in
    let ready = c.in_ok-lists.ensures.ready in
    let next = subst (λ (vs : List ℕ). Each (IsNext vs) lists) c.as_slice.ensures.value ready.next in
    let there = subst (λ (ls : List ReadyList). AreRaised ls c.as_mut_slice.result.now new) c.as_slice-2.ensures.value c.raise.ensures in
    let raised = subst (λ (vs : List ℕ). AreRaised lists vs new) c.as_mut_slice.ensures.value there in
    let all = has_sets stored.table sets lists old new stored.set c.ready_lists.new.set set ready.are next c.ready_lists.ensures.room.unseen raised c.put_all.ensures in
    let items = with_items_is stored.versions new (raised.many ∙ search (rules, places)) in
    subst (λ (vs : List ℕ). HasSets sets (table_seen stored) (record { table = stored.table; versions = vs; indexes = indexes_seen set })) (sym items) all
