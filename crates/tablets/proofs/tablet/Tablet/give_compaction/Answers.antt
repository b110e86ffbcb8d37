use Rattle.std.proofs.Common.{◌≡◌, List, ℕ, ◌<◌, true, length, ap, ◌∙◌, sym, subst, arith}
use Rattle.std.specs.Vec.{vec_capacity}
use Rattle.tablets.specs.Compactions.{are_there, last_version}
use Rattle.tablets.specs.TabletView.{IsTablet, StoredList, lists_past}
use Rattle.tablets.specs.contracts.tablet.Tablet.{the_view}
use Rattle.tablets.proofs.Merging.{past_shorter}
use Rattle.tablets.proofs.Versions.{replaced_is_tablet}
use Rattle.tablets.proofs.tablet.Tablet.give_compaction.Goals as goal

pub replace-requires : goal.replace-requires
replace-requires c =
    let vs = c.args.done.versions in
    let items = c.self.inside.lists.items in
    let there : are_there vs items ≡ true = ap (λ (ws : List (ℕ × ℕ)). are_there ws items) (sym c.as_slice.ensures) ∙ ap (are_there c.as_slice.result.now) (sym c.deref.ensures.value) ∙ sym c.are_there.ensures ∙ c.if-not-are_there.false in
    let last : c.last_version.result ≡ last_version vs = c.last_version.ensures ∙ ap last_version c.as_slice-3.ensures in
    let short : length (lists_past c.last_version.result items) < length items = subst (λ (n : ℕ). length (lists_past n items) < length items) (sym last) (past_shorter vs items there c.self.invariant.rising) in
    let vec = c.self.inside.lists.ok in
    omega (arith, short, vec.0, vec.1)

pub invariant_of-self : goal.invariant_of-self
invariant_of-self c =
    subst (λ (ls : List StoredList). IsTablet (record { shape = c.self.inside.shape; lists = ls; room = vec_capacity c.replace.new.lists })) (sym c.replace.ensures.lists)
    (replaced_is_tablet (the_view c.self.inside) (record { first = c.first_version.result; last = c.last_version.result; rowset = c.args.done.merged.value }) c.self.invariant c.vouch.ensures (vec_capacity c.replace.new.lists))
