use Rattle.std.proofs.Common.{◌≡◌, ℕ, ◌+◌, List, map, take, subst, sym, ap, ◌∙◌, IfOk, OnOk}
use Rattle.std.specs.List.{prefix_len}
use Rattle.merge_read.specs.Lists.{AreSortedLists, joined, stored}
use Rattle.schema_models.specs.Folds.{fold_of}
use Rattle.tablets.specs.TabletView.{StoredList, TabletView, is_to, list_rows, lists_to, rows_at, rows_of}
use Rattle.tablets.proofs.Versions.{sorted_front, to_front}
use Rattle.tablets.proofs.tablet.Tablet.show.Goals as goal

pub read_all-requires : goal.read_all-requires
read_all-requires g c =
    let front : take c.count_to.result c.self.inside.lists.items ≡ c.split_at.result.0.now = cc (c.split_at.ensures.front, c.deref.ensures.value) in
    subst (λ (ls : List StoredList). AreSortedLists c.self.inside.shape (map (λ l. list_rows l) ls)) front (sorted_front c.self.inside.shape c.count_to.result c.self.inside.lists.items c.self.invariant.sorted)

pub returns-clause-rows : goal.returns-clause-rows
returns-clause-rows g c =
    let v = c.args.version in
    let items = c.self.inside.lists.items in
    let front : c.split_at.result.0.now ≡ take c.count_to.result items = c.split_at.ensures.front ∙ ap (take c.count_to.result) c.deref.ensures.value in
    let count : c.count_to.result ≡ prefix_len (is_to v) items = c.count_to.ensures.is ∙ ap (prefix_len (is_to v)) c.deref-2.ensures.value in
    let shown : c.split_at.result.0.now ≡ lists_to v items = front ∙ ap (λ (n : ℕ). take n items) count ∙ sym (to_front v items c.self.invariant.rising) in
    subst (λ (t : TabletView). IfOk c.read_all.result (λ rows. rows ≡ rows_at v t)) c.self.view_is
    (subst (λ (ls : List StoredList). IfOk c.read_all.result (λ rows. rows ≡ fold_of c.self.inside.shape (joined (rows_of ls)))) shown c.read_all.ensures.read)

pub returns-clause-counted : goal.returns-clause-counted
returns-clause-counted g c =
    let v = c.args.version in
    let items = c.self.inside.lists.items in
    let front : c.split_at.result.0.now ≡ take c.count_to.result items = c.split_at.ensures.front ∙ ap (take c.count_to.result) c.deref.ensures.value in
    let count : c.count_to.result ≡ prefix_len (is_to v) items = c.count_to.ensures.is ∙ ap (prefix_len (is_to v)) c.deref-2.ensures.value in
    let shown : c.split_at.result.0.now ≡ lists_to v items = front ∙ ap (λ (n : ℕ). take n items) count ∙ sym (to_front v items c.self.invariant.rising) in
    subst (λ (t : TabletView). OnOk c.read_all.result (c.read_all.new.steps ≡ c.args.steps.now + stored (rows_of (lists_to v t.lists)))) c.self.view_is
    (subst (λ (ls : List StoredList). OnOk c.read_all.result (c.read_all.new.steps ≡ c.args.steps.now + stored (rows_of ls))) shown c.read_all.ensures.counted)
