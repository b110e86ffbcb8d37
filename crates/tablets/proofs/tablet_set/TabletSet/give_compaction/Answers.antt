use Rattle.std.proofs.Common.{◌≡◌, List, Some, true, sym, ap, subst}
use Rattle.std.specs.Prelude.{is_some, slice_get}
use Rattle.tablets.specs.SetView.{IndexView, SetView, index_at, tablet_at, tablet_of}
use Rattle.tablets.specs.TabletView.{TabletView}
use Rattle.tablets.specs.contracts.index.Index.{the_view as index_view}
use Rattle.tablets.specs.contracts.part.Part.{the_view as part_view}
use Rattle.tablets.specs.contracts.tablet_set.TabletSet.{the_view}
use Rattle.tablets.proofs.Changes.{change_is, either_way, found_tablet, has_from_on, on_tablet, stands, written_is_set, written_same}
use Rattle.std.proofs.lemmas.Result.{on_err_weaker, on_ok_weaker}
use Rattle.std.specs.Prelude.{false}
use Rattle.tablets.specs.Compactions.{are_there, compacted}
use Rattle.rowsets.specs.RowsetView.{IsMadeFor}
use Rattle.tablets.proofs.tablet_set.TabletSet.give_compaction.Goals as goal

pub invariant_of-self : goal.invariant_of-self
invariant_of-self c =
    let s = the_view c.self.inside in
    let i = index_view c.index.inside in
    let ts = part_view c.part.inside in
    let t = c.index_mut-tablet.result.now in
    let has : is_some (tablet_of c.args.index c.args.part c.args.bucket s.indexes) ≡ true = subst (λ (v : SetView). is_some (tablet_at v c.args.index c.args.part c.args.bucket) ≡ true) (sym c.self.view_is) (has_from_on c.args.self.now c.args.index c.args.part c.args.bucket (λ t. are_there c.args.done.versions t.lists ≡ true → IsMadeFor t.shape c.args.done.merged.value) c.requires) in
    let first : slice_get s.indexes c.place_of-place.result ≡ index_at c.args.index s.indexes = subst (λ (is : List IndexView). slice_get is c.place_of-place.result ≡ index_at c.args.index is) c.deref.ensures.value c.place_of-place.ensures in
    let h = stands s.indexes c.args.index c.args.part c.args.bucket c.place_of-place.result i ts t c.index_mut-index.result.now c.index_mut-part.result.now has first c.index_mut-index.ensures.value c.index.view_is c.index_mut-part.ensures.value c.part.view_is c.index_mut-tablet.ensures.value in
    let u = c.give_compaction-given.new.self in
    let shape : u.shape ≡ t.shape = either_way c.give_compaction-given.result (u.shape ≡ t.shape) (on_ok_weaker c.give_compaction-given.result (λ e. ap (λ (w : TabletView). w.shape) e.1) c.give_compaction-given.ensures.ok) (on_err_weaker c.give_compaction-given.result (λ e. ap (λ (w : TabletView). w.shape) e.1) c.give_compaction-given.ensures.gone) in
    written_is_set s c.args.index c.args.part c.args.bucket c.place_of-place.result i ts t u c.self.invariant h shape c.vouch.ensures

pub returns-clause-ok : goal.returns-clause-ok
returns-clause-ok c =
    let s = the_view c.self.inside in
    let i = index_view c.index.inside in
    let ts = part_view c.part.inside in
    let t = c.index_mut-tablet.result.now in
    let has : is_some (tablet_of c.args.index c.args.part c.args.bucket s.indexes) ≡ true = subst (λ (v : SetView). is_some (tablet_at v c.args.index c.args.part c.args.bucket) ≡ true) (sym c.self.view_is) (has_from_on c.args.self.now c.args.index c.args.part c.args.bucket (λ t. are_there c.args.done.versions t.lists ≡ true → IsMadeFor t.shape c.args.done.merged.value) c.requires) in
    let first : slice_get s.indexes c.place_of-place.result ≡ index_at c.args.index s.indexes = subst (λ (is : List IndexView). slice_get is c.place_of-place.result ≡ index_at c.args.index is) c.deref.ensures.value c.place_of-place.ensures in
    let h = stands s.indexes c.args.index c.args.part c.args.bucket c.place_of-place.result i ts t c.index_mut-index.result.now c.index_mut-part.result.now has first c.index_mut-index.ensures.value c.index.view_is c.index_mut-part.ensures.value c.part.view_is c.index_mut-tablet.ensures.value in
    let there : tablet_at c.args.self.now c.args.index c.args.part c.args.bucket ≡ Some t = subst (λ (v : SetView). tablet_at v c.args.index c.args.part c.args.bucket ≡ Some t) c.self.view_is (found_tablet s.indexes c.args.index c.args.part c.args.bucket c.place_of-place.result i ts t h) in
    on_ok_weaker c.give_compaction-given.result (λ e. (on_tablet c.args.self.now c.args.index c.args.part c.args.bucket t (λ w. are_there c.args.done.versions w.lists ≡ true) there e.0, change_is s c.args.self.now c.args.index c.args.part c.args.bucket c.place_of-place.result i ts t c.give_compaction-given.new.self (compacted c.args.done.versions c.args.done.merged.value) c.self.view_is c.self.invariant h e.1)) c.give_compaction-given.ensures.ok

pub returns-clause-gone : goal.returns-clause-gone
returns-clause-gone c =
    let s = the_view c.self.inside in
    let i = index_view c.index.inside in
    let ts = part_view c.part.inside in
    let t = c.index_mut-tablet.result.now in
    let has : is_some (tablet_of c.args.index c.args.part c.args.bucket s.indexes) ≡ true = subst (λ (v : SetView). is_some (tablet_at v c.args.index c.args.part c.args.bucket) ≡ true) (sym c.self.view_is) (has_from_on c.args.self.now c.args.index c.args.part c.args.bucket (λ t. are_there c.args.done.versions t.lists ≡ true → IsMadeFor t.shape c.args.done.merged.value) c.requires) in
    let first : slice_get s.indexes c.place_of-place.result ≡ index_at c.args.index s.indexes = subst (λ (is : List IndexView). slice_get is c.place_of-place.result ≡ index_at c.args.index is) c.deref.ensures.value c.place_of-place.ensures in
    let h = stands s.indexes c.args.index c.args.part c.args.bucket c.place_of-place.result i ts t c.index_mut-index.result.now c.index_mut-part.result.now has first c.index_mut-index.ensures.value c.index.view_is c.index_mut-part.ensures.value c.part.view_is c.index_mut-tablet.ensures.value in
    let there : tablet_at c.args.self.now c.args.index c.args.part c.args.bucket ≡ Some t = subst (λ (v : SetView). tablet_at v c.args.index c.args.part c.args.bucket ≡ Some t) c.self.view_is (found_tablet s.indexes c.args.index c.args.part c.args.bucket c.place_of-place.result i ts t h) in
    on_err_weaker c.give_compaction-given.result (λ e. (on_tablet c.args.self.now c.args.index c.args.part c.args.bucket t (λ w. are_there c.args.done.versions w.lists ≡ false) there e.0, written_same s c.args.self.now c.args.index c.args.part c.args.bucket c.place_of-place.result i ts t c.give_compaction-given.new.self c.self.view_is h e.1)) c.give_compaction-given.ensures.gone
