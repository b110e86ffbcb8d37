use Rattle.std.proofs.Common.{◌≡◌, ◌≤◌, List, Some, true, sym, subst}
use Rattle.std.specs.Prelude.{is_some, slice_get}
use Rattle.tablets.specs.SetView.{IndexView, SetView, index_at, tablet_at, tablet_of}
use Rattle.tablets.specs.TabletView.{spare}
use Rattle.tablets.specs.contracts.index.Index.{the_view as index_view}
use Rattle.tablets.specs.contracts.part.Part.{the_view as part_view}
use Rattle.tablets.specs.contracts.tablet_set.TabletSet.{the_view}
use Rattle.tablets.proofs.Changes.{change_is, found_tablet, found_written, on_tablet, same_but_room, stands, written_is_set, written}
use Rattle.std.proofs.lemmas.Result.{on_ok_weaker}
use Rattle.tablets.proofs.tablet_set.TabletSet.reserve.Goals as goal

pub invariant_of-self : goal.invariant_of-self
invariant_of-self c =
    let s = the_view c.self.inside in
    let i = index_view c.index.inside in
    let ts = part_view c.part.inside in
    let t = c.index_mut-tablet.result.now in
    let has : is_some (tablet_of c.args.index c.args.part c.args.bucket s.indexes) ≡ true = subst (λ (v : SetView). is_some (tablet_at v c.args.index c.args.part c.args.bucket) ≡ true) (sym c.self.view_is) (c.requires) in
    let first : slice_get s.indexes c.place_of-place.result ≡ index_at c.args.index s.indexes = subst (λ (is : List IndexView). slice_get is c.place_of-place.result ≡ index_at c.args.index is) c.deref.ensures.value c.place_of-place.ensures in
    let h = stands s.indexes c.args.index c.args.part c.args.bucket c.place_of-place.result i ts t c.index_mut-index.result.now c.index_mut-part.result.now has first c.index_mut-index.ensures.value c.index.view_is c.index_mut-part.ensures.value c.part.view_is c.index_mut-tablet.ensures.value in
    written_is_set s c.args.index c.args.part c.args.bucket c.place_of-place.result i ts t c.reserve-done.new.self c.self.invariant h c.reserve-done.ensures.shape c.vouch.ensures

pub returns-clause-ok : goal.returns-clause-ok
returns-clause-ok c =
    let s = the_view c.self.inside in
    let i = index_view c.index.inside in
    let ts = part_view c.part.inside in
    let t = c.index_mut-tablet.result.now in
    let has : is_some (tablet_of c.args.index c.args.part c.args.bucket s.indexes) ≡ true = subst (λ (v : SetView). is_some (tablet_at v c.args.index c.args.part c.args.bucket) ≡ true) (sym c.self.view_is) (c.requires) in
    let first : slice_get s.indexes c.place_of-place.result ≡ index_at c.args.index s.indexes = subst (λ (is : List IndexView). slice_get is c.place_of-place.result ≡ index_at c.args.index is) c.deref.ensures.value c.place_of-place.ensures in
    let h = stands s.indexes c.args.index c.args.part c.args.bucket c.place_of-place.result i ts t c.index_mut-index.result.now c.index_mut-part.result.now has first c.index_mut-index.ensures.value c.index.view_is c.index_mut-part.ensures.value c.part.view_is c.index_mut-tablet.ensures.value in
    let u = c.reserve-done.new.self in
    on_ok_weaker c.reserve-done.result (λ e. on_tablet (record s { indexes = written c.place_of-place.result c.args.part c.args.bucket i ts u s.indexes }) c.args.index c.args.part c.args.bucket u (λ w. c.args.room ≤ spare w) (found_written s.indexes c.args.index c.args.part c.args.bucket c.place_of-place.result i ts t u c.self.invariant.marks.numbers_apart h) e) c.reserve-done.ensures.ok

pub returns-clause-rest : goal.returns-clause-rest
returns-clause-rest c =
    let s = the_view c.self.inside in
    let i = index_view c.index.inside in
    let ts = part_view c.part.inside in
    let t = c.index_mut-tablet.result.now in
    let has : is_some (tablet_of c.args.index c.args.part c.args.bucket s.indexes) ≡ true = subst (λ (v : SetView). is_some (tablet_at v c.args.index c.args.part c.args.bucket) ≡ true) (sym c.self.view_is) (c.requires) in
    let first : slice_get s.indexes c.place_of-place.result ≡ index_at c.args.index s.indexes = subst (λ (is : List IndexView). slice_get is c.place_of-place.result ≡ index_at c.args.index is) c.deref.ensures.value c.place_of-place.ensures in
    let h = stands s.indexes c.args.index c.args.part c.args.bucket c.place_of-place.result i ts t c.index_mut-index.result.now c.index_mut-part.result.now has first c.index_mut-index.ensures.value c.index.view_is c.index_mut-part.ensures.value c.part.view_is c.index_mut-tablet.ensures.value in
    let u = c.reserve-done.new.self in
    let there : tablet_at c.args.self.now c.args.index c.args.part c.args.bucket ≡ Some t = subst (λ (v : SetView). tablet_at v c.args.index c.args.part c.args.bucket ≡ Some t) c.self.view_is (found_tablet s.indexes c.args.index c.args.part c.args.bucket c.place_of-place.result i ts t h) in
    record {
      room = u.room;
      more = on_tablet c.args.self.now c.args.index c.args.part c.args.bucket t (λ w. w.room ≤ u.room) there c.reserve-done.ensures.more;
      rest = change_is s c.args.self.now c.args.index c.args.part c.args.bucket c.place_of-place.result i ts t u (λ w. record w { room = u.room }) c.self.view_is c.self.invariant h (same_but_room t u c.reserve-done.ensures.lists c.reserve-done.ensures.shape);
    }
