use Rattle.std.proofs.Common.{◌≡◌, ◌<◌, List, true, sym, ap, subst}
use Rattle.std.specs.Prelude.{is_some, slice_get}
use Rattle.tablets.specs.SetView.{IndexView, SetView, index_at, tablet_at, tablet_of}
use Rattle.tablets.specs.TabletView.{TabletView, spare, with_list}
use Rattle.tablets.specs.contracts.index.Index.{the_view as index_view}
use Rattle.tablets.specs.contracts.part.Part.{the_view as part_view}
use Rattle.tablets.specs.contracts.tablet_set.TabletSet.{the_view}
use Rattle.tablets.proofs.Changes.{change_is, has_from_on, stands, written_is_set}
use Rattle.tablets.proofs.tablet_set.TabletSet.put.Goals as goal

pub invariant_of-self : goal.invariant_of-self
invariant_of-self c =
    let s = the_view c.self.inside in
    let i = index_view c.index.inside in
    let ts = part_view c.part.inside in
    let t = c.index_mut-tablet.result.now in
    let has : is_some (tablet_of c.args.index c.args.part c.args.bucket s.indexes) ≡ true = subst (λ (v : SetView). is_some (tablet_at v c.args.index c.args.part c.args.bucket) ≡ true) (sym c.self.view_is) (has_from_on c.args.self.now c.args.index c.args.part c.args.bucket (λ t. 0 < spare t) c.requires.spare) in
    let first : slice_get s.indexes c.place_of-place.result ≡ index_at c.args.index s.indexes = subst (λ (is : List IndexView). slice_get is c.place_of-place.result ≡ index_at c.args.index is) c.deref.ensures.value c.place_of-place.ensures in
    let h = stands s.indexes c.args.index c.args.part c.args.bucket c.place_of-place.result i ts t c.index_mut-index.result.now c.index_mut-part.result.now has first c.index_mut-index.ensures.value c.index.view_is c.index_mut-part.ensures.value c.part.view_is c.index_mut-tablet.ensures.value in
    written_is_set s c.args.index c.args.part c.args.bucket c.place_of-place.result i ts t c.put.new.self c.self.invariant h (ap (λ (t : TabletView). t.shape) c.put.ensures) c.vouch.ensures

pub returns : goal.returns
returns c =
    let s = the_view c.self.inside in
    let i = index_view c.index.inside in
    let ts = part_view c.part.inside in
    let t = c.index_mut-tablet.result.now in
    let has : is_some (tablet_of c.args.index c.args.part c.args.bucket s.indexes) ≡ true = subst (λ (v : SetView). is_some (tablet_at v c.args.index c.args.part c.args.bucket) ≡ true) (sym c.self.view_is) (has_from_on c.args.self.now c.args.index c.args.part c.args.bucket (λ t. 0 < spare t) c.requires.spare) in
    let first : slice_get s.indexes c.place_of-place.result ≡ index_at c.args.index s.indexes = subst (λ (is : List IndexView). slice_get is c.place_of-place.result ≡ index_at c.args.index is) c.deref.ensures.value c.place_of-place.ensures in
    let h = stands s.indexes c.args.index c.args.part c.args.bucket c.place_of-place.result i ts t c.index_mut-index.result.now c.index_mut-part.result.now has first c.index_mut-index.ensures.value c.index.view_is c.index_mut-part.ensures.value c.part.view_is c.index_mut-tablet.ensures.value in
    change_is s c.args.self.now c.args.index c.args.part c.args.bucket c.place_of-place.result i ts t c.put.new.self (with_list (record { first = c.args.version; last = c.args.version; rowset = c.args.rowset.value })) c.self.view_is c.self.invariant h c.put.ensures
