-- Lists that are put into their tablets, one by one.
use Rattle.std.proofs.Common.{◌≡◌, ℕ, zero, suc, Bool, true, false, cond, ◌&&◌, List, [], ◌∷◌, ◌++◌, Option, Some, None, map, find, refl, sym, ◌∙◌, ap, subst, arith, nat_eq}
use Rattle.std.proofs.lemmas.Bool.Decides.{nat_tests}
use Rattle.std.specs.Prelude.{MatchOption, is_some}
use Rattle.front_defs.specs.Stands.{HasTablets, TableTablets, index_for, lists_by}
use Rattle.front_defs.specs.Stored.{PlacedRows, StoredList, same_place}
use Rattle.front_defs.specs.declared.catalogue.Table.{Table}
use Rattle.front_laws.specs.Tidy.{Each}
use Rattle.front_laws.proofs.Lists.{eq_is}
use Rattle.partitions.specs.Places.{Place}
use Rattle.tablets.specs.SetView.{SetView, changed, tablet_at}
use Rattle.tablets.specs.TabletView.{TabletView, with_list}
use Rattle.front_state.specs.Ready.{AscendByPlace, CanTake, StandsBefore, Takes, is_before, is_for, seen_list, with_found, with_ready}
use Rattle.front_state.specs.Tablets.{HasList, indexes_seen, list_of, with_list_at}
use Rattle.front_state.specs.declared.ready.ReadyList.{ReadyList}
use Rattle.front_state.proofs.Changed.{put_there}
use Rattle.front_state.proofs.Room.{on_beside}

-- The first lists are put, and those that are left can be put behind them.
pub record ArePut (all rest : List ReadyList) (old now : SetView) : Type 0 where
  pub takes : Each (CanTake now) rest
  pub ascend : AscendByPlace (map seen_list rest)
  pub lists : (index : ℕ) (w : Place) → with_ready rest index w (lists_by w (index_for index (indexes_seen now))) ≡ with_ready all index w (lists_by w (index_for index (indexes_seen old)))
  pub grid : (t : Table) (k : TableTablets) (index : ℕ) → MatchOption (index_for index (indexes_seen old)) ⊥ (HasTablets t k) → MatchOption (index_for index (indexes_seen now)) ⊥ (HasTablets t k)

-- those behind a list are for other tablets

abbrev place_of : ReadyList → Place
place_of l = record { part = l.part; bucket = l.bucket }

before_apart : (v w : Place) → is_before v w ≡ true → v.part ≡ w.part → v.bucket ≡ w.bucket → ⊥
before_apart v w e i j = absurd (grind (arith, nat_tests, e, i, j))

before_other : (v w : Place) → is_before v w ≡ true → same_place v w ≡ false
before_other v w e = go (nat_eq w.part v.part) (nat_eq w.bucket v.bucket) refl refl
  where
    go : (a b : Bool) → nat_eq w.part v.part ≡ a → nat_eq w.bucket v.bucket ≡ b → (a && b) ≡ false
    go true true i j = absurd (before_apart v w e (sym (eq_is w.part v.part i)) (sym (eq_is w.bucket v.bucket j)))
    go false b i j = refl
    go true false i j = refl

none_for : (w : Place) (ls : List ReadyList) → Each (λ (x : PlacedRows). is_before w x.place ≡ true) (map seen_list ls) → find (is_for w) ls ≡ None
none_for w [] e = refl
none_for w (l ∷ ls) e = let o : is_for w l ≡ false = before_other w (place_of l) e.0 in rw o (none_for w ls e.1)

-- the tablet that a list is for
for_is : (w : Place) (l : ReadyList) → is_for w l ≡ true → place_of l ≡ w
for_is w l e = go (nat_eq l.part w.part) (nat_eq l.bucket w.bucket) refl refl e
  where
    go : (a b : Bool) → nat_eq l.part w.part ≡ a → nat_eq l.bucket w.bucket ≡ b → (a && b) ≡ true → place_of l ≡ w
    go true true i j k = ap (λ (p : ℕ). record { part = p; bucket = l.bucket }) (eq_is l.part w.part i) ∙ ap (λ (b : ℕ). record { part = w.part; bucket = b }) (eq_is l.bucket w.bucket j)
    go true false i j k = absurd (cc)
    go false b i j k = absurd (cc)

-- a list that is put is there before the others
put_first : (l : ReadyList) (rest : List ReadyList) (index : ℕ) (w : Place) (lists : List StoredList) → Each (StandsBefore (seen_list l)) (map seen_list rest) → with_ready rest index w (with_list_at l.part l.bucket (list_of l.version l.rows.value) index w lists) ≡ with_ready (l ∷ rest) index w lists
put_first l rest zero w lists e = go (is_for w l) refl
  where
    go : (b : Bool) → is_for w l ≡ b → with_found (find (is_for w) rest) (cond b (lists ++ list_of l.version l.rows.value ∷ []) lists) ≡ with_found (cond b (Some l) (find (is_for w) rest)) lists
    go true is =
        let other = none_for w rest (subst (λ (v : Place). Each (λ (x : PlacedRows). is_before v x.place ≡ true) (map seen_list rest)) (for_is w l is) e) in
        ap (λ (o : Option ReadyList). with_found o (lists ++ list_of l.version l.rows.value ∷ [])) other
    go false is = refl
put_first l rest (suc n) w lists e = let off : nat_eq (suc n) 0 ≡ false = grind (arith, nat_tests) in rw off refl

-- the others can still be put
others_take : (l : ReadyList) (f : TabletView → TabletView) (s : SetView) (rest : List ReadyList) → Each (StandsBefore (seen_list l)) (map seen_list rest) → Each (CanTake s) rest → Each (CanTake (changed 0 l.part l.bucket f s)) rest
others_take l f s [] e h = tt
others_take l f s (k ∷ ks) e h = (on_beside s f l.part l.bucket k.part k.bucket (Takes k) (before_apart (place_of l) (place_of k) e.0) h.0, others_take l f s ks e.1 h.1)

-- the test that a tablet is there
is_there : (s : SetView) (l : ReadyList) → CanTake s l → is_some (tablet_at s 0 l.part l.bucket) ≡ true
is_there s l h = go (tablet_at s 0 l.part l.bucket) h
  where
    go : (o : Option TabletView) → MatchOption o ⊥ (Takes l) → is_some o ≡ true
    go None e = absurd e
    go (Some t) e = refl

pub one_put : (all rest : List ReadyList) (l : ReadyList) (old now next : SetView) → next ≡ changed 0 l.part l.bucket (with_list (record { first = l.version; last = l.version; rowset = l.rows.value })) now → ArePut all (l ∷ rest) old now → ArePut all rest old next
one_put all rest l old now next is h =
    let f : TabletView → TabletView = with_list (record { first = l.version; last = l.version; rowset = l.rows.value }) in
    let put : HasList l.part l.bucket (list_of l.version l.rows.value) now next = put_there l.part l.bucket l.version l.rows.value l.rows.value now now next refl (is_there now l h.takes.0) refl is in
    record {
      takes = subst (λ (s : SetView). Each (CanTake s) rest) (sym is) (others_take l f now rest h.ascend.0 h.takes.1);
      ascend = h.ascend.1;
      lists = λ index w.
          ap (λ (ls : List StoredList). with_ready rest index w ls) (put.lists index w)
          ∙ (put_first l rest index w (lists_by w (index_for index (indexes_seen now))) h.ascend.0
          ∙ h.lists index w);
      grid = λ t k index e. put.grid t k index (h.grid t k index e);
    }
