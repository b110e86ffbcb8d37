-- What a load adds in the tablets of the base, by its lists.
use Rattle.std.proofs.Common.{◌≡◌, ℕ, zero, suc, ◌+◌, Bool, true, false, cond, ◌&&◌, List, [], ◌∷◌, ◌++◌, Option, Some, None, map, find, length, get_or, refl, sym, ◌∙◌, ap, subst, nat_eq}
use Rattle.std.specs.Prelude.{MatchOption}
use Rattle.partitions.specs.Places.{Place}
use Rattle.tablets.specs.SetView.{SetView}
use Rattle.front_defs.specs.Stands.{HasTablets, IndexTablets, TableTablets, index_for, lists_by}
use Rattle.front_defs.specs.Stored.{PlacedRows, StoredList, set_for}
use Rattle.front_defs.specs.declared.catalogue.Table.{Table}
use Rattle.front_laws.specs.Tidy.{Each}
use Rattle.front_laws.proofs.Lists.{eq_is}
use Rattle.front_state.specs.Ready.{AreRaised, HasLists, IsNext, is_for, seen_list, with_found, with_ready}
use Rattle.front_state.specs.Tablets.{HasSets, indexes_seen, set_lists, with_sets}
use Rattle.front_state.specs.declared.ready.ReadyList.{ReadyList}

-- a list for a place is the set for it, with the next version of the partition

same_part : (w : Place) (l : ReadyList) (a b : Bool) → nat_eq l.part w.part ≡ a → (a && b) ≡ true → l.part ≡ w.part
same_part w l true b e h = eq_is l.part w.part e
same_part w l false b e h = absurd (cc)

for_place : (versions : List ℕ) (w : Place) (lists : List StoredList) (ls : List ReadyList) → Each (IsNext versions) ls → with_found (find (is_for w) ls) lists ≡ set_lists (set_for w (map seen_list ls)) (get_or versions w.part 1 + 1) lists
for_place versions w lists [] e = refl
for_place versions w lists (l ∷ ls) e = go (is_for w l) refl (for_place versions w lists ls e.1)
  where
    go : (b : Bool) → is_for w l ≡ b → with_found (find (is_for w) ls) lists ≡ set_lists (set_for w (map seen_list ls)) (get_or versions w.part 1 + 1) lists → with_found (cond b (Some l) (find (is_for w) ls)) lists ≡ set_lists (cond b (Some (seen_list l)) (set_for w (map seen_list ls))) (get_or versions w.part 1 + 1) lists
    go false is r = r
    go true is r =
        let n = e.0 in
        let same : l.part ≡ w.part = same_part w l (nat_eq l.part w.part) (nat_eq l.bucket w.bucket) refl is in
        let version : l.version ≡ get_or versions w.part 1 + 1 = n.version ∙ ap (λ (p : ℕ). get_or versions p 1 + 1) same in
        ap (λ (v : ℕ). lists ++ record { first = v; last = v; rows = (seen_list l).rows } ∷ []) version

for_each : (versions : List ℕ) (ls : List ReadyList) → Each (IsNext versions) ls → (index : ℕ) (w : Place) (lists : List StoredList) → with_ready ls index w lists ≡ with_sets (map seen_list ls) (get_or versions w.part 1 + 1) index w lists
for_each versions ls e zero w lists = for_place versions w lists ls e
for_each versions ls e (suc n) w lists = refl

-- the grid is by the number of versions
same_grid : (t : Table) (k m : TableTablets) (o : Option IndexTablets) → length m.versions ≡ length k.versions → MatchOption o ⊥ (HasTablets t k) → MatchOption o ⊥ (HasTablets t m)
same_grid t k m None e h = h
same_grid t k m (Some x) e h = record { parts = h.parts; buckets = h.buckets; versions = e ∙ h.versions }

-- all of it
pub has_sets : (table : ℕ) (sets : List PlacedRows) (ls : List ReadyList) (old new : List ℕ) (before room after : SetView) → map seen_list ls ≡ sets → Each (IsNext old) ls → indexes_seen room ≡ indexes_seen before → AreRaised ls old new → HasLists ls room after → HasSets sets (record { table = table; versions = old; indexes = indexes_seen before }) (record { table = table; versions = new; indexes = indexes_seen after })
has_sets table sets ls old new before room after are next unseen raised put =
    subst (λ (xs : List PlacedRows). HasSets xs k m) are (record {
      table = refl;
      lists = λ index w.
          put.lists index w
          ∙ (ap (λ (xs : List IndexTablets). with_ready ls index w (lists_by w (index_for index xs))) unseen
          ∙ for_each old ls next index w (lists_by w (index_for index (indexes_seen before))));
      versions = λ part. raised.each part;
      grid = λ t index h. same_grid t k m (index_for index (indexes_seen after)) raised.many (put.grid t k index (subst (λ (xs : List IndexTablets). MatchOption (index_for index xs) ⊥ (HasTablets t k)) (sym unseen) h));
    })
  where
    k : TableTablets
    k = record { table = table; versions = old; indexes = indexes_seen before }

    m : TableTablets
    m = record { table = table; versions = new; indexes = indexes_seen after }
