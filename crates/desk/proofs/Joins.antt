-- A join keeps the rule.
use Rattle.std.proofs.Common.{◌≡◌, ◌⊎◌, ℕ, List, ◌∷◌, ◌++◌, map, set, refl, sym, ap, ◌∙◌, subst, inl, inr, ⊎_elim, Some, None, Option}
use Rattle.std.proofs.lemmas.List.{map-set}
use mathlib.Core.Option.{some}
use mathlib.Core.List.{map-append}
use lib.ListN.{get_elem?}
use Rattle.atomic_table.specs.Table.{State, Joins}
use Rattle.atomic_table.proofs.Lists.{at_map, set_else}
use Rattle.desk.specs.declared.book.Home.{Home}
use Rattle.desk.specs.declared.view.Known.{Known}
use Rattle.desk.specs.declared.view.View.{View}
use Rattle.desk.specs.History.{entries_by, longer, GoesOn}
use Rattle.desk.specs.Names.{In, AreNamed, joins, spends}
use Rattle.desk.specs.Rule.{Fits, IsHome, IsOut, IsLive, Kept, known_of, both, spent, tag, mark_of}
use Rattle.desk.proofs.Lists.{in_append, longer_first, longer_of, goes_through}
use Rattle.desk.proofs.Own.{own_between}
use Rattle.desk.proofs.Rosters.{joined}
use Rattle.desk.proofs.Views.{each_set, fresh, fit_live, kept_held}

module _ {E N : Type 0} (seat_of : N → Option (List ℕ)) (stands : E → List N → Type 0) (legal : List N → Type 0) (key : E) where
  abbrev V : Type 0
  V = View E N

  abbrev St : Type 0
  St = State (Option (Home E N)) V

  fits_both : (log : List N) (v w : V) → Fits seat_of key log v → Fits seat_of key log w → Fits seat_of key log (both v w)
  fits_both log v w f g =
      let l = longer_of log v.seen w.seen f.seen g.seen in
      let mid : List N = longer v.seen w.seen in
      let front : GoesOn mid v.seen = longer_first v.seen w.seen in record {
        start_is = f.start_is;
        seen = l.0;
        own_all = f.own_all;
        own_seen = own_between seat_of v.name log mid v.seen v.own l.0 front f.own_all f.own_seen;
        told = λ k i. ⊎_elim
            (λ (e : k ≡ known_of w). subst (λ (x : Known N). GoesOn mid x.seen × (entries_by seat_of x.name log ≡ x.own)) (sym e) (l.1, g.own_all))
            (λ (i : In k (w.joined ++ v.joined)). ⊎_elim
            (λ (x : In k w.joined). let t = g.told k x in (goes_through mid w.seen k.seen l.1 t.0, t.1))
            (λ (x : In k v.joined). let t = f.told k x in (goes_through mid v.seen k.seen front t.0, t.1))
            (in_append k w.joined v.joined i))
            i;
      }

  same_names : (views : List V) (id other : ℕ) (v w : V) → map tag (set (set views id (both v w)) other spent) ≡ set (set (map tag views) id (joins (tag v) (tag w))) other (spends (tag w))
  same_names views id other v w =
      let one : tag (both v w) ≡ joins (tag v) (tag w) = λ i. record { name = v.name; splits = v.splits; joined = mark_of (known_of w) ∷ map-append mark_of w.joined v.joined i; spent = (tag v).spent } in
      map-set tag (set views id (both v w)) other spent ∙ ap (λ l. set l other (spends (tag w))) (map-set tag views id (both v w)) ∙ ap (λ t. set (set (map tag views) id t) other (spends (tag w))) one

  pub joins_it : (id : ℕ) (v : V) (other : ℕ) (w : V) → IsLive v → IsLive w → w.held ≡ None → Joins (Kept seat_of stands legal key) id v other w (both v w) spent
  joins_it id v other w live_v live_w free s it at two there =
      let at_w : get_elem? s.views other ≡ some w = sym (set_else s.views id other (both v w) two) ∙ there in
      let f = fit_live seat_of key it.log v (it.fits id v at) live_v in
      let g = fit_live seat_of key it.log w (it.fits other w at_w) live_w in
      let vs : List V = set s.views id (both v w) in
      let each : (P : ℕ → V → Type 0) → P id (both v w) → P other spent → ((k : ℕ) (u : V) → get_elem? s.views k ≡ some u → P k u) → (k : ℕ) (u : V) → get_elem? (set vs other spent) k ≡ some u → P k u =
      λ P a b rest. each_set P vs other spent b (λ k u _ e. each_set P s.views id (both v w) a (λ j x _ y. rest j x y) k u e) in record {
        log = it.log;
        called = it.called;
        called_is = it.called_is;
        is_legal = it.is_legal;
        place = ⊎_elim
            (λ (h : IsHome seat_of stands legal key s.words s.homes s.views it.log). inl (h.0, h.1, h.2, h.3, h.4, each (λ _ u. u.held ≡ None) (h.5 id v at) refl h.5))
            (λ (h : IsOut seat_of stands legal s.words s.homes s.views it.log).
            inr (h.0, h.1, h.2, still_held s it id v other w at there free h, each (λ k u. (u.held ≡ None) ⊎ ((u.held ≡ Some it.log) × (k ≡ h.0))) (h.4 id v at) (inl refl) h.4))
            it.place;
        fits = each (λ _ u. (u ≡ spent) ⊎ Fits seat_of key it.log u) (inr (fits_both it.log v w f g)) (inl refl) it.fits;
        names = subst (AreNamed it.called) (sym (same_names s.views id other v w))
            (joined it.called (map tag s.views) it.names id other (tag v) (tag w) (at_map tag s.views id v at) (at_map tag s.views other w at_w) two (fresh v live_v) (fresh w live_w));
      }
    where
      still_held : (s : St) (it : Kept seat_of stands legal key s) (id : ℕ) (v : V) (other : ℕ) (w : V) → get_elem? s.views id ≡ some v → get_elem? (set s.views id (both v w)) other ≡ some w → w.held ≡ None
          → (h : IsOut seat_of stands legal s.words s.homes s.views it.log) → (u : V) × (get_elem? (set (set s.views id (both v w)) other spent) h.0 ≡ some u) × (u.held ≡ Some it.log)
      still_held s it id v other w at there free h =
          let t = kept_held s.views id v (both v w) at refl h.0 h.3.0 h.3.1 in
          let q = kept_held (set s.views id (both v w)) other w spent there (sym free) h.0 t.0 t.1 in
          (q.0, q.1, q.2 ∙ t.2 ∙ h.3.2)
