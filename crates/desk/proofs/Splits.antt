-- A split keeps the rule.
use Rattle.std.proofs.Common.{◌≡◌, ◌⊎◌, ℕ, List, [], ◌∷◌, ◌++◌, map, set, refl, sym, ap, ◌∙◌, subst, inl, inr, ⊎_elim, arith, append-nil, Some, None, Option}
use Rattle.std.proofs.lemmas.List.{map-set}
use mathlib.Core.Option.{some}
use mathlib.Core.List.{map-append}
use lib.ListN.{get_elem?}
use Rattle.atomic_table.specs.Table.{State, Splits}
use Rattle.atomic_table.proofs.Lists.{at_map, at_longer}
use Rattle.desk.specs.declared.book.Home.{Home}
use Rattle.desk.specs.declared.view.View.{View}
use Rattle.desk.specs.History.{entries_by}
use Rattle.desk.specs.Names.{AreNamed}
use Rattle.desk.specs.Rule.{Fits, IsHome, IsOut, IsLive, Kept, parent, child, spent, tag}
use Rattle.desk.proofs.Books.{some_some}
use Rattle.desk.proofs.Lists.{each_end, partner}
use Rattle.desk.proofs.Naming.{split}
use Rattle.desk.proofs.Own.{own_none, own_none_back}
use Rattle.desk.proofs.Views.{each_set, fresh, fit_live, knows_own, kept_held}

module _ {E N : Type 0} (seat_of : N → Option (List ℕ)) (stands : E → List N → Type 0) (legal : List N → Type 0) (key : E) where
  abbrev V : Type 0
  V = View E N

  abbrev St : Type 0
  St = State (Option (Home E N)) V

  -- no entry of the history has the name of the seat that is split off
  uncalled : (s : St) (it : Kept seat_of stands legal key s) (id : ℕ) (v : V) → get_elem? s.views id ≡ some v → IsLive v → entries_by seat_of (child v).name it.log ≡ []
  uncalled s it id v at live = own_none seat_of (child v).name it.log (λ e i same.
      let p = partner seat_of it.log it.called it.called_is e i in
      let name : p.1 ≡ (child v).name = some_some p.1 (child v).name (sym p.2 ∙ same) in
      let few = it.names.callers id (tag v) (at_map tag s.views id v at) v.name v.splits (knows_own v live) p.0 p.1 p.3 v.splits [] (name ∙ sym (append-nil (child v).name)) in omega arith)

  pub splits_it : (id : ℕ) (v : V) → IsLive v → Splits (Kept seat_of stands legal key) id v (parent v) (child v)
  splits_it id v live s it at =
      let left : V = parent v in
      let right : V = child v in
      let vs : List V = set s.views id left in
      let f = fit_live seat_of key it.log v (it.fits id v at) live in
      let none = uncalled s it id v at live in record {
        log = it.log;
        called = it.called;
        called_is = it.called_is;
        is_legal = it.is_legal;
        place = ⊎_elim
            (λ (h : IsHome seat_of stands legal key s.words s.homes s.views it.log). inl (h.0, h.1, h.2, h.3, h.4, each_end (λ _ u. u.held ≡ None) vs right (each_set (λ _ u. u.held ≡ None) s.views id left (h.5 id v at) (λ k u _ e. h.5 k u e)) refl))
            (λ (h : IsOut seat_of stands legal s.words s.homes s.views it.log).
            let P : ℕ → V → Type 0 = λ k u. (u.held ≡ None) ⊎ ((u.held ≡ Some it.log) × (k ≡ h.0)) in
            inr (h.0, h.1, h.2, still_held s it id v at h, each_end P vs right (each_set P s.views id left (h.4 id v at) (λ k u _ e. h.4 k u e)) (inl refl)))
            it.place;
        fits = let P : ℕ → V → Type 0 = λ _ u. (u ≡ spent) ⊎ Fits seat_of key it.log u in
            each_end P vs right (each_set P s.views id left (inr (record { start_is = f.start_is; seen = f.seen; own_all = f.own_all; own_seen = f.own_seen; told = f.told })) (λ k u _ e. it.fits k u e))
            (inr (record { start_is = f.start_is; seen = f.seen; own_all = none; own_seen = own_none_back seat_of right.name it.log v.seen f.seen none; told = λ k i. absurd i }));
        names = subst (AreNamed it.called) (sym (map-append tag vs (right ∷ []) ∙ ap (λ l. l ++ tag right ∷ []) (map-set tag s.views id left)))
            (split it.called (map tag s.views) it.names id (tag v) (at_map tag s.views id v at) (fresh v live));
      }
    where
      still_held : (s : St) (it : Kept seat_of stands legal key s) (id : ℕ) (v : V) → get_elem? s.views id ≡ some v → (h : IsOut seat_of stands legal s.words s.homes s.views it.log)
          → (u : V) × (get_elem? (set s.views id (parent v) ++ child v ∷ []) h.0 ≡ some u) × (u.held ≡ Some it.log)
      still_held s it id v at h = let t = kept_held s.views id v (parent v) at refl h.0 h.3.0 h.3.1 in
          (t.0, at_longer (set s.views id (parent v)) (child v ∷ []) h.0 t.0 t.1, t.2 ∙ h.3.2)
