-- What stays of the rule where views change.
use Rattle.std.proofs.Common.{◌≡◌, ◌≢◌, ◌⊎◌, ℕ, false, true≢false, List, map, set, refl, sym, ap, ◌∙◌, subst, inl, inr, ⊎_elim, Some, None, Option}
use Rattle.std.proofs.lemmas.List.{map-set}
use Rattle.std.specs.Prelude.{is_some, is_none, not}
use mathlib.Core.Option.{some, some-injective}
use mathlib.Core.Logic.{dite}
use native.Mathlib.Decide.{ℕ_discrete}
use lib.ListN.{get_elem?}
use Rattle.atomic_table.specs.Table.{State}
use Rattle.atomic_table.proofs.Lists.{at_set, set_else, set_again, at_map}
use Rattle.desk.specs.declared.book.Home.{Home}
use Rattle.desk.specs.declared.view.Known.{Known}
use Rattle.desk.specs.declared.view.View.{View}
use Rattle.desk.specs.Names.{In, Knows}
use Rattle.desk.specs.Rule.{Fits, IsHome, IsOut, IsLive, Kept, spent, tag, mark_of}
use Rattle.desk.proofs.Books.{none_some, some_some}
use Rattle.desk.proofs.Lists.{in_map, set_here}

module _ {E N : Type 0} where
  -- what holds of each view, after one is changed
  pub each_set : (P : ℕ → View E N → Type 0) (views : List (View E N)) (id : ℕ) (w : View E N) → P id w → ((k : ℕ) (u : View E N) → k ≢ id → get_elem? views k ≡ some u → P k u) → (k : ℕ) (u : View E N) → get_elem? (set views id w) k ≡ some u → P k u
  each_set P views id w mine others k u e =
      ⊎_elim
      (λ (t : (k ≡ id) × (w ≡ u)). subst (λ (x : ℕ × View E N). P x.0 x.1) (λ i. (sym t.0 i, t.1 i)) mine)
      (λ (t : (k ≢ id) × (get_elem? views k ≡ some u)). others k u t.0 t.1)
      (at_set views id k w u e)

  pub same_tags : (views : List (View E N)) (id : ℕ) (v w : View E N) → get_elem? views id ≡ some v → tag v ≡ tag w → map tag (set views id w) ≡ map tag views
  same_tags views id v w at same = map-set tag views id w ∙ ap (set (map tag views) id) (sym same) ∙ set_again (map tag views) id (tag v) (at_map tag views id v at)

  pub fresh : (v : View E N) → IsLive v → is_none v.start ≡ false
  fresh v live = ap not live

  pub live_at : (v : View E N) (start : E) → v.start ≡ Some start → IsLive v
  live_at v start is = ap is_some is

  -- a seat that is live, or that holds, is not spent
  pub fit_live : (seat_of : N → Option (List ℕ)) (start : E) (log : List N) (v : View E N) → (v ≡ spent) ⊎ Fits seat_of start log v → IsLive v → Fits seat_of start log v
  fit_live seat_of start log v fits live = ⊎_elim (λ (t : v ≡ spent). absurd (true≢false (sym live ∙ ap (λ (x : View E N). is_some x.start) t))) (λ (f : Fits seat_of start log v). f) fits

  pub fit_held : (seat_of : N → Option (List ℕ)) (start : E) (log : List N) (v : View E N) → (v ≡ spent) ⊎ Fits seat_of start log v → (l : List N) → v.held ≡ Some l → Fits seat_of start log v
  fit_held seat_of start log v fits l held = ⊎_elim (λ (t : v ≡ spent). absurd (none_some l (ap (λ (x : View E N). x.held) (sym t) ∙ held))) (λ (f : Fits seat_of start log v). f) fits

  -- what a live seat knows, for the rule on names
  pub knows_own : (v : View E N) → IsLive v → Knows (tag v) v.name v.splits
  knows_own v live = (fresh v live, inl (refl, refl))

  pub knows_joined : (v : View E N) → IsLive v → (k : Known N) → In k v.joined → Knows (tag v) k.name k.splits
  knows_joined v live k i = (fresh v live, inr (in_map mark_of k v.joined i))

  -- a view is changed that goes on holding what it held, and the one at j holds what it held
  pub kept_held : (views : List (View E N)) (id : ℕ) (v w : View E N) → get_elem? views id ≡ some v → w.held ≡ v.held → (j : ℕ) (u : View E N) → get_elem? views j ≡ some u
      → (x : View E N) × (get_elem? (set views id w) j ≡ some x) × (x.held ≡ u.held)
  kept_held views id v w at same j u e = dite (ℕ_discrete j id)
      (λ is. (w, subst (λ i. get_elem? (set views id w) i ≡ some w) (sym is) (set_here views id w v at), same ∙ ap (λ (x : View E N). x.held) (some-injective v u (sym at ∙ ap (get_elem? views) (sym is) ∙ e))))
      (λ other. (u, set_else views id j w other ∙ e, refl))

module _ {E N : Type 0} (seat_of : N → Option (List ℕ)) (stands : E → List N → Type 0) (legal : List N → Type 0) (key : E) where
  -- the view that holds is the one that is out
  pub held_is : (s : State (Option (Home E N)) (View E N)) (r : Kept seat_of stands legal key s) (id : ℕ) (v : View E N) (log : List N) → get_elem? s.views id ≡ some v → v.held ≡ Some log
      → (h : IsOut seat_of stands legal s.words s.homes s.views r.log) × (id ≡ h.0) × (r.log ≡ log)
  held_is s r id v log at held = ⊎_elim
      (λ (h : IsHome seat_of stands legal key s.words s.homes s.views r.log). absurd (none_some log (sym (h.5 id v at) ∙ held)))
      (λ (h : IsOut seat_of stands legal s.words s.homes s.views r.log).
      ⊎_elim (λ (t : v.held ≡ None). absurd (none_some log (sym t ∙ held))) (λ (t : (v.held ≡ Some r.log) × (id ≡ h.0)). (h, t.1, some_some r.log log (sym t.0 ∙ held))) (h.4 id v at))
      r.place
