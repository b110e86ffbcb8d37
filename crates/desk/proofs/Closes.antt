-- The seat into which all were joined, and the end of the desk.
use Rattle.std.proofs.Common.{◌≡◌, ◌⊎◌, ℕ, List, [], ◌∷◌, ◌++◌, map, refl, sym, ap, ◌∙◌, subst, inl, inr, ⊎_elim, Some, None, Option}
use Rattle.std.specs.Prelude.{is_some}
use mathlib.Core.Option.{some, some-injective}
use mathlib.Core.List.{map-append}
use lib.ListN.{get_elem?}
use Rattle.atomic_table.specs.Table.{State, Final, Seen}
use Rattle.atomic_table.proofs.Lists.{at_map}
use Rattle.desk.specs.declared.book.Home.{Home}
use Rattle.desk.specs.declared.view.Known.{Known}
use Rattle.desk.specs.declared.view.View.{View}
use Rattle.desk.specs.History.{entries_by, longer, GoesOn}
use Rattle.desk.specs.Names.{Mark, mark, In, Knows, KnowsAll}
use Rattle.desk.specs.Rule.{Fits, IsHome, IsOut, IsLive, Kept, known_of, both, tag, mark_of}
use Rattle.desk.specs.Closing.{SomeKnows, AreAll, AreLive, gathered, Ended, IsWhole}
use Rattle.desk.proofs.Books.{none_some}
use Rattle.desk.proofs.Lists.{partner, in_append, in_left, in_right, longer_first, goes_same, goes_through}
use Rattle.desk.proofs.Rosters.{no_other, caller_known}
use Rattle.desk.proofs.Views.{fresh, live_at, fit_live, fit_held}

module _ {E N : Type 0} where
  pub gathered_last : (v w : View E N) (ws : List (View E N)) → gathered v (ws ++ w ∷ []) ≡ gathered (both v w) ws
  gathered_last v w [] = refl
  gathered_last v w (x ∷ xs) = ap (λ (u : View E N). both u x) (gathered_last v w xs)

  gathered_start : (v : View E N) (ws : List (View E N)) → (gathered v ws).start ≡ v.start
  gathered_start v [] = refl
  gathered_start v (w ∷ ws) = gathered_start v ws

  gathered_name : (v : View E N) (ws : List (View E N)) → (gathered v ws).name ≡ v.name
  gathered_name v [] = refl
  gathered_name v (w ∷ ws) = gathered_name v ws

  gathered_own : (v : View E N) (ws : List (View E N)) → (gathered v ws).own ≡ v.own
  gathered_own v [] = refl
  gathered_own v (w ∷ ws) = gathered_own v ws

  gathered_seen : (v : View E N) (ws : List (View E N)) → GoesOn (gathered v ws).seen v.seen
  gathered_seen v [] = goes_same v.seen
  gathered_seen v (w ∷ ws) = goes_through (longer (gathered v ws).seen w.seen) (gathered v ws).seen v.seen (longer_first (gathered v ws).seen w.seen) (gathered_seen v ws)

  pub gathered_live : (v : View E N) (ws : List (View E N)) → IsLive v → IsLive (gathered v ws)
  gathered_live v ws live = ap is_some (gathered_start v ws) ∙ live

  in_joined : (v : View E N) (ws : List (View E N)) (w : View E N) → In w ws → In (known_of w) (gathered v ws).joined
  in_joined v (x ∷ xs) w (inl e) = inl (ap known_of e)
  in_joined v (x ∷ xs) w (inr i) = inr (in_right (known_of w) x.joined (gathered v xs).joined (in_joined v xs w i))
  in_joined v [] w i = absurd i

  -- the gathered seat knows each seat that was joined into one of them
  joined_deep : (v : View E N) (ws : List (View E N)) (u : View E N) → In u (ws ++ v ∷ []) → (k : Known N) → In k u.joined → In k (gathered v ws).joined
  joined_deep v [] u (inl e) k i = subst (λ (y : View E N). In k y.joined) e i
  joined_deep v [] u (inr x) k i = absurd x
  joined_deep v (w ∷ ws) u (inl e) k i = inr (in_left k w.joined (gathered v ws).joined (subst (λ (y : View E N). In k y.joined) e i))
  joined_deep v (w ∷ ws) u (inr x) k i = inr (in_right k w.joined (gathered v ws).joined (joined_deep v ws u x k i))

  -- what the gathered seat knows, one of them did
  pub left_knows : (u w : View E N) (n : List ℕ) (s : ℕ) → Knows (tag u) n s → Knows (tag (both u w)) n s
  left_knows u w n s x = (
    x.0,
    ⊎_elim (λ (o : (u.name ≡ n) × (u.splits ≡ s)). inl o)
        (λ (i : In (mark n s) (tag u).joined). inr (inr (subst (In (mark n s)) (sym (map-append mark_of w.joined u.joined)) (in_right (mark n s) (map mark_of w.joined) (map mark_of u.joined) i)))) x.1,
  )

  pub right_knows : (u w : View E N) → IsLive u → (n : List ℕ) (s : ℕ) → Knows (tag w) n s → Knows (tag (both u w)) n s
  right_knows u w live n s x = (
    fresh u live,
    ⊎_elim (λ (o : (w.name ≡ n) × (w.splits ≡ s)). inr (inl (λ i. mark (sym o.0 i) (sym o.1 i))))
        (λ (i : In (mark n s) (tag w).joined). inr (inr (subst (In (mark n s)) (sym (map-append mark_of w.joined u.joined)) (in_left (mark n s) (map mark_of w.joined) (map mark_of u.joined) i)))) x.1,
  )

  pub both_know : (u w : View E N) → IsLive w → (n : List ℕ) (s : ℕ) → Knows (tag (both u w)) n s → Knows (tag u) n s ⊎ Knows (tag w) n s
  both_know u w live n s x = ⊎_elim
      (λ (o : (u.name ≡ n) × (u.splits ≡ s)). inl (x.0, inl o))
      (λ (i : In (mark n s) (tag (both u w)).joined). ⊎_elim
      (λ (e : mark n s ≡ mark w.name w.splits). inr (fresh w live, inl (ap (λ (m : Mark). m.name) (sym e), ap (λ (m : Mark). m.splits) (sym e))))
      (λ (j : In (mark n s) (map mark_of (w.joined ++ u.joined))). ⊎_elim
      (λ (k : In (mark n s) (map mark_of w.joined)). inr (fresh w live, inr k))
      (λ (k : In (mark n s) (map mark_of u.joined)). inl (x.0, inr k))
      (in_append (mark n s) (map mark_of w.joined) (map mark_of u.joined) (subst (In (mark n s)) (map-append mark_of w.joined u.joined) j)))
      i)
      x.1

  gathered_knows : (v : View E N) (ws : List (View E N)) → IsLive v → (u : View E N) → In u (ws ++ v ∷ []) → (n : List ℕ) (s : ℕ) → Knows (tag u) n s → Knows (tag (gathered v ws)) n s
  gathered_knows v [] live u (inl e) n s x = subst (λ (y : View E N). Knows (tag y) n s) e x
  gathered_knows v [] live u (inr i) n s x = absurd i
  gathered_knows v (w ∷ ws) live u (inl e) n s x = right_knows (gathered v ws) w (gathered_live v ws live) n s (subst (λ (y : View E N). Knows (tag y) n s) e x)
  gathered_knows v (w ∷ ws) live u (inr i) n s x = left_knows (gathered v ws) w n s (gathered_knows v ws live u i n s x)

  one_knows : (v : View E N) (ws : List (View E N)) → AreLive ws → (n : List ℕ) (s : ℕ) → Knows (tag (gathered v ws)) n s → SomeKnows (ws ++ v ∷ []) n s
  one_knows v [] live n s x = (v, inl refl, x)
  one_knows v (w ∷ ws) live n s x = ⊎_elim
      (λ (y : Knows (tag (gathered v ws)) n s). let t = one_knows v ws (λ u i. live u (inr i)) n s y in (t.0, inr t.1, t.2))
      (λ (y : Knows (tag w) n s). (w, inl refl, y))
      (both_know (gathered v ws) w (live w (inl refl)) n s x)

  pub knows_all : (v : View E N) (ws : List (View E N)) → IsLive v → AreLive ws → AreAll (ws ++ v ∷ []) → KnowsAll (tag (gathered v ws))
  knows_all v ws live lives all = record {
    root = let t = all.root in (t.0, gathered_knows v ws live t.1.0 t.1.1 [] t.0 t.1.2);
    splits = λ n s x i few. let t = all.splits n s (one_knows v ws lives n s x) i few in (t.0, gathered_knows v ws live t.1.0 t.1.1 (n ++ i ∷ []) t.0 t.1.2);
  }

  whole_fits : (seat_of : N → Option (List ℕ)) (key : E) (log : List N) (v : View E N) (ws : List (View E N)) → Fits seat_of key log (gathered v ws) → (u : View E N) → In u (ws ++ v ∷ []) → GoesOn log u.seen × (entries_by seat_of u.name log ≡ u.own)
  whole_fits seat_of key log v ws f u i = ⊎_elim
      (λ (x : In u ws). let t = f.told (known_of u) (in_joined v ws u x) in (goes_through log (gathered v ws).seen u.seen f.seen t.0, t.1))
      (λ (x : (u ≡ v) ⊎ ⊥). ⊎_elim
      (λ (e : u ≡ v). subst (λ (y : View E N). GoesOn log y.seen × (entries_by seat_of y.name log ≡ y.own)) (sym e) (
        goes_through log (gathered v ws).seen v.seen f.seen (gathered_seen v ws),
        ap (λ n. entries_by seat_of n log) (sym (gathered_name v ws)) ∙ f.own_all ∙ gathered_own v ws,
      ))
      (λ (y : ⊥). absurd y)
      x)
      (in_append u ws (v ∷ []) i)

module _ {E N : Type 0} (seat_of : N → Option (List ℕ)) (stands : E → List N → Type 0) (legal : List N → Type 0) (key : E) where
  pub at_home : (s : State (Option (Home E N)) (View E N)) (r : Kept seat_of stands legal key s) (id : ℕ) (u : View E N) → get_elem? s.views id ≡ some u → u.held ≡ None → KnowsAll (tag u) → IsHome seat_of stands legal key s.words s.homes s.views r.log
  at_home s r id u at free all = ⊎_elim
      (λ (h : IsHome seat_of stands legal key s.words s.homes s.views r.log). h)
      (λ (h : IsOut seat_of stands legal s.words s.homes s.views r.log).
      let x : View E N = h.3.0 in
      let f = fit_held seat_of key r.log x (r.fits h.0 x h.3.1) r.log h.3.2 in
      let here = no_other r.called (map tag s.views) r.names id (tag u) (at_map tag s.views id u at) all h.0 (tag x) (at_map tag s.views h.0 x h.3.1) (fresh x (live_at x key f.start_is)) in
      let same : x ≡ u = some-injective x u (sym h.3.1 ∙ ap (get_elem? s.views) here ∙ at) in
      absurd (none_some r.log (sym free ∙ ap (λ (y : View E N). y.held) (sym same) ∙ h.3.2)))
      r.place

  pub ends_with : (words : List ℕ) (slots : List (Option (Home E N))) (id : ℕ) (u : View E N) → Final (Seen (Kept seat_of stands legal key) id u) words slots → u.held ≡ None → IsLive u → KnowsAll (tag u)
      → (now : Home E N) × (get_elem? slots 0 ≡ some (Some now)) × Ended seat_of stands legal key now.engine u
  ends_with words slots id u final free live all =
      let s = final.0 in
      let r = final.1.0 in
      let at = final.1.1 in
      let h = at_home s r id u at free all in (
        h.0,
        final.4 0 (Some h.0) (ap (λ l. get_elem? l 0) h.2),
        record {
          log = r.log;
          is_legal = r.is_legal;
          stands_now = h.3;
          fits = fit_live seat_of key r.log u (r.fits id u at) live;
          callers = λ e here.
              let p = partner seat_of r.log r.called r.called_is e here in
              let k = caller_known r.called (map tag s.views) r.names id (tag u) (at_map tag s.views id u at) all p.0 p.1 p.3 in (p.1, k.0, p.2, k.1);
        },
      )

  pub all_whole : (engine : E) (v : View E N) (ws : List (View E N)) → AreLive ws → Ended seat_of stands legal key engine (gathered v ws) → IsWhole seat_of stands legal key engine (ws ++ v ∷ [])
  all_whole engine v ws lives e = record {
    log = e.log;
    is_legal = e.is_legal;
    stands_now = e.stands_now;
    seen = λ u i. (whole_fits seat_of key e.log v ws e.fits u i).0;
    own = λ u i. (whole_fits seat_of key e.log v ws e.fits u i).1;
    joined = λ u i k j. let t = e.fits.told k (joined_deep v ws u i k j) in (goes_through e.log (gathered v ws).seen k.seen e.fits.seen t.0, t.1);
    callers = λ x here. let t = e.callers x here in (t.0, t.1, t.2, one_knows v ws lives t.0 t.1 t.3);
  }
