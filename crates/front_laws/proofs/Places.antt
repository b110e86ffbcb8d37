-- The places of the transactions of a legal history.
use Rattle.std.proofs.Common.{◌≡◌, ℕ, ◌+◌, ◌≤◌, ◌<◌, Bool, true, false, cond, not, ◌&&◌, List, [], ◌∷◌, ◌++◌, Some, map, refl, sym, ◌∙◌, ap, arith, subst}
use Rattle.std.proofs.lemmas.Bool.Decides.{nat_tests}
use Rattle.std.specs.Prelude.{filter, nat_eq, nat_lt}
use Rattle.std.specs.List.{list_any}
use Rattle.labels.specs.declared.txn_state.TxnState.{TxnState}
use Rattle.labels.specs.declared.txn_state.TxnState.TheVariants as state
use Rattle.front_defs.specs.declared.event.Event.{Event}
use Rattle.front_defs.specs.declared.event.Event.TheVariants as event
use Rattle.front_defs.specs.declared.history.Entry.{Entry}
use Rattle.front_defs.specs.declared.txn.Txn.{Txn}
use Rattle.front_defs.specs.Ids.{told_ids}
use Rattle.front_defs.specs.Catalogue.{db_of, tables_of}
use Rattle.front_defs.specs.Transactions.{is_committed, txn_at, changed, begun_txn, aborted_at, visible_at, committed_at, dropped, dropped_at, dropped_state, expires_by, is_expired, is_over, over_by, sweep, swept_at, place_of, has_lower, due, txns_of, places_of}
use Rattle.front_defs.specs.History.{happened}
use Rattle.front_defs.specs.Legal.{Legal}
use Rattle.front_laws.specs.Tidy.{Each, Pairs, Ascends, Tells, Happens, HasPlace, PlacesDiffer, waiting, PlacesFit}
use Rattle.front_laws.proofs.Lists.{each_imp, each_both, each_filter, each_map, each_snoc, each_found, each_at, always, pairs_filter, pairs_map, pairs_snoc, eq_is}
use Rattle.front_laws.proofs.Tidying.{committed_is, due_is, due_found, passes}
use Rattle.front_laws.proofs.Following.{any_none}
use Rattle.front_laws.proofs.Histories.{always_holds}
use Rattle.front_laws.proofs.Plans.{Good}
use Rattle.front_laws.proofs.Waiting.{one, waiting_cons, waiting_append, waiting_map, waiting_filter, same_above, waiting_less, committed_one, untold_one, untold_place, is_one, place_with, calm, submitted_fits}

-- A load that becomes visible: it has the lowest place of those that wait, so the others are the last ones still.
and_right : (a b : Bool) → (a && b) ≡ true → b ≡ true
and_right true b h = h
and_right false b h = absurd (cc)

not_true : (b : Bool) → not b ≡ true → b ≡ false
not_true true h = absurd (cc)
not_true false h = refl

lowest : (w u : Txn) → (is_committed u.state && nat_lt (place_of u) (place_of w)) ≡ false → u.state ≡ state.Committed → place_of w ≤ place_of u
lowest w u h e =
    let c : is_committed u.state ≡ true = ap is_committed e in
    let k : nat_lt (place_of u) (place_of w) ≡ false = ap (λ (b : Bool). b && nat_lt (place_of u) (place_of w)) (sym c) ∙ h in
    grind (arith, nat_tests)

due_lowest : (ts : List Txn) (w : Txn) → due ts ≡ Some w → Each (λ u. u.state ≡ state.Committed → place_of w ≤ place_of u) ts
due_lowest ts w e =
    let h = passes (λ t. is_committed t.state && not (has_lower ts (place_of t))) ts w e in
    let k : has_lower ts (place_of w) ≡ false = not_true (has_lower ts (place_of w)) (and_right (is_committed w.state) (not (has_lower ts (place_of w))) h) in
    each_imp (λ u. (is_committed u.state && nat_lt (place_of u) (place_of w)) ≡ false) (λ u. u.state ≡ state.Committed → place_of w ≤ place_of u) (λ u n i. lowest w u n i) ts (any_none (λ u. is_committed u.state && nat_lt (place_of u) (place_of w)) ts k)

-- two of one place are one, where the place is none of a load without one
apart_cons : (u w : Txn) (us : List Txn) (id : ℕ) (b : Bool) → nat_eq u.id id ≡ b → Each (λ x. u.id < x.id) us → Each (PlacesDiffer u) us → cond b (Some u) (txn_at id us) ≡ Some w → 1 ≤ place_of w → (txn_at id us ≡ Some w → Each (λ x. (x.id ≡ id → ⊥) → place_of x ≡ place_of w → ⊥) us) → Each (λ x. (x.id ≡ id → ⊥) → place_of x ≡ place_of w → ⊥) (u ∷ us)
apart_cons u w us id true e a d found some k =
    let i : u ≡ w = cc in
    let same_id = eq_is u.id id e in
    (λ n _. n same_id, each_imp (PlacesDiffer u) (λ x. (x.id ≡ id → ⊥) → place_of x ≡ place_of w → ⊥) (λ x h _ j. let z : place_of u ≡ place_of w = ap place_of i in let y = h (z ∙ sym j) in omega (arith, y, z, some)) us d)
apart_cons u w us id false e a d found some k =
    (λ _ j. let h = each_found (PlacesDiffer u) (λ x. nat_eq x.id id) us w d found in let y = h j in omega (arith, y, j, some), k found)

apart : (id : ℕ) (ts : List Txn) (w : Txn) → Ascends ts → Pairs PlacesDiffer ts → txn_at id ts ≡ Some w → 1 ≤ place_of w → Each (λ x. (x.id ≡ id → ⊥) → place_of x ≡ place_of w → ⊥) ts
apart id [] w a d found some = tt
apart id (u ∷ us) w a d found some = apart_cons u w us id (nat_eq u.id id) refl a.0 d.0 found some (λ g. apart id us w a.1 d.1 g some)

eq_apart : (n m : ℕ) → nat_eq n m ≡ false → n ≡ m → ⊥
eq_apart n m h e = let z : nat_eq n m ≡ true = grind (arith, nat_tests) in cc (z, h)

published_fits : (ts : List Txn) (last id at : ℕ) (w : Txn) → Ascends ts → txn_at id ts ≡ Some w → w.state ≡ state.Committed → Each (λ u. u.state ≡ state.Committed → place_of w ≤ place_of u) ts → PlacesFit ts last → PlacesFit (map (changed id (visible_at at)) ts) last
published_fits ts last id at w a found is low p =
    let f = visible_at at in
    let count = waiting_less id f ts w a found (committed_one w is) refl in
    let w_have = each_found (λ t. HasPlace t.state (place_of t)) (λ t. nat_eq t.id id) ts w p.have found in
    let w_place = place_with w.state (place_of w) is w_have in
    let w_last = each_found (λ t. t.state ≡ state.Committed → last < place_of t + waiting ts) (λ t. nat_eq t.id id) ts w p.lasts found is in
    let others = apart id ts w a p.differ found w_place in
    let same : (t : Txn) → place_of (changed id f t) ≡ place_of t = λ t. elim (nat_eq t.id id) as (λ b. place_of (cond b (f t) t) ≡ place_of t) [ true ↦ refl | false ↦ refl ] in
    let at_id = each_at (λ t. 1 ≤ place_of t) id ts w a found w_place in
    record {
      have = each_map (λ t. HasPlace t.state (place_of t) × (t.id ≡ id → 1 ≤ place_of t)) (λ t. HasPlace t.state (place_of t)) (changed id f) (λ t h. seen_place t (nat_eq t.id id) refl h.0 h.1) ts (each_both (λ t. HasPlace t.state (place_of t)) (λ t. t.id ≡ id → 1 ≤ place_of t) ts p.have at_id);
      differ = pairs_map (λ t. Unit {0}) PlacesDiffer (changed id f) (λ t u _ _ h i. same t ∙ h (sym (same t) ∙ i ∙ same u)) ts (always (λ t. Unit {0}) ts (λ t. tt)) p.differ;
      within = each_map (λ t. place_of t ≤ last) (λ t. place_of t ≤ last) (changed id f) (λ t h. let s = same t in omega (arith, s, h)) ts p.within;
      lasts = each_map (λ t. (t.state ≡ state.Committed → place_of w ≤ place_of t) × ((t.id ≡ id → ⊥) → place_of t ≡ place_of w → ⊥)) (λ t. t.state ≡ state.Committed → last < place_of t + waiting (map (changed id f) ts)) (changed id f) (λ t h. waits_still t (nat_eq t.id id) refl h.0 h.1 w_last count) ts (each_both (λ t. t.state ≡ state.Committed → place_of w ≤ place_of t) (λ t. (t.id ≡ id → ⊥) → place_of t ≡ place_of w → ⊥) ts low others);
    }
  where
    seen_place : (t : Txn) (b : Bool) → nat_eq t.id id ≡ b → HasPlace t.state (place_of t) → (t.id ≡ id → 1 ≤ place_of t) → HasPlace (cond b (visible_at at t) t).state (place_of (cond b (visible_at at t) t))
    seen_place t true e h k = k (eq_is t.id id e)
    seen_place t false e h k = h

    waits_still : (t : Txn) (b : Bool) → nat_eq t.id id ≡ b → (t.state ≡ state.Committed → place_of w ≤ place_of t) → ((t.id ≡ id → ⊥) → place_of t ≡ place_of w → ⊥) → last < place_of w + waiting ts → waiting (map (changed id (visible_at at)) ts) + 1 ≡ waiting ts → (cond b (visible_at at t) t).state ≡ state.Committed → last < place_of (cond b (visible_at at t) t) + waiting (map (changed id (visible_at at)) ts)
    waits_still t true e h k l c i = absurd (cc)
    waits_still t false e h k l c i = let g = h i in let n = k (eq_apart t.id id e) in omega (arith, g, n, l, c)

abort_calm : (w : Txn) → HasPlace w.state (place_of w) → w.state ≡ state.Precommitted → (place_of w ≡ 0) × (one w ≡ 0)
abort_calm w h e = (subst (λ (s : TxnState). HasPlace s (place_of w)) e h, ap (λ (s : TxnState). cond (is_committed s) 1 0) e)

-- Each event keeps the places as they have to be.
abbrev Fit : List Event → Type 0
Fit Es = PlacesFit (txns_of Es) (places_of Es)

begun_fits : (ts : List Txn) (last : ℕ) (y : Txn) → place_of y ≡ 0 → y.state ≡ state.Prepare → PlacesFit ts last → PlacesFit (ts ++ y ∷ []) last
begun_fits ts last y none is p =
    let a = waiting_append ts (y ∷ []) in
    let b = waiting_cons y [] in
    let c : one y ≡ 0 = ap (λ (s : TxnState). cond (is_committed s) 1 0) is in
    let d : waiting [] ≡ 0 = refl in
    record {
      have = each_snoc (λ t. HasPlace t.state (place_of t)) ts y p.have (subst (λ (s : TxnState). HasPlace s (place_of y)) (sym is) none);
      differ = pairs_snoc PlacesDiffer ts y p.differ (always (λ u. PlacesDiffer u y) ts (λ u e. e ∙ none));
      within = each_snoc (λ t. place_of t ≤ last) ts y p.within (omega (arith, none));
      lasts = each_snoc (λ t. t.state ≡ state.Committed → last < place_of t + waiting (ts ++ y ∷ [])) ts y (each_imp (λ t. t.state ≡ state.Committed → last < place_of t + waiting ts) (λ t. t.state ≡ state.Committed → last < place_of t + waiting (ts ++ y ∷ [])) (λ t h i. let g = h i in omega (arith, g, a, b, c, d)) ts p.lasts) (λ i. absurd (cc (is, i)));
    }

opened_fits : (ts : List Txn) (last : ℕ) → Each (λ t. Tells t.state t.told) ts → PlacesFit ts last → PlacesFit (filter (λ t. t.told) ts) last
opened_fits ts last tells p =
    let told : Txn → Bool = λ t. t.told in
    let count = waiting_filter told ts (each_imp (λ t. Tells t.state t.told) (λ t. t.told ≡ false → one t ≡ 0) (λ t h e. is_one t (untold_one t.state t.told h e)) ts tells) in
    record {
      have = each_filter (λ t. HasPlace t.state (place_of t)) told ts p.have;
      differ = pairs_filter PlacesDiffer told ts p.differ;
      within = each_filter (λ t. place_of t ≤ last) told ts p.within;
      lasts = each_filter (λ t. t.state ≡ state.Committed → last < place_of t + waiting (filter told ts)) told ts (each_imp (λ t. t.state ≡ state.Committed → last < place_of t + waiting ts) (λ t. t.state ≡ state.Committed → last < place_of t + waiting (filter told ts)) (λ t h i. let g = h i in omega (arith, g, count)) ts p.lasts);
    }

-- a change that keeps places, and which loads wait
mapped_fits : (f : Txn → Txn) (ts : List Txn) (last : ℕ) → ((t : Txn) → place_of (f t) ≡ place_of t) → ((t : Txn) → HasPlace t.state (place_of t) → HasPlace (f t).state (place_of t)) → ((t : Txn) → is_committed (f t).state ≡ is_committed t.state) → PlacesFit ts last → PlacesFit (map f ts) last
mapped_fits f ts last same has waits p =
    let count : waiting (map f ts) ≡ waiting ts = waiting_map f ts (always (λ t. one (f t) ≡ one t) ts (λ t. ap (λ (b : Bool). cond b 1 0) (waits t))) in
    record {
      have = each_map (λ t. HasPlace t.state (place_of t)) (λ t. HasPlace t.state (place_of t)) f (λ t h. subst (λ (n : ℕ). HasPlace (f t).state n) (sym (same t)) (has t h)) ts p.have;
      differ = pairs_map (λ t. Unit {0}) PlacesDiffer f (λ t u _ _ h i. same t ∙ h (sym (same t) ∙ i ∙ same u)) ts (always (λ t. Unit {0}) ts (λ t. tt)) p.differ;
      within = each_map (λ t. place_of t ≤ last) (λ t. place_of t ≤ last) f (λ t h. let s = same t in omega (arith, s, h)) ts p.within;
      lasts = each_map (λ t. t.state ≡ state.Committed → last < place_of t + waiting ts) (λ t. t.state ≡ state.Committed → last < place_of t + waiting (map f ts)) f (λ t h i. let s = same t in let j = h (committed_is t.state (sym (waits t) ∙ ap is_committed i)) in omega (arith, s, j, count)) ts p.lasts;
    }

-- without some that do not wait
filtered_fits : (p : Txn → Bool) (ts : List Txn) (last : ℕ) → Each (λ t. p t ≡ false → one t ≡ 0) ts → PlacesFit ts last → PlacesFit (filter p ts) last
filtered_fits p ts last none k =
    let count = waiting_filter p ts none in
    record {
      have = each_filter (λ t. HasPlace t.state (place_of t)) p ts k.have;
      differ = pairs_filter PlacesDiffer p ts k.differ;
      within = each_filter (λ t. place_of t ≤ last) p ts k.within;
      lasts = each_filter (λ t. t.state ≡ state.Committed → last < place_of t + waiting (filter p ts)) p ts (each_imp (λ t. t.state ≡ state.Committed → last < place_of t + waiting ts) (λ t. t.state ≡ state.Committed → last < place_of t + waiting (filter p ts)) (λ t h i. let g = h i in omega (arith, g, count)) ts k.lasts);
    }

dropped_place : (s : TxnState) (place : ℕ) → HasPlace s place → HasPlace (dropped_state s) place
dropped_place state.Prepare place h = h
dropped_place state.Precommitted place h = h
dropped_place state.Committed place h = h
dropped_place state.Visible place h = h
dropped_place state.Aborted place h = h

dropped_waits : (s : TxnState) → is_committed (dropped_state s) ≡ is_committed s
dropped_waits state.Prepare = refl
dropped_waits state.Precommitted = refl
dropped_waits state.Committed = refl
dropped_waits state.Visible = refl
dropped_waits state.Aborted = refl

dropped_fits : (ts : List Txn) (last table at : ℕ) → PlacesFit ts last → PlacesFit (map (dropped table at) ts) last
dropped_fits ts last table at p =
    mapped_fits (dropped table at) ts last
    (λ t. elim (nat_eq t.table table) as (λ b. place_of (cond b (dropped_at at t) t) ≡ place_of t) [ true ↦ refl | false ↦ refl ])
    (λ t h. elim (nat_eq t.table table) as (λ b. HasPlace (cond b (dropped_at at t) t).state (place_of t)) [ true ↦ dropped_place t.state (place_of t) h | false ↦ h ])
    (λ t. elim (nat_eq t.table table) as (λ b. is_committed (cond b (dropped_at at t) t).state ≡ is_committed t.state) [ true ↦ dropped_waits t.state | false ↦ refl ]) p

expired_place : (s : TxnState) (since at place : ℕ) → expires_by s since at ≡ true → HasPlace s place → place ≡ 0
expired_place state.Prepare since at place e h = h
expired_place state.Precommitted since at place e h = h
expired_place state.Committed since at place e h = absurd (cc)
expired_place state.Visible since at place e h = absurd (cc)
expired_place state.Aborted since at place e h = absurd (cc)

expired_waits : (s : TxnState) (since at : ℕ) → expires_by s since at ≡ true → is_committed s ≡ false
expired_waits state.Prepare since at e = refl
expired_waits state.Precommitted since at e = refl
expired_waits state.Committed since at e = absurd (cc)
expired_waits state.Visible since at e = absurd (cc)
expired_waits state.Aborted since at e = absurd (cc)

over_waits : (s : TxnState) (since at : ℕ) → not (over_by s since at) ≡ false → is_committed s ≡ false
over_waits state.Prepare since at e = refl
over_waits state.Precommitted since at e = refl
over_waits state.Committed since at e = absurd (cc)
over_waits state.Visible since at e = refl
over_waits state.Aborted since at e = refl

swept_fits : (ts : List Txn) (last at : ℕ) → PlacesFit ts last → PlacesFit (sweep at ts) last
swept_fits ts last at p =
    let left : Txn → Bool = λ t. not (is_over at t) in
    mapped_fits (swept_at at) (filter left ts) last
    (λ t. elim (is_expired at t) as (λ b. place_of (cond b (aborted_at at t) t) ≡ place_of t) [ true ↦ refl | false ↦ refl ])
    (λ t h. has t (is_expired at t) refl h) (λ t. waits t (is_expired at t) refl)
    (filtered_fits left ts last (always (λ t. left t ≡ false → one t ≡ 0) ts (λ t e. is_one t (over_waits t.state t.since at e))) p)
  where
    has : (t : Txn) (b : Bool) → is_expired at t ≡ b → HasPlace t.state (place_of t) → HasPlace (cond b (aborted_at at t) t).state (place_of t)
    has t true e h = expired_place t.state t.since at (place_of t) e h
    has t false e h = h

    waits : (t : Txn) (b : Bool) → is_expired at t ≡ b → is_committed (cond b (aborted_at at t) t).state ≡ is_committed t.state
    waits t true e = sym (expired_waits t.state t.since at e)
    waits t false e = refl

-- A two-phase load that commits: it has the next place.
more_cons : (id : ℕ) (f : Txn → Txn) (u w : Txn) (us : List Txn) (b : Bool) → nat_eq u.id id ≡ b → Each (λ x. u.id < x.id) us → cond b (Some u) (txn_at id us) ≡ Some w → one w ≡ 0 → one (f w) ≡ 1 → (txn_at id us ≡ Some w → waiting (map (changed id f) us) ≡ waiting us + 1) → waiting (cond b (f u) u ∷ map (changed id f) us) ≡ waiting (u ∷ us) + 1
more_cons id f u w us true e a found was now k =
    let i : u ≡ w = cc in
    let same_id = eq_is u.id id e in
    let rest : map (changed id f) us ≡ us = same_above f id us (subst (λ (n : ℕ). Each (λ x. n < x.id) us) same_id a) in
    let c : waiting (map (changed id f) us) ≡ waiting us = ap waiting rest in
    let d : one u ≡ 0 = ap one i ∙ was in
    let g : one (f u) ≡ 1 = ap (λ (x : Txn). one (f x)) i ∙ now in
    let j = waiting_cons (f u) (map (changed id f) us) in
    let m = waiting_cons u us in
    omega (arith, c, d, g, j, m)
more_cons id f u w us false e a found was now k =
    let h = k found in
    let j = waiting_cons u (map (changed id f) us) in
    let m = waiting_cons u us in
    omega (arith, h, j, m)

waiting_more : (id : ℕ) (f : Txn → Txn) (ts : List Txn) (w : Txn) → Ascends ts → txn_at id ts ≡ Some w → one w ≡ 0 → one (f w) ≡ 1 → waiting (map (changed id f) ts) ≡ waiting ts + 1
waiting_more id f [] w a found was now = absurd (cc)
waiting_more id f (u ∷ us) w a found was now = more_cons id f u w us (nat_eq u.id id) refl a.0 found was now (λ g. waiting_more id f us w a.1 g was now)

commit_pair : (last id at : ℕ) (x u : Txn) (b c : Bool) → nat_eq x.id id ≡ b → nat_eq u.id id ≡ c → x.id < u.id → PlacesDiffer x u → place_of x ≤ last → place_of u ≤ last → PlacesDiffer (cond b (committed_at (last + 1) at x) x) (cond c (committed_at (last + 1) at u) u)
commit_pair last id at x u true true e f lt d p q i = absurd (let m = eq_is x.id id e in let n = eq_is u.id id f in omega (arith, m, n, lt))
commit_pair last id at x u true false e f lt d p q i = absurd (omega (arith, i, q))
commit_pair last id at x u false true e f lt d p q i = absurd (omega (arith, i, p))
commit_pair last id at x u false false e f lt d p q i = d i

commit_differ : (last id at : ℕ) (ts : List Txn) → Ascends ts → Pairs PlacesDiffer ts → Each (λ t. place_of t ≤ last) ts → Pairs PlacesDiffer (map (changed id (committed_at (last + 1) at)) ts)
commit_differ last id at [] a d w = tt
commit_differ last id at (x ∷ xs) a d w = (
  each_map (λ u. ((x.id < u.id) × PlacesDiffer x u) × (place_of u ≤ last)) (PlacesDiffer (changed id (committed_at (last + 1) at) x)) (changed id (committed_at (last + 1) at))
      (λ u h. commit_pair last id at x u (nat_eq x.id id) (nat_eq u.id id) refl refl h.0.0 h.0.1 w.0 h.1) xs
      (each_both (λ u. (x.id < u.id) × PlacesDiffer x u) (λ u. place_of u ≤ last) xs (each_both (λ u. x.id < u.id) (PlacesDiffer x) xs a.0 d.0) w.1),
  commit_differ last id at xs a.1 d.1 w.1,
)

commit_fits : (ts : List Txn) (last id at : ℕ) (w : Txn) → Ascends ts → txn_at id ts ≡ Some w → w.state ≡ state.Precommitted → PlacesFit ts last → PlacesFit (map (changed id (committed_at (last + 1) at)) ts) (last + 1)
commit_fits ts last id at w a found is p =
    let f = committed_at (last + 1) at in
    let count = waiting_more id f ts w a found (ap (λ (s : TxnState). cond (is_committed s) 1 0) is) refl in
    record {
      have = each_map (λ t. HasPlace t.state (place_of t)) (λ t. HasPlace t.state (place_of t)) (changed id f) (λ t h. elim (nat_eq t.id id) as (λ b. HasPlace (cond b (f t) t).state (place_of (cond b (f t) t))) [ true ↦ omega arith | false ↦ h ]) ts p.have;
      differ = commit_differ last id at ts a p.differ p.within;
      within = each_map (λ t. place_of t ≤ last) (λ t. place_of t ≤ last + 1) (changed id f) (λ t h. elim (nat_eq t.id id) as (λ b. place_of (cond b (f t) t) ≤ last + 1) [ true ↦ omega arith | false ↦ omega (arith, h) ]) ts p.within;
      lasts = each_map (λ t. t.state ≡ state.Committed → last < place_of t + waiting ts) (λ t. t.state ≡ state.Committed → last + 1 < place_of t + waiting (map (changed id f) ts)) (changed id f)
          (λ t h. elim (nat_eq t.id id) as (λ b. (cond b (f t) t).state ≡ state.Committed → last + 1 < place_of (cond b (f t) t) + waiting (map (changed id f) ts)) [ true ↦ (λ i. omega (arith, count)) | false ↦ (λ i. let g = h i in omega (arith, g, count)) ]) ts p.lasts;
    }

untold_load : (Es : List Event) (id : ℕ) (t : Txn) → t.told ≡ list_any (nat_eq t.id) (told_ids Es) → list_any (nat_eq id) (told_ids Es) ≡ false → Tells t.state t.told → t.id ≡ id → one t ≡ 0
untold_load Es id t known new tells i = is_one t (untold_one t.state t.told tells (known ∙ ap (λ (n : ℕ). list_any (nat_eq n) (told_ids Es)) i ∙ new))

fits_step : (e : Event) (Es : List Event) → Good Es → Happens Es e → Fit Es → Fit (e ∷ Es)
fits_step (event.DbMade d) Es g h p = p
fits_step (event.TableMade m) Es g h p = p
fits_step (event.RangeDrawn r) Es g h p = p
fits_step (event.TxnBegun b) Es g h p = begun_fits (txns_of Es) (places_of Es) (begun_txn b) refl refl p
fits_step (event.LoadSubmitted s) Es g h p =
    submitted_fits (txns_of Es) (places_of Es) s (db_of s.table (tables_of Es)) g.tidy.ascends
    (each_imp (λ t. (t.told ≡ list_any (nat_eq t.id) (told_ids Es)) × Tells t.state t.told) (λ t. t.id ≡ s.txn → one t ≡ 0) (λ t k i. untold_load Es s.txn t k.0 h.new k.1 i) (txns_of Es) (each_both (λ t. t.told ≡ list_any (nat_eq t.id) (told_ids Es)) (λ t. Tells t.state t.told) (txns_of Es) g.tidy.known g.tidy.tells)) p
fits_step (event.TxnAborted a) Es g h p =
    let w : Txn = h.0 in
    calm (txns_of Es) (places_of Es) a.txn (aborted_at a.at) (λ t. refl) (λ t. refl) (each_at (λ t. (place_of t ≡ 0) × (one t ≡ 0)) a.txn (txns_of Es) w g.tidy.ascends h.1 (abort_calm w (each_found (λ t. HasPlace t.state (place_of t)) (λ t. nat_eq t.id a.txn) (txns_of Es) w p.have h.1) h.2)) p
fits_step (event.LoadPublished x) Es g h p =
    let w : Txn = h.0 in
    let found = subst (λ (n : ℕ). txn_at n (txns_of Es) ≡ Some w) h.2 (due_found Es w g.tidy h.1) in
    published_fits (txns_of Es) (places_of Es) x.txn x.at w g.tidy.ascends found (due_is (txns_of Es) w h.1) (due_lowest (txns_of Es) w h.1) p
fits_step (event.TxnEnded x) Es g h p =
    let w : Txn = h.0 in
    let tells = each_found (λ t. Tells t.state t.told) (λ t. nat_eq t.id x.txn) (txns_of Es) w g.tidy.tells h.1 in
    let place = each_found (λ t. HasPlace t.state (place_of t)) (λ t. nat_eq t.id x.txn) (txns_of Es) w p.have h.1 in
    calm (txns_of Es) (places_of Es) x.txn (aborted_at x.at) (λ t. refl) (λ t. refl) (each_at (λ t. (place_of t ≡ 0) × (one t ≡ 0)) x.txn (txns_of Es) w g.tidy.ascends h.1 (untold_place w.state w.told (place_of w) tells h.2 place, is_one w (untold_one w.state w.told tells h.2))) p
fits_step (event.PartAdded a) Es g h p = p
fits_step (event.TableDropped d) Es g h p = dropped_fits (txns_of Es) (places_of Es) d.table d.at p
fits_step (event.LoadCommitted c) Es g h p = commit_fits (txns_of Es) (places_of Es) c.txn c.at h.0 g.tidy.ascends h.1 h.2.0 p
fits_step (event.Swept s) Es g h p = swept_fits (txns_of Es) (places_of Es) s.at p
fits_step (event.SweptUntold s) Es g h p = swept_fits (txns_of Es) (places_of Es) s.at p
fits_step (event.Compacted c) Es g h p = p
fits_step (event.JobAdded x) Es g h p = p
fits_step (event.JobWaiting x) Es g h p = p
fits_step (event.WatershedDrawn x) Es g h p = p
fits_step (event.JobRan x) Es g h p = p
fits_step (event.TaskTaken x) Es g h p = p
fits_step (event.TaskGiven x) Es g h p = p
fits_step (event.JobFinished x) Es g h p = p
fits_step (event.JobCancelled x) Es g h p = p
fits_step event.Opened Es g h p = opened_fits (txns_of Es) (places_of Es) g.tidy.tells p

pub places_fit : (H : List Entry) → Legal H → PlacesFit (txns_of (happened H)) (places_of (happened H))
places_fit H l = always_holds Fit (record { have = tt; differ = tt; within = tt; lasts = tt }) fits_step H l
