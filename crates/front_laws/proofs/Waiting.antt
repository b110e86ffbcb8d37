-- How many loads wait, and the places of those that do.
use Rattle.std.proofs.Common.{◌≡◌, ℕ, ◌+◌, ◌≤◌, ◌<◌, Bool, true, false, cond, List, [], ◌∷◌, ◌++◌, Some, None, map, refl, sym, ◌∙◌, ap, arith, subst}
use Rattle.std.proofs.lemmas.Bool.Decides.{nat_tests}
use Rattle.std.specs.Prelude.{filter, length, nat_eq, nat_lt, unwrap_or}
use Rattle.labels.specs.declared.txn_state.TxnState.{TxnState}
use Rattle.labels.specs.declared.txn_state.TxnState.TheVariants as state
use Rattle.front_defs.specs.declared.event.LoadSubmitted.{LoadSubmitted}
use Rattle.front_defs.specs.declared.txn.Txn.{Txn}
use Rattle.front_defs.specs.Transactions.{is_committed, txn_at, changed, put_txn, submitted_txn, place_of}
use Rattle.front_laws.specs.Tidy.{Each, Ascends, Tells, HasPlace, PlacesDiffer, waiting, PlacesFit}
use Rattle.front_laws.proofs.Lists.{each_imp, each_both, each_map, each_put, always, pairs_map, pairs_put, eq_is}

-- How many loads wait.
abbrev pub one : Txn → ℕ
one t = cond (is_committed t.state) 1 0

pub waiting_cons : (t : Txn) (ts : List Txn) → waiting (t ∷ ts) ≡ one t + waiting ts
waiting_cons t ts = elim (is_committed t.state) as (λ b. length (cond b (t ∷ filter (λ u. is_committed u.state) ts) (filter (λ u. is_committed u.state) ts)) ≡ cond b 1 0 + waiting ts) [ true ↦ omega arith | false ↦ omega arith ]

pub waiting_append : (xs ys : List Txn) → waiting (xs ++ ys) ≡ waiting xs + waiting ys
waiting_append [] ys = omega arith
waiting_append (x ∷ xs) ys = let h = waiting_append xs ys in let j = waiting_cons x (xs ++ ys) in let k = waiting_cons x xs in omega (arith, h, j, k)

pub filtered_cons : (p : Txn → Bool) (t : Txn) (ts : List Txn) → waiting (filter p (t ∷ ts)) ≡ cond (p t) (one t) 0 + waiting (filter p ts)
filtered_cons p t ts = elim (p t) as (λ b. waiting (cond b (t ∷ filter p ts) (filter p ts)) ≡ cond b (one t) 0 + waiting (filter p ts)) [ true ↦ waiting_cons t (filter p ts) | false ↦ omega arith ]

pub split_one : (n : ℕ) (t : Txn) (a b : Bool) → nat_lt t.id n ≡ a → nat_lt n t.id ≡ b → (t.id ≡ n → one t ≡ 0) → cond a (one t) 0 + cond b (one t) 0 ≡ one t
split_one n t true true e f h = absurd (let z : t.id < n = grind (arith, nat_tests) in let y : n < t.id = grind (arith, nat_tests) in omega (arith, z, y))
split_one n t true false e f h = omega arith
split_one n t false true e f h = omega arith
split_one n t false false e f h = let z : t.id ≡ n = grind (arith, nat_tests) in let y = h z in omega (arith, y)

-- those of a number, where they do not wait, are missed by none
pub waiting_split : (n : ℕ) (ts : List Txn) → Each (λ t. t.id ≡ n → one t ≡ 0) ts → waiting (filter (λ u. nat_lt u.id n) ts) + waiting (filter (λ u. nat_lt n u.id) ts) ≡ waiting ts
waiting_split n [] e = omega arith
waiting_split n (t ∷ ts) e =
    let h = waiting_split n ts e.1 in
    let a = filtered_cons (λ u. nat_lt u.id n) t ts in
    let b = filtered_cons (λ u. nat_lt n u.id) t ts in
    let c = split_one n t (nat_lt t.id n) (nat_lt n t.id) refl refl e.0 in
    let d = waiting_cons t ts in
    omega (arith, h, a, b, c, d)

pub waiting_put : (y : Txn) (ts : List Txn) → Each (λ t. t.id ≡ y.id → one t ≡ 0) ts → waiting (put_txn y ts) ≡ waiting ts + one y
waiting_put y ts e =
    let h = waiting_split y.id ts e in
    let a = waiting_append (filter (λ u. nat_lt u.id y.id) ts) (y ∷ filter (λ u. nat_lt y.id u.id) ts) in
    let b = waiting_cons y (filter (λ u. nat_lt y.id u.id) ts) in
    omega (arith, h, a, b)

pub waiting_map : (f : Txn → Txn) (ts : List Txn) → Each (λ t. one (f t) ≡ one t) ts → waiting (map f ts) ≡ waiting ts
waiting_map f [] e = refl
waiting_map f (t ∷ ts) e = let h = waiting_map f ts e.1 in let a = waiting_cons (f t) (map f ts) in let b = waiting_cons t ts in let c = e.0 in omega (arith, h, a, b, c)

pub waiting_filter : (p : Txn → Bool) (ts : List Txn) → Each (λ t. p t ≡ false → one t ≡ 0) ts → waiting (filter p ts) ≡ waiting ts
waiting_filter p [] e = refl
waiting_filter p (t ∷ ts) e =
    let h = waiting_filter p ts e.1 in
    let a = filtered_cons p t ts in
    let b = waiting_cons t ts in
    let c = kept_one p t (p t) refl e.0 in
    omega (arith, h, a, b, c)
  where
    kept_one : (p : Txn → Bool) (t : Txn) (b : Bool) → p t ≡ b → (p t ≡ false → one t ≡ 0) → cond b (one t) 0 ≡ one t
    kept_one p t true e h = refl
    kept_one p t false e h = sym (h e)

pub same_above : (f : Txn → Txn) (n : ℕ) (ts : List Txn) → Each (λ u. n < u.id) ts → map (changed n f) ts ≡ ts
same_above f n [] e = refl
same_above f n (u ∷ us) e = let i : nat_eq u.id n ≡ false = let h = e.0 in grind (arith, nat_tests) in rw i (ap (λ (l : List Txn). u ∷ l) (same_above f n us e.1))

pub less_cons : (id : ℕ) (f : Txn → Txn) (u w : Txn) (us : List Txn) (b : Bool) → nat_eq u.id id ≡ b → Each (λ x. u.id < x.id) us → cond b (Some u) (txn_at id us) ≡ Some w → one w ≡ 1 → one (f w) ≡ 0 → (txn_at id us ≡ Some w → waiting (map (changed id f) us) + 1 ≡ waiting us) → waiting (cond b (f u) u ∷ map (changed id f) us) + 1 ≡ waiting (u ∷ us)
less_cons id f u w us true e a found was now k =
    let i : u ≡ w = cc in
    let same_id = eq_is u.id id e in
    let rest : map (changed id f) us ≡ us = same_above f id us (subst (λ (n : ℕ). Each (λ x. n < x.id) us) same_id a) in
    let c : waiting (map (changed id f) us) ≡ waiting us = ap waiting rest in
    let d : one u ≡ 1 = ap one i ∙ was in
    let g : one (f u) ≡ 0 = ap (λ (x : Txn). one (f x)) i ∙ now in
    let j = waiting_cons (f u) (map (changed id f) us) in
    let m = waiting_cons u us in
    omega (arith, c, d, g, j, m)
less_cons id f u w us false e a found was now k =
    let h = k found in
    let j = waiting_cons u (map (changed id f) us) in
    let m = waiting_cons u us in
    omega (arith, h, j, m)

-- one load waits no more
pub waiting_less : (id : ℕ) (f : Txn → Txn) (ts : List Txn) (w : Txn) → Ascends ts → txn_at id ts ≡ Some w → one w ≡ 1 → one (f w) ≡ 0 → waiting (map (changed id f) ts) + 1 ≡ waiting ts
waiting_less id f [] w a found was now = absurd (cc)
waiting_less id f (u ∷ us) w a found was now = less_cons id f u w us (nat_eq u.id id) refl a.0 found was now (λ g. waiting_less id f us w a.1 g was now)

-- States and places.
pub committed_one : (t : Txn) → t.state ≡ state.Committed → one t ≡ 1
committed_one t e = ap (λ (s : TxnState). cond (is_committed s) 1 0) e

pub untold_one : (s : TxnState) (told : Bool) → Tells s told → told ≡ false → is_committed s ≡ false
untold_one state.Prepare told h e = refl
untold_one state.Aborted told h e = refl
untold_one state.Precommitted told h e = absurd (cc (h, e))
untold_one state.Committed told h e = absurd (cc (h, e))
untold_one state.Visible told h e = absurd (cc (h, e))

pub untold_place : (s : TxnState) (told : Bool) (place : ℕ) → Tells s told → told ≡ false → HasPlace s place → place ≡ 0
untold_place state.Prepare told place h e p = p
untold_place state.Aborted told place h e p = p
untold_place state.Precommitted told place h e p = p
untold_place state.Committed told place h e p = absurd (cc (h, e))
untold_place state.Visible told place h e p = absurd (cc (h, e))

pub is_one : (t : Txn) → is_committed t.state ≡ false → one t ≡ 0
is_one t e = ap (λ (b : Bool). cond b 1 0) e

pub place_with : (s : TxnState) (place : ℕ) → s ≡ state.Committed → HasPlace s place → 1 ≤ place
place_with s place e h = subst (λ (x : TxnState). HasPlace x place) e h

-- a change of state that keeps places, where no load that waits is touched
pub calm : (ts : List Txn) (last id : ℕ) (f : Txn → Txn) → ((t : Txn) → place_of (f t) ≡ place_of t) → ((t : Txn) → (f t).state ≡ state.Aborted) → Each (λ t. t.id ≡ id → (place_of t ≡ 0) × (one t ≡ 0)) ts → PlacesFit ts last → PlacesFit (map (changed id f) ts) last
calm ts last id f keeps aborts e p =
    let same : (t : Txn) → place_of (changed id f t) ≡ place_of t = λ t. elim (nat_eq t.id id) as (λ b. place_of (cond b (f t) t) ≡ place_of t) [ true ↦ keeps t | false ↦ refl ] in
    let count : waiting (map (changed id f) ts) ≡ waiting ts = waiting_map (changed id f) ts (each_imp (λ t. t.id ≡ id → (place_of t ≡ 0) × (one t ≡ 0)) (λ t. one (changed id f t) ≡ one t) (λ t h. calm_one t (nat_eq t.id id) refl h) ts e) in
    record {
      have = each_map (λ t. HasPlace t.state (place_of t) × (t.id ≡ id → (place_of t ≡ 0) × (one t ≡ 0))) (λ t. HasPlace t.state (place_of t)) (changed id f) (λ t h. calm_place t (nat_eq t.id id) refl h.0 h.1) ts (each_both (λ t. HasPlace t.state (place_of t)) (λ t. t.id ≡ id → (place_of t ≡ 0) × (one t ≡ 0)) ts p.have e);
      differ = pairs_map (λ t. Unit {0}) PlacesDiffer (changed id f) (λ t u _ _ h i. same t ∙ h (sym (same t) ∙ i ∙ same u)) ts (always (λ t. Unit {0}) ts (λ t. tt)) p.differ;
      within = each_map (λ t. place_of t ≤ last) (λ t. place_of t ≤ last) (changed id f) (λ t h. let s = same t in omega (arith, s, h)) ts p.within;
      lasts = each_map (λ t. t.state ≡ state.Committed → last < place_of t + waiting ts) (λ t. t.state ≡ state.Committed → last < place_of t + waiting (map (changed id f) ts)) (changed id f) (λ t h i. let s = same t in let j = h (calm_state t (nat_eq t.id id) i) in omega (arith, s, j, count)) ts p.lasts;
    }
  where
    calm_one : (t : Txn) (b : Bool) → nat_eq t.id id ≡ b → (t.id ≡ id → (place_of t ≡ 0) × (one t ≡ 0)) → one (cond b (f t) t) ≡ one t
    calm_one t true e h = let z = h (eq_is t.id id e) in let a : one (f t) ≡ 0 = ap (λ (s : TxnState). cond (is_committed s) 1 0) (aborts t) in a ∙ sym z.1
    calm_one t false e h = refl

    calm_place : (t : Txn) (b : Bool) → nat_eq t.id id ≡ b → HasPlace t.state (place_of t) → (t.id ≡ id → (place_of t ≡ 0) × (one t ≡ 0)) → HasPlace (cond b (f t) t).state (place_of (cond b (f t) t))
    calm_place t true e h k = let z = k (eq_is t.id id e) in subst (λ (s : TxnState). HasPlace s (place_of (f t))) (sym (aborts t)) (keeps t ∙ z.0)
    calm_place t false e h k = h

    calm_state : (t : Txn) (b : Bool) → (cond b (f t) t).state ≡ state.Committed → t.state ≡ state.Committed
    calm_state t true i = absurd (let z = aborts t in cc (z, i))
    calm_state t false i = i

-- A load that is submitted: where it commits at once it has the next place.
pub submitted_place : (two_phase : Bool) (last : ℕ) → HasPlace (cond two_phase state.Precommitted state.Committed) (unwrap_or (cond two_phase None (Some (last + 1))) 0)
submitted_place true last = refl
submitted_place false last = omega arith

pub next_last : (two_phase : Bool) (last : ℕ) → last ≤ cond two_phase last (last + 1)
next_last true last = omega arith
next_last false last = omega arith

pub new_within : (two_phase : Bool) (last : ℕ) → unwrap_or (cond two_phase None (Some (last + 1))) 0 ≤ cond two_phase last (last + 1)
new_within true last = omega arith
new_within false last = omega arith

pub new_apart : (two_phase : Bool) (last place : ℕ) → place ≤ last → place ≡ unwrap_or (cond two_phase None (Some (last + 1))) 0 → place ≡ 0
new_apart true last place h e = e
new_apart false last place h e = absurd (omega (arith, h, e))

pub new_before : (two_phase : Bool) (last place : ℕ) → place ≤ last → unwrap_or (cond two_phase None (Some (last + 1))) 0 ≡ place → unwrap_or (cond two_phase None (Some (last + 1))) 0 ≡ 0
new_before true last place h e = refl
new_before false last place h e = absurd (omega (arith, h, e))

pub still_last : (two_phase : Bool) (last place before now : ℕ) → last < place + before → now ≡ before + cond (is_committed (cond two_phase state.Precommitted state.Committed)) 1 0 → cond two_phase last (last + 1) < place + now
still_last true last place before now h e = omega (arith, h, e)
still_last false last place before now h e = omega (arith, h, e)

pub new_last : (two_phase : Bool) (last before now : ℕ) → now ≡ before + cond (is_committed (cond two_phase state.Precommitted state.Committed)) 1 0 → cond two_phase state.Precommitted state.Committed ≡ state.Committed → cond two_phase last (last + 1) < unwrap_or (cond two_phase None (Some (last + 1))) 0 + now
new_last true last before now e i = absurd (cc)
new_last false last before now e i = omega (arith, e)

pub submitted_fits : (ts : List Txn) (last : ℕ) (s : LoadSubmitted) (db : List ℕ) → Ascends ts → Each (λ t. t.id ≡ s.txn → one t ≡ 0) ts → PlacesFit ts last → PlacesFit (put_txn (submitted_txn s db last) ts) (cond s.two_phase last (last + 1))
submitted_fits ts last s db a free p =
    let y = submitted_txn s db last in
    let count = waiting_put y ts free in
    record {
      have = each_put (λ t. HasPlace t.state (place_of t)) y ts (each_imp (λ t. HasPlace t.state (place_of t)) (λ t. (t.id ≡ s.txn → ⊥) → HasPlace t.state (place_of t)) (λ t h _. h) ts p.have) (submitted_place s.two_phase last);
      differ = pairs_put PlacesDiffer y ts a p.differ (each_imp (λ t. place_of t ≤ last) (λ t. t.id < s.txn → PlacesDiffer t y) (λ t h _ i. new_apart s.two_phase last (place_of t) h i) ts p.within) (each_imp (λ t. place_of t ≤ last) (λ t. s.txn < t.id → PlacesDiffer y t) (λ t h _ i. new_before s.two_phase last (place_of t) h i) ts p.within);
      within = each_put (λ t. place_of t ≤ cond s.two_phase last (last + 1)) y ts (each_imp (λ t. place_of t ≤ last) (λ t. (t.id ≡ s.txn → ⊥) → place_of t ≤ cond s.two_phase last (last + 1)) (λ t h _. let n = next_last s.two_phase last in omega (arith, n, h)) ts p.within) (new_within s.two_phase last);
      lasts = each_put (λ t. t.state ≡ state.Committed → cond s.two_phase last (last + 1) < place_of t + waiting (put_txn y ts)) y ts (each_imp (λ t. t.state ≡ state.Committed → last < place_of t + waiting ts) (λ t. (t.id ≡ s.txn → ⊥) → t.state ≡ state.Committed → cond s.two_phase last (last + 1) < place_of t + waiting (put_txn y ts)) (λ t h _ i. still_last s.two_phase last (place_of t) (waiting ts) (waiting (put_txn y ts)) (h i) count) ts p.lasts) (new_last s.two_phase last (waiting ts) (waiting (put_txn y ts)) count);
    }
