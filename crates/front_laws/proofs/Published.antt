-- Each transaction is published at most once.
use Rattle.std.proofs.Common.{◌≡◌, ℕ, ◌+◌, Bool, true, false, cond, not, ◌||◌, List, ◌∷◌, Some, map, filter, refl, sym, ◌∙◌, ap, arith, subst}
use Rattle.std.proofs.lemmas.Bool.Decides.{nat_tests}
use Rattle.std.specs.Prelude.{nat_eq}
use Rattle.std.specs.List.{list_any}
use Rattle.labels.specs.declared.txn_state.TxnState.{TxnState}
use Rattle.labels.specs.declared.txn_state.TxnState.TheVariants as state
use Rattle.front_defs.specs.declared.event.Event.{Event}
use Rattle.front_defs.specs.declared.event.Event.TheVariants as event
use Rattle.front_defs.specs.declared.history.Entry.{Entry}
use Rattle.front_defs.specs.declared.txn.Txn.{Txn}
use Rattle.front_defs.specs.Ids.{told_ids}
use Rattle.front_defs.specs.Catalogue.{db_of, tables_of}
use Rattle.front_defs.specs.Transactions.{is_visible, txn_at, changed, begun_txn, submitted_txn, aborted_at, visible_at, committed_at, dropped, dropped_at, dropped_state, expires_by, is_expired, is_over, sweep, swept_at, txns_of, places_of}
use Rattle.front_defs.specs.History.{happened}
use Rattle.front_defs.specs.Legal.{Legal}
use Rattle.front_laws.specs.Tidy.{Each, Tells, Happens, published_of, Distinct}
use Rattle.front_laws.proofs.Lists.{each_imp, each_both, each_filter, each_map, each_snoc, each_found, each_put, each_at, eq_is}
use Rattle.front_laws.proofs.Tidying.{due_is, due_found}
use Rattle.front_laws.proofs.Keeping.{found_told, told_committed, none_told}
use Rattle.front_laws.proofs.Following.{any_none, none_any}
use Rattle.front_laws.proofs.Histories.{always_holds}
use Rattle.front_laws.proofs.Plans.{Good}

pub record Once (Es : List Event) : Type 0 where
  pub seen : Each (λ t. is_visible t.state ≡ list_any (nat_eq t.id) (published_of Es)) (txns_of Es)
  pub told : Each (λ i. list_any (nat_eq i) (told_ids Es) ≡ true) (published_of Es)
  pub once : Distinct (published_of Es)

eq_self : (n : ℕ) → nat_eq n n ≡ true
eq_self n = grind (arith, nat_tests)

eq_apart : (n m : ℕ) → (n ≡ m → ⊥) → nat_eq n m ≡ false
eq_apart n m h = grind (arith, nat_tests)

-- a number that was not told was not published
unpublished : (id : ℕ) (told : List ℕ) (published : List ℕ) → list_any (nat_eq id) told ≡ false → Each (λ i. list_any (nat_eq i) told ≡ true) published → list_any (nat_eq id) published ≡ false
unpublished id told published new e =
    none_any (nat_eq id) published (each_imp (λ i. list_any (nat_eq i) told ≡ true) (λ i. nat_eq id i ≡ false) (λ i h. eq_apart id i (λ (same : id ≡ i). let z : list_any (nat_eq i) told ≡ false = ap (λ (n : ℕ). list_any (nat_eq n) told) (sym same) ∙ new in cc (z, h))) published e)

or_later : (b c : Bool) → c ≡ true → (b || c) ≡ true
or_later true c h = refl
or_later false c h = h

not_visible : (two_phase : Bool) → is_visible (cond two_phase state.Precommitted state.Committed) ≡ false
not_visible true = refl
not_visible false = refl

untold_unseen : (s : TxnState) (told : Bool) → Tells s told → told ≡ false → is_visible s ≡ false
untold_unseen state.Prepare told h e = refl
untold_unseen state.Aborted told h e = refl
untold_unseen state.Precommitted told h e = refl
untold_unseen state.Committed told h e = refl
untold_unseen state.Visible told h e = absurd (cc (h, e))

abbrev Seen : List ℕ → Txn → Type 0
Seen published t = is_visible t.state ≡ list_any (nat_eq t.id) published

-- an abort of a load that is not seen
abort_seen : (published : List ℕ) (ts : List Txn) (id at : ℕ) → Each (λ t. t.id ≡ id → is_visible t.state ≡ false) ts → Each (Seen published) ts → Each (Seen published) (map (changed id (aborted_at at)) ts)
abort_seen published ts id at unseen e = each_map (λ t. Seen published t × (t.id ≡ id → is_visible t.state ≡ false)) (Seen published) (changed id (aborted_at at)) (λ t h. one t (nat_eq t.id id) refl h.0 h.1) ts (each_both (Seen published) (λ t. t.id ≡ id → is_visible t.state ≡ false) ts e unseen)
  where
    one : (t : Txn) (b : Bool) → nat_eq t.id id ≡ b → Seen published t → (t.id ≡ id → is_visible t.state ≡ false) → Seen published (cond b (aborted_at at t) t)
    one t true same h k = sym (k (eq_is t.id id same)) ∙ h
    one t false same h k = h

commit_seen : (published : List ℕ) (ts : List Txn) (id place at : ℕ) → Each (λ t. t.id ≡ id → is_visible t.state ≡ false) ts → Each (Seen published) ts → Each (Seen published) (map (changed id (committed_at place at)) ts)
commit_seen published ts id place at unseen e = each_map (λ t. Seen published t × (t.id ≡ id → is_visible t.state ≡ false)) (Seen published) (changed id (committed_at place at)) (λ t h. one t (nat_eq t.id id) refl h.0 h.1) ts (each_both (Seen published) (λ t. t.id ≡ id → is_visible t.state ≡ false) ts e unseen)
  where
    one : (t : Txn) (b : Bool) → nat_eq t.id id ≡ b → Seen published t → (t.id ≡ id → is_visible t.state ≡ false) → Seen published (cond b (committed_at place at t) t)
    one t true same h k = sym (k (eq_is t.id id same)) ∙ h
    one t false same h k = h

dropped_visible : (s : TxnState) → is_visible (dropped_state s) ≡ is_visible s
dropped_visible state.Prepare = refl
dropped_visible state.Precommitted = refl
dropped_visible state.Committed = refl
dropped_visible state.Visible = refl
dropped_visible state.Aborted = refl

dropped_seen : (published : List ℕ) (ts : List Txn) (table at : ℕ) → Each (Seen published) ts → Each (Seen published) (map (dropped table at) ts)
dropped_seen published ts table at e = each_map (Seen published) (Seen published) (dropped table at) (λ t h. elim (nat_eq t.table table) as (λ b. Seen published (cond b (dropped_at at t) t)) [ true ↦ dropped_visible t.state ∙ h | false ↦ h ]) ts e

expired_visible : (s : TxnState) (since at : ℕ) → expires_by s since at ≡ true → is_visible s ≡ false
expired_visible state.Prepare since at h = refl
expired_visible state.Precommitted since at h = refl
expired_visible state.Committed since at h = refl
expired_visible state.Visible since at h = absurd (cc)
expired_visible state.Aborted since at h = refl

swept_seen : (published : List ℕ) (ts : List Txn) (at : ℕ) → Each (Seen published) ts → Each (Seen published) (sweep at ts)
swept_seen published ts at e = each_map (Seen published) (Seen published) (swept_at at) (λ t h. one t (is_expired at t) refl h) (filter (λ t. not (is_over at t)) ts) (each_filter (Seen published) (λ t. not (is_over at t)) ts e)
  where
    one : (t : Txn) (b : Bool) → is_expired at t ≡ b → Seen published t → Seen published (cond b (aborted_at at t) t)
    one t true k h = sym (expired_visible t.state t.since at k) ∙ h
    one t false k h = h

publish_seen : (published : List ℕ) (ts : List Txn) (id at : ℕ) → Each (Seen published) ts → Each (Seen (id ∷ published)) (map (changed id (visible_at at)) ts)
publish_seen published ts id at e = each_map (Seen published) (Seen (id ∷ published)) (changed id (visible_at at)) (λ t h. one t (nat_eq t.id id) refl h) ts e
  where
    one : (t : Txn) (b : Bool) → nat_eq t.id id ≡ b → Seen published t → Seen (id ∷ published) (cond b (visible_at at t) t)
    one t true same h = ap (λ (b : Bool). b || list_any (nat_eq t.id) published) (sym same)
    one t false same h = h ∙ ap (λ (b : Bool). b || list_any (nat_eq t.id) published) (sym same)

once_step : (e : Event) (Es : List Event) → Good Es → Happens Es e → Once Es → Once (e ∷ Es)
once_step (event.DbMade d) Es g h p = record { seen = p.seen; told = p.told; once = p.once }
once_step (event.TableMade m) Es g h p = record { seen = p.seen; told = p.told; once = p.once }
once_step (event.RangeDrawn r) Es g h p = record { seen = p.seen; told = p.told; once = p.once }
once_step (event.TxnBegun b) Es g h p =
    let new = unpublished b.txn (told_ids Es) (published_of Es) (none_told b.txn (told_ids Es) h.unspent) p.told in
    record { seen = each_snoc (Seen (published_of Es)) (txns_of Es) (begun_txn b) p.seen (sym new); told = p.told; once = p.once }
once_step (event.LoadSubmitted s) Es g h p =
    let new = unpublished s.txn (told_ids Es) (published_of Es) h.new p.told in
    record {
      seen = each_put (Seen (published_of Es)) (submitted_txn s (db_of s.table (tables_of Es)) (places_of Es)) (txns_of Es) (each_imp (Seen (published_of Es)) (λ u. (u.id ≡ s.txn → ⊥) → Seen (published_of Es) u) (λ u k _. k) (txns_of Es) p.seen) (not_visible s.two_phase ∙ sym new);
      told = each_imp (λ i. list_any (nat_eq i) (told_ids Es) ≡ true) (λ i. list_any (nat_eq i) (s.txn ∷ told_ids Es) ≡ true) (λ i k. or_later (nat_eq i s.txn) (list_any (nat_eq i) (told_ids Es)) k) (published_of Es) p.told;
      once = p.once;
    }
once_step (event.TxnAborted a) Es g h p = record {
  seen = abort_seen (published_of Es) (txns_of Es) a.txn a.at (each_at (λ t. is_visible t.state ≡ false) a.txn (txns_of Es) h.0 g.tidy.ascends h.1 (ap is_visible h.2)) p.seen;
  told = p.told;
  once = p.once;
}
once_step (event.LoadPublished x) Es g h p =
    let w : Txn = h.0 in
    let found = subst (λ (n : ℕ). txn_at n (txns_of Es) ≡ Some w) h.2 (due_found Es w g.tidy h.1) in
    let is = due_is (txns_of Es) w h.1 in
    let told = found_told Es x.txn w state.Committed g.tidy found is told_committed in
    let known = each_found (λ t. t.told ≡ list_any (nat_eq t.id) (told_ids Es)) (λ t. nat_eq t.id x.txn) (txns_of Es) w g.tidy.known found in
    let unseen : is_visible w.state ≡ false = ap is_visible is in
    let seen = each_found (Seen (published_of Es)) (λ t. nat_eq t.id x.txn) (txns_of Es) w p.seen found in
    let none : list_any (nat_eq x.txn) (published_of Es) ≡ false = ap (λ (n : ℕ). list_any (nat_eq n) (published_of Es)) (sym h.2) ∙ sym seen ∙ unseen in
    record {
      seen = publish_seen (published_of Es) (txns_of Es) x.txn x.at p.seen;
      told = (ap (λ (n : ℕ). list_any (nat_eq n) (told_ids Es)) (sym h.2) ∙ sym known ∙ told, p.told);
      once = (each_imp (λ j. nat_eq x.txn j ≡ false) (λ j. x.txn ≡ j → ⊥) (λ j k same. let z : nat_eq x.txn j ≡ true = grind (arith, nat_tests) in cc (z, k)) (published_of Es) (any_none (nat_eq x.txn) (published_of Es) none), p.once);
    }
once_step (event.TxnEnded x) Es g h p =
    let w : Txn = h.0 in
    let tells = each_found (λ t. Tells t.state t.told) (λ t. nat_eq t.id x.txn) (txns_of Es) w g.tidy.tells h.1 in
    record {
      seen = abort_seen (published_of Es) (txns_of Es) x.txn x.at (each_at (λ t. is_visible t.state ≡ false) x.txn (txns_of Es) w g.tidy.ascends h.1 (untold_unseen w.state w.told tells h.2)) p.seen;
      told = p.told;
      once = p.once;
    }
once_step (event.PartAdded a) Es g h p = record { seen = p.seen; told = p.told; once = p.once }
once_step (event.TableDropped d) Es g h p = record { seen = dropped_seen (published_of Es) (txns_of Es) d.table d.at p.seen; told = p.told; once = p.once }
once_step (event.LoadCommitted c) Es g h p = record {
  seen = commit_seen (published_of Es) (txns_of Es) c.txn (places_of Es + 1) c.at (each_at (λ t. is_visible t.state ≡ false) c.txn (txns_of Es) h.0 g.tidy.ascends h.1 (ap is_visible h.2.0)) p.seen;
  told = p.told;
  once = p.once;
}
once_step (event.Swept s) Es g h p = record { seen = swept_seen (published_of Es) (txns_of Es) s.at p.seen; told = p.told; once = p.once }
once_step (event.SweptUntold s) Es g h p = record { seen = swept_seen (published_of Es) (txns_of Es) s.at p.seen; told = p.told; once = p.once }
once_step (event.Compacted c) Es g h p = record { seen = p.seen; told = p.told; once = p.once }
once_step (event.JobAdded x) Es g h p = record { seen = p.seen; told = p.told; once = p.once }
once_step (event.JobWaiting x) Es g h p = record { seen = p.seen; told = p.told; once = p.once }
once_step (event.WatershedDrawn x) Es g h p = record { seen = p.seen; told = p.told; once = p.once }
once_step (event.JobRan x) Es g h p = record { seen = p.seen; told = p.told; once = p.once }
once_step (event.TaskTaken x) Es g h p = record { seen = p.seen; told = p.told; once = p.once }
once_step (event.TaskGiven x) Es g h p = record { seen = p.seen; told = p.told; once = p.once }
once_step (event.JobFinished x) Es g h p = record { seen = p.seen; told = p.told; once = p.once }
once_step (event.JobCancelled x) Es g h p = record { seen = p.seen; told = p.told; once = p.once }
once_step event.Opened Es g h p = record { seen = each_filter (Seen (published_of Es)) (λ t. t.told) (txns_of Es) p.seen; told = p.told; once = p.once }

pub published_once : (H : List Entry) → Legal H → Distinct (published_of (happened H))
published_once H l = (always_holds Once (record { seen = tt; told = tt; once = tt }) once_step H l).once
