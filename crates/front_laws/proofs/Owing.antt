-- What a plan is owed goes on to be owed.
use Rattle.std.proofs.Common.{◌≡◌, ℕ, ◌+◌, ◌≤◌, ◌<◌, Bool, true, false, cond, not, ◌&&◌, List, [], ◌∷◌, ◌++◌, Option, Some, None, IfSome, inl, inr, map, filter, refl, sym, ◌∙◌, ap, arith, subst}
use Rattle.std.proofs.lemmas.Bool.Decides.{nat_tests}
use Rattle.std.proofs.lemmas.List.{map-append}
use Rattle.std.specs.Prelude.{nat_eq, nat_lt}
use Rattle.std.specs.Option.{option_map}
use Rattle.labels.specs.declared.txn_state.TxnState.{TxnState}
use Rattle.labels.specs.declared.txn_state.TxnState.TheVariants as state
use Rattle.partitions.specs.LayoutFaults.{with_part}
use Rattle.partitions.specs.LayoutView.{LayoutView}
use Rattle.row_map.specs.Maps.{rollup_map}
use Rattle.row_map.specs.declared.map.RowMap.{RowMap}
use Rattle.alter_core.specs.declared.job.Cause.{Cause}
use Rattle.alter_core.specs.declared.job.Cause.TheVariants as cause
use Rattle.alter_core.specs.declared.job.Change.{Change}
use Rattle.alter_core.specs.declared.job.Change.TheVariants as change
use Rattle.alter_core.specs.declared.job.JobInfo.{JobInfo}
use Rattle.alter_core.specs.declared.job.JobState.{JobState}
use Rattle.alter_core.specs.declared.job.JobState.TheVariants as job_state
use Rattle.front_defs.specs.declared.event.Event.{Event}
use Rattle.front_defs.specs.declared.event.Event.TheVariants as event
use Rattle.front_defs.specs.declared.event.PartAdded.{PartAdded}
use Rattle.front_defs.specs.declared.catalogue.Rollup.{Rollup}
use Rattle.front_defs.specs.declared.catalogue.Table.{Table}
use Rattle.front_defs.specs.declared.txn.Txn.{Txn}
use Rattle.front_defs.specs.Catalogue.{db_of, finished_in, table_at, tables_of, last_table_of, new_table, part_added, with_change}
use Rattle.front_defs.specs.Indexes.{change_maps, rollup_maps}
use Rattle.front_defs.specs.Jobs.{added_job, cancelled_job, changed_job, dropped_job, finished_job, is_job_over, is_live, is_live_of, is_planned, is_running, job_at, jobs_of, ran_job, reopened_job, spoiled_job, waiting_job}
use Rattle.front_defs.specs.Moves.{has_open_below, is_open, watershed_of}
use Rattle.front_defs.specs.Transactions.{txns_of, changed, begun_txn, submitted_txn, aborted_at, visible_at, committed_at, dropped, dropped_at, dropped_state, is_expired, is_over, sweep, swept_at, places_of}
use Rattle.front_laws.specs.Tidy.{Alters, Each, EndsNow, Happens, Tells, last_begun}
use Rattle.front_laws.specs.Laws.{BeginsWith, IsOwed, Owed, OwesJob}
use Rattle.front_laws.proofs.Lists.{always, each_both, each_filter, each_found, each_imp, each_map, each_passed, each_put, each_snoc, eq_is}
use Rattle.front_laws.proofs.Tidying.{finished_number}
use Rattle.front_laws.proofs.Keeping.{found_map, found_without, made_apart, part_number}
use Rattle.front_laws.proofs.Following.{each_job}
use Rattle.front_laws.proofs.Jobs.{no_open}
use Rattle.front_laws.proofs.Plans.{Good}
use Rattle.front_laws.proofs.Running.{other_tables}
use Rattle.front_laws.proofs.Stored.{live_ends}

abbrev pub Covers : List Event → ℕ → List RowMap → Type 0
Covers Es id maps = Each (IsOwed (tables_of Es) (jobs_of Es) id maps) (txns_of Es)

-- transactions that change
abbrev pub Still : (Txn → Txn) → Txn → Type 0
Still f t = (f t).state ≡ state.Prepare → (t.state ≡ state.Prepare) × ((f t).table ≡ t.table) × ((f t).id ≡ t.id)

pub owed_still : (tables : List Table) (jobs : List JobInfo) (id : ℕ) (maps : List RowMap) (f : Txn → Txn) (t : Txn) → Still f t → IsOwed tables jobs id maps t → IsOwed tables jobs id maps (f t)
owed_still tables jobs id maps f t s h i p = let k = s p in subst (λ (n : ℕ). IfSome (table_at n tables) (Owed jobs id maps)) (sym k.1) (h (sym k.2 ∙ i) k.0)

pub owed_mapped : (tables : List Table) (jobs : List JobInfo) (id : ℕ) (maps : List RowMap) (f : Txn → Txn) (ts : List Txn) → ((t : Txn) → Still f t) → Each (IsOwed tables jobs id maps) ts → Each (IsOwed tables jobs id maps) (map f ts)
owed_mapped tables jobs id maps f ts s e = each_map (IsOwed tables jobs id maps) (IsOwed tables jobs id maps) f (λ t h. owed_still tables jobs id maps f t (s t) h) ts e

pub changed_still : (n : ℕ) (f : Txn → Txn) → ((t : Txn) → (f t).state ≡ state.Prepare → ⊥) → (t : Txn) → Still (changed n f) t
changed_still n f k t = elim (nat_eq t.id n) as (λ b. (cond b (f t) t).state ≡ state.Prepare → (t.state ≡ state.Prepare) × ((cond b (f t) t).table ≡ t.table) × ((cond b (f t) t).id ≡ t.id)) [ true ↦ (λ p. absurd (k t p)) | false ↦ (λ p. (p, refl, refl)) ]

pub never_dropped : (s : TxnState) → dropped_state s ≡ state.Prepare → ⊥
never_dropped state.Prepare h = cc
never_dropped state.Precommitted h = cc
never_dropped state.Committed h = cc
never_dropped state.Visible h = cc
never_dropped state.Aborted h = cc

pub dropped_still : (table at : ℕ) (t : Txn) → Still (dropped table at) t
dropped_still table at t = elim (nat_eq t.table table) as (λ b. (cond b (dropped_at at t) t).state ≡ state.Prepare → (t.state ≡ state.Prepare) × ((cond b (dropped_at at t) t).table ≡ t.table) × ((cond b (dropped_at at t) t).id ≡ t.id)) [ true ↦ (λ p. absurd (never_dropped t.state p)) | false ↦ (λ p. (p, refl, refl)) ]

pub swept_still : (at : ℕ) (t : Txn) → Still (swept_at at) t
swept_still at t = elim (is_expired at t) as (λ b. (cond b (aborted_at at t) t).state ≡ state.Prepare → (t.state ≡ state.Prepare) × ((cond b (aborted_at at t) t).table ≡ t.table) × ((cond b (aborted_at at t) t).id ≡ t.id)) [ true ↦ (λ p. absurd (cc)) | false ↦ (λ p. (p, refl, refl)) ]

pub owed_swept : (tables : List Table) (jobs : List JobInfo) (id : ℕ) (maps : List RowMap) (at : ℕ) (ts : List Txn) → Each (IsOwed tables jobs id maps) ts → Each (IsOwed tables jobs id maps) (sweep at ts)
owed_swept tables jobs id maps at ts e = owed_mapped tables jobs id maps (swept_at at) (filter (λ t. not (is_over at t)) ts) (swept_still at) (each_filter (IsOwed tables jobs id maps) (λ t. not (is_over at t)) ts e)

-- tables and jobs that change
pub owed_on : (tables us : List Table) (jobs ks : List JobInfo) (id : ℕ) (maps : List RowMap) (ts : List Txn) → ((n : ℕ) → IfSome (table_at n tables) (Owed jobs id maps) → IfSome (table_at n us) (Owed ks id maps)) → Each (IsOwed tables jobs id maps) ts → Each (IsOwed us ks id maps) ts
owed_on tables us jobs ks id maps ts k e = each_imp (IsOwed tables jobs id maps) (IsOwed us ks id maps) (λ t h i p. k t.table (h i p)) ts e

pub if_imp : (o : Option Table) (P Q : Table → Type 0) → ((b : Table) → P b → Q b) → IfSome o P → IfSome o Q
if_imp None P Q k h = tt
if_imp (Some b) P Q k h = k b h

pub record PlanKept (j k : JobInfo) : Type 0 where
  table : k.table ≡ j.table
  change : k.change ≡ j.change
  planned : is_planned k.state ≡ true → (is_planned j.state ≡ true) × (watershed_of k ≡ watershed_of j)

pub same_plan : (j : JobInfo) → PlanKept j j
same_plan j = record { table = refl; change = refl; planned = λ p. (p, refl) }

pub owes_kept : (b : Table) (id : ℕ) (maps : List RowMap) (j k : JobInfo) → PlanKept j k → OwesJob b id maps j → OwesJob b id maps k
owes_kept b id maps j k q h i p w =
    let a = q.planned p in
    subst (λ (c : Change). BeginsWith (rollup_maps b ++ change_maps c b) maps) (sym q.change) (h (sym q.table ∙ i) a.0 (let e = a.1 in omega (arith, w, e)))

pub owed_jobs : (f : JobInfo → JobInfo) (jobs : List JobInfo) (id : ℕ) (maps : List RowMap) (b : Table) → Each (λ (j : JobInfo). PlanKept j (f j)) jobs → Owed jobs id maps b → Owed (map f jobs) id maps b
owed_jobs f jobs id maps b k h = record { rollups = h.rollups; news = each_map (λ (j : JobInfo). PlanKept j (f j) × OwesJob b id maps j) (OwesJob b id maps) f (λ j q. owes_kept b id maps j (f j) q.0 q.1) jobs (each_both (λ (j : JobInfo). PlanKept j (f j)) (OwesJob b id maps) jobs k h.news) }

pub jobs_on : (tables : List Table) (f : JobInfo → JobInfo) (jobs : List JobInfo) (id : ℕ) (maps : List RowMap) (ts : List Txn) → Each (λ (j : JobInfo). PlanKept j (f j)) jobs → Each (IsOwed tables jobs id maps) ts → Each (IsOwed tables (map f jobs) id maps) ts
jobs_on tables f jobs id maps ts k e = owed_on tables tables jobs (map f jobs) id maps ts (λ n. if_imp (table_at n tables) (Owed jobs id maps) (Owed (map f jobs) id maps) (λ b. owed_jobs f jobs id maps b k)) e

pub plan_if : (n : ℕ) (f : JobInfo → JobInfo) (j : JobInfo) → (j.job ≡ n → PlanKept j (f j)) → PlanKept j (changed_job n f j)
plan_if n f j k = go (nat_eq j.job n) refl
  where
    go : (b : Bool) → nat_eq j.job n ≡ b → PlanKept j (cond b (f j) j)
    go true e = k (eq_is j.job n e)
    go false e = same_plan j

pub cancelled_plan : (n at : ℕ) (why : Cause) (j : JobInfo) → PlanKept j (changed_job n (cancelled_job at why) j)
cancelled_plan n at why j = plan_if n (cancelled_job at why) j (λ _. record { table = refl; change = refl; planned = λ p. absurd (cc) })

pub finished_plan : (n at : ℕ) (j : JobInfo) → PlanKept j (changed_job n (finished_job at) j)
finished_plan n at j = plan_if n (finished_job at) j (λ _. record { table = refl; change = refl; planned = λ p. absurd (cc) })

pub spoiled_plan : (o : Option ℕ) (txn at : ℕ) (j : JobInfo) → PlanKept j (spoiled_job o txn at j)
spoiled_plan None txn at j = same_plan j
spoiled_plan (Some n) txn at j = cancelled_plan n at (cause.Load txn) j

pub dropped_plan : (table at : ℕ) (j : JobInfo) → PlanKept j (dropped_job table at j)
dropped_plan table at j = go (is_live_of table j)
  where
    go : (b : Bool) → PlanKept j (cond b (cancelled_job at cause.Drop j) j)
    go true = record { table = refl; change = refl; planned = λ p. absurd (cc) }
    go false = same_plan j

-- a partition more changes no map
pub part_maps : (c : Change) (b : Table) (l : LayoutView) → change_maps c (record b { layout = l }) ≡ change_maps c b
part_maps (change.Rollup name columns) b l = refl

pub owed_part : (jobs : List JobInfo) (id : ℕ) (maps : List RowMap) (b : Table) (l : LayoutView) → Owed jobs id maps b → Owed jobs id maps (record b { layout = l })
owed_part jobs id maps b l h = record { rollups = record { rest = (h.rollups).rest; is = (h.rollups).is }; news = each_imp (OwesJob b id maps) (OwesJob (record b { layout = l }) id maps) (λ j k i p w. subst (λ (ms : List RowMap). BeginsWith (rollup_maps b ++ ms) maps) (sym (part_maps j.change b l)) (k i p w)) jobs h.news }

pub part_owed : (a : PartAdded) (tables : List Table) (jobs : List JobInfo) (id : ℕ) (maps : List RowMap) (n : ℕ) → IfSome (table_at n tables) (Owed jobs id maps) → IfSome (table_at n (map (part_added a) tables)) (Owed jobs id maps)
part_owed a tables jobs id maps n h = subst (λ (o : Option Table). IfSome o (Owed jobs id maps)) (sym (found_map (part_added a) (part_number a) n tables)) (go (table_at n tables) h)
  where
    go : (o : Option Table) → IfSome o (Owed jobs id maps) → IfSome (option_map (part_added a) o) (Owed jobs id maps)
    go None k = tt
    go (Some b) k = elim (nat_eq b.number a.table) as (λ (c : Bool). Owed jobs id maps (cond c (record b { layout = with_part a.part b.layout }) b)) [ true ↦ owed_part jobs id maps b (with_part a.part b.layout) k | false ↦ k ]

pub less_owed : (m : ℕ) (tables : List Table) (jobs : List JobInfo) (id : ℕ) (maps : List RowMap) (n : ℕ) → IfSome (table_at n tables) (Owed jobs id maps) → IfSome (table_at n (filter (λ b. not (nat_eq b.number m)) tables)) (Owed jobs id maps)
less_owed m tables jobs id maps n h = subst (λ (o : Option Table). IfSome o (Owed jobs id maps)) (sym (found_without n m tables)) (go (nat_eq m n))
  where
    go : (c : Bool) → IfSome (cond c None (table_at n tables)) (Owed jobs id maps)
    go true = tt
    go false = h

-- a job ends well: what it was owed as a new index it is owed as a rollup
pub rolled : (c : Change) (b : Table) → rollup_maps (with_change c b) ≡ rollup_maps b ++ change_maps c b
rolled (change.Rollup name columns) b = map-append (λ (r : Rollup). rollup_map b.shape r.columns) b.rollups (record { name = name; columns = columns } ∷ [])

pub changed_number : (c : Change) (b : Table) → (with_change c b).number ≡ b.number
changed_number (change.Rollup name columns) b = refl

pub live_planned : (Es : List Event) (w : JobInfo) (s : JobState) → w.state ≡ s → is_live s ≡ true → (s ≡ job_state.Pending → ⊥) → is_planned w.state ≡ true
live_planned Es w job_state.Pending e l n = absurd (n refl)
live_planned Es w job_state.WaitingTxn e l n = ap is_planned e
live_planned Es w job_state.Running e l n = ap is_planned e
live_planned Es w job_state.Finished e l n = absurd (cc)
live_planned Es w job_state.Cancelled e l n = absurd (cc)

pub finish_owed : (jobs : List JobInfo) (f at : ℕ) (w : JobInfo) (id : ℕ) (maps : List RowMap) (b : Table) → job_at f jobs ≡ Some w → is_planned w.state ≡ true → watershed_of w ≤ id → Each (λ (k : JobInfo). (k.job ≡ f → ⊥) → is_live k.state ≡ true → k.table ≡ w.table → ⊥) jobs → b.number ≡ w.table → Owed jobs id maps b → Owed (map (changed_job f (finished_job at)) jobs) id maps (with_change w.change b)
finish_owed jobs f at w id maps b found planned low apart n h = record {
  rollups = subst (λ (ms : List RowMap). BeginsWith ms maps) (sym (rolled w.change b)) (each_found (OwesJob b id maps) (λ (k : JobInfo). nat_eq k.job f) jobs w h.news found (sym n) planned low);
  news = each_map (λ (k : JobInfo). (k.job ≡ f → ⊥) → is_live k.state ≡ true → k.table ≡ w.table → ⊥) (OwesJob (with_change w.change b) id maps) (changed_job f (finished_job at)) (λ k q. go k q (nat_eq k.job f) refl) jobs apart;
}
  where
    lives : (s : JobState) → is_planned s ≡ true → is_live s ≡ true
    lives job_state.Pending p = refl
    lives job_state.WaitingTxn p = refl
    lives job_state.Running p = refl
    lives job_state.Finished p = absurd (cc)
    lives job_state.Cancelled p = absurd (cc)

    go : (k : JobInfo) → ((k.job ≡ f → ⊥) → is_live k.state ≡ true → k.table ≡ w.table → ⊥) → (c : Bool) → nat_eq k.job f ≡ c → OwesJob (with_change w.change b) id maps (cond c (finished_job at k) k)
    go k q true e = λ i p l. absurd (cc)
    go k q false e = λ i p l. absurd (q (λ m. (let z : nat_eq k.job f ≡ true = grind (arith, nat_tests) in cc (z, e))) (lives k.state p) (i ∙ changed_number w.change b ∙ n))

pub finished_owed : (tables : List Table) (jobs : List JobInfo) (f at : ℕ) (w : JobInfo) (id : ℕ) (maps : List RowMap) (n : ℕ) → job_at f jobs ≡ Some w → is_planned w.state ≡ true → watershed_of w ≤ id → Each (λ (k : JobInfo). (k.job ≡ f → ⊥) → is_live k.state ≡ true → k.table ≡ w.table → ⊥) jobs → IfSome (table_at n tables) (Owed jobs id maps) → IfSome (table_at n (map (finished_in (job_at f jobs)) tables)) (Owed (map (changed_job f (finished_job at)) jobs) id maps)
finished_owed tables jobs f at w id maps n found planned low apart h =
    subst (λ (q : Option JobInfo). IfSome (table_at n (map (finished_in q) tables)) (Owed (map (changed_job f (finished_job at)) jobs) id maps)) (sym found)
    (subst (λ (o : Option Table). IfSome o (Owed (map (changed_job f (finished_job at)) jobs) id maps)) (sym (found_map (finished_in (Some w)) (finished_number (Some w)) n tables)) (go (table_at n tables) h))
  where
    here : (b : Table) (c : Bool) → nat_eq b.number w.table ≡ c → Owed jobs id maps b → Owed (map (changed_job f (finished_job at)) jobs) id maps (cond c (with_change w.change b) b)
    here b true e k = finish_owed jobs f at w id maps b found planned low apart (eq_is b.number w.table e) k
    here b false e k = owed_jobs (changed_job f (finished_job at)) jobs id maps b (always (λ (j : JobInfo). PlanKept j (changed_job f (finished_job at) j)) jobs (finished_plan f at)) k

    go : (o : Option Table) → IfSome o (Owed jobs id maps) → IfSome (option_map (finished_in (Some w)) o) (Owed (map (changed_job f (finished_job at)) jobs) id maps)
    go None k = tt
    go (Some b) k = here b (nat_eq b.number w.table) refl k

pub waiting_owed : (n watershed id : ℕ) (maps : List RowMap) (jobs : List JobInfo) (b : Table) → id < watershed → Owed jobs id maps b → Owed (map (changed_job n (waiting_job watershed)) jobs) id maps b
waiting_owed n watershed id maps jobs b lt h = record { rollups = h.rollups; news = each_map (OwesJob b id maps) (OwesJob b id maps) (changed_job n (waiting_job watershed)) (λ j k. elim (nat_eq j.job n) as (λ c. OwesJob b id maps (cond c (waiting_job watershed j) j)) [ true ↦ (λ i p w. absurd (omega (arith, w, lt))) | false ↦ k ]) jobs h.news }

pub low_of : (t : Txn) (id w : ℕ) → t.id ≡ id → t.state ≡ state.Prepare → (is_open t.state && nat_lt t.id w) ≡ false → w ≤ id
low_of t id w i p h = let k : nat_lt t.id w ≡ false = ap (λ (s : TxnState). is_open s && nat_lt t.id w) (sym p) ∙ h in grind (arith, nat_tests)

pub ended_low : (Es : List Event) (w : JobInfo) (f : ℕ) → Alters Es → job_at f (jobs_of Es) ≡ Some w → EndsNow Es w → has_open_below (watershed_of w) (txns_of Es) ≡ false
ended_low Es w f a found h = each_found (λ (x : JobInfo). is_running x.state ≡ true → has_open_below (watershed_of x) (txns_of Es) ≡ false) (λ (x : JobInfo). nat_eq x.job f) (jobs_of Es) w a.settled found h.runs

pub cover_on : (Es : List Event) (e : Event) (id : ℕ) (maps : List RowMap) → Good Es → Happens Es e → id ≤ last_begun Es → Covers Es id maps → Covers (e ∷ Es) id maps
cover_on Es (event.DbMade d) id maps g h b p = p
cover_on Es (event.TableMade m) id maps g h b p =
    let y = new_table m (last_table_of Es + 1) in
    each_imp (λ t. (t.table ≤ last_table_of Es) × IsOwed (tables_of Es) (jobs_of Es) id maps t) (IsOwed (tables_of Es ++ y ∷ []) (jobs_of Es) id maps) (λ t k i q. later t y refl k.0 (k.1 i q)) (txns_of Es) (each_both (λ t. t.table ≤ last_table_of Es) (IsOwed (tables_of Es) (jobs_of Es) id maps) (txns_of Es) g.tidy.used p)
  where
    later : (t : Txn) (y : Table) → y.number ≡ last_table_of Es + 1 → t.table ≤ last_table_of Es → IfSome (table_at t.table (tables_of Es)) (Owed (jobs_of Es) id maps) → IfSome (table_at t.table (tables_of Es ++ y ∷ [])) (Owed (jobs_of Es) id maps)
    later t y n u k = let e : nat_eq y.number t.table ≡ false = grind (arith, nat_tests) in subst (λ (o : Option Table). IfSome o (Owed (jobs_of Es) id maps)) (sym (made_apart t.table y (tables_of Es) e)) k
cover_on Es (event.RangeDrawn r) id maps g h b p = p
cover_on Es (event.TxnBegun x) id maps g h b p = each_snoc (IsOwed (tables_of Es) (jobs_of Es) id maps) (txns_of Es) (begun_txn x) p (λ i q. absurd (let f = h.fresh in omega (arith, f, b, i)))
cover_on Es (event.LoadSubmitted s) id maps g h b p =
    let y = submitted_txn s (db_of s.table (tables_of Es)) (places_of Es) in
    let f = spoiled_job s.cancelled s.txn s.at in
    let q = jobs_on (tables_of Es) f (jobs_of Es) id maps (txns_of Es) (always (λ (j : JobInfo). PlanKept j (f j)) (jobs_of Es) (spoiled_plan s.cancelled s.txn s.at)) p in
    each_put (IsOwed (tables_of Es) (map f (jobs_of Es)) id maps) y (txns_of Es) (each_imp (IsOwed (tables_of Es) (map f (jobs_of Es)) id maps) (λ u. (u.id ≡ s.txn → ⊥) → IsOwed (tables_of Es) (map f (jobs_of Es)) id maps u) (λ u k _. k) (txns_of Es) q) (λ i z. absurd (never s.two_phase z))
  where
    never : (c : Bool) → cond c state.Precommitted state.Committed ≡ state.Prepare → ⊥
    never true z = cc
    never false z = cc
cover_on Es (event.TxnAborted x) id maps g h b p = owed_mapped (tables_of Es) (jobs_of Es) id maps (changed x.txn (aborted_at x.at)) (txns_of Es) (changed_still x.txn (aborted_at x.at) (λ t q. (cc))) p
cover_on Es (event.LoadPublished x) id maps g h b p = owed_mapped (tables_of Es) (jobs_of Es) id maps (changed x.txn (visible_at x.at)) (txns_of Es) (changed_still x.txn (visible_at x.at) (λ t q. (cc))) p
cover_on Es (event.TxnEnded x) id maps g h b p = owed_mapped (tables_of Es) (jobs_of Es) id maps (changed x.txn (aborted_at x.at)) (txns_of Es) (changed_still x.txn (aborted_at x.at) (λ t q. (cc))) p
cover_on Es (event.PartAdded a) id maps g h b p = owed_on (tables_of Es) (map (part_added a) (tables_of Es)) (jobs_of Es) (jobs_of Es) id maps (txns_of Es) (part_owed a (tables_of Es) (jobs_of Es) id maps) p
cover_on Es (event.TableDropped d) id maps g h b p =
    let f = dropped_job d.table d.at in
    let us = filter (λ x. not (nat_eq x.number d.table)) (tables_of Es) in
    let q = jobs_on (tables_of Es) f (jobs_of Es) id maps (txns_of Es) (always (λ (j : JobInfo). PlanKept j (f j)) (jobs_of Es) (dropped_plan d.table d.at)) p in
    owed_mapped us (map f (jobs_of Es)) id maps (dropped d.table d.at) (txns_of Es) (dropped_still d.table d.at) (owed_on (tables_of Es) us (map f (jobs_of Es)) (map f (jobs_of Es)) id maps (txns_of Es) (less_owed d.table (tables_of Es) (map f (jobs_of Es)) id maps) q)
cover_on Es (event.LoadCommitted c) id maps g h b p =
    let f = spoiled_job c.cancelled c.txn c.at in
    let q = jobs_on (tables_of Es) f (jobs_of Es) id maps (txns_of Es) (always (λ (j : JobInfo). PlanKept j (f j)) (jobs_of Es) (spoiled_plan c.cancelled c.txn c.at)) p in
    owed_mapped (tables_of Es) (map f (jobs_of Es)) id maps (changed c.txn (committed_at (places_of Es + 1) c.at)) (txns_of Es) (changed_still c.txn (committed_at (places_of Es + 1) c.at) (λ t z. (cc))) q
cover_on Es (event.Swept s) id maps g h b p =
    let ks = filter (λ (j : JobInfo). not (is_job_over s.at j)) (jobs_of Es) in
    owed_swept (tables_of Es) ks id maps s.at (txns_of Es) (owed_on (tables_of Es) (tables_of Es) (jobs_of Es) ks id maps (txns_of Es) (λ n. if_imp (table_at n (tables_of Es)) (Owed (jobs_of Es) id maps) (Owed ks id maps) (λ x k. record { rollups = k.rollups; news = each_filter (OwesJob x id maps) (λ (j : JobInfo). not (is_job_over s.at j)) (jobs_of Es) k.news })) p)
cover_on Es (event.SweptUntold s) id maps g h b p = owed_swept (tables_of Es) (jobs_of Es) id maps s.at (txns_of Es) p
cover_on Es (event.Compacted c) id maps g h b p = p
cover_on Es (event.JobAdded x) id maps g h b p =
    let ks = jobs_of Es ++ added_job x ∷ [] in
    owed_on (tables_of Es) (tables_of Es) (jobs_of Es) ks id maps (txns_of Es) (λ n. if_imp (table_at n (tables_of Es)) (Owed (jobs_of Es) id maps) (Owed ks id maps) (λ y k. record { rollups = k.rollups; news = each_snoc (OwesJob y id maps) (jobs_of Es) (added_job x) k.news (λ i q w. absurd (cc)) })) p
cover_on Es (event.JobWaiting x) id maps g h b p =
    let lt : id < x.watershed = let f = h.2.fresh in omega (arith, f, b) in
    let ks = map (changed_job x.job (waiting_job x.watershed)) (jobs_of Es) in
    owed_on (tables_of Es) (tables_of Es) (jobs_of Es) ks id maps (txns_of Es) (λ n. if_imp (table_at n (tables_of Es)) (Owed (jobs_of Es) id maps) (Owed ks id maps) (λ y k. waiting_owed x.job x.watershed id maps (jobs_of Es) y lt k)) p
cover_on Es (event.WatershedDrawn x) id maps g h b p = p
cover_on Es (event.JobRan x) id maps g h b p =
    let waits = each_job (λ (j : JobInfo). j.state ≡ job_state.WaitingTxn) x.job (jobs_of Es) h.0 g.alters.numbers h.1 h.2.waits in
    jobs_on (tables_of Es) (changed_job x.job ran_job) (jobs_of Es) id maps (txns_of Es) (each_imp (λ (j : JobInfo). j.job ≡ x.job → j.state ≡ job_state.WaitingTxn) (λ (j : JobInfo). PlanKept j (changed_job x.job ran_job j)) (λ j k. plan_if x.job ran_job j (λ i. record { table = refl; change = refl; planned = λ q. (ap is_planned (k i), refl) })) (jobs_of Es) waits) p
cover_on Es (event.TaskTaken x) id maps g h b p = p
cover_on Es (event.TaskGiven x) id maps g h b p = p
cover_on Es (event.JobCancelled x) id maps g h b p = jobs_on (tables_of Es) (changed_job x.job (cancelled_job x.at x.cause)) (jobs_of Es) id maps (txns_of Es) (always (λ (j : JobInfo). PlanKept j (changed_job x.job (cancelled_job x.at x.cause) j)) (jobs_of Es) (cancelled_plan x.job x.at x.cause)) p
cover_on Es (event.JobFinished x) id maps g h b p =
    let w : JobInfo = h.0 in
    let apart = other_tables x.job (jobs_of Es) w g.alters.alone h.1 (live_ends Es w h.2) in
    let facts : (is_planned w.state ≡ true) × (has_open_below (watershed_of w) (txns_of Es) ≡ false) = elim h.2 [ inl k ↦ (running w.state k.runs, ended_low Es w x.job g.alters h.1 k) | inr k ↦ (ap is_planned k.waits, k.ended) ] in
    each_imp (λ t. IsOwed (tables_of Es) (jobs_of Es) id maps t × ((is_open t.state && nat_lt t.id (watershed_of w)) ≡ false)) (IsOwed (map (finished_in (job_at x.job (jobs_of Es))) (tables_of Es)) (map (changed_job x.job (finished_job x.at)) (jobs_of Es)) id maps)
    (λ t k i q. finished_owed (tables_of Es) (jobs_of Es) x.job x.at w id maps t.table h.1 facts.0 (low_of t id (watershed_of w) i q k.1) apart (k.0 i q)) (txns_of Es)
    (each_both (IsOwed (tables_of Es) (jobs_of Es) id maps) (λ t. (is_open t.state && nat_lt t.id (watershed_of w)) ≡ false) (txns_of Es) p (no_open (watershed_of w) (txns_of Es) facts.1))
  where
    running : (s : JobState) → is_running s ≡ true → is_planned s ≡ true
    running job_state.Running r = refl
    running job_state.Pending r = absurd (cc)
    running job_state.WaitingTxn r = absurd (cc)
    running job_state.Finished r = absurd (cc)
    running job_state.Cancelled r = absurd (cc)
cover_on Es event.Opened id maps g h b p =
    each_passed (IsOwed (tables_of Es) (map reopened_job (jobs_of Es)) id maps) (λ t. t.told) (txns_of Es) (each_imp (λ t. Tells t.state t.told) (λ t. t.told ≡ true → IsOwed (tables_of Es) (map reopened_job (jobs_of Es)) id maps t) (λ t k told i q. absurd (untold t.state t.told k q told)) (txns_of Es) g.tidy.tells)
  where
    untold : (s : TxnState) (c : Bool) → Tells s c → s ≡ state.Prepare → c ≡ true → ⊥
    untold state.Prepare c k q z = cc (k, z)
    untold state.Precommitted c k q z = cc
    untold state.Committed c k q z = cc
    untold state.Visible c k q z = cc
    untold state.Aborted c k q z = cc
