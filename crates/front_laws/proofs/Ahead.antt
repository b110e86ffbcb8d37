-- While a job runs, the lists of the loads since have versions above the fixed one.
use Rattle.std.proofs.Common.{◌≡◌, ℕ, ◌+◌, Bool, true, false, cond, not, ◌&&◌, List, [], ◌∷◌, ◌++◌, Option, Some, None, map, refl, sym, ◌∙◌, ap, arith, subst}
use Rattle.std.proofs.lemmas.Bool.Decides.{nat_tests}
use Rattle.std.specs.Prelude.{nat_eq, nat_lt}
use Rattle.dl_values.specs.declared.cell.Cell.{Cell}
use Rattle.partitions.specs.Places.{Place}
use Rattle.alter_core.specs.declared.job.Cause.TheVariants as cause
use Rattle.alter_core.specs.declared.job.JobInfo.{JobInfo}
use Rattle.alter_core.specs.declared.job.JobState.{JobState}
use Rattle.alter_core.specs.declared.job.JobState.TheVariants as job_state
use Rattle.front_defs.specs.declared.event.Event.{Event}
use Rattle.front_defs.specs.declared.event.Event.TheVariants as event
use Rattle.front_defs.specs.declared.catalogue.Table.{Table}
use Rattle.front_defs.specs.declared.history.Entry.{Entry}
use Rattle.front_defs.specs.Catalogue.{table_at, tables_of}
use Rattle.front_defs.specs.Transactions.{txn_at, txns_of}
use Rattle.front_defs.specs.Indexes.{Index, new_index}
use Rattle.front_defs.specs.Jobs.{added_job, cancelled_job, changed_job, dropped_job, finished_job, is_job_over, is_live, is_running, job_at, jobs_of, ran_job, reopened_job, running_job, spoiled_job, waiting_job}
use Rattle.front_defs.specs.Stored.{StoredList, brought, fixed_of, list_at, lists_in, since_of, since_with, started, touches, touches_in, version_of}
use Rattle.front_defs.specs.History.{happened}
use Rattle.front_defs.specs.Legal.{Legal}
use Rattle.front_laws.specs.Tidy.{Each, Happens}
use Rattle.front_laws.specs.Laws.{Ahead, IsAhead, RunsAhead}
use Rattle.front_laws.proofs.Lists.{each_both, each_filter, each_imp, each_map, each_snoc, eq_is}
use Rattle.front_laws.proofs.Following.{each_job}
use Rattle.front_laws.proofs.Commuting.{never_runs}
use Rattle.front_laws.proofs.Histories.{always_holds}
use Rattle.front_laws.proofs.Plans.{Good}

-- a version that rises keeps what is below it
ahead_rises : (fixed v : ℕ) (lists : List StoredList) → Ahead fixed lists v → Ahead fixed lists (v + 1)
ahead_rises fixed v lists h = record { kept = let k = h.kept in omega (arith, k); since = each_imp (IsAhead fixed v) (IsAhead fixed (v + 1)) (λ l k. record { above = k.above; rising = k.rising; within = let z = k.within in omega (arith, z) }) lists h.since }

-- a load adds a list of the next version, where it raises it
ahead_adds : (fixed v : ℕ) (t : Table) (x : Index) (w : Place) (rows : List (List Cell)) (lists : List StoredList) → Ahead fixed lists v → Ahead fixed (lists ++ list_at t x w (v + 1) rows ∷ []) (v + 1)
ahead_adds fixed v t x w rows lists h =
    let r = ahead_rises fixed v lists h in
    record { kept = r.kept; since = each_snoc (IsAhead fixed (v + 1)) lists (list_at t x w (v + 1) rows) r.since (record { above = let k = h.kept in omega (arith, k); rising = omega arith; within = omega arith }) }

ahead_in : (fixed v : ℕ) (o : Option Index) (t : Table) (w : Place) (rows : List (List Cell)) (lists : List StoredList) → Ahead fixed lists v → Ahead fixed (lists_in o t w (v + 1) rows lists) (v + 1)
ahead_in fixed v None t w rows lists h = ahead_rises fixed v lists h
ahead_in fixed v (Some x) t w rows lists h = ahead_adds fixed v t x w rows lists h

ahead_to : (fixed v : ℕ) (o : Option Index) (t : Table) (w : Place) (rows : List (List Cell)) (lists : List StoredList) (a b : Bool) → Ahead fixed lists v → Ahead fixed (cond (a && b) (lists_in o t w (v + 1) rows lists) lists) (cond a (v + 1) v)
ahead_to fixed v o t w rows lists true true h = ahead_in fixed v o t w rows lists h
ahead_to fixed v o t w rows lists true false h = ahead_rises fixed v lists h
ahead_to fixed v o t w rows lists false b h = h

ahead_raised : (fixed v : ℕ) (lists : List StoredList) (a : Bool) → Ahead fixed lists v → Ahead fixed lists (cond a (v + 1) v)
ahead_raised fixed v lists true h = ahead_rises fixed v lists h
ahead_raised fixed v lists false h = h

ahead_with : (fixed v : ℕ) (o : Option Table) (r : Option JobInfo) (index : ℕ) (w : Place) (rows : List (List Cell)) (lists : List StoredList) → Ahead fixed lists v → Ahead fixed (since_with o r index w (v + 1) lists rows) (cond (touches_in o w.part rows) (v + 1) v)
ahead_with fixed v None r index w rows lists h = h
ahead_with fixed v (Some t) None index w rows lists h = ahead_raised fixed v lists (touches t w.part rows) h
ahead_with fixed v (Some t) (Some j) index w rows lists h = ahead_to fixed v (new_index j.change t index) t w rows lists (touches t w.part rows) (nat_lt w.bucket t.layout.buckets) h

-- what holds of a table, and of a job that runs
abbrev AheadOf : List Event → ℕ → Type 0
AheadOf Es table = (index : ℕ) (w : Place) → Ahead (fixed_of Es table w.part) (since_of Es table index w) (version_of Es table w.part)

-- a change of a job that keeps its table, and makes none run
record RunStays (j k : JobInfo) : Type 0 where
  table : k.table ≡ j.table
  runs : is_running k.state ≡ true → is_running j.state ≡ true

stays_at : (number : ℕ) (f : JobInfo → JobInfo) (j : JobInfo) → RunStays j (f j) → RunStays j (changed_job number f j)
stays_at number f j k = go (nat_eq j.job number)
  where
    go : (b : Bool) → RunStays j (cond b (f j) j)
    go true = k
    go false = record { table = refl; runs = λ h. h }

spoiled_stays : (o : Option ℕ) (txn at : ℕ) (j : JobInfo) → RunStays j (spoiled_job o txn at j)
spoiled_stays None txn at j = record { table = refl; runs = λ h. h }
spoiled_stays (Some n) txn at j = stays_at n (cancelled_job at (cause.Load txn)) j (record { table = refl; runs = λ h. absurd (cc) })

mapped_ahead : (Es : List Event) (f : JobInfo → JobInfo) (js : List JobInfo) → ((j : JobInfo) → RunStays j (f j)) → Each (RunsAhead Es) js → Each (RunsAhead Es) (map f js)
mapped_ahead Es f js k e = each_map (RunsAhead Es) (RunsAhead Es) f (λ j h. go j h (k j)) js e
  where
    go : (j : JobInfo) → RunsAhead Es j → RunStays j (f j) → RunsAhead Es (f j)
    go j h q = λ r. subst (AheadOf Es) (sym q.table) (h (q.runs r))

-- a job that goes to run begins with nothing, and others stay as they are
started_ahead : (b : Bool) (version fixed : ℕ) (since : List StoredList) → (b ≡ false → Ahead fixed since version) → Ahead (cond b version fixed) (cond b [] since) version
started_ahead true version fixed since h = record { kept = omega arith; since = tt }
started_ahead false version fixed since h = h refl

ran_ahead : (Es : List Event) (number : ℕ) (w j : JobInfo) → job_at number (jobs_of Es) ≡ Some w → (j.job ≡ number → j ≡ w) → RunsAhead Es j → RunsAhead (event.JobRan (record { job = number }) ∷ Es) (changed_job number ran_job j)
ran_ahead Es number w j f same h =
    subst (λ (o : Option JobInfo). is_running (changed_job number ran_job j).state ≡ true → (index : ℕ) (v : Place) → Ahead (started o (changed_job number ran_job j).table (version_of Es (changed_job number ran_job j).table v.part) (fixed_of Es (changed_job number ran_job j).table v.part)) (started o (changed_job number ran_job j).table [] (since_of Es (changed_job number ran_job j).table index v)) (version_of Es (changed_job number ran_job j).table v.part)) (sym f)
    (go (nat_eq j.job number) refl)
  where
    self : (n : ℕ) → nat_eq n n ≡ true
    self n = grind (arith, nat_tests)

    go : (b : Bool) → nat_eq j.job number ≡ b → is_running (cond b (ran_job j) j).state ≡ true → (index : ℕ) (v : Place)
        → Ahead (started (Some w) (cond b (ran_job j) j).table (version_of Es (cond b (ran_job j) j).table v.part) (fixed_of Es (cond b (ran_job j) j).table v.part)) (started (Some w) (cond b (ran_job j) j).table [] (since_of Es (cond b (ran_job j) j).table index v)) (version_of Es (cond b (ran_job j) j).table v.part)
    go true e run index v =
        let i : nat_eq w.table j.table ≡ true = ap (λ (x : JobInfo). nat_eq x.table j.table) (sym (same (eq_is j.job number e))) ∙ self j.table in
        started_ahead (nat_eq w.table j.table) (version_of Es j.table v.part) (fixed_of Es j.table v.part) (since_of Es j.table index v) (λ n. absurd (cc (i, n)))
    go false e run index v = started_ahead (nat_eq w.table j.table) (version_of Es j.table v.part) (fixed_of Es j.table v.part) (since_of Es j.table index v) (λ n. h run index v)

-- a job of a dropped table does not run any more
dropped_ahead : (Es : List Event) (table at : ℕ) (j : JobInfo) → RunsAhead Es j → is_running (dropped_job table at j).state ≡ true → (index : ℕ) (w : Place) → Ahead (fixed_of Es (dropped_job table at j).table w.part) (since_of Es (dropped_job table at j).table index w) (cond (nat_eq table (dropped_job table at j).table) 1 (version_of Es (dropped_job table at j).table w.part))
dropped_ahead Es table at j h = go (nat_eq j.table table) refl (is_live j.state) refl
  where
    lives : (s : JobState) → is_running s ≡ true → is_live s ≡ true
    lives job_state.Running k = refl
    lives job_state.Pending k = refl
    lives job_state.WaitingTxn k = refl
    lives job_state.Finished k = absurd (cc)
    lives job_state.Cancelled k = absurd (cc)

    apart : nat_eq j.table table ≡ false → nat_eq table j.table ≡ false
    apart e = grind (arith, nat_tests)

    go : (a : Bool) → nat_eq j.table table ≡ a → (b : Bool) → is_live j.state ≡ b → is_running (cond (a && b) (cancelled_job at cause.Drop j) j).state ≡ true → (index : ℕ) (w : Place) → Ahead (fixed_of Es (cond (a && b) (cancelled_job at cause.Drop j) j).table w.part) (since_of Es (cond (a && b) (cancelled_job at cause.Drop j) j).table index w) (cond (nat_eq table (cond (a && b) (cancelled_job at cause.Drop j) j).table) 1 (version_of Es (cond (a && b) (cancelled_job at cause.Drop j) j).table w.part))
    go true e true l r index w = absurd (cc)
    go true e false l r index w = absurd (let z = lives j.state r in cc (z, l))
    go false e b l r index w = rw (apart e) (h r index w)

pub ahead_step : (e : Event) (Es : List Event) → Happens Es e → Good Es → Each (RunsAhead Es) (jobs_of Es) → Each (RunsAhead (e ∷ Es)) (jobs_of (e ∷ Es))
ahead_step (event.DbMade d) Es h g p = p
ahead_step (event.TableMade m) Es h g p = p
ahead_step (event.RangeDrawn r) Es h g p = p
ahead_step (event.TxnBegun b) Es h g p = p
ahead_step (event.LoadSubmitted s) Es h g p = mapped_ahead Es (spoiled_job s.cancelled s.txn s.at) (jobs_of Es) (spoiled_stays s.cancelled s.txn s.at) p
ahead_step (event.TxnAborted a) Es h g p = p
ahead_step (event.LoadPublished x) Es h g p =
    each_imp (RunsAhead Es) (RunsAhead (event.LoadPublished x ∷ Es)) (λ j k r index w. ahead_with (fixed_of Es j.table w.part) (version_of Es j.table w.part) (table_at j.table (tables_of Es)) (running_job j.table (jobs_of Es)) index w (brought j.table (txn_at x.txn (txns_of Es))) (since_of Es j.table index w) (k r index w)) (jobs_of Es) p
ahead_step (event.PartAdded a) Es h g p = p
ahead_step (event.TableDropped d) Es h g p = each_map (RunsAhead Es) (RunsAhead (event.TableDropped d ∷ Es)) (dropped_job d.table d.at) (λ j k. dropped_ahead Es d.table d.at j k) (jobs_of Es) p
ahead_step (event.LoadCommitted c) Es h g p = mapped_ahead Es (spoiled_job c.cancelled c.txn c.at) (jobs_of Es) (spoiled_stays c.cancelled c.txn c.at) p
ahead_step (event.Swept x) Es h g p = each_filter (RunsAhead Es) (λ (j : JobInfo). not (is_job_over x.at j)) (jobs_of Es) p
ahead_step (event.SweptUntold x) Es h g p = p
ahead_step (event.Compacted c) Es h g p = p
ahead_step (event.JobAdded x) Es h g p = each_snoc (RunsAhead Es) (jobs_of Es) (added_job x) p (λ r. absurd (cc))
ahead_step (event.JobWaiting x) Es h g p = mapped_ahead Es (changed_job x.job (waiting_job x.watershed)) (jobs_of Es) (λ j. stays_at x.job (waiting_job x.watershed) j (record { table = refl; runs = λ r. absurd (cc) })) p
ahead_step (event.WatershedDrawn x) Es h g p = p
ahead_step (event.JobRan x) Es h g p =
    let w : JobInfo = h.0 in
    each_map (λ (j : JobInfo). RunsAhead Es j × (j.job ≡ x.job → j ≡ w)) (RunsAhead (event.JobRan x ∷ Es)) (changed_job x.job ran_job) (λ j k. ran_ahead Es x.job w j h.1 k.1 k.0) (jobs_of Es)
    (each_both (RunsAhead Es) (λ (j : JobInfo). j.job ≡ x.job → j ≡ w) (jobs_of Es) p (each_job (λ (j : JobInfo). j ≡ w) x.job (jobs_of Es) w g.alters.numbers h.1 refl))
ahead_step (event.TaskTaken x) Es h g p = p
ahead_step (event.TaskGiven x) Es h g p = p
ahead_step (event.JobFinished x) Es h g p = mapped_ahead Es (changed_job x.job (finished_job x.at)) (jobs_of Es) (λ j. stays_at x.job (finished_job x.at) j (record { table = refl; runs = λ r. absurd (cc) })) p
ahead_step (event.JobCancelled x) Es h g p = mapped_ahead Es (changed_job x.job (cancelled_job x.at x.cause)) (jobs_of Es) (λ j. stays_at x.job (cancelled_job x.at x.cause) j (record { table = refl; runs = λ r. absurd (cc) })) p
ahead_step (event.TxnEnded x) Es h g p = p
ahead_step event.Opened Es h g p = each_map (RunsAhead Es) (RunsAhead (event.Opened ∷ Es)) reopened_job (λ j k r. absurd (let z = never_runs j.state in cc (z, r))) (jobs_of Es) p

pub always_ahead : (H : List Entry) → Legal H → Each (RunsAhead (happened H)) (jobs_of (happened H))
always_ahead H l = always_holds (λ Es. Each (RunsAhead Es) (jobs_of Es)) tt (λ e Es g h p. ahead_step e Es h g p) H l
