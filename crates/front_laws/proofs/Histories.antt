-- From histories to what happened.
use Rattle.std.proofs.Common.{◌≡◌, ℕ, ◌+◌, ◌<◌, ◌≤◌, Bool, true, false, cond, not, ◌&&◌, ◌||◌, List, [], ◌∷◌, ◌++◌, Option, Some, None, ◌⊎◌, inl, inr, refl, sym, ◌∙◌, ap, arith, subst}
use Rattle.std.proofs.lemmas.Bool.Decides.{nat_tests}
use Rattle.std.specs.Prelude.{nat_eq, nat_lt, map}
use Rattle.partitions.specs.LayoutFaults.{with_part}
use Rattle.partitions.specs.LayoutRules.{IsLayout}
use Rattle.labels.specs.declared.txn_state.TxnState.{TxnState}
use Rattle.labels.specs.declared.txn_state.TxnState.TheVariants as state
use Rattle.front_defs.specs.declared.event.Event.{Event}
use Rattle.front_defs.specs.declared.event.Event.TheVariants as event
use Rattle.front_defs.specs.declared.event.LoadSubmitted.{LoadSubmitted}
use Rattle.front_defs.specs.declared.catalogue.Table.{Table}
use Rattle.front_defs.specs.declared.txn.Txn.{Txn}
use Rattle.front_defs.specs.declared.command.Command.TheVariants as command
use Rattle.front_defs.specs.declared.history.Entry.{Entry}
use Rattle.front_defs.specs.declared.history.Entry.TheVariants.{Told, Made}
use Rattle.front_defs.specs.Ids.{range_of, next_of, next_after, range_after}
use Rattle.front_defs.specs.Catalogue.{table_at, db_in, tables_of}
use Rattle.front_defs.specs.Transactions.{is_aborted, txn_at, txns_of, due}
use Rattle.front_defs.specs.Stored.{AreRowsOf}
use Rattle.front_defs.specs.History.{effect, opening, happened}
use Rattle.alter_core.specs.declared.job.Cause.TheVariants as cause
use Rattle.alter_core.specs.declared.job.JobInfo.{JobInfo}
use Rattle.front_defs.specs.Jobs.{added_job, cancelled_job, changed_job, dropped_job, finished_job, is_job_over, is_live, is_live_of, is_running, job_at, jobs_of, running_job, spoiled_job, waiting_job}
use Rattle.front_defs.specs.Moves.{watershed_of}
use Rattle.front_defs.specs.Journal.{There, FollowsCommit, FollowsFinish, FollowsJob, FollowsLoad, FollowsWaiting, Follows, hinders, story, IsStory}
use Rattle.front_defs.specs.Legal.{Legal, IsAllTold}
use Rattle.front_laws.specs.Tidy.{last_begun, AllFrom, Each, LabelFits, Happens, HappenAll, SubmitsNow}
use Rattle.front_laws.proofs.Lists.{each_imp, each_filter, each_map, each_snoc}
use Rattle.front_laws.proofs.Following.{any_none, or_false, key_held, match_is}
use Rattle.front_laws.proofs.Plans.{Good, good_one, good_on, empty_good, no_cause, Plans, opened_good, went, plans_call}

-- A told record that follows.
next_told : (e : Event) (Js : List Event) (r : ℕ) → Follows Js e → next_after e r (r + 1) ≡ range_after e r + 1
next_told (event.DbMade d) Js r h = refl
next_told (event.TableMade m) Js r h = refl
next_told (event.RangeDrawn x) Js r h = refl
next_told (event.TxnBegun b) Js r h = absurd h
next_told (event.LoadSubmitted s) Js r h = refl
next_told (event.TxnAborted a) Js r h = refl
next_told (event.LoadPublished p) Js r h = refl
next_told (event.PartAdded a) Js r h = refl
next_told (event.TableDropped d) Js r h = refl
next_told (event.LoadCommitted c) Js r h = refl
next_told (event.Swept s) Js r h = refl
next_told (event.SweptUntold s) Js r h = absurd h
next_told (event.TxnEnded x) Js r h = absurd h
next_told (event.Compacted c) Js r h = absurd h
next_told (event.JobAdded x) Js r h = refl
next_told (event.JobWaiting x) Js r h = refl
next_told (event.WatershedDrawn x) Js r h = absurd h
next_told (event.JobRan x) Js r h = absurd h
next_told (event.TaskTaken x) Js r h = absurd h
next_told (event.TaskGiven x) Js r h = absurd h
next_told (event.JobFinished x) Js r h = refl
next_told (event.JobCancelled x) Js r h = refl
next_told event.Opened Js r h = absurd h

next_is : (H : List Entry) → IsAllTold H → Legal H → next_of (happened H) ≡ range_of (happened H) + 1
next_is [] a l = refl
next_is (Told e ∷ H) a l = ap (next_after e (range_of (happened H))) (next_is H a l.2) ∙ next_told e (happened H) (range_of (happened H)) l.0
next_is (Made c ∷ H) a l = absurd a

-- In a history of told records no job runs.
abbrev NoneRuns : List JobInfo → Type 0
NoneRuns js = Each (λ (j : JobInfo). is_running j.state ≡ false) js

none_changed : (n : ℕ) (f : JobInfo → JobInfo) (k : (j : JobInfo) → is_running (f j).state ≡ false) (js : List JobInfo) → NoneRuns js → NoneRuns (map (changed_job n f) js)
none_changed n f k js e = each_map (λ (j : JobInfo). is_running j.state ≡ false) (λ (j : JobInfo). is_running j.state ≡ false) (changed_job n f) (λ j h. elim (nat_eq j.job n) as (λ b. is_running (cond b (f j) j).state ≡ false) [ true ↦ k j | false ↦ h ]) js e

none_spoiled : (o : Option ℕ) (txn at : ℕ) (js : List JobInfo) → NoneRuns js → NoneRuns (map (spoiled_job o txn at) js)
none_spoiled None txn at js e = each_map (λ (j : JobInfo). is_running j.state ≡ false) (λ (j : JobInfo). is_running j.state ≡ false) (spoiled_job None txn at) (λ j h. h) js e
none_spoiled (Some n) txn at js e = none_changed n (cancelled_job at (cause.Load txn)) (λ j. refl) js e

none_dropped : (table at : ℕ) (js : List JobInfo) → NoneRuns js → NoneRuns (map (dropped_job table at) js)
none_dropped table at js e = each_map (λ (j : JobInfo). is_running j.state ≡ false) (λ (j : JobInfo). is_running j.state ≡ false) (dropped_job table at) (λ j h. elim (is_live_of table j) as (λ b. is_running (cond b (cancelled_job at cause.Drop j) j).state ≡ false) [ true ↦ refl | false ↦ h ]) js e

none_told : (e : Event) (Js : List Event) → Follows Js e → NoneRuns (jobs_of Js) → NoneRuns (jobs_of (e ∷ Js))
none_told (event.DbMade d) Js h n = n
none_told (event.TableMade m) Js h n = n
none_told (event.RangeDrawn x) Js h n = n
none_told (event.TxnBegun b) Js h n = n
none_told (event.LoadSubmitted s) Js h n = none_spoiled s.cancelled s.txn s.at (jobs_of Js) n
none_told (event.TxnAborted a) Js h n = n
none_told (event.LoadPublished p) Js h n = n
none_told (event.PartAdded a) Js h n = n
none_told (event.TableDropped d) Js h n = none_dropped d.table d.at (jobs_of Js) n
none_told (event.LoadCommitted c) Js h n = none_spoiled c.cancelled c.txn c.at (jobs_of Js) n
none_told (event.Swept s) Js h n = each_filter (λ (j : JobInfo). is_running j.state ≡ false) (λ (j : JobInfo). not (is_job_over s.at j)) (jobs_of Js) n
none_told (event.SweptUntold s) Js h n = n
none_told (event.TxnEnded x) Js h n = n
none_told (event.Compacted c) Js h n = n
none_told (event.JobAdded x) Js h n = each_snoc (λ (j : JobInfo). is_running j.state ≡ false) (jobs_of Js) (added_job x) n refl
none_told (event.JobWaiting x) Js h n = none_changed x.job (waiting_job x.watershed) (λ j. refl) (jobs_of Js) n
none_told (event.WatershedDrawn x) Js h n = n
none_told (event.JobRan x) Js h n = absurd h
none_told (event.TaskTaken x) Js h n = n
none_told (event.TaskGiven x) Js h n = n
none_told (event.JobFinished x) Js h n = none_changed x.job (finished_job x.at) (λ j. refl) (jobs_of Js) n
none_told (event.JobCancelled x) Js h n = none_changed x.job (cancelled_job x.at x.cause) (λ j. refl) (jobs_of Js) n
none_told event.Opened Js h n = absurd h

none_runs : (H : List Entry) → IsAllTold H → Legal H → NoneRuns (jobs_of (happened H))
none_runs [] a l = tt
none_runs (Told e ∷ H) a l = none_told e (happened H) l.0 (none_runs H a l.2)
none_runs (Made c ∷ H) a l = absurd a

none_from : (id : ℕ) (js : List JobInfo) → NoneRuns js → AllFrom id js
none_from id js n = each_imp (λ (j : JobInfo). is_running j.state ≡ false) (λ (j : JobInfo). is_running j.state ≡ true → watershed_of j ≤ id) (λ j h r. absurd (cc (h, r))) js n

none_running : (table : ℕ) (js : List JobInfo) → NoneRuns js → running_job table js ≡ None
none_running table [] n = refl
none_running table (j ∷ js) n = go (nat_eq j.table table) (is_running j.state) n.0 (none_running table js n.1)
  where
    go : (a b : Bool) → b ≡ false → running_job table js ≡ None → cond (a && b) (Some j) (running_job table js) ≡ None
    go true true e k = absurd (cc)
    go true false e k = k
    go false b e k = k

aborted_is : (s : TxnState) → not (is_aborted s) ≡ false → s ≡ state.Aborted
aborted_is state.Aborted h = refl
aborted_is state.Prepare h = absurd (cc)
aborted_is state.Precommitted h = absurd (cc)
aborted_is state.Visible h = absurd (cc)
aborted_is state.Committed h = absurd (cc)

not_below : (id : ℕ) (u : Txn) (b : Bool) → nat_eq u.id id ≡ b → nat_lt id u.id ≡ false → u.state ≡ state.Aborted → (u.id ≡ id) ⊎ ((u.id < id) × (u.state ≡ state.Aborted))
not_below id u true e lt s = inl (let z : u.id ≡ id = grind (arith, nat_tests) in z)
not_below id u false e lt s = inr (let z : u.id < id = grind (arith, nat_tests) in z, s)

told_fits : (id : ℕ) (db label : List ℕ) (u : Txn) → hinders id db label u ≡ false → LabelFits id (db, label) u
told_fits id db label u h e =
    let k : (nat_lt id u.id || not (is_aborted u.state)) ≡ false = ap (λ (b : Bool). b && (nat_lt id u.id || not (is_aborted u.state))) (sym (key_held db label u e)) ∙ h in
    let p = or_false (nat_lt id u.id) (not (is_aborted u.state)) k in
    not_below id u (nat_eq u.id id) refl p.0 (aborted_is u.state p.1)

told_submits : (Es : List Event) (s : LoadSubmitted) (o : Option Table) → next_of Es ≡ range_of Es + 1 → NoneRuns (jobs_of Es) → table_at s.table (tables_of Es) ≡ o → There o (FollowsLoad Es s) → SubmitsNow Es s
told_submits Es s None n q is h = absurd h
told_submits Es s (Some b) n q is h = record {
  first = h.from;
  from = none_from s.txn (jobs_of Es) q;
  cancels = record { lives = h.cancels; spoils = inl (none_running s.table (jobs_of Es) q) };
  below = let k = h.within in omega (arith, k, n);
  new = h.new;
  home = match_is (table_at s.table (tables_of Es)) b (λ b. (b.schema ≡ s.schema) × AreRowsOf b.shape b.layout s.rows) is (sym h.schema, h.rows);
  label = h.label;
  fits = subst (λ (o : Option Table). Each (LabelFits s.txn (db_in o, s.label)) (txns_of Es)) (sym is) (each_imp (λ u. hinders s.txn b.db s.label u ≡ false) (LabelFits s.txn (b.db, s.label)) (told_fits s.txn b.db s.label) (txns_of Es) (any_none (hinders s.txn b.db s.label) (txns_of Es) h.free));
}

pub kept_of : {X : Type 0} (o : Option X) (P : X → Type 0) → There o P → (w : X) × (o ≡ Some w) × P w
kept_of None P h = absurd h
kept_of (Some w) P h = (w, refl, h)

none_begun_told : (e : Event) (Js : List Event) → Follows Js e → last_begun Js ≡ 0 → last_begun (e ∷ Js) ≡ 0
none_begun_told (event.TxnBegun b) Js h z = absurd h
none_begun_told (event.DbMade x) Js h z = z
none_begun_told (event.TableMade x) Js h z = z
none_begun_told (event.RangeDrawn x) Js h z = z
none_begun_told (event.LoadSubmitted x) Js h z = z
none_begun_told (event.TxnAborted x) Js h z = z
none_begun_told (event.LoadPublished x) Js h z = z
none_begun_told (event.PartAdded x) Js h z = z
none_begun_told (event.TableDropped x) Js h z = z
none_begun_told (event.LoadCommitted x) Js h z = z
none_begun_told (event.Swept x) Js h z = z
none_begun_told (event.SweptUntold x) Js h z = z
none_begun_told (event.Compacted x) Js h z = z
none_begun_told (event.TxnEnded x) Js h z = z
none_begun_told (event.JobAdded x) Js h z = z
none_begun_told (event.JobWaiting x) Js h z = z
none_begun_told (event.WatershedDrawn x) Js h z = z
none_begun_told (event.JobRan x) Js h z = z
none_begun_told (event.TaskTaken x) Js h z = z
none_begun_told (event.TaskGiven x) Js h z = z
none_begun_told (event.JobFinished x) Js h z = z
none_begun_told (event.JobCancelled x) Js h z = z
none_begun_told event.Opened Js h z = z

none_begun : (H : List Entry) → IsAllTold H → Legal H → last_begun (happened H) ≡ 0
none_begun [] a l = refl
none_begun (Told e ∷ H) a l = none_begun_told e (happened H) l.0 (none_begun H a l.2)
none_begun (Made c ∷ H) a l = absurd a

pub follows_happens : (Es : List Event) (e : Event) → next_of Es ≡ range_of Es + 1 → NoneRuns (jobs_of Es) → last_begun Es ≡ 0 → Follows Es e → Happens Es e
follows_happens Es (event.DbMade d) n q z h = h
follows_happens Es (event.TableMade m) n q z h = h
follows_happens Es (event.RangeDrawn r) n q z h = h
follows_happens Es (event.TxnBegun b) n q z h = absurd h
follows_happens Es (event.LoadSubmitted s) n q z h = told_submits Es s (table_at s.table (tables_of Es)) n q refl h
follows_happens Es (event.TxnAborted a) n q z h = kept_of (txn_at a.txn (txns_of Es)) (λ w. w.state ≡ state.Precommitted) h
follows_happens Es (event.LoadPublished p) n q z h = kept_of (due (txns_of Es)) (λ w. w.id ≡ p.txn) h
follows_happens Es (event.PartAdded a) n q z h = (h.0, kept_of (table_at a.table (tables_of Es)) (λ t. IsLayout t.shape (with_part a.part t.layout)) h.1)
follows_happens Es (event.TableDropped d) n q z h = let k = kept_of (table_at d.table (tables_of Es)) (λ t. Unit {0}) h in (k.0, k.1)
follows_happens Es (event.LoadCommitted c) n q z h = let k = kept_of (txn_at c.txn (txns_of Es)) (FollowsCommit Es c.cancelled) h in (k.0, k.1, (k.2.waits, record { lives = k.2.cancels; spoils = inl (none_running (k.0).table (jobs_of Es) q) }))
follows_happens Es (event.Swept s) n q z h = h
follows_happens Es (event.SweptUntold s) n q z h = absurd h
follows_happens Es (event.TxnEnded x) n q z h = absurd h
follows_happens Es (event.Compacted c) n q z h = absurd h
follows_happens Es event.Opened n q z h = absurd h
follows_happens Es (event.JobAdded x) n q z h = kept_of (table_at x.table (tables_of Es)) (FollowsJob Es x) h
follows_happens Es (event.JobWaiting x) n q z h = let k = kept_of (job_at x.job (jobs_of Es)) (FollowsWaiting Es x) h in (k.0, k.1, record { fresh = let f = k.2.first in omega (arith, f, z); pending = k.2.pending; within = k.2.within; above = k.2.above; upto = k.2.upto })
follows_happens Es (event.WatershedDrawn x) n q z h = absurd h
follows_happens Es (event.JobRan x) n q z h = absurd h
follows_happens Es (event.TaskTaken x) n q z h = absurd h
follows_happens Es (event.TaskGiven x) n q z h = absurd h
follows_happens Es (event.JobFinished x) n q z h = let k = kept_of (job_at x.job (jobs_of Es)) (FollowsFinish Es) h in (k.0, k.1, inr k.2)
follows_happens Es (event.JobCancelled x) n q z h = kept_of (job_at x.job (jobs_of Es)) (λ (j : JobInfo). is_live j.state ≡ true) h

-- What holds of every legal history.
pub record Kept (H : List Entry) : Type 0 where
  pub good : Good (happened H)
  pub plans : Plans H

pub kept : (H : List Entry) → Legal H → Kept H
kept [] l = record { good = empty_good; plans = λ txn built at h. absurd h }
kept (Told e ∷ H) l = record { good = good_one e (happened H) (follows_happens (happened H) e (next_is H l.1 l.2) (none_runs H l.1 l.2) (none_begun H l.1 l.2) l.0) (kept H l.2).good; plans = λ txn built at h. absurd (no_cause (command.Submit txn built at) H l.1 h) }
kept (Made c ∷ H) l =
    let k = kept H l.1 in
    let Es = opening c.opened (happened H) in
    record { good = good_on (effect Es c.command c.reply c.took) Es (went c H l.0 k.good k.plans) (opened_good c.opened (happened H) k.good); plans = plans_call c H l.0 k.good k.plans }

-- A law of events is one of legal histories: what holds at first and goes on to hold with each event that happens, holds.
pub holds_on : (P : List Event → Type 0) (step : (e : Event) (Es : List Event) → Good Es → Happens Es e → P Es → P (e ∷ Es)) (new Es : List Event) → HappenAll new Es → Good Es → P Es → P (new ++ Es)
holds_on P step [] Es h g p = p
holds_on P step (e ∷ new) Es h g p = step e (new ++ Es) (good_on new Es h.2 g) h.0 (holds_on P step new Es h.2 g p)

opened_holds : (P : List Event → Type 0) (step : (e : Event) (Es : List Event) → Good Es → Happens Es e → P Es → P (e ∷ Es)) (opened : Bool) (Es : List Event) → Good Es → P Es → P (opening opened Es)
opened_holds P step true Es g p = step event.Opened Es g tt p
opened_holds P step false Es g p = p

pub always_holds : (P : List Event → Type 0) (first : P []) (step : (e : Event) (Es : List Event) → Good Es → Happens Es e → P Es → P (e ∷ Es)) (H : List Entry) → Legal H → P (happened H)
always_holds P first step [] l = first
always_holds P first step (Told e ∷ H) l = step e (happened H) (kept H l.2).good (follows_happens (happened H) e (next_is H l.1 l.2) (none_runs H l.1 l.2) (none_begun H l.1 l.2) l.0) (always_holds P first step H l.2)
always_holds P first step (Made c ∷ H) l =
    let k = kept H l.1 in
    let Es = opening c.opened (happened H) in
    holds_on P step (effect Es c.command c.reply c.took) Es (went c H l.0 k.good k.plans) (opened_good c.opened (happened H) k.good) (opened_holds P step c.opened (happened H) k.good (always_holds P first step H l.1))

pub story_happened : (Js : List Event) → happened (story Js) ≡ Js
story_happened [] = refl
story_happened (e ∷ Js) = ap (λ (l : List Event). e ∷ l) (story_happened Js)

-- A story is legal.
all_told : (Es : List Event) → IsAllTold (story Es)
all_told [] = tt
all_told (e ∷ Es) = all_told Es

pub stories_legal : (Es : List Event) → IsStory Es → Legal (story Es)
stories_legal [] h = tt
stories_legal (e ∷ Es) h = (subst (λ (Js : List Event). Follows Js e) (sym (story_happened Es)) h.0, all_told Es, stories_legal Es h.1)
