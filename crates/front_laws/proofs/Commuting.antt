-- What an event does before an opening and after it, and what an opening makes of transactions and jobs.
use Rattle.std.proofs.Common.{◌≡◌, ℕ, ◌+◌, Bool, true, false, cond, not, ◌&&◌, List, [], ◌∷◌, ◌++◌, Option, Some, IfSome, map, None, refl, sym, ◌∙◌, ap, arith, subst}
use Rattle.std.specs.Prelude.{filter, nat_eq, nat_lt, nat_le}
use Rattle.dl_values.specs.declared.cell.Cell.{Cell}
use Rattle.partitions.specs.Places.{Place}
use Rattle.front_defs.specs.declared.event.Event.{Event}
use Rattle.front_defs.specs.declared.event.Event.TheVariants as event
use Rattle.front_defs.specs.declared.catalogue.Table.{Table}
use Rattle.front_defs.specs.declared.txn.Txn.{Txn}
use Rattle.front_defs.specs.Ids.{range_after, range_of, next_after, next_of, told_ids_after, told_ids}
use Rattle.front_defs.specs.Catalogue.{finished_in, databases_after, databases_of, last_table_after, last_table_of, tables_after, tables_of, table_at}
use Rattle.front_defs.specs.Transactions.{places_after, places_of, txns_after, txns_of, txn_at, changed, put_txn}
use Rattle.front_defs.specs.Stored.{ended_lists, fixed_of, since_of, source_of, switched, switched_to, whole_list, StoredList, base_after, base_of, fresh_after, fresh_of, lists_after, lists_of, version_after, version_of}
use Rattle.std.proofs.lemmas.Bool.Decides.{nat_tests}
use Rattle.std.specs.Option.{option_map}
use Rattle.alter_core.specs.declared.job.Cause.TheVariants as cause
use Rattle.alter_core.specs.declared.job.JobInfo.{JobInfo}
use Rattle.alter_core.specs.declared.job.JobState.{JobState}
use Rattle.alter_core.specs.declared.job.JobState.TheVariants as job_state
use Rattle.front_defs.specs.declared.event.JobAdded.{JobAdded}
use Rattle.front_defs.specs.declared.event.JobWaiting.{JobWaiting}
use Rattle.front_defs.specs.declared.event.JobFinished.{JobFinished}
use Rattle.front_defs.specs.declared.event.JobCancelled.{JobCancelled}
use Rattle.front_defs.specs.Jobs.{added_job, cancelled_job, changed_job, dropped_job, finished_job, is_job_over, is_live, is_live_of, is_running, job_at, jobs_after, jobs_of, last_job_after, last_job_of, ran_job, reopened_job, spoiled_job, taken_of, tasks_after, waiting_job, waits_again}
use Rattle.front_defs.specs.Indexes.{Index, new_index}
use Rattle.front_defs.specs.Reports.{JobName, job_name_after, job_name_of}
use Rattle.front_defs.specs.Journal.{Agrees}
use Rattle.front_laws.specs.Tidy.{Each}
use Rattle.front_laws.proofs.Keeps.{filter_append, filter_filter, filter_map_same}

abbrev pub told : Txn → Bool
told t = t.told

-- An event that a record tells does the same before an opening and after it.
pub record Commutes (e : Event) (ts : List Txn) (js : List JobInfo) : Type 0 where
  pub next : (r : ℕ) → next_after e r (r + 1) ≡ range_after e r + 1
  pub txns : (tables : List Table) (last : ℕ) → filter told (txns_after e tables last ts) ≡ txns_after e tables last (filter told ts)
  pub jobs : map reopened_job (jobs_after e js) ≡ jobs_after e (map reopened_job js)
  pub tasks : (n : ℕ) → tasks_after e n [] ≡ []
  pub tables : (n : ℕ) (l : List Table) → tables_after e n js l ≡ tables_after e n (map reopened_job js) l
  pub base : (table : ℕ) (tables : List Table) (b : List (List Cell)) → base_after e table tables ts b ≡ base_after e table tables (filter told ts) b
  pub fresh : (table index : ℕ) (w : Place) (v : ℕ) (tables : List Table) (b : List (List Cell)) (l : List StoredList) → fresh_after e table index w v tables ts js b l ≡ fresh_after e table index w v tables (filter told ts) (map reopened_job js) b l
  pub same : (table index : ℕ) (w : Place) (v : ℕ) (tables : List Table) (us : List Txn) (b : List (List Cell)) (n : ℕ) (c : List (List Cell)) (g f l : List StoredList) → lists_after e table index w v tables us (map reopened_job js) b n c g f l ≡ fresh_after e table index w v tables us (map reopened_job js) b l
  pub versions : (table part : ℕ) (tables : List Table) (v : ℕ) → version_after e table part tables ts v ≡ version_after e table part tables (filter told ts) v

-- An event that leaves no record is nothing after an opening.
pub record Vanishes (e : Event) (ts : List Txn) (js : List JobInfo) : Type 0 where
  pub databases : (l : List (List ℕ)) → databases_after e l ≡ l
  pub last_table : (n : ℕ) → last_table_after e n ≡ n
  pub last_job : (n : ℕ) → last_job_after e n ≡ n
  pub jobs : map reopened_job (jobs_after e js) ≡ map reopened_job js
  pub named : (job : ℕ) (tables : List Table) (o : Option JobName) → job_name_after e job tables o ≡ o
  pub tables : (n : ℕ) (l : List Table) → tables_after e n js l ≡ l
  pub range : (r : ℕ) → range_after e r ≡ r
  pub told_ids : (l : List ℕ) → told_ids_after e l ≡ l
  pub places : (l : ℕ) → places_after e l ≡ l
  pub txns : (tables : List Table) (last : ℕ) → filter told (txns_after e tables last ts) ≡ filter told ts
  pub base : (table : ℕ) (tables : List Table) (b : List (List Cell)) → base_after e table tables ts b ≡ b
  pub fresh : (table index : ℕ) (w : Place) (v : ℕ) (tables : List Table) (b : List (List Cell)) (l : List StoredList) → fresh_after e table index w v tables ts js b l ≡ l
  pub versions : (table part : ℕ) (tables : List Table) (v : ℕ) → version_after e table part tables ts v ≡ v

pub goes_on : (e : Event) (Es Js : List Event) → Commutes e (txns_of Es) (jobs_of Es) → Agrees (event.Opened ∷ Es) Js → Agrees (event.Opened ∷ e ∷ Es) (e ∷ Js)
goes_on e Es Js c a = record {
  databases = ap (databases_after e) a.databases;
  last_table = ap (last_table_after e) a.last_table;
  last_job = ap (last_job_after e) a.last_job;
  named = λ job. ap (job_name_after e job (tables_of Es)) (a.named job) ∙ ap (λ (bs : List Table). job_name_after e job bs (job_name_of Js job)) a.tables;
  jobs = c.jobs ∙ ap (jobs_after e) a.jobs;
  tasks = sym (ap (tasks_after e (taken_of Js)) (sym a.tasks) ∙ c.tasks (taken_of Js));
  tables = c.tables (last_table_of Es) (tables_of Es) ∙ ap (λ (n : ℕ). tables_after e n (map reopened_job (jobs_of Es)) (tables_of Es)) a.last_table ∙ ap (λ (js : List JobInfo). tables_after e (last_table_of Js) js (tables_of Es)) a.jobs ∙ ap (tables_after e (last_table_of Js) (jobs_of Js)) a.tables;
  range = ap (range_after e) a.range;
  next = sym (c.next (range_of Es)) ∙ ap (next_after e (range_of Es)) a.next ∙ ap (λ (r : ℕ). next_after e r (next_of Js)) a.range;
  told = ap (told_ids_after e) a.told;
  places = ap (places_after e) a.places;
  txns = c.txns (tables_of Es) (places_of Es) ∙ ap (txns_after e (tables_of Es) (places_of Es)) a.txns ∙ ap (λ (l : ℕ). txns_after e (tables_of Es) l (txns_of Js)) a.places ∙ ap (λ (ts : List Table). txns_after e ts (places_of Js) (txns_of Js)) a.tables;
  base = λ table. c.base table (tables_of Es) (base_of Es table) ∙ ap (λ (ts : List Txn). base_after e table (tables_of Es) ts (base_of Es table)) a.txns ∙ ap (base_after e table (tables_of Es) (txns_of Js)) (a.base table) ∙ ap (λ (bs : List Table). base_after e table bs (txns_of Js) (base_of Js table)) a.tables;
  fresh = λ table index w. fresh_goes table index w;
  lists = λ table index w.
      fresh_goes table index w
      ∙ sym (
      subst (λ (js : List JobInfo). lists_after e table index w (version_of Js table w.part) (tables_of Js) (txns_of Js) js (base_of Js table) (fixed_of Js table w.part) (source_of Js table) (since_of Js table index w) (fresh_of Js table index w) (lists_of Js table index w) ≡ fresh_after e table index w (version_of Js table w.part) (tables_of Js) (txns_of Js) js (base_of Js table) (lists_of Js table index w)) a.jobs
      (c.same table index w (version_of Js table w.part) (tables_of Js) (txns_of Js) (base_of Js table) (fixed_of Js table w.part) (source_of Js table) (since_of Js table index w) (fresh_of Js table index w) (lists_of Js table index w))
      ∙ ap (fresh_after e table index w (version_of Js table w.part) (tables_of Js) (txns_of Js) (jobs_of Js) (base_of Js table)) (sym (a.lists table index w) ∙ a.fresh table index w)
      );
  versions = λ table part.
      c.versions table part (tables_of Es) (version_of Es table part)
      ∙ ap (λ (ts : List Txn). version_after e table part (tables_of Es) ts (version_of Es table part)) a.txns
      ∙ ap (version_after e table part (tables_of Es) (txns_of Js)) (a.versions table part)
      ∙ ap (λ (bs : List Table). version_after e table part bs (txns_of Js) (version_of Js table part)) a.tables;
}
  where
    fresh_goes : (table index : ℕ) (w : Place) → fresh_of (e ∷ Es) table index w ≡ fresh_of (e ∷ Js) table index w
    fresh_goes table index w =
        c.fresh table index w (version_of Es table w.part) (tables_of Es) (base_of Es table) (fresh_of Es table index w)
        ∙ ap (λ (ts : List Txn). fresh_after e table index w (version_of Es table w.part) (tables_of Es) ts (map reopened_job (jobs_of Es)) (base_of Es table) (fresh_of Es table index w)) a.txns
        ∙ ap (λ (js : List JobInfo). fresh_after e table index w (version_of Es table w.part) (tables_of Es) (txns_of Js) js (base_of Es table) (fresh_of Es table index w)) a.jobs
        ∙ ap (λ (b : List (List Cell)). fresh_after e table index w (version_of Es table w.part) (tables_of Es) (txns_of Js) (jobs_of Js) b (fresh_of Es table index w)) (a.base table)
        ∙ ap (fresh_after e table index w (version_of Es table w.part) (tables_of Es) (txns_of Js) (jobs_of Js) (base_of Js table)) (a.fresh table index w)
        ∙ ap (λ (bs : List Table). fresh_after e table index w (version_of Es table w.part) bs (txns_of Js) (jobs_of Js) (base_of Js table) (fresh_of Js table index w)) a.tables
        ∙ ap (λ (v : ℕ). fresh_after e table index w v (tables_of Js) (txns_of Js) (jobs_of Js) (base_of Js table) (fresh_of Js table index w)) (a.versions table w.part)

pub is_lost : (e : Event) (Es Js : List Event) → Vanishes e (txns_of Es) (jobs_of Es) → Agrees (event.Opened ∷ Es) Js → Agrees (event.Opened ∷ e ∷ Es) Js
is_lost e Es Js v a = record {
  databases = v.databases (databases_of Es) ∙ a.databases;
  last_table = v.last_table (last_table_of Es) ∙ a.last_table;
  last_job = v.last_job (last_job_of Es) ∙ a.last_job;
  named = λ job. v.named job (tables_of Es) (job_name_of Es job) ∙ a.named job;
  jobs = v.jobs ∙ a.jobs;
  tasks = a.tasks;
  tables = v.tables (last_table_of Es) (tables_of Es) ∙ a.tables;
  range = v.range (range_of Es) ∙ a.range;
  next = ap (λ (r : ℕ). r + 1) (v.range (range_of Es)) ∙ a.next;
  told = v.told_ids (told_ids Es) ∙ a.told;
  places = v.places (places_of Es) ∙ a.places;
  txns = v.txns (tables_of Es) (places_of Es) ∙ a.txns;
  base = λ table. v.base table (tables_of Es) (base_of Es table) ∙ a.base table;
  fresh = λ table index w. v.fresh table index w (version_of Es table w.part) (tables_of Es) (base_of Es table) (fresh_of Es table index w) ∙ a.fresh table index w;
  lists = λ table index w. v.fresh table index w (version_of Es table w.part) (tables_of Es) (base_of Es table) (fresh_of Es table index w) ∙ a.lists table index w;
  versions = λ table part. v.versions table part (tables_of Es) (version_of Es table part) ∙ a.versions table part;
}

-- changing the transaction of a number keeps what was told
pub changed_told : (id : ℕ) (f : Txn → Txn) (keeps : (t : Txn) → told (f t) ≡ told t) (t : Txn) → told (changed id f t) ≡ told t
changed_told id f keeps t = elim (nat_eq t.id id) as (λ b. told (cond b (f t) t) ≡ told t) [ true ↦ keeps t | false ↦ refl ]

pub put_told : (t : Txn) (ts : List Txn) → t.told ≡ true → filter told (put_txn t ts) ≡ put_txn t (filter told ts)
put_told t ts h =
    filter_append told (filter (λ u. nat_lt u.id t.id) ts) (t ∷ filter (λ u. nat_lt t.id u.id) ts)
    ∙ ap (λ (b : Bool). filter told (filter (λ u. nat_lt u.id t.id) ts) ++ cond b (t ∷ filter told (filter (λ u. nat_lt t.id u.id) ts)) (filter told (filter (λ u. nat_lt t.id u.id) ts))) h
    ∙ ap (λ (l : List Txn). l ++ t ∷ filter told (filter (λ u. nat_lt t.id u.id) ts)) (filter_filter told (λ u. nat_lt u.id t.id) ts)
    ∙ ap (λ (l : List Txn). filter (λ u. nat_lt u.id t.id) (filter told ts) ++ t ∷ l) (filter_filter told (λ u. nat_lt t.id u.id) ts)

pub found_cons : (id : ℕ) (t : Txn) (ts : List Txn) (same tl : Bool) → nat_eq t.id id ≡ same → t.told ≡ tl → IfSome (cond same (Some t) (txn_at id ts)) (λ u. u.told ≡ true) → (IfSome (txn_at id ts) (λ u. u.told ≡ true) → txn_at id ts ≡ txn_at id (filter told ts)) → cond same (Some t) (txn_at id ts) ≡ txn_at id (cond tl (t ∷ filter told ts) (filter told ts))
found_cons id t ts true true e f h k = rw e refl
found_cons id t ts true false e f h k = absurd (cc (h, f))
found_cons id t ts false true e f h k = rw e (k h)
found_cons id t ts false false e f h k = k h

-- the load of a number that was told is found among those that were told
pub found_told : (id : ℕ) (ts : List Txn) → IfSome (txn_at id ts) (λ t. t.told ≡ true) → txn_at id ts ≡ txn_at id (filter told ts)
found_told id [] h = refl
found_told id (t ∷ ts) h = found_cons id t ts (nat_eq t.id id) t.told refl refl h (found_told id ts)

pub unchanged_cons : (id : ℕ) (f : Txn → Txn) (t : Txn) (ts : List Txn) (b : Bool) → cond b (t ∷ filter (λ u. nat_eq u.id id) ts) (filter (λ u. nat_eq u.id id) ts) ≡ [] → (filter (λ u. nat_eq u.id id) ts ≡ [] → map (changed id f) ts ≡ ts) → cond b (f t) t ∷ map (changed id f) ts ≡ t ∷ ts
unchanged_cons id f t ts true h k = absurd (cc)
unchanged_cons id f t ts false h k = ap (λ (l : List Txn). t ∷ l) (k h)

-- a change of a number that no one has
pub unchanged : (id : ℕ) (f : Txn → Txn) (ts : List Txn) → filter (λ t. nat_eq t.id id) ts ≡ [] → map (changed id f) ts ≡ ts
unchanged id f [] h = refl
unchanged id f (t ∷ ts) h = unchanged_cons id f t ts (nat_eq t.id id) h (unchanged id f ts)

pub of_change : (id : ℕ) (f : Txn → Txn) (keeps : (t : Txn) → told (f t) ≡ told t) (ts : List Txn) → filter told (map (changed id f) ts) ≡ map (changed id f) (filter told ts)
of_change id f keeps ts = filter_map_same told (changed id f) (changed_told id f keeps) ts

-- Jobs: an opening changes their states alone, and a change by number goes past it.
pub same_changed : (number : ℕ) (f : JobInfo → JobInfo) (keeps : (j : JobInfo) → reopened_job (f j) ≡ f (reopened_job j)) (j : JobInfo) → reopened_job (changed_job number f j) ≡ changed_job number f (reopened_job j)
same_changed number f keeps j = elim (nat_eq j.job number) as (λ b. reopened_job (cond b (f j) j) ≡ cond b (f (reopened_job j)) (reopened_job j)) [ true ↦ keeps j | false ↦ refl ]

pub map_same : (f g : JobInfo → JobInfo) (k : (j : JobInfo) → g (f j) ≡ f (g j)) (js : List JobInfo) → map g (map f js) ≡ map f (map g js)
map_same f g k [] = refl
map_same f g k (j ∷ js) = ap (λ (x : JobInfo). x ∷ map g (map f js)) (k j) ∙ ap (λ (l : List JobInfo). f (g j) ∷ l) (map_same f g k js)

pub jobs_changed : (number : ℕ) (f : JobInfo → JobInfo) (keeps : (j : JobInfo) → reopened_job (f j) ≡ f (reopened_job j)) (js : List JobInfo) → map reopened_job (map (changed_job number f) js) ≡ map (changed_job number f) (map reopened_job js)
jobs_changed number f keeps js = map_same (changed_job number f) reopened_job (same_changed number f keeps) js

pub jobs_spoiled : (o : Option ℕ) (txn at : ℕ) (js : List JobInfo) → map reopened_job (map (spoiled_job o txn at) js) ≡ map (spoiled_job o txn at) (map reopened_job js)
jobs_spoiled None txn at js = map_same (spoiled_job None txn at) reopened_job (λ j. refl) js
jobs_spoiled (Some n) txn at js = map_same (spoiled_job (Some n) txn at) reopened_job (same_changed n (cancelled_job at (cause.Load txn)) (λ j. refl)) js

pub live_again : (s : JobState) → is_live (waits_again s) ≡ is_live s
live_again job_state.Pending = refl
live_again job_state.WaitingTxn = refl
live_again job_state.Running = refl
live_again job_state.Finished = refl
live_again job_state.Cancelled = refl

pub never_runs : (s : JobState) → is_running (waits_again s) ≡ false
never_runs job_state.Pending = refl
never_runs job_state.WaitingTxn = refl
never_runs job_state.Running = refl
never_runs job_state.Finished = refl
never_runs job_state.Cancelled = refl

pub waits_twice : (s : JobState) → waits_again (waits_again s) ≡ waits_again s
waits_twice job_state.Pending = refl
waits_twice job_state.WaitingTxn = refl
waits_twice job_state.Running = refl
waits_twice job_state.Finished = refl
waits_twice job_state.Cancelled = refl

pub reopened_twice : (js : List JobInfo) → map reopened_job (map reopened_job js) ≡ map reopened_job js
reopened_twice [] = refl
reopened_twice (j ∷ js) = ap (λ (s : JobState). record j { state = s } ∷ map reopened_job (map reopened_job js)) (waits_twice j.state) ∙ ap (λ (l : List JobInfo). reopened_job j ∷ l) (reopened_twice js)

pub jobs_dropped : (table at : ℕ) (js : List JobInfo) → map reopened_job (map (dropped_job table at) js) ≡ map (dropped_job table at) (map reopened_job js)
jobs_dropped table at js = map_same (dropped_job table at) reopened_job one js
  where
    go : (b : Bool) (j : JobInfo) → reopened_job (cond b (cancelled_job at cause.Drop j) j) ≡ cond b (cancelled_job at cause.Drop (reopened_job j)) (reopened_job j)
    go true j = refl
    go false j = refl

    one : (j : JobInfo) → reopened_job (dropped_job table at j) ≡ dropped_job table at (reopened_job j)
    one j = go (is_live_of table j) j ∙ ap (λ (b : Bool). cond (nat_eq j.table table && b) (cancelled_job at cause.Drop (reopened_job j)) (reopened_job j)) (sym (live_again j.state))

pub jobs_swept : (at : ℕ) (js : List JobInfo) → map reopened_job (filter (λ (j : JobInfo). not (is_job_over at j)) js) ≡ filter (λ (j : JobInfo). not (is_job_over at j)) (map reopened_job js)
jobs_swept at [] = refl
jobs_swept at (j ∷ js) =
    go (not (is_job_over at j)) ∙ ap (λ (b : Bool). cond (not (not b && nat_le (j.since + 259200) at)) (reopened_job j ∷ map reopened_job (filter (λ (x : JobInfo). not (is_job_over at x)) js)) (map reopened_job (filter (λ (x : JobInfo). not (is_job_over at x)) js))) (sym (live_again j.state))
    ∙ ap (λ (l : List JobInfo). cond (not (is_job_over at (reopened_job j))) (reopened_job j ∷ l) l) (jobs_swept at js)
  where
    go : (b : Bool) → map reopened_job (cond b (j ∷ filter (λ (x : JobInfo). not (is_job_over at x)) js) (filter (λ (x : JobInfo). not (is_job_over at x)) js)) ≡ cond b (reopened_job j ∷ map reopened_job (filter (λ (x : JobInfo). not (is_job_over at x)) js)) (map reopened_job (filter (λ (x : JobInfo). not (is_job_over at x)) js))
    go true = refl
    go false = refl

pub map_append : (f : JobInfo → JobInfo) (js : List JobInfo) (j : JobInfo) → map f (js ++ j ∷ []) ≡ map f js ++ f j ∷ []
map_append f [] j = refl
map_append f (x ∷ xs) j = ap (λ (l : List JobInfo). f x ∷ l) (map_append f xs j)

-- what is found by number is what was found, opened again
pub job_reopened : (n : ℕ) (js : List JobInfo) → job_at n (map reopened_job js) ≡ option_map reopened_job (job_at n js)
job_reopened n [] = refl
job_reopened n (j ∷ js) = go (nat_eq j.job n) (job_reopened n js)
  where
    go : (b : Bool) → job_at n (map reopened_job js) ≡ option_map reopened_job (job_at n js) → cond b (Some (reopened_job j)) (job_at n (map reopened_job js)) ≡ option_map reopened_job (cond b (Some j) (job_at n js))
    go true k = refl
    go false k = k

-- a job that waits goes to run: an opening makes it wait again
pub ran_again : (number : ℕ) (js : List JobInfo) → Each (λ (j : JobInfo). j.job ≡ number → j.state ≡ job_state.WaitingTxn) js → map reopened_job (map (changed_job number ran_job) js) ≡ map reopened_job js
ran_again number [] e = refl
ran_again number (j ∷ js) e = ap (λ (x : JobInfo). x ∷ map reopened_job (map (changed_job number ran_job) js)) (go (nat_eq j.job number) refl) ∙ ap (λ (l : List JobInfo). reopened_job j ∷ l) (ran_again number js e.1)
  where
    go : (b : Bool) → nat_eq j.job number ≡ b → reopened_job (cond b (ran_job j) j) ≡ reopened_job j
    go true i = ap (λ (s : JobState). record j { state = s }) (ap waits_again (sym (e.0 (let k : j.job ≡ number = grind (arith, nat_tests) in k))))
    go false i = refl

pub of_added : (a : JobAdded) (ts : List Txn) (js : List JobInfo) → Commutes (event.JobAdded a) ts js
of_added a ts js = record { next = λ r. refl; jobs = map_append reopened_job js (added_job a); tables = λ n l. refl; tasks = λ n. refl; txns = λ tables last. refl; base = λ table tables b. refl; fresh = λ table index w v tables b l. refl; same = λ table index w v tables us b n c g f l. refl; versions = λ table part tables v. refl }

pub of_waiting : (x : JobWaiting) (ts : List Txn) (js : List JobInfo) → Commutes (event.JobWaiting x) ts js
of_waiting x ts js = record { next = λ r. refl; jobs = jobs_changed x.job (waiting_job x.watershed) (λ j. refl) js; tables = λ n l. refl; tasks = λ n. refl; txns = λ tables last. refl; base = λ table tables b. refl; fresh = λ table index w v tables b l. refl; same = λ table index w v tables us b n c g f l. refl; versions = λ table part tables v. refl }

pub of_cancelled : (x : JobCancelled) (ts : List Txn) (js : List JobInfo) → Commutes (event.JobCancelled x) ts js
of_cancelled x ts js = record { next = λ r. refl; jobs = jobs_changed x.job (cancelled_job x.at x.cause) (λ j. refl) js; tables = λ n l. refl; tasks = λ n. refl; txns = λ tables last. refl; base = λ table tables b. refl; fresh = λ table index w v tables b l. refl; same = λ table index w v tables us b n c g f l. refl; versions = λ table part tables v. refl }

pub finished_again : (o : Option JobInfo) (t : Table) → finished_in o t ≡ finished_in (option_map reopened_job o) t
finished_again None t = refl
finished_again (Some j) t = refl

pub switched_again : (o : Option JobInfo) (t : Option Table) (table index : ℕ) (new : Table → Index → List StoredList) (l : List StoredList) → switched o t table index (λ j. new) l ≡ switched (option_map reopened_job o) t table index (λ j. new) l
switched_again None t table index new l = refl
switched_again (Some j) None table index new l = refl
switched_again (Some j) (Some t) table index new l = refl

-- of jobs that do not run there is one list
pub ends_alike : (o : Option JobInfo) (t : Option Table) (table index : ℕ) (w : Place) (v : ℕ) (b : List (List Cell)) (n : ℕ) (c : List (List Cell)) (g l : List StoredList) → switched (option_map reopened_job o) t table index (λ j t x. ended_lists j t x w v b n c g) l ≡ switched (option_map reopened_job o) t table index (λ j t x. whole_list t x w v b) l
ends_alike None t table index w v b n c g l = refl
ends_alike (Some j) None table index w v b n c g l = refl
ends_alike (Some j) (Some t) table index w v b n c g l = ap (λ (y : List StoredList). cond (nat_eq j.table table) y l) (go (new_index j.change t index))
  where
    go : (o : Option Index) → switched_to o (λ x. ended_lists (reopened_job j) t x w v b n c g) l ≡ switched_to o (λ x. whole_list t x w v b) l
    go None = refl
    go (Some x) = ap (λ (y : Bool). cond y (whole_list t x w n c ++ g) (whole_list t x w v b)) (never_runs j.state)

pub map_tables : (f g : Table → Table) (k : (t : Table) → f t ≡ g t) (ts : List Table) → map f ts ≡ map g ts
map_tables f g k [] = refl
map_tables f g k (t ∷ ts) = ap (λ (x : Table). x ∷ map f ts) (k t) ∙ ap (λ (l : List Table). g t ∷ l) (map_tables f g k ts)

pub of_finished : (x : JobFinished) (ts : List Txn) (js : List JobInfo) → Commutes (event.JobFinished x) ts js
of_finished x ts js = record {
  next = λ r. refl;
  jobs = jobs_changed x.job (finished_job x.at) (λ j. refl) js;
  tasks = λ n. refl;
  tables = λ n l. map_tables (finished_in (job_at x.job js)) (finished_in (job_at x.job (map reopened_job js))) (λ t. finished_again (job_at x.job js) t ∙ ap (λ (o : Option JobInfo). finished_in o t) (sym (job_reopened x.job js))) l;
  txns = λ tables last. refl;
  base = λ table tables b. refl;
  fresh = λ table index w v tables b l. switched_again (job_at x.job js) (table_at table tables) table index (λ t i. whole_list t i w v b) l ∙ ap (λ (o : Option JobInfo). switched o (table_at table tables) table index (λ j t i. whole_list t i w v b) l) (sym (job_reopened x.job js));
  same = λ table index w v tables us b n c g f l. subst (λ (o : Option JobInfo). switched o (table_at table tables) table index (λ j t i. ended_lists j t i w v b n c g) l ≡ switched o (table_at table tables) table index (λ j t i. whole_list t i w v b) l) (sym (job_reopened x.job js)) (ends_alike (job_at x.job js) (table_at table tables) table index w v b n c g l);
  versions = λ table part tables v. refl;
}
