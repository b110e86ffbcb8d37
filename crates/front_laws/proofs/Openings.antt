-- An opening goes past each event that a record tells, and forgets every other one.
use Rattle.std.proofs.Common.{◌≡◌, ℕ, ◌+◌, Bool, true, false, cond, not, ◌&&◌, ◌||◌, List, [], ◌∷◌, Option, map, refl, ◌∙◌, ap, append-nil}
use Rattle.std.specs.Prelude.{filter, nat_eq}
use Rattle.dl_values.specs.declared.cell.Cell.{Cell}
use Rattle.partitions.specs.Places.{Place}
use Rattle.front_defs.specs.declared.event.Event.{Event}
use Rattle.front_defs.specs.declared.event.Event.TheVariants as event
use Rattle.front_defs.specs.declared.event.LoadPublished.{LoadPublished}
use Rattle.front_defs.specs.declared.event.LoadSubmitted.{LoadSubmitted}
use Rattle.front_defs.specs.declared.event.TxnBegun.{TxnBegun}
use Rattle.front_defs.specs.declared.event.TxnEnded.{TxnEnded}
use Rattle.front_defs.specs.declared.event.TxnAborted.{TxnAborted}
use Rattle.front_defs.specs.declared.event.DbMade.{DbMade}
use Rattle.front_defs.specs.declared.event.TableMade.{TableMade}
use Rattle.front_defs.specs.declared.event.RangeDrawn.{RangeDrawn}
use Rattle.front_defs.specs.declared.event.Compacted.{Compacted}
use Rattle.front_defs.specs.declared.event.PartAdded.{PartAdded}
use Rattle.front_defs.specs.declared.event.TableDropped.{TableDropped}
use Rattle.front_defs.specs.declared.event.LoadCommitted.{LoadCommitted}
use Rattle.front_defs.specs.declared.event.Swept.{Swept}
use Rattle.front_defs.specs.declared.event.SweptUntold.{SweptUntold}
use Rattle.std.specs.List.{list_any}
use Rattle.front_defs.specs.declared.catalogue.Table.{Table}
use Rattle.front_defs.specs.declared.txn.Txn.{Txn}
use Rattle.front_defs.specs.Ids.{range_after, told_ids_after}
use Rattle.front_defs.specs.Catalogue.{databases_after, last_table_after, tables_after, table_at, db_of}
use Rattle.front_defs.specs.Transactions.{places_after, txns_after, txns_of, begun_txn, submitted_txn, aborted_at, visible_at, committed_at, dropped, dropped_at, is_expired, is_over, sweep, sweeps_told, swept_at}
use Rattle.front_defs.specs.Stored.{StoredList, base_after, base_with, fresh_after, lists_with, touches_in, version_after, brought}
use Rattle.alter_core.specs.declared.job.JobInfo.{JobInfo}
use Rattle.front_defs.specs.declared.event.WatershedDrawn.{WatershedDrawn}
use Rattle.front_defs.specs.declared.event.JobRan.{JobRan}
use Rattle.front_defs.specs.declared.event.TaskTaken.{TaskTaken}
use Rattle.front_defs.specs.declared.event.TaskGiven.{TaskGiven}
use Rattle.front_defs.specs.Jobs.{jobs_after, jobs_of, last_job_after, reopened_job}
use Rattle.front_defs.specs.Reports.{JobName, job_name_after}
use Rattle.front_defs.specs.History.{journal}
use Rattle.front_defs.specs.Journal.{Agrees}
use Rattle.front_laws.specs.Tidy.{Fits, Sound}
use Rattle.front_laws.proofs.Keeps.{filter_append, filter_filter, filter_map_same, filter_twice}
use Rattle.front_laws.proofs.Commuting.{told, Commutes, Vanishes, goes_on, is_lost, put_told, found_told, unchanged, of_change, jobs_spoiled, reopened_twice, jobs_dropped, jobs_swept, ran_again, of_added, of_waiting, of_cancelled, of_finished}

-- One law for each kind of record.
of_database : (d : DbMade) (ts : List Txn) (js : List JobInfo) → Commutes (event.DbMade d) ts js
of_database d ts js = record { next = λ r. refl; jobs = refl; tables = λ n l. refl; tasks = λ n. refl; txns = λ tables last. refl; base = λ table tables b. refl; fresh = λ table index w v tables b l. refl; same = λ table index w v tables us b n c g f l. refl; versions = λ table part tables v. refl }

of_table : (m : TableMade) (ts : List Txn) (js : List JobInfo) → Commutes (event.TableMade m) ts js
of_table m ts js = record { next = λ r. refl; jobs = refl; tables = λ n l. refl; tasks = λ n. refl; txns = λ tables last. refl; base = λ table tables b. refl; fresh = λ table index w v tables b l. refl; same = λ table index w v tables us b n c g f l. refl; versions = λ table part tables v. refl }

of_range : (x : RangeDrawn) (ts : List Txn) (js : List JobInfo) → Commutes (event.RangeDrawn x) ts js
of_range x ts js = record { next = λ r. refl; jobs = refl; tables = λ n l. refl; tasks = λ n. refl; txns = λ tables last. refl; base = λ table tables b. refl; fresh = λ table index w v tables b l. refl; same = λ table index w v tables us b n c g f l. refl; versions = λ table part tables v. refl }

of_submitted : (s : LoadSubmitted) (ts : List Txn) (js : List JobInfo) → Commutes (event.LoadSubmitted s) ts js
of_submitted s ts js = record { next = λ r. refl; jobs = jobs_spoiled s.cancelled s.txn s.at js; tables = λ n l. refl; tasks = λ n. refl; txns = λ tables last. put_told (submitted_txn s (db_of s.table tables) last) ts refl; base = λ table tables b. refl; fresh = λ table index w v tables b l. refl; same = λ table index w v tables us b n c g f l. refl; versions = λ table part tables v. refl }

of_aborted : (a : TxnAborted) (ts : List Txn) (js : List JobInfo) → Commutes (event.TxnAborted a) ts js
of_aborted a ts js = record { next = λ r. refl; jobs = refl; tables = λ n l. refl; tasks = λ n. refl; txns = λ tables last. of_change a.txn (aborted_at a.at) (λ t. refl) ts; base = λ table tables b. refl; fresh = λ table index w v tables b l. refl; same = λ table index w v tables us b n c g f l. refl; versions = λ table part tables v. refl }

of_published : (p : LoadPublished) (ts : List Txn) (js : List JobInfo) → Fits (event.LoadPublished p) ts js → Commutes (event.LoadPublished p) ts js
of_published p ts js fits = record {
  next = λ r. refl;
  jobs = refl;
  tables = λ n l. refl;
  tasks = λ n. refl;
  txns = λ tables last. of_change p.txn (visible_at p.at) (λ t. refl) ts;
  base = λ table tables b. ap (λ (o : Option Txn). base_with table (table_at table tables) b o) (found_told p.txn ts fits);
  same = λ table index w v tables us b n c g f l. refl;
  fresh = λ table index w v tables b l. ap (λ (o : Option Txn). lists_with (table_at table tables) index w (v + 1) l (brought table o)) (found_told p.txn ts fits);
  versions = λ table part tables v. ap (λ (o : Option Txn). cond (touches_in (table_at table tables) part (brought table o)) (v + 1) v) (found_told p.txn ts fits);
}

of_part : (a : PartAdded) (ts : List Txn) (js : List JobInfo) → Commutes (event.PartAdded a) ts js
of_part a ts js = record { next = λ r. refl; jobs = refl; tables = λ n l. refl; tasks = λ n. refl; txns = λ tables last. refl; base = λ table tables b. refl; fresh = λ table index w v tables b l. refl; same = λ table index w v tables us b n c g f l. refl; versions = λ table part tables v. refl }

dropped_told : (table at : ℕ) (t : Txn) → told (dropped table at t) ≡ told t
dropped_told table at t = elim (nat_eq t.table table) as (λ b. told (cond b (dropped_at at t) t) ≡ told t) [ true ↦ refl | false ↦ refl ]

of_dropped : (d : TableDropped) (ts : List Txn) (js : List JobInfo) → Commutes (event.TableDropped d) ts js
of_dropped d ts js = record { next = λ r. refl; jobs = jobs_dropped d.table d.at js; tables = λ n l. refl; tasks = λ n. refl; txns = λ tables last. filter_map_same told (dropped d.table d.at) (dropped_told d.table d.at) ts; base = λ table tables b. refl; fresh = λ table index w v tables b l. refl; same = λ table index w v tables us b n c g f l. refl; versions = λ table part tables v. refl }

of_committed : (c : LoadCommitted) (ts : List Txn) (js : List JobInfo) → Commutes (event.LoadCommitted c) ts js
of_committed c ts js = record { next = λ r. refl; jobs = jobs_spoiled c.cancelled c.txn c.at js; tables = λ n l. refl; tasks = λ n. refl; txns = λ tables last. of_change c.txn (committed_at (last + 1) c.at) (λ t. refl) ts; base = λ table tables b. refl; fresh = λ table index w v tables b l. refl; same = λ table index w v tables us b n c g f l. refl; versions = λ table part tables v. refl }

swept_told : (at : ℕ) (t : Txn) → told (swept_at at t) ≡ told t
swept_told at t = elim (is_expired at t) as (λ b. told (cond b (aborted_at at t) t) ≡ told t) [ true ↦ refl | false ↦ refl ]

sweep_told : (at : ℕ) (ts : List Txn) → filter told (sweep at ts) ≡ sweep at (filter told ts)
sweep_told at ts = filter_map_same told (swept_at at) (swept_told at) (filter (λ t. not (is_over at t)) ts) ∙ ap (map (swept_at at)) (filter_filter told (λ t. not (is_over at t)) ts)

of_swept : (s : Swept) (ts : List Txn) (js : List JobInfo) → Commutes (event.Swept s) ts js
of_swept s ts js = record { next = λ r. refl; jobs = jobs_swept s.at js; tables = λ n l. refl; tasks = λ n. refl; txns = λ tables last. sweep_told s.at ts; base = λ table tables b. refl; fresh = λ table index w v tables b l. refl; same = λ table index w v tables us b n c g f l. refl; versions = λ table part tables v. refl }

-- a sweep that changes nothing that is told
untold_cons : (at : ℕ) (t : Txn) (ts : List Txn) (b e o : Bool) → t.told ≡ b → is_expired at t ≡ e → is_over at t ≡ o → (b && (e || o)) ≡ false → sweep at (filter told ts) ≡ filter told ts
    → sweep at (cond b (t ∷ filter told ts) (filter told ts)) ≡ cond b (t ∷ filter told ts) (filter told ts)
untold_cons at t ts false e o k f g h rest = rest
untold_cons at t ts true true o k f g h rest = absurd (cc)
untold_cons at t ts true false true k f g h rest = absurd (cc)
untold_cons at t ts true false false k f g h rest =
    ap (λ (c : Bool). map (swept_at at) (cond (not c) (t ∷ filter (λ u. not (is_over at u)) (filter told ts)) (filter (λ u. not (is_over at u)) (filter told ts)))) g
    ∙ ap (λ (c : Bool). cond c (aborted_at at t) t ∷ sweep at (filter told ts)) f ∙ ap (λ (l : List Txn). t ∷ l) rest

untold_swept : (at : ℕ) (ts : List Txn) → list_any (sweeps_told at) ts ≡ false → sweep at (filter told ts) ≡ filter told ts
untold_swept at [] h = refl
untold_swept at (t ∷ ts) h = go (sweeps_told at t) refl h (untold_swept at ts)
  where
    go : (b : Bool) → sweeps_told at t ≡ b → (b || list_any (sweeps_told at) ts) ≡ false → (list_any (sweeps_told at) ts ≡ false → sweep at (filter told ts) ≡ filter told ts) → sweep at (filter told (t ∷ ts)) ≡ filter told (t ∷ ts)
    go true e k rest = absurd (cc)
    go false e k rest = untold_cons at t ts t.told (is_expired at t) (is_over at t) refl refl refl e (rest k)

-- One for each event that leaves no record.
vanishes : (e : Event) (ts : List Txn) (js : List JobInfo) → ((l : List (List ℕ)) → databases_after e l ≡ l) → ((n : ℕ) → last_table_after e n ≡ n) → ((n : ℕ) (l : List Table) → tables_after e n js l ≡ l) → ((r : ℕ) → range_after e r ≡ r) → ((l : List ℕ) → told_ids_after e l ≡ l) → ((l : ℕ) → places_after e l ≡ l) → ((tables : List Table) (last : ℕ) → filter told (txns_after e tables last ts) ≡ filter told ts) → ((table : ℕ) (tables : List Table) (b : List (List Cell)) → base_after e table tables ts b ≡ b) → ((table index : ℕ) (w : Place) (v : ℕ) (tables : List Table) (b : List (List Cell)) (l : List StoredList) → fresh_after e table index w v tables ts js b l ≡ l) → ((table part : ℕ) (tables : List Table) (v : ℕ) → version_after e table part tables ts v ≡ v) → ((n : ℕ) → last_job_after e n ≡ n) → map reopened_job (jobs_after e js) ≡ map reopened_job js → ((job : ℕ) (tables : List Table) (o : Option JobName) → job_name_after e job tables o ≡ o) → Vanishes e ts js
vanishes e ts js a b c d f g h i j k l m q = record { named = q; databases = a; last_table = b; tables = c; range = d; told_ids = f; places = g; txns = h; base = i; fresh = j; versions = k; last_job = l; jobs = m }

of_begun : (b : TxnBegun) (ts : List Txn) (js : List JobInfo) → Vanishes (event.TxnBegun b) ts js
of_begun b ts js = vanishes (event.TxnBegun b) ts js (λ l. refl) (λ n. refl) (λ n l. refl) (λ r. refl) (λ l. refl) (λ l. refl) (λ tables last. filter_append told ts (begun_txn b ∷ []) ∙ append-nil (filter told ts)) (λ table tables b. refl) (λ table index w v tables b l. refl) (λ table part tables v. refl) (λ n. refl) refl (λ job tables o. refl)

of_ended : (x : TxnEnded) (ts : List Txn) (js : List JobInfo) → Fits (event.TxnEnded x) ts js → Vanishes (event.TxnEnded x) ts js
of_ended x ts js fits = vanishes (event.TxnEnded x) ts js (λ l. refl) (λ n. refl) (λ n l. refl) (λ r. refl) (λ l. refl) (λ l. refl) (λ tables last. of_change x.txn (aborted_at x.at) (λ t. refl) ts ∙ unchanged x.txn (aborted_at x.at) (filter told ts) fits) (λ table tables b. refl) (λ table index w v tables b l. refl) (λ table part tables v. refl) (λ n. refl) refl (λ job tables o. refl)

of_opened : (ts : List Txn) (js : List JobInfo) → Vanishes event.Opened ts js
of_opened ts js = vanishes event.Opened ts js (λ l. refl) (λ n. refl) (λ n l. refl) (λ r. refl) (λ l. refl) (λ l. refl) (λ tables last. filter_twice told ts) (λ table tables b. refl) (λ table index w v tables b l. refl) (λ table part tables v. refl) (λ n. refl) (reopened_twice js) (λ job tables o. refl)

of_untold : (s : SweptUntold) (ts : List Txn) (js : List JobInfo) → Fits (event.SweptUntold s) ts js → Vanishes (event.SweptUntold s) ts js
of_untold s ts js fits = vanishes (event.SweptUntold s) ts js (λ l. refl) (λ n. refl) (λ n l. refl) (λ r. refl) (λ l. refl) (λ l. refl) (λ tables last. sweep_told s.at ts ∙ untold_swept s.at ts fits) (λ table tables b. refl) (λ table index w v tables b l. refl) (λ table part tables v. refl) (λ n. refl) refl (λ job tables o. refl)

of_compacted : (c : Compacted) (ts : List Txn) (js : List JobInfo) → Vanishes (event.Compacted c) ts js
of_compacted c ts js = vanishes (event.Compacted c) ts js (λ l. refl) (λ n. refl) (λ n l. refl) (λ r. refl) (λ l. refl) (λ l. refl) (λ tables last. refl) (λ table tables b. refl) (λ table index w v tables b l. refl) (λ table part tables v. refl) (λ n. refl) refl (λ job tables o. refl)

of_drawn : (x : WatershedDrawn) (ts : List Txn) (js : List JobInfo) → Vanishes (event.WatershedDrawn x) ts js
of_drawn x ts js = vanishes (event.WatershedDrawn x) ts js (λ l. refl) (λ n. refl) (λ n l. refl) (λ r. refl) (λ l. refl) (λ l. refl) (λ tables last. refl) (λ table tables b. refl) (λ table index w v tables b l. refl) (λ table part tables v. refl) (λ n. refl) refl (λ job tables o. refl)

of_ran : (x : JobRan) (ts : List Txn) (js : List JobInfo) → Fits (event.JobRan x) ts js → Vanishes (event.JobRan x) ts js
of_ran x ts js fits = vanishes (event.JobRan x) ts js (λ l. refl) (λ n. refl) (λ n l. refl) (λ r. refl) (λ l. refl) (λ l. refl) (λ tables last. refl) (λ table tables b. refl) (λ table index w v tables b l. refl) (λ table part tables v. refl) (λ n. refl) (ran_again x.job js fits) (λ job tables o. refl)

of_taken : (x : TaskTaken) (ts : List Txn) (js : List JobInfo) → Vanishes (event.TaskTaken x) ts js
of_taken x ts js = vanishes (event.TaskTaken x) ts js (λ l. refl) (λ n. refl) (λ n l. refl) (λ r. refl) (λ l. refl) (λ l. refl) (λ tables last. refl) (λ table tables b. refl) (λ table index w v tables b l. refl) (λ table part tables v. refl) (λ n. refl) refl (λ job tables o. refl)

of_given : (x : TaskGiven) (ts : List Txn) (js : List JobInfo) → Vanishes (event.TaskGiven x) ts js
of_given x ts js = vanishes (event.TaskGiven x) ts js (λ l. refl) (λ n. refl) (λ n l. refl) (λ r. refl) (λ l. refl) (λ l. refl) (λ tables last. refl) (λ table tables b. refl) (λ table index w v tables b l. refl) (λ table part tables v. refl) (λ n. refl) refl (λ job tables o. refl)

-- What a journal tells is what an opening leaves.
pub agreement : (Es : List Event) → Sound Es → Agrees (event.Opened ∷ Es) (journal Es)
agreement [] s = record { named = λ job. refl; databases = refl; last_table = refl; tables = refl; range = refl; next = refl; told = refl; places = refl; txns = refl; versions = λ table part. refl; base = λ table. refl; fresh = λ table index w. refl; lists = λ table index w. refl; last_job = refl; jobs = refl; tasks = refl }
agreement (event.DbMade d ∷ Es) s = goes_on (event.DbMade d) Es (journal Es) (of_database d (txns_of Es) (jobs_of Es)) (agreement Es s.1)
agreement (event.TableMade m ∷ Es) s = goes_on (event.TableMade m) Es (journal Es) (of_table m (txns_of Es) (jobs_of Es)) (agreement Es s.1)
agreement (event.RangeDrawn r ∷ Es) s = goes_on (event.RangeDrawn r) Es (journal Es) (of_range r (txns_of Es) (jobs_of Es)) (agreement Es s.1)
agreement (event.TxnBegun b ∷ Es) s = is_lost (event.TxnBegun b) Es (journal Es) (of_begun b (txns_of Es) (jobs_of Es)) (agreement Es s.1)
agreement (event.LoadSubmitted x ∷ Es) s = goes_on (event.LoadSubmitted x) Es (journal Es) (of_submitted x (txns_of Es) (jobs_of Es)) (agreement Es s.1)
agreement (event.TxnAborted a ∷ Es) s = goes_on (event.TxnAborted a) Es (journal Es) (of_aborted a (txns_of Es) (jobs_of Es)) (agreement Es s.1)
agreement (event.LoadPublished p ∷ Es) s = goes_on (event.LoadPublished p) Es (journal Es) (of_published p (txns_of Es) (jobs_of Es) s.0) (agreement Es s.1)
agreement (event.PartAdded a ∷ Es) s = goes_on (event.PartAdded a) Es (journal Es) (of_part a (txns_of Es) (jobs_of Es)) (agreement Es s.1)
agreement (event.TableDropped d ∷ Es) s = goes_on (event.TableDropped d) Es (journal Es) (of_dropped d (txns_of Es) (jobs_of Es)) (agreement Es s.1)
agreement (event.LoadCommitted c ∷ Es) s = goes_on (event.LoadCommitted c) Es (journal Es) (of_committed c (txns_of Es) (jobs_of Es)) (agreement Es s.1)
agreement (event.Swept x ∷ Es) s = goes_on (event.Swept x) Es (journal Es) (of_swept x (txns_of Es) (jobs_of Es)) (agreement Es s.1)
agreement (event.SweptUntold x ∷ Es) s = is_lost (event.SweptUntold x) Es (journal Es) (of_untold x (txns_of Es) (jobs_of Es) s.0) (agreement Es s.1)
agreement (event.Compacted c ∷ Es) s = is_lost (event.Compacted c) Es (journal Es) (of_compacted c (txns_of Es) (jobs_of Es)) (agreement Es s.1)
agreement (event.TxnEnded x ∷ Es) s = is_lost (event.TxnEnded x) Es (journal Es) (of_ended x (txns_of Es) (jobs_of Es) s.0) (agreement Es s.1)
agreement (event.Opened ∷ Es) s = is_lost event.Opened Es (journal Es) (of_opened (txns_of Es) (jobs_of Es)) (agreement Es s.1)
agreement (event.JobAdded x ∷ Es) s = goes_on (event.JobAdded x) Es (journal Es) (of_added x (txns_of Es) (jobs_of Es)) (agreement Es s.1)
agreement (event.JobWaiting x ∷ Es) s = goes_on (event.JobWaiting x) Es (journal Es) (of_waiting x (txns_of Es) (jobs_of Es)) (agreement Es s.1)
agreement (event.WatershedDrawn x ∷ Es) s = is_lost (event.WatershedDrawn x) Es (journal Es) (of_drawn x (txns_of Es) (jobs_of Es)) (agreement Es s.1)
agreement (event.JobRan x ∷ Es) s = is_lost (event.JobRan x) Es (journal Es) (of_ran x (txns_of Es) (jobs_of Es) s.0) (agreement Es s.1)
agreement (event.TaskTaken x ∷ Es) s = is_lost (event.TaskTaken x) Es (journal Es) (of_taken x (txns_of Es) (jobs_of Es)) (agreement Es s.1)
agreement (event.TaskGiven x ∷ Es) s = is_lost (event.TaskGiven x) Es (journal Es) (of_given x (txns_of Es) (jobs_of Es)) (agreement Es s.1)
agreement (event.JobFinished x ∷ Es) s = goes_on (event.JobFinished x) Es (journal Es) (of_finished x (txns_of Es) (jobs_of Es)) (agreement Es s.1)
agreement (event.JobCancelled x ∷ Es) s = goes_on (event.JobCancelled x) Es (journal Es) (of_cancelled x (txns_of Es) (jobs_of Es)) (agreement Es s.1)
