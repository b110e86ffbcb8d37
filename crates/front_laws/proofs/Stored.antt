-- The stored lists of a table fold to its base, tablet by tablet and all together, and its versions count its loads.
use Rattle.std.proofs.Common.{◌≡◌, ℕ, ◌+◌, ◌≤◌, Bool, true, false, cond, not, List, [], ◌∷◌, ◌++◌, Option, Some, ◌⊎◌, inl, inr, map, filter, refl, sym, ap, arith, subst}
use Rattle.std.specs.Prelude.{nat_eq}
use Rattle.alter_core.specs.declared.job.JobInfo.{JobInfo}
use Rattle.alter_core.specs.declared.job.JobState.{JobState}
use Rattle.alter_core.specs.declared.job.JobState.TheVariants as job_state
use Rattle.front_defs.specs.Jobs.{added_job, cancelled_job, changed_job, dropped_job, finished_job, is_job_over, is_live, is_running, job_at, jobs_of, ran_job, reopened_job, spoiled_job, waiting_job}
use Rattle.partitions.specs.LayoutFaults.{with_part}
use Rattle.partitions.specs.LayoutRules.{IsLayout}
use Rattle.partitions.specs.Places.{Place}
use Rattle.front_defs.specs.declared.event.Event.{Event}
use Rattle.front_defs.specs.declared.event.Event.TheVariants as event
use Rattle.front_defs.specs.declared.catalogue.Table.{Table}
use Rattle.front_defs.specs.declared.txn.Txn.{Txn}
use Rattle.front_defs.specs.Catalogue.{db_of, finished_in, table_at, tables_of, last_table_of, new_table, part_added}
use Rattle.front_defs.specs.Transactions.{txn_at, txns_of, changed, begun_txn, submitted_txn, aborted_at, visible_at, committed_at, dropped, places_of}
use Rattle.front_defs.specs.Stored.{whole_list, base_of, fresh_of, version_of, brought}
use Rattle.front_defs.specs.Journal.{There, FollowsFinish}
use Rattle.front_laws.specs.Tidy.{EndsNow, Each, Happens}
use Rattle.front_laws.specs.Laws.{ChainsBy}
use Rattle.front_laws.proofs.Lists.{always, each_imp, each_both, each_filter, each_found, each_map, each_put, each_snoc}
use Rattle.front_laws.proofs.Tidying.{due_found}
use Rattle.front_laws.proofs.Keeping.{each_table, found_map, part_number, table_number}
use Rattle.front_laws.proofs.Following.{each_job, match_is, some_is}
use Rattle.front_laws.proofs.Histories.{kept_of}
use Rattle.front_laws.proofs.Plans.{Good}
use Rattle.front_laws.proofs.Folding.{Admitted}
use Rattle.front_laws.proofs.Loading.{TableHolds, IsHeld, load_chain, made_chain, part_chain, dropped_chain, held_none, ended_held, held_later, part_table, part_held, dropped_held, dropped_table, swept_held, made_holds, IsSturdy, published, rows_held}
use Rattle.front_laws.proofs.Ending.{ChangeAdmits, JobHolds, JobKept, jobs_mapped, cancelled_kept, finished_kept, spoiled_kept, reopened_kept, waiting_kept, ran_kept, jobs_tables, apart_made, part_kept, finished_there, dropped_jobs, admitted_change, whole_folds, finished_holds, finished_chain, finished_held, finished_admitted}

-- What holds of every history: its loads, tables and jobs, and the lists that records alone leave.
pub record Spread (Es : List Event) : Type 0 where
  pub held : Each (IsHeld (tables_of Es)) (txns_of Es)
  pub admitted : Each Admitted (tables_of Es)
  pub jobs : Each (JobHolds (tables_of Es) (last_table_of Es)) (jobs_of Es)
  pub fresh : (table : ℕ) → TableHolds (table_at table (tables_of Es)) (base_of Es table) (fresh_of Es table)
  pub fresh_chained : (table : ℕ) (w : Place) → ChainsBy (table_at table (tables_of Es)) w (fresh_of Es table 0 w) (version_of Es table w.part)

all_kept : (f : JobInfo → JobInfo) (js : List JobInfo) → ((j : JobInfo) → JobKept j (f j)) → Each (λ (j : JobInfo). JobKept j (f j)) js
all_kept f js k = always (λ (j : JobInfo). JobKept j (f j)) js k

pub live_ends : (Es : List Event) (j : JobInfo) → EndsNow Es j ⊎ FollowsFinish Es j → is_live j.state ≡ true
live_ends Es j (inl h) = running_live j.state h.runs
  where
    running_live : (s : JobState) → is_running s ≡ true → is_live s ≡ true
    running_live job_state.Running r = refl
    running_live job_state.Pending r = refl
    running_live job_state.WaitingTxn r = refl
    running_live job_state.Finished r = absurd (cc)
    running_live job_state.Cancelled r = absurd (cc)
live_ends Es j (inr h) = ap is_live h.waits

pub sturdy : (Es : List Event) → Good Es → Spread Es → Each IsSturdy (tables_of Es)
sturdy Es g p = each_both (λ (t : Table). IsLayout t.shape t.layout) Admitted (tables_of Es) g.tidy.laid p.admitted

pub spread_step : (e : Event) (Es : List Event) → Good Es → Happens Es e → Spread Es → Spread (e ∷ Es)
spread_step (event.DbMade d) Es g h p = record { held = p.held; admitted = p.admitted; jobs = p.jobs; fresh = p.fresh; fresh_chained = p.fresh_chained }
spread_step (event.TableMade m) Es g h p =
    let y = new_table m (last_table_of Es + 1) in
    record {
      held = each_imp (λ u. (u.table ≤ last_table_of Es) × IsHeld (tables_of Es) u) (IsHeld (tables_of Es ++ y ∷ [])) (λ u k. held_later (last_table_of Es) y (tables_of Es) u refl k.0 k.1) (txns_of Es) (each_both (λ u. u.table ≤ last_table_of Es) (IsHeld (tables_of Es)) (txns_of Es) g.tidy.used p.held);
      admitted = each_snoc Admitted (tables_of Es) y p.admitted (record { shape = h.shape; rollups = tt });
      jobs = jobs_tables (tables_of Es) (tables_of Es ++ y ∷ []) (last_table_of Es) (last_table_of Es + 1) (jobs_of Es) (omega arith) (always (λ (j : JobInfo). j.table ≤ last_table_of Es → is_live j.state ≡ true → There (table_at j.table (tables_of Es)) (λ (t : Table). ChangeAdmits t.shape j.change) → There (table_at j.table (tables_of Es ++ y ∷ [])) (λ (t : Table). ChangeAdmits t.shape j.change)) (jobs_of Es) (λ j u l k. apart_made (last_table_of Es) y (tables_of Es) j.table (λ (t : Table). ChangeAdmits t.shape j.change) refl u k)) p.jobs;
      fresh = λ table. made_holds table y (tables_of Es) (base_of Es table) (fresh_of Es table) (p.fresh table);
      fresh_chained = λ table w. made_chain table y (tables_of Es) w (fresh_of Es table 0 w) (version_of Es table w.part) (p.fresh_chained table w);
    }
spread_step (event.RangeDrawn r) Es g h p = record { held = p.held; admitted = p.admitted; jobs = p.jobs; fresh = p.fresh; fresh_chained = p.fresh_chained }
spread_step (event.TxnBegun b) Es g h p = record { held = each_snoc (IsHeld (tables_of Es)) (txns_of Es) (begun_txn b) p.held (held_none (tables_of Es) (begun_txn b) refl); admitted = p.admitted; jobs = p.jobs; fresh = p.fresh; fresh_chained = p.fresh_chained }
spread_step (event.LoadSubmitted s) Es g h p =
    let y = submitted_txn s (db_of s.table (tables_of Es)) (places_of Es) in
    record {
      held = each_put (IsHeld (tables_of Es)) y (txns_of Es) (each_imp (IsHeld (tables_of Es)) (λ u. (u.id ≡ s.txn → ⊥) → IsHeld (tables_of Es) u) (λ u q _. q) (txns_of Es) p.held) (rows_held (table_at s.table (tables_of Es)) s y refl h.home);
      admitted = p.admitted;
      jobs = jobs_mapped (tables_of Es) (last_table_of Es) (spoiled_job s.cancelled s.txn s.at) (jobs_of Es) (all_kept (spoiled_job s.cancelled s.txn s.at) (jobs_of Es) (spoiled_kept s.cancelled s.txn s.at)) p.jobs;
      fresh = p.fresh;
      fresh_chained = p.fresh_chained;
    }
spread_step (event.TxnAborted a) Es g h p = record { held = ended_held (tables_of Es) a.txn (aborted_at a.at) (λ u. refl) (txns_of Es) p.held; admitted = p.admitted; jobs = p.jobs; fresh = p.fresh; fresh_chained = p.fresh_chained }
spread_step (event.LoadPublished x) Es g h p =
    let u : Txn = h.0 in
    let found = subst (λ (n : ℕ). txn_at n (txns_of Es) ≡ Some u) h.2 (due_found Es u g.tidy h.1) in
    let held = each_found (IsHeld (tables_of Es)) (λ t. nat_eq t.id x.txn) (txns_of Es) u p.held found in
    record {
      held = ended_held (tables_of Es) x.txn (visible_at x.at) (λ u. refl) (txns_of Es) p.held;
      admitted = p.admitted;
      jobs = p.jobs;
      fresh = λ table. published table (tables_of Es) (base_of Es table) (λ part. version_of Es table part + 1) (fresh_of Es table) (txns_of Es) x.txn u found (sturdy Es g p) held (p.fresh table);
      fresh_chained = λ table w. load_chain (table_at table (tables_of Es)) w (version_of Es table w.part) (fresh_of Es table 0 w) (brought table (txn_at x.txn (txns_of Es))) (p.fresh_chained table w);
    }
spread_step (event.TxnEnded x) Es g h p = record { held = ended_held (tables_of Es) x.txn (aborted_at x.at) (λ u. refl) (txns_of Es) p.held; admitted = p.admitted; jobs = p.jobs; fresh = p.fresh; fresh_chained = p.fresh_chained }
spread_step (event.PartAdded a) Es g h p = record {
  held = each_imp (IsHeld (tables_of Es)) (IsHeld (map (part_added a) (tables_of Es))) (λ u k. part_held a (tables_of Es) u k) (txns_of Es) p.held;
  admitted = each_map Admitted Admitted (part_added a) (λ t k. elim (nat_eq t.number a.table) as (λ (c : Bool). Admitted (cond c (record t { layout = with_part a.part t.layout }) t)) [ true ↦ record { shape = k.shape; rollups = k.rollups } | false ↦ k ]) (tables_of Es) p.admitted;
  jobs = jobs_tables (tables_of Es) (map (part_added a) (tables_of Es)) (last_table_of Es) (last_table_of Es) (jobs_of Es) (omega arith) (always (λ (j : JobInfo). j.table ≤ last_table_of Es → is_live j.state ≡ true → There (table_at j.table (tables_of Es)) (λ (t : Table). ChangeAdmits t.shape j.change) → There (table_at j.table (map (part_added a) (tables_of Es))) (λ (t : Table). ChangeAdmits t.shape j.change)) (jobs_of Es) (λ j u l k. part_kept a (tables_of Es) j.table j.change k)) p.jobs;
  fresh = λ table. subst (λ (o : Option Table). TableHolds o (base_of Es table) (fresh_of Es table)) (sym (found_map (part_added a) (part_number a) table (tables_of Es))) (part_table a (table_at table (tables_of Es)) (base_of Es table) (fresh_of Es table) (p.fresh table));
  fresh_chained = λ table w. subst (λ (o : Option Table). ChainsBy o w (fresh_of Es table 0 w) (version_of Es table w.part)) (sym (found_map (part_added a) (part_number a) table (tables_of Es))) (part_chain a (table_at table (tables_of Es)) w (fresh_of Es table 0 w) (version_of Es table w.part) (p.fresh_chained table w));
}
spread_step (event.TableDropped d) Es g h p = record {
  held = each_map (IsHeld (tables_of Es)) (IsHeld (filter (λ b. not (nat_eq b.number d.table)) (tables_of Es))) (dropped d.table d.at) (λ u k. dropped_held d.table d.at (tables_of Es) u k) (txns_of Es) p.held;
  admitted = each_filter Admitted (λ b. not (nat_eq b.number d.table)) (tables_of Es) p.admitted;
  jobs = each_map (JobHolds (tables_of Es) (last_table_of Es)) (JobHolds (filter (λ b. not (nat_eq b.number d.table)) (tables_of Es)) (last_table_of Es)) (dropped_job d.table d.at) (dropped_jobs d.table d.at (last_table_of Es) (tables_of Es)) (jobs_of Es) p.jobs;
  fresh = λ table. dropped_table table d.table (tables_of Es) (base_of Es table) (fresh_of Es table) (p.fresh table);
  fresh_chained = λ table w. dropped_chain table d.table (tables_of Es) w (fresh_of Es table 0 w) (version_of Es table w.part) (p.fresh_chained table w);
}
spread_step (event.LoadCommitted c) Es g h p = record {
  held = each_map (IsHeld (tables_of Es)) (IsHeld (tables_of Es)) (changed c.txn (committed_at (places_of Es + 1) c.at)) (λ u k. elim (nat_eq u.id c.txn) as (λ b. IsHeld (tables_of Es) (cond b (committed_at (places_of Es + 1) c.at u) u)) [ true ↦ k | false ↦ k ]) (txns_of Es) p.held;
  admitted = p.admitted;
  jobs = jobs_mapped (tables_of Es) (last_table_of Es) (spoiled_job c.cancelled c.txn c.at) (jobs_of Es) (all_kept (spoiled_job c.cancelled c.txn c.at) (jobs_of Es) (spoiled_kept c.cancelled c.txn c.at)) p.jobs;
  fresh = p.fresh;
  fresh_chained = p.fresh_chained;
}
spread_step (event.Swept s) Es g h p = record { held = swept_held (tables_of Es) s.at (txns_of Es) p.held; admitted = p.admitted; jobs = each_filter (JobHolds (tables_of Es) (last_table_of Es)) (λ (j : JobInfo). not (is_job_over s.at j)) (jobs_of Es) p.jobs; fresh = p.fresh; fresh_chained = p.fresh_chained }
spread_step (event.SweptUntold s) Es g h p = record { held = swept_held (tables_of Es) s.at (txns_of Es) p.held; admitted = p.admitted; jobs = p.jobs; fresh = p.fresh; fresh_chained = p.fresh_chained }
spread_step (event.Compacted c) Es g h p = record { held = p.held; admitted = p.admitted; jobs = p.jobs; fresh = p.fresh; fresh_chained = p.fresh_chained }
spread_step (event.JobAdded x) Es g h p = record {
  held = p.held;
  admitted = p.admitted;
  jobs = each_snoc (JobHolds (tables_of Es) (last_table_of Es)) (jobs_of Es) (added_job x) p.jobs (record {
    used = let n = table_number x.table (tables_of Es) h.0 h.1 in let k = each_found (λ (b : Table). b.number ≤ last_table_of Es) (λ (b : Table). nat_eq b.number x.table) (tables_of Es) h.0 g.tidy.numbered h.1 in omega (arith, n, k);
    admits = λ l. match_is (table_at x.table (tables_of Es)) h.0 (λ (t : Table). ChangeAdmits t.shape x.change) h.1 (admitted_change x.change h.0 (each_found Admitted (λ (b : Table). nat_eq b.number x.table) (tables_of Es) h.0 p.admitted h.1).shape h.2.change);
  });
  fresh = p.fresh;
  fresh_chained = p.fresh_chained;
}
spread_step (event.JobWaiting x) Es g h p = record {
  held = p.held;
  admitted = p.admitted;
  jobs = jobs_mapped (tables_of Es) (last_table_of Es) (changed_job x.job (waiting_job x.watershed)) (jobs_of Es) (waiting_kept x.job x.watershed (jobs_of Es) (each_job (λ (j : JobInfo). j.state ≡ job_state.Pending) x.job (jobs_of Es) h.0 g.alters.numbers h.1 h.2.pending)) p.jobs;
  fresh = p.fresh;
  fresh_chained = p.fresh_chained;
}
spread_step (event.WatershedDrawn x) Es g h p = record { held = p.held; admitted = p.admitted; jobs = p.jobs; fresh = p.fresh; fresh_chained = p.fresh_chained }
spread_step (event.JobRan x) Es g h p = record {
  held = p.held;
  admitted = p.admitted;
  jobs = jobs_mapped (tables_of Es) (last_table_of Es) (changed_job x.job ran_job) (jobs_of Es) (ran_kept x.job (jobs_of Es) (each_job (λ (j : JobInfo). j.state ≡ job_state.WaitingTxn) x.job (jobs_of Es) h.0 g.alters.numbers h.1 h.2.waits)) p.jobs;
  fresh = p.fresh;
  fresh_chained = p.fresh_chained;
}
spread_step (event.TaskTaken x) Es g h p = record { held = p.held; admitted = p.admitted; jobs = p.jobs; fresh = p.fresh; fresh_chained = p.fresh_chained }
spread_step (event.TaskGiven x) Es g h p = record { held = p.held; admitted = p.admitted; jobs = p.jobs; fresh = p.fresh; fresh_chained = p.fresh_chained }
spread_step (event.JobCancelled x) Es g h p = record {
  held = p.held;
  admitted = p.admitted;
  jobs = jobs_mapped (tables_of Es) (last_table_of Es) (changed_job x.job (cancelled_job x.at x.cause)) (jobs_of Es) (all_kept (changed_job x.job (cancelled_job x.at x.cause)) (jobs_of Es) (cancelled_kept x.job x.at x.cause)) p.jobs;
  fresh = p.fresh;
  fresh_chained = p.fresh_chained;
}
spread_step (event.JobFinished x) Es g h p =
    let o = job_at x.job (jobs_of Es) in
    let f : Table → Table = finished_in o in
    let kept = jobs_mapped (tables_of Es) (last_table_of Es) (changed_job x.job (finished_job x.at)) (jobs_of Es) (all_kept (changed_job x.job (finished_job x.at)) (jobs_of Es) (finished_kept x.job x.at)) p.jobs in
    let js : List JobInfo = map (changed_job x.job (finished_job x.at)) (jobs_of Es) in
    let j : JobInfo = h.0 in
    let own : JobHolds (tables_of Es) (last_table_of Es) j = each_found (JobHolds (tables_of Es) (last_table_of Es)) (λ (k : JobInfo). nat_eq k.job x.job) (jobs_of Es) j p.jobs h.1 in
    let there = kept_of (table_at j.table (tables_of Es)) (λ (t : Table). ChangeAdmits t.shape j.change) (own.admits (live_ends Es j h.2)) in
    record {
      held = each_imp (IsHeld (tables_of Es)) (IsHeld (map f (tables_of Es))) (λ u k. finished_held o (tables_of Es) u k) (txns_of Es) p.held;
      admitted = finished_admitted o (tables_of Es) (some_is o j (λ (k : JobInfo). Each (λ (t : Table). t.number ≡ k.table → ChangeAdmits t.shape k.change) (tables_of Es)) h.1 (each_table (λ (t : Table). ChangeAdmits t.shape j.change) j.table (tables_of Es) there.0 g.tidy.numbers there.1 there.2)) p.admitted;
      jobs = jobs_tables (tables_of Es) (map f (tables_of Es)) (last_table_of Es) (last_table_of Es) js (omega arith) (always (λ (k : JobInfo). k.table ≤ last_table_of Es → is_live k.state ≡ true → There (table_at k.table (tables_of Es)) (λ (t : Table). ChangeAdmits t.shape k.change) → There (table_at k.table (map f (tables_of Es))) (λ (t : Table). ChangeAdmits t.shape k.change)) js (λ k u l q. finished_there o (tables_of Es) k.table k.change q)) kept;
      fresh = λ table. finished_holds table (tables_of Es) o (base_of Es table) (λ k t i index w. whole_list t i w (version_of Es table w.part) (base_of Es table)) (fresh_of Es table) (λ t k e q n i index w z. whole_folds t i w (version_of Es table w.part) (base_of Es table) (each_found (λ (b : Table). IsLayout b.shape b.layout) (λ (b : Table). nat_eq b.number table) (tables_of Es) t g.tidy.laid e)) (p.fresh table);
      fresh_chained = λ table w. finished_chain table (tables_of Es) o w (λ k t i. whole_list t i w (version_of Es table w.part) (base_of Es table)) (fresh_of Es table 0 w) (version_of Es table w.part) (p.fresh_chained table w);
    }
spread_step event.Opened Es g h p = record {
  held = each_filter (IsHeld (tables_of Es)) (λ u. u.told) (txns_of Es) p.held;
  admitted = p.admitted;
  jobs = jobs_mapped (tables_of Es) (last_table_of Es) reopened_job (jobs_of Es) (all_kept reopened_job (jobs_of Es) reopened_kept) p.jobs;
  fresh = p.fresh;
  fresh_chained = p.fresh_chained;
}

pub spread_first : Spread []
spread_first = record { held = tt; admitted = tt; jobs = tt; fresh = λ table. (refl, λ index w. refl); fresh_chained = λ table w. (refl, refl) }
