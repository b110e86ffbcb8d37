-- What has expired is aborted, and what ended long ago is forgotten.
use Rattle.std.proofs.Common.{◌≡◌, ℕ, ◌+◌, Bool, true, false, cond, not, ◌||◌, List, [], ◌∷◌, Option, map, filter, refl, sym, ◌∙◌, ap, subst}
use Rattle.std.specs.List.{list_any}
use Rattle.alter_core.specs.declared.job.JobInfo.{JobInfo}
use Rattle.front_defs.specs.declared.event.Event.{Event}
use Rattle.front_defs.specs.declared.txn.Txn.{Txn}
use Rattle.front_defs.specs.declared.command.Command.TheVariants as command
use Rattle.front_defs.specs.declared.reply.Reply.{Reply}
use Rattle.front_defs.specs.Answer.{Answer}
use Rattle.front_defs.specs.Catalogue.{tables_of}
use Rattle.front_defs.specs.Jobs.{is_job_over, jobs_of}
use Rattle.front_defs.specs.Stands.{View, StandsOpen, waiting_for}
use Rattle.front_defs.specs.Stored.{waiting_by}
use Rattle.front_defs.specs.Transactions.{aborted_at, is_expired, sweep, sweeps_told, swept_at, txn_at, txns_of}
use Rattle.front_laws.specs.Tidy.{Ascends, Tidy}
use Rattle.front_state.specs.Parts.{emptied_where, is_fresh, waits_where}
use Rattle.front_core.specs.Parts.{IsFront, Sweeps, with_sweep}
use Rattle.front_core.proofs.Alters.{no_jobs, stands_so}
use Rattle.front_core.proofs.Going.{Acts}
use Rattle.front_core.proofs.Waits.{kept_aligned, waiting_emptied, waiting_kept}

same_id : (at : ℕ) (t : Txn) → (swept_at at t).id ≡ t.id
same_id at t = elim (is_expired at t) as (λ (b : Bool). (cond b (aborted_at at t) t).id ≡ t.id) [ true ↦ refl | false ↦ refl ]

no_rows_of : (at : ℕ) (t : Txn) → is_expired at t ≡ true → (swept_at at t).rows ≡ []
no_rows_of at t e = rw e refl

still_of : (at : ℕ) (t : Txn) → is_expired at t ≡ false → swept_at at t ≡ t
still_of at t e = rw e refl

-- what waits
waits_swept : (v : View) (Es : List Event) (at n index : ℕ) → IsFront v → Tidy Es → StandsOpen v Es → waiting_for n index (emptied_where (is_expired at) (filter (is_fresh at) v.txns) (waits_where (is_fresh at) v.txns v.waiting)) ≡ waiting_by (txn_at n (sweep at (txns_of Es))) index (tables_of Es) (jobs_of Es)
waits_swept v Es at n index p g s =
    let ascends : Ascends v.txns = subst Ascends (sym s.txns.txns) g.ascends in
    let before : waiting_for n index v.waiting ≡ waiting_by (txn_at n v.txns) index (tables_of Es) (jobs_of Es) = s.tablets.waiting n index ∙ ap (λ (ts : List Txn). waiting_by (txn_at n ts) index (tables_of Es) (jobs_of Es)) (sym s.txns.txns) in
    waiting_emptied (is_expired at) (swept_at at) n index (filter (is_fresh at) v.txns) (waits_where (is_fresh at) v.txns v.waiting) (tables_of Es) (jobs_of Es) (same_id at) (no_rows_of at) (still_of at)
    (kept_aligned (is_fresh at) v.txns v.waiting p.aligned) (waiting_kept (is_fresh at) n index v.txns v.waiting (tables_of Es) (jobs_of Es) p.aligned ascends before)
    ∙ ap (λ (ts : List Txn). waiting_by (txn_at n (sweep at ts)) index (tables_of Es) (jobs_of Es)) s.txns.txns

swept_by : (v : View) (Es : List Event) (at : ℕ) (b : Bool) → (list_any (sweeps_told at) (txns_of Es) || list_any (is_job_over at) (jobs_of Es)) ≡ b → IsFront v → Tidy Es → StandsOpen v Es → Acts v (with_sweep at v) Es (command.Sweep at)
swept_by v Es at true told p g s =
    let before = no_jobs v Es p.jobless s in
    let after : filter (λ (j : JobInfo). not (is_job_over at j)) (jobs_of Es) ≡ [] = ap (filter (λ (j : JobInfo). not (is_job_over at j))) before in
    rw told (record {
      live = refl;
      taken = refl;
      parts = stands_so v Es (record { none = p.jobless; last = refl; marks = refl; jobs = after; last_job = refl; tasks = refl }) s
          (record { databases = s.cat.databases; tables = s.cat.tables; last_table = s.cat.last_table })
          (record { txns = ap (sweep at) s.txns.txns; range = s.txns.range; next = s.txns.next; places = s.txns.places })
          (record {
            grid = s.tablets.grid;
            lists = s.tablets.lists;
            versions = s.tablets.versions;
            waiting = λ n index. waits_swept v Es at n index p g s ∙ ap (λ (js : List JobInfo). waiting_by (txn_at n (sweep at (txns_of Es))) index (tables_of Es) js) (before ∙ sym after);
          });
    })
swept_by v Es at false told p g s = rw told (record {
  live = refl;
  taken = refl;
  parts = stands_so v Es (record { none = p.jobless; last = refl; marks = refl; jobs = no_jobs v Es p.jobless s; last_job = refl; tasks = refl }) s
      (record { databases = s.cat.databases; tables = s.cat.tables; last_table = s.cat.last_table })
      (record { txns = ap (sweep at) s.txns.txns; range = s.txns.range; next = s.txns.next; places = s.txns.places })
      (record { grid = s.tablets.grid; lists = s.tablets.lists; versions = s.tablets.versions; waiting = λ n index. waits_swept v Es at n index p g s });
})

pub sweeps_all : (v new : View) (Es : List Event) (at : ℕ) → new ≡ with_sweep at v → IsFront v → Tidy Es → StandsOpen v Es → Acts v new Es (command.Sweep at)
sweeps_all v new Es at e p g s = subst (λ (x : View). Acts v x Es (command.Sweep at)) (sym e) (swept_by v Es at (list_any (sweeps_told at) (txns_of Es) || list_any (is_job_over at) (jobs_of Es)) refl p g s)

-- what answers a Sweep after what the front has answers it after what happened
pub sweeps_so : (v : View) (Es : List Event) (at : ℕ) (r : Reply) → Sweeps at v.txns v.jobs r → StandsOpen v Es → Answer Es (command.Sweep at) r
sweeps_so v Es at r h s = rw (s.txns.txns, s.alters.jobs) at h
