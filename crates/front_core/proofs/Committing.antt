-- A submitted two-phase load is committed.
use Rattle.std.proofs.Common.{◌≡◌, ℕ, ◌+◌, List, [], Option, Some, None, map, refl, sym, ◌∙◌, ap, subst}
use Rattle.alter_core.specs.declared.job.JobInfo.{JobInfo}
use Rattle.front_defs.specs.declared.event.Event.{Event}
use Rattle.front_defs.specs.declared.txn.Txn.{Txn}
use Rattle.front_defs.specs.declared.command.Command.TheVariants as command
use Rattle.front_defs.specs.declared.command.TxnKey.{TxnKey}
use Rattle.front_defs.specs.declared.reply.Reply.{Reply}
use Rattle.front_defs.specs.Answer.{Answer}
use Rattle.front_defs.specs.Catalogue.{table_at, tables_of}
use Rattle.front_defs.specs.Indexes.{spoiled_by}
use Rattle.front_defs.specs.Jobs.{jobs_of, spoiled_job}
use Rattle.front_defs.specs.Stands.{View, StandsOpen}
use Rattle.front_defs.specs.Stored.{waiting_by}
use Rattle.front_defs.specs.Transactions.{changed, committed_at, places_of, txn_at, txn_by, txns_of}
use Rattle.front_core.specs.Parts.{IsFront, Commits, CommitsLoad, with_commit}
use Rattle.front_core.proofs.Alters.{no_jobs, stands_so}
use Rattle.front_core.proofs.Going.{Acts}
use Rattle.front_core.proofs.Loads.{waiting_committed}

committed_by : (v : View) (Es : List Event) (db : List ℕ) (key : TxnKey) (at : ℕ) (t : Txn) → txn_by db key (txns_of Es) ≡ Some t → IsFront v → StandsOpen v Es → Acts v (with_commit t.id at v) Es (command.Commit db key at)
committed_by v Es db key at t found p s =
    let cancelled = spoiled_by (jobs_of Es) (table_at t.table (tables_of Es)) t.rows in
    let before = no_jobs v Es p.jobless s in
    let after : map (spoiled_job cancelled t.id at) (jobs_of Es) ≡ [] = ap (map (spoiled_job cancelled t.id at)) before in
    let place : map (changed t.id (committed_at (v.places + 1) at)) v.txns ≡ map (changed t.id (committed_at (places_of Es + 1) at)) (txns_of Es) =
    ap (map (changed t.id (committed_at (v.places + 1) at))) s.txns.txns ∙ ap (λ (n : ℕ). map (changed t.id (committed_at (n + 1) at)) (txns_of Es)) s.txns.places in
    rw found (record {
      live = refl;
      taken = refl;
      parts = stands_so v Es (record { none = p.jobless; last = refl; marks = refl; jobs = after; last_job = refl; tasks = refl }) s
          (record { databases = s.cat.databases; tables = s.cat.tables; last_table = s.cat.last_table })
          (record { txns = place; range = s.txns.range; next = s.txns.next; places = ap (λ (n : ℕ). n + 1) s.txns.places })
          (record {
            grid = s.tablets.grid;
            lists = s.tablets.lists;
            versions = s.tablets.versions;
            waiting = λ n index. s.tablets.waiting n index ∙ sym (waiting_committed t.id n index (places_of Es + 1) at (txns_of Es) (tables_of Es) (jobs_of Es))
                ∙ ap (λ (js : List JobInfo). waiting_by (txn_at n (map (changed t.id (committed_at (places_of Es + 1) at)) (txns_of Es))) index (tables_of Es) js) (before ∙ sym after);
          });
    })

commits_by : (v new : View) (Es : List Event) (db : List ℕ) (key : TxnKey) (at : ℕ) (o : Option Txn) → txn_by db key (txns_of Es) ≡ o → CommitsLoad o at v new → IsFront v → StandsOpen v Es → Acts v new Es (command.Commit db key at)
commits_by v new Es db key at None found h p s = absurd h
commits_by v new Es db key at (Some t) found h p s = subst (λ (x : View). Acts v x Es (command.Commit db key at)) (sym h) (committed_by v Es db key at t found p s)

pub commits_load : (v new : View) (Es : List Event) (db : List ℕ) (key : TxnKey) (at : ℕ) → CommitsLoad (txn_by db key v.txns) at v new → IsFront v → StandsOpen v Es → Acts v new Es (command.Commit db key at)
commits_load v new Es db key at h p s = commits_by v new Es db key at (txn_by db key v.txns) (ap (txn_by db key) (sym s.txns.txns)) h p s

-- what answers a Commit after what the front has answers it after what happened
pub commits : (v : View) (Es : List Event) (db : List ℕ) (key : TxnKey) (at : ℕ) (r : Reply) → Commits db key at v.databases v.txns v.places r → StandsOpen v Es → Answer Es (command.Commit db key at) r
commits v Es db key at r h s = rw (s.cat.databases, s.txns.txns, s.txns.places) at h
