-- What was opened from the records of a history stands for it, with the opening.
use Rattle.std.proofs.Common.{◌≡◌, ℕ, List, ◌∷◌, sym, ◌∙◌, ap, subst}
use Rattle.std.specs.List.{AllByRecursion}
use Rattle.front_defs.specs.declared.event.Event.{Event}
use Rattle.front_defs.specs.declared.event.Event.TheVariants as event
use Rattle.front_defs.specs.declared.history.Entry.{Entry}
use Rattle.front_defs.specs.declared.catalogue.Table.{Table}
use Rattle.front_defs.specs.declared.txn.Txn.{Txn}
use Rattle.front_defs.specs.Catalogue.{tables_of}
use Rattle.front_defs.specs.History.{happened}
use Rattle.front_defs.specs.Journal.{Agrees, journal_of, story}
use Rattle.front_defs.specs.Legal.{Legal}
use Rattle.front_defs.specs.Reports.{job_name_of}
use Rattle.front_defs.specs.Stands.{View, HasGrid, StandsOpen, named_in}
use Rattle.front_defs.specs.Stored.{waiting_by}
use Rattle.front_defs.specs.Transactions.{txn_at, txns_of}
use Rattle.std.proofs.Common.{Bool, true, false, cond, ◌&&◌, [], Option, Some, None, IfSome, map, refl}
use Rattle.std.specs.Prelude.{nat_eq}
use Rattle.alter_core.specs.declared.job.JobInfo.{JobInfo}
use Rattle.front_defs.specs.Jobs.{is_running, jobs_of, reopened_job, running_job}
use Rattle.front_laws.proofs.Lists.{each_imp}
use Rattle.front_laws.proofs.Commuting.{never_runs}
use Rattle.front_laws.proofs.Stories.{reopens}

waits : (txn index : ℕ) (old new : List Txn) (before now : List Table) → old ≡ new → before ≡ now → (js ks : List JobInfo) → js ≡ ks → waiting_by (txn_at txn old) index before js ≡ waiting_by (txn_at txn new) index now ks
waits txn index old new before now t b js ks j = ap (λ (ts : List Txn). waiting_by (txn_at txn ts) index before js) t ∙ ap (λ (bs : List Table). waiting_by (txn_at txn new) index bs js) b ∙ ap (waiting_by (txn_at txn new) index now) j

none_if : (o : Option JobInfo) (P : JobInfo → Type 0) → o ≡ None → IfSome o P
none_if o P e = subst (λ (x : Option JobInfo). IfSome x P) (sym e) tt

none_reopened : (table : ℕ) (js : List JobInfo) → running_job table (map reopened_job js) ≡ None
none_reopened table [] = refl
none_reopened table (j ∷ js) = go (nat_eq j.table table) (is_running (reopened_job j).state) (never_runs j.state) (none_reopened table js)
  where
    go : (a b : Bool) → b ≡ false → running_job table (map reopened_job js) ≡ None → cond (a && b) (Some (reopened_job j)) (running_job table (map reopened_job js)) ≡ None
    go true true e k = absurd (let z : true ≡ false = e in cc (z))
    go true false e k = k
    go false b e k = k

alike : (v : View) (Es Gs : List Event) → Agrees Es Gs → ((table : ℕ) → running_job table (jobs_of Es) ≡ None) → StandsOpen v Gs → StandsOpen v Es
alike v Es Gs a none s = record {
  alters = record {
    names = subst (λ (js : List JobInfo). AllByRecursion (λ (j : JobInfo). named_in j.job v.job_names ≡ job_name_of Es j.job) js) (sym a.jobs) (each_imp (λ (j : JobInfo). named_in j.job v.job_names ≡ job_name_of Gs j.job) (λ (j : JobInfo). named_in j.job v.job_names ≡ job_name_of Es j.job) (λ j k. k ∙ sym (a.named j.job)) (jobs_of Gs) s.alters.names);
    jobs = s.alters.jobs ∙ sym a.jobs;
    last_job = s.alters.last_job ∙ sym a.last_job;
    tasks = s.alters.tasks ∙ sym a.tasks;
  };
  shadows = record { shadows = λ table index w. none_if (running_job table (jobs_of Es)) _ (none table) };
  cat = record { databases = s.cat.databases ∙ sym a.databases; tables = s.cat.tables ∙ sym a.tables; last_table = s.cat.last_table ∙ sym a.last_table };
  txns = record { txns = s.txns.txns ∙ sym a.txns; range = s.txns.range ∙ sym a.range; next = s.txns.next ∙ sym a.next; places = s.txns.places ∙ sym a.places };
  tablets = record {
    grid = subst (AllByRecursion (HasGrid v.tablets)) (sym a.tables) s.tablets.grid;
    lists = λ table index w. s.tablets.lists table index w ∙ sym (a.lists table index w);
    versions = λ table part. s.tablets.versions table part ∙ sym (a.versions table part);
    waiting = λ txn index. s.tablets.waiting txn index ∙ waits txn index (txns_of Gs) (txns_of Es) (tables_of Gs) (tables_of Es) (sym a.txns) (sym a.tables) (jobs_of Gs) (jobs_of Es) (sym a.jobs);
  };
}

pub healed : (v : View) (H : List Entry) → Legal H → StandsOpen v (happened (story (journal_of H))) → StandsOpen v (event.Opened ∷ happened H)
healed v H l s = alike v (event.Opened ∷ happened H) (happened (story (journal_of H))) (reopens H l).1 (λ table. none_reopened table (jobs_of (happened H))) s
