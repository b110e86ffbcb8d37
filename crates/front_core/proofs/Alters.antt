-- A front has no job, so that nothing is altered, and no index but the base.
use Rattle.std.proofs.Common.{◌≡◌, List, [], IfSome, sym, ◌∙◌, subst}
use Rattle.std.specs.List.{AllByRecursion}
use Rattle.alter_core.specs.declared.job.JobInfo.{JobInfo}
use Rattle.front_defs.specs.declared.event.Event.{Event}
use Rattle.front_defs.specs.Catalogue.{table_at, tables_of}
use Rattle.front_defs.specs.Jobs.{jobs_of, last_job_of, running_job, tasks_of}
use Rattle.front_defs.specs.Reports.{job_name_of}
use Rattle.front_defs.specs.Stands.{named_in, ShadowStands, StandsAlters, StandsCat, StandsOpen, StandsShadows, StandsTablets, StandsTxns, View}

pub no_jobs : (v : View) (Es : List Event) → v.jobs ≡ [] → StandsOpen v Es → jobs_of Es ≡ []
no_jobs v Es e s = sym s.alters.jobs ∙ e

-- nothing is altered by what happened now
pub record Unaltered (v new : View) (Es now : List Event) : Type 0 where
  pub none : new.jobs ≡ []
  pub last : new.last_job ≡ v.last_job
  pub marks : new.tasks ≡ v.tasks
  pub jobs : jobs_of now ≡ []
  pub last_job : last_job_of now ≡ last_job_of Es
  pub tasks : tasks_of now ≡ tasks_of Es

alters_stay : (v new : View) (Es now : List Event) → Unaltered v new Es now → StandsAlters v Es → StandsAlters new now
alters_stay v new Es now u s = record {
  jobs = u.none ∙ sym u.jobs;
  names = subst (λ (js : List JobInfo). AllByRecursion (λ (j : JobInfo). named_in j.job new.job_names ≡ job_name_of now j.job) js) (sym u.jobs) tt;
  last_job = u.last ∙ s.last_job ∙ sym u.last_job;
  tasks = u.marks ∙ s.tasks ∙ sym u.tasks;
}

no_shadows : (new : View) (now : List Event) → jobs_of now ≡ [] → StandsShadows new now
no_shadows new now e = record { shadows = λ table index w. subst (λ (js : List JobInfo). IfSome (running_job table js) (λ (j : JobInfo). IfSome (table_at table (tables_of now)) (ShadowStands now new.shadows j index w))) (sym e) tt }

pub stands_so : {new : View} {now : List Event} (v : View) (Es : List Event) → Unaltered v new Es now → StandsOpen v Es → StandsCat new now → StandsTxns new now → StandsTablets new now → StandsOpen new now
stands_so {new} {now} v Es u s cat txns tablets = record { cat = cat; txns = txns; tablets = tablets; alters = alters_stay v new Es now u s.alters; shadows = no_shadows new now u.jobs }
