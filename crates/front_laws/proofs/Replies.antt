-- Which replies a command may have: how a call went, and where a Begin is the answer.
use Rattle.std.proofs.Common.{◌≡◌, ℕ, Bool, true, false, cond, not, ◌&&◌, ◌||◌, List, [], ◌∷◌, Option, Some, None, IfSome, MatchOption, ◌⊎◌, inl, inr, refl, sym, ◌∙◌, ap, subst, is_some, is_none}
use Rattle.std.specs.Prelude.{◌+◌, nat_eq, nat_le, length, count_by}
use Rattle.std.specs.List.{list_any}
use Rattle.std.specs.Option.{option_map}
use Rattle.partitions.specs.LayoutFaults.{add_fault}
use Rattle.table_defs.specs.Parts.{part_of}
use Rattle.partitions.specs.declared.layout_error.LayoutError.{LayoutError}
use Rattle.dl_values.specs.declared.cell.Cell.{Cell}
use Rattle.schema_models.specs.Faults.{refuse_if, first_of}
use Rattle.schema_models.specs.Names.{is_name}
use Rattle.sql_text.specs.declared.part.Part.{Part}
use Rattle.sql_text.specs.declared.table_def.TableDef.{TableDef}
use Rattle.table_defs.specs.declared.def_error.DefError.{DefError}
use Rattle.sql_text.specs.declared.query.Query.{Query}
use Rattle.front_defs.specs.declared.command.TxnKey.TheVariants as key
use Rattle.front_defs.specs.declared.show_what.ShowWhat.{ShowWhat}
use Rattle.front_defs.specs.declared.show_what.ShowWhat.TheVariants as show
use Rattle.front_defs.specs.Reports.{Report, Reports, report, shown_refusal}
use Rattle.front_defs.specs.Answer.{ShownOf, picked, show_refusals}
use Rattle.front_defs.specs.declared.event.Event.{Event}
use Rattle.front_defs.specs.declared.event.Event.TheVariants as event
use Rattle.front_defs.specs.declared.catalogue.Table.{Table}
use Rattle.front_defs.specs.declared.txn.Txn.{Txn}
use Rattle.front_defs.specs.declared.command.Command.{Command}
use Rattle.front_defs.specs.declared.command.Command.TheVariants as command
use Rattle.front_defs.specs.declared.reply.Reply.{Reply}
use Rattle.front_defs.specs.declared.reply.Reply.TheVariants as reply
use Rattle.front_defs.specs.Names.{is_label}
use Rattle.front_defs.specs.Ids.{next_of}
use Rattle.front_defs.specs.Refusals.{Answers}
use Rattle.front_defs.specs.Catalogue.{has_db, table_at, table_named, databases_of, tables_of}
use Rattle.front_defs.specs.Transactions.{is_prepare, is_precommitted, is_aborted, is_expired, is_over, sweeps, txn_at, txn_by, label_of, due, txns_of, places_of}
use Rattle.front_defs.specs.Stored.{base_of, stored_of, cost_of}
use Rattle.table_defs.specs.Columns.{shape_of}
use Rattle.table_defs.specs.Defined.{def_fault, layout_of}
use Rattle.front_defs.specs.declared.alter_error.AlterError.{AlterError}
use Rattle.front_defs.specs.Answer.{refused_part, commit_refusals, CommittedFor, most, label_for, bad_label, used, refused_by, refused_def, submit_refusals, abort_refusals, refusals, plan_of, BegunFor, PublishedFor, AbortedFor, ShownFor, Shows, placed_for, Answer}
use Rattle.front_defs.specs.History.{drops, acted, Well, Refused, outcome}
use Rattle.alter_core.specs.declared.job.JobInfo.{JobInfo}
use Rattle.alter_core.specs.declared.job.JobKind.{JobKind}
use Rattle.alter_core.specs.declared.job.JobState.{JobState}
use Rattle.history_convert.specs.declared.task.Piece.{Piece}
use Rattle.history_convert.specs.declared.task.Task.{Task}
use Rattle.front_defs.specs.declared.command.AlterDef.{AlterDef}
use Rattle.front_defs.specs.declared.command.AlterDef.TheVariants as alter
use Rattle.front_defs.specs.Ids.{live_of}
use Rattle.front_defs.specs.Jobs.{TaskMark, TaskName, is_job_over, job_at, jobs_of, last_job_of, live_job, taken_of, tasks_of}
use Rattle.front_defs.specs.Indexes.{Index, change_maps, index_at}
use Rattle.front_defs.specs.Moves.{next_move, next_task}
use Rattle.front_defs.specs.Alters.{given_state, has_index_name, job_of_kind, job_state_of, may_give, most_rollups, refused_alter, roll_fault, rollup_refusals}
use Rattle.front_defs.specs.Answer.{AdvancedFor, CancelledFor, IsTask, TakenBy, TakenFor, TakenIn, TakenOf, add_alter_refusals, busy_by, busy_in, cancel_alter_refusals, give_refusals, lacks_job}
use Rattle.front_defs.specs.Stored.{source_of}

-- each refusal that holds has this
abbrev pub AllSome : (Reply → Type 0) → List (Option Reply) → Type 0
AllSome P [] = Unit {0}
AllSome P (o ∷ os) = IfSome o P × AllSome P os

pub refuse_some : (P : Reply → Type 0) (b : Bool) (x : Reply) → (b ≡ true → P x) → IfSome (refuse_if b x) P
refuse_some P true x p = p refl
refuse_some P false x p = tt

-- Where a call was answered well, no refusal held, or the name was there already.
abbrev Stays : List Event → Command → Reply → Type 0
Stays Es c x = outcome x ≡ Well → acted Es c ≡ []

def_stays : (Es : List Event) (c : Command) (table : List ℕ) (def : TableDef) → IfSome (refused_def table def) (Stays Es c)
def_stays Es c table def = go (def_fault table def)
  where
    go : (o : Option DefError) → IfSome (refused_by o) (Stays Es c)
    go None = tt
    go (Some e) = λ h. absurd (cc)

label_stays : (Es : List Event) (c : Command) (label : Option (List ℕ)) → IfSome (bad_label label) (Stays Es c)
label_stays Es c None = tt
label_stays Es c (Some l) = refuse_some (Stays Es c) (not (is_label l)) reply.BadLabel (λ _ h. absurd (cc))

used_stays : (Es : List Event) (c : Command) (o : Option Txn) → IfSome (used o) (Stays Es c)
used_stays Es c None = tt
used_stays Es c (Some t) = refuse_some (Stays Es c) (not (is_aborted t.state)) (reply.Used t.id t.state) (λ _ h. absurd (cc))

exists_stays : (Es : List Event) (c : Command) (b if_not_exists : Bool) (r : Reply) (e : Event) → acted Es c ≡ cond b [] (e ∷ []) → b ≡ true → outcome r ≡ Refused → Stays Es c (cond if_not_exists reply.Done r)
exists_stays Es c b true r e a is n h = a ∙ ap (λ (x : Bool). cond x [] (e ∷ [])) is
exists_stays Es c b false r e a is n h = absurd (cc (n, h))

submit_stays : (Es : List Event) (c : Command) (at : ℕ) (o : Option Txn) → AllSome (Stays Es c) (submit_refusals at o)
submit_stays Es c at None = (λ h. absurd (cc), tt)
submit_stays Es c at (Some t) = (refuse_some (Stays Es c) (not (is_prepare t.state)) (reply.WrongState t.state) (λ _ h. absurd (cc)), (refuse_some (Stays Es c) (nat_le (t.since + 600) at) (reply.Expired t.since) (λ _ h. absurd (cc)), tt))

abort_stays : (Es : List Event) (c : Command) (known : Bool) (o : Option Txn) → AllSome (Stays Es c) (abort_refusals known o)
abort_stays Es c known None = (refuse_some (Stays Es c) (not known) reply.UnknownDb (λ _ h. absurd (cc)), (λ h. absurd (cc), tt))
abort_stays Es c known (Some t) = (refuse_some (Stays Es c) (not known) reply.UnknownDb (λ _ h. absurd (cc)), (refuse_some (Stays Es c) (not (is_prepare t.state) && not (is_precommitted t.state)) (reply.WrongState t.state) (λ _ h. absurd (cc)), tt))

commit_stays : (Es : List Event) (c : Command) (at : ℕ) (known : Bool) (o : Option Txn) → AllSome (Stays Es c) (commit_refusals at known o)
commit_stays Es c at known None = (refuse_some (Stays Es c) (not known) reply.UnknownDb (λ _ h. absurd (cc)), (λ h. absurd (cc), tt))
commit_stays Es c at known (Some t) = (refuse_some (Stays Es c) (not known) reply.UnknownDb (λ _ h. absurd (cc)), (refuse_some (Stays Es c) (not (is_precommitted t.state)) (reply.WrongState t.state) (λ _ h. absurd (cc)), (refuse_some (Stays Es c) (nat_le (t.since + 3600) at) (reply.Expired t.since) (λ _ h. absurd (cc)), tt)))

part_stays : (Es : List Event) (c : Command) (part : Part) (o : Option Table) → IfSome (refused_part part o) (Stays Es c)
part_stays Es c part None = tt
part_stays Es c part (Some t) = go (add_fault t.layout (part_of t.layout.kind part))
  where
    go : (o : Option LayoutError) → IfSome (option_map reply.BadPartition o) (Stays Es c)
    go None = tt
    go (Some e) = λ h. absurd (cc)

gone_stays : (Es : List Event) (db table : List ℕ) (if_exists : Bool) (at : ℕ) (o : Option Table) → table_named db table (tables_of Es) ≡ o → is_none o ≡ true → Stays Es (command.DropTable db table if_exists at) (cond if_exists reply.Done reply.UnknownTable)
gone_stays Es db table if_exists at None f n h = ap (drops at) f
gone_stays Es db table if_exists at (Some t) f n h = absurd (cc)

first_any : (P : Reply → Type 0) (os : List (Option Reply)) → AllSome P os → IfSome (first_of os) P
first_any P [] a = tt
first_any P (None ∷ os) a = first_any P os a.1
first_any P (Some x ∷ os) a = a.0

busy_any : (P : Reply → Type 0) → ((n : ℕ) → P (reply.Busy n)) → (o : Option Table) (jobs : List JobInfo) → IfSome (busy_in o jobs) P
busy_any P k None jobs = tt
busy_any P k (Some t) jobs = go (live_job t.number jobs)
  where
    go : (o : Option JobInfo) → IfSome (busy_by o) P
    go None = tt
    go (Some j) = k j.job

rolled_any : (P : Reply → Type 0) → ((e : AlterError) → P (reply.BadAlter e)) → (o : Option AlterError) → IfSome (option_map reply.BadAlter o) P
rolled_any P k None = tt
rolled_any P k (Some e) = k e

alter_any : (P : Reply → Type 0) → P reply.TooManyRollups → P reply.BadName → P reply.DoubleName → ((e : AlterError) → P (reply.BadAlter e)) → (def : AlterDef) (o : Option Table) → IfSome (refused_alter def o) P
alter_any P a b c d def None = tt
alter_any P a b c d (alter.Rollup name columns) (Some t) =
    first_any P (rollup_refusals name columns t)
    (refuse_some P (nat_le most_rollups (length t.rollups)) reply.TooManyRollups (λ _. a), (refuse_some P (not (is_name name)) reply.BadName (λ _. b), (refuse_some P (has_index_name name t) reply.DoubleName (λ _. c), (rolled_any P d (roll_fault t.shape columns), tt))))

add_alter_any : (P : Reply → Type 0) → P reply.UnknownDb → P reply.UnknownTable → ((n : ℕ) → P (reply.Busy n)) → P reply.TooManyJobs → P reply.TooManyRollups → P reply.BadName → P reply.DoubleName → ((e : AlterError) → P (reply.BadAlter e)) → (db table : List ℕ) (def : AlterDef) (dbs : List (List ℕ)) (tables : List Table) (jobs : List JobInfo) → AllSome P (add_alter_refusals db table def dbs tables jobs)
add_alter_any P x y z u a b c d db table def dbs tables jobs =
    (refuse_some P (not (has_db db dbs)) reply.UnknownDb (λ _. x), (refuse_some P (is_none (table_named db table tables)) reply.UnknownTable (λ _. y), (busy_any P z (table_named db table tables) jobs, (refuse_some P (nat_le most (length jobs)) reply.TooManyJobs (λ _. u), (alter_any P a b c d def (table_named db table tables), tt)))))

cancel_alter_any : (P : Reply → Type 0) → P reply.UnknownDb → P reply.UnknownTable → P reply.NoJob → (db table : List ℕ) (kind : JobKind) (dbs : List (List ℕ)) (tables : List Table) (jobs : List JobInfo) → AllSome P (cancel_alter_refusals db table kind dbs tables jobs)
cancel_alter_any P x y z db table kind dbs tables jobs =
    (refuse_some P (not (has_db db dbs)) reply.UnknownDb (λ _. x), (refuse_some P (is_none (table_named db table tables)) reply.UnknownTable (λ _. y), (refuse_some P (lacks_job (table_named db table tables) kind jobs) reply.NoJob (λ _. z), tt)))

give_any : (P : Reply → Type 0) → ((n : ℕ) → P (reply.Stale n)) → ((s : JobState) → P (reply.TaskOver s)) → (piece : Piece) (live : ℕ) (jobs : List JobInfo) (tasks : List TaskMark) → AllSome P (give_refusals piece live jobs tasks)
give_any P x y piece live jobs tasks = (refuse_some P (not (nat_eq piece.born live)) (reply.Stale live) (λ _. x live), (refuse_some P (not (may_give piece jobs tasks)) (reply.TaskOver (job_state_of (job_at piece.job jobs))) (λ _. y (job_state_of (job_at piece.job jobs))), tt))

show_any : (P : Reply → Type 0) → P reply.UnknownDb → P reply.UnknownTable → P reply.NoSuchTxn → (db : List ℕ) (what : ShowWhat) (dbs : List (List ℕ)) (tables : List Table) (txns : List Txn) → AllSome P (show_refusals db what dbs tables txns)
show_any P x y z db what dbs tables txns = (refuse_some P (not (has_db db dbs)) reply.UnknownDb (λ _. x), (go what, tt))
  where
    go : (w : ShowWhat) → IfSome (shown_refusal db w tables txns) P
    go show.Tables = tt
    go (show.Partitions name) = refuse_some P (is_none (table_named db name tables)) reply.UnknownTable (λ _. y)
    go (show.Indexes name) = refuse_some P (is_none (table_named db name tables)) reply.UnknownTable (λ _. y)
    go (show.Jobs kind) = tt
    go (show.ById id) = refuse_some P (is_none (txn_by db (key.Id id) txns)) reply.NoSuchTxn (λ _. z)
    go (show.ByLabel label) = refuse_some P (is_none (txn_by db (key.Label label) txns)) reply.NoSuchTxn (λ _. z)

refused_stays : (Es : List Event) (c : Command) → AllSome (Stays Es c) (refusals Es c)
refused_stays Es (command.CreateDb name if_not_exists) =
    let c = command.CreateDb name if_not_exists in
    (refuse_some (Stays Es c) (not (is_name name)) reply.BadName (λ _ h. absurd (cc)), (refuse_some (Stays Es c) (has_db name (databases_of Es)) (cond if_not_exists reply.Done reply.DbExists) (λ is. exists_stays Es c (has_db name (databases_of Es)) if_not_exists reply.DbExists (event.DbMade (record { name = name })) refl is refl), (refuse_some (Stays Es c) (nat_le most (length (databases_of Es))) reply.TooManyDbs (λ _ h. absurd (cc)), tt)))
refused_stays Es (command.CreateTable db table def if_not_exists) =
    let c = command.CreateTable db table def if_not_exists in
    (refuse_some (Stays Es c) (not (has_db db (databases_of Es))) reply.UnknownDb (λ _ h. absurd (cc)), (refuse_some (Stays Es c) (is_some (table_named db table (tables_of Es))) (cond if_not_exists reply.Done reply.TableExists) (λ is. exists_stays Es c (is_some (table_named db table (tables_of Es))) if_not_exists reply.TableExists (event.TableMade (record { db = db; name = table; shape = shape_of def; layout = layout_of table def })) refl is refl), (refuse_some (Stays Es c) (not (is_name table)) reply.BadName (λ _ h. absurd (cc)), (refuse_some (Stays Es c) (nat_le most (length (tables_of Es))) reply.TooManyTables (λ _ h. absurd (cc)), (def_stays Es c table def, tt)))))
refused_stays Es (command.Begin db table label two_phase at) =
    let c = command.Begin db table label two_phase at in
    (refuse_some (Stays Es c) (not (has_db db (databases_of Es))) reply.UnknownDb (λ _ h. absurd (cc)), (refuse_some (Stays Es c) (is_none (table_named db table (tables_of Es))) reply.UnknownTable (λ _ h. absurd (cc)), (label_stays Es c label, (used_stays Es c (label_of db (label_for label (next_of Es)) (txns_of Es)), tt))))
refused_stays Es (command.Submit txn built at) = submit_stays Es (command.Submit txn built at) at (txn_at txn (txns_of Es))
refused_stays Es (command.Publish at) = (refuse_some (Stays Es (command.Publish at)) (is_none (due (txns_of Es))) reply.NothingToPublish (λ _ h. absurd (cc)), tt)
refused_stays Es (command.Abort db txn at) = abort_stays Es (command.Abort db txn at) (has_db db (databases_of Es)) (txn_by db txn (txns_of Es))
refused_stays Es (command.Snapshot db table query) = (refuse_some (Stays Es (command.Snapshot db table query)) (not (has_db db (databases_of Es))) reply.UnknownDb (λ _ h. refl), (refuse_some (Stays Es (command.Snapshot db table query)) (is_none (table_named db table (tables_of Es))) reply.UnknownTable (λ _ h. refl), tt))
refused_stays Es (command.DropTable db table if_exists at) =
    let c = command.DropTable db table if_exists at in
    (refuse_some (Stays Es c) (not (has_db db (databases_of Es))) reply.UnknownDb (λ _ h. absurd (cc)), (refuse_some (Stays Es c) (is_none (table_named db table (tables_of Es))) (cond if_exists reply.Done reply.UnknownTable) (λ is. gone_stays Es db table if_exists at (table_named db table (tables_of Es)) refl is), tt))
refused_stays Es (command.AddPartition db table part) =
    let c = command.AddPartition db table part in
    (refuse_some (Stays Es c) (not (has_db db (databases_of Es))) reply.UnknownDb (λ _ h. absurd (cc)), (refuse_some (Stays Es c) (is_none (table_named db table (tables_of Es))) reply.UnknownTable (λ _ h. absurd (cc)), (busy_any (Stays Es c) (λ n h. absurd (cc)) (table_named db table (tables_of Es)) (jobs_of Es), (part_stays Es c part (table_named db table (tables_of Es)), tt))))
refused_stays Es (command.Commit db txn at) = commit_stays Es (command.Commit db txn at) at (has_db db (databases_of Es)) (txn_by db txn (txns_of Es))
refused_stays Es (command.Sweep at) = (refuse_some (Stays Es (command.Sweep at)) (not (list_any (sweeps at) (txns_of Es) || list_any (is_job_over at) (jobs_of Es))) reply.NothingToSweep (λ _ h. absurd (cc)), tt)
refused_stays Es (command.AddAlter db table def at) = add_alter_any (Stays Es (command.AddAlter db table def at)) (λ h. absurd (cc)) (λ h. absurd (cc)) (λ n h. absurd (cc)) (λ h. absurd (cc)) (λ h. absurd (cc)) (λ h. absurd (cc)) (λ h. absurd (cc)) (λ e h. absurd (cc)) db table def (databases_of Es) (tables_of Es) (jobs_of Es)
refused_stays Es (command.CancelAlter db table kind at) = cancel_alter_any (Stays Es (command.CancelAlter db table kind at)) (λ h. absurd (cc)) (λ h. absurd (cc)) (λ h. absurd (cc)) db table kind (databases_of Es) (tables_of Es) (jobs_of Es)
refused_stays Es (command.Advance at) = (refuse_some (Stays Es (command.Advance at)) (is_none (next_move (jobs_of Es) (tables_of Es) (txns_of Es) (tasks_of Es))) reply.NothingToAdvance (λ _ h. absurd (cc)), tt)
refused_stays Es command.Take = (refuse_some (Stays Es command.Take) (is_none (next_task (jobs_of Es) (tables_of Es) (tasks_of Es))) reply.NoTask (λ _ h. absurd (cc)), tt)
refused_stays Es (command.Show db what) = show_any (Stays Es (command.Show db what)) (λ h. absurd (cc)) (λ h. absurd (cc)) (λ h. absurd (cc)) db what (databases_of Es) (tables_of Es) (txns_of Es)
refused_stays Es command.Restart = tt
refused_stays Es (command.Give piece at) = give_any (Stays Es (command.Give piece at)) (λ n h. absurd (cc)) (λ s h. absurd (cc)) piece (live_of Es) (jobs_of Es) (tasks_of Es)

first_refused : (P : Reply → Type 0) (os : List (Option Reply)) (Q : Type 0) (r : Reply) → AllSome P os → MatchOption (first_of os) Q (λ x. r ≡ x) → (first_of os ≡ None) ⊎ P r
first_refused P [] Q r all m = inl refl
first_refused P (None ∷ os) Q r all m = first_refused P os Q r all.1 m
first_refused P (Some x ∷ os) Q r all m = inr (subst P (sym m) all.0)

answered : (Es : List Event) (c : Command) (ok : Reply → Type 0) (r : Reply) → Answers (refusals Es c) ok r → outcome r ≡ Well → (first_of (refusals Es c) ≡ None) ⊎ (acted Es c ≡ [])
answered Es c ok r a w =
    elim a [
      | inl e ↦ absurd (let z : outcome r ≡ Refused = ap outcome e in cc (z, w))
      | inr m ↦ elim (first_refused (Stays Es c) (refusals Es c) (ok r) r (refused_stays Es c) m) [ inl h ↦ inl h | inr h ↦ inr (h w) ]
    ]

-- a refusal that holds is answered well only where nothing is to be done
pub refused_well : (Es : List Event) (c : Command) (r : Reply) → first_of (refusals Es c) ≡ Some r → outcome r ≡ Well → acted Es c ≡ []
refused_well Es c r is = elim (first_refused (Stays Es c) (refusals Es c) ⊥ r (refused_stays Es c) (subst (λ (o : Option Reply). MatchOption o ⊥ (λ x. r ≡ x)) (sym is) refl)) [ inl h ↦ absurd (cc (h, is)) | inr h ↦ h ]

pub went_well : (Es : List Event) (c : Command) (r : Reply) → Answer Es c r → outcome r ≡ Well → (first_of (refusals Es c) ≡ None) ⊎ (acted Es c ≡ [])
went_well Es (command.CreateDb name if_not_exists) r a w = answered Es (command.CreateDb name if_not_exists) (λ r. r ≡ reply.Done) r a w
went_well Es (command.CreateTable db table def if_not_exists) r a w = answered Es (command.CreateTable db table def if_not_exists) (λ r. r ≡ reply.Done) r a w
went_well Es (command.Begin db table label two_phase at) r a w = answered Es (command.Begin db table label two_phase at) (BegunFor (next_of Es) (table_named db table (tables_of Es)) (jobs_of Es)) r a w
went_well Es (command.Submit txn built at) r a w = answered Es (command.Submit txn built at) (λ r. r ≡ reply.Submitted (placed_for (txn_at txn (txns_of Es)) (txns_of Es) (places_of Es))) r a w
went_well Es (command.Publish at) r a w = answered Es (command.Publish at) (PublishedFor (due (txns_of Es))) r a w
went_well Es (command.Abort db txn at) r a w = answered Es (command.Abort db txn at) (AbortedFor (txn_by db txn (txns_of Es))) r a w
went_well Es (command.Snapshot db table query) r a w = answered Es (command.Snapshot db table query) (ShownFor (table_named db table (tables_of Es)) query (base_of Es) (λ t index. cost_of (stored_of Es t index))) r a w
went_well Es (command.Show db what) r a w = answered Es (command.Show db what) (Reports (report Es db what)) r a w
went_well Es command.Restart r a w = answered Es command.Restart (λ r. r ≡ reply.Done) r a w
went_well Es (command.DropTable db table if_exists at) r a w = answered Es (command.DropTable db table if_exists at) (λ r. r ≡ reply.Done) r a w
went_well Es (command.AddPartition db table part) r a w = answered Es (command.AddPartition db table part) (λ r. r ≡ reply.Done) r a w
went_well Es (command.Commit db txn at) r a w = answered Es (command.Commit db txn at) (CommittedFor (txn_by db txn (txns_of Es)) (txns_of Es) (places_of Es)) r a w
went_well Es (command.Sweep at) r a w = answered Es (command.Sweep at) (λ r. r ≡ reply.Swept (count_by (is_expired at) (txns_of Es)) (count_by (is_over at) (txns_of Es) + count_by (is_job_over at) (jobs_of Es))) r a w
went_well Es (command.AddAlter db table def at) r a w = answered Es (command.AddAlter db table def at) (λ r. r ≡ reply.Added (last_job_of Es + 1)) r a w
went_well Es (command.CancelAlter db table kind at) r a w = answered Es (command.CancelAlter db table kind at) (CancelledFor (table_named db table (tables_of Es)) kind (jobs_of Es)) r a w
went_well Es (command.Advance at) r a w = answered Es (command.Advance at) (AdvancedFor (next_move (jobs_of Es) (tables_of Es) (txns_of Es) (tasks_of Es)) (tables_of Es) (txns_of Es)) r a w
went_well Es command.Take r a w = answered Es command.Take (TakenFor (next_task (jobs_of Es) (tables_of Es) (tasks_of Es)) (taken_of Es) (live_of Es) (jobs_of Es) (tables_of Es) (source_of Es)) r a w
went_well Es (command.Give piece at) r a w = answered Es (command.Give piece at) (λ r. r ≡ reply.Given piece.job (given_state piece.result)) r a w

-- The replies that few commands have: a load begins by a Begin alone, which gives the next number and the plan of its table, and that a record is damaged answers nothing.
abbrev pub is_rare : Reply → Bool
is_rare (reply.Begun txn plan) = true
is_rare (reply.BadJournal seq) = true
is_rare _ = false

abbrev pub BeginsBy : List Event → Command → Reply → Type 0
BeginsBy Es (command.Begin db table label two_phase at) r = (t : Table) × (table_named db table (tables_of Es) ≡ Some t) × (r ≡ reply.Begun (next_of Es) (plan_of (next_of Es) t (jobs_of Es)))
BeginsBy Es _ r = ⊥

abbrev NotBegun : Reply → Type 0
NotBegun r = is_rare r ≡ false

first_or : (P : Reply → Type 0) (os : List (Option Reply)) (Q : Type 0) (r : Reply) → AllSome P os → MatchOption (first_of os) Q (λ x. r ≡ x) → Q ⊎ P r
first_or P [] Q r all m = inl m
first_or P (None ∷ os) Q r all m = first_or P os Q r all.1 m
first_or P (Some x ∷ os) Q r all m = inr (subst P (sym m) all.0)

all_not_begun : (os : List (Option Reply)) (all : AllSome NotBegun os) (ok : Reply → Type 0) (r : Reply) → Answers os ok r → is_rare r ≡ true → ok r
all_not_begun os all ok r a b =
    elim a [
      | inl e ↦ absurd (let z : is_rare r ≡ false = ap is_rare e in cc (z, b))
      | inr m ↦ elim (first_or NotBegun os (ok r) r all m) [ inl q ↦ q | inr n ↦ absurd (cc (n, b)) ]
    ]

def_not_begun : (table : List ℕ) (def : TableDef) → IfSome (refused_def table def) NotBegun
def_not_begun table def = go (def_fault table def)
  where
    go : (o : Option DefError) → IfSome (refused_by o) NotBegun
    go None = tt
    go (Some e) = refl

label_not_begun : (label : Option (List ℕ)) → IfSome (bad_label label) NotBegun
label_not_begun None = tt
label_not_begun (Some l) = refuse_some NotBegun (not (is_label l)) reply.BadLabel (λ _. refl)

used_not_begun : (o : Option Txn) → IfSome (used o) NotBegun
used_not_begun None = tt
used_not_begun (Some t) = refuse_some NotBegun (not (is_aborted t.state)) (reply.Used t.id t.state) (λ _. refl)

exists_not_begun : (if_not_exists : Bool) (r : Reply) → is_rare r ≡ false → NotBegun (cond if_not_exists reply.Done r)
exists_not_begun true r n = refl
exists_not_begun false r n = n

submit_not_begun : (at : ℕ) (o : Option Txn) → AllSome NotBegun (submit_refusals at o)
submit_not_begun at None = (refl, tt)
submit_not_begun at (Some t) = (refuse_some NotBegun (not (is_prepare t.state)) (reply.WrongState t.state) (λ _. refl), (refuse_some NotBegun (nat_le (t.since + 600) at) (reply.Expired t.since) (λ _. refl), tt))

abort_not_begun : (known : Bool) (o : Option Txn) → AllSome NotBegun (abort_refusals known o)
abort_not_begun known None = (refuse_some NotBegun (not known) reply.UnknownDb (λ _. refl), (refl, tt))
abort_not_begun known (Some t) = (refuse_some NotBegun (not known) reply.UnknownDb (λ _. refl), (refuse_some NotBegun (not (is_prepare t.state) && not (is_precommitted t.state)) (reply.WrongState t.state) (λ _. refl), tt))

begun_for : (next : ℕ) (o : Option Table) (jobs : List JobInfo) (r : Reply) → BegunFor next o jobs r → (t : Table) × (o ≡ Some t) × (r ≡ reply.Begun next (plan_of next t jobs))
begun_for next None jobs r h = absurd h
begun_for next (Some t) jobs r h = (t, refl, h)

no_table : (o : Option Txn) (r : Reply) → PublishedFor o r → is_rare r ≡ false
no_table None r h = absurd h
no_table (Some t) r h = ap is_rare h

no_abort : (o : Option Txn) (r : Reply) → AbortedFor o r → is_rare r ≡ false
no_abort None r h = absurd h
no_abort (Some t) r h = ap is_rare h

shows_not_begun : (t : Table) (x : Index) (base : List (List Cell)) (cost : ℕ) (r : Reply) → Shows t x base cost r → is_rare r ≡ false
shows_not_begun t x base cost (reply.Snap s) h = refl
shows_not_begun t x base cost (reply.Begun txn plan) h = absurd h
shows_not_begun t x base cost (reply.BadJournal seq) h = absurd h
shows_not_begun t x base cost _ h = refl

no_show : (o : Option Table) (query : Query) (base : ℕ → List (List Cell)) (cost : ℕ → ℕ → ℕ) (r : Reply) → ShownFor o query base cost r → is_rare r ≡ false
no_show None query base cost r h = absurd h
no_show (Some t) query base cost r h = go (index_at (picked t query) t) h
  where
    go : (x : Option Index) → ShownOf t x (base t.number) (cost t.number (picked t query)) r → is_rare r ≡ false
    go None k = absurd k
    go (Some x) k = shows_not_begun t x (base t.number) (cost t.number (picked t query)) r k

no_report : (x : Report) (r : Reply) → Reports x r → is_rare r ≡ false
no_report x (reply.Shown set) h = refl
no_report x (reply.Begun txn plan) h = absurd h
no_report x (reply.BadJournal seq) h = absurd h
no_report x _ h = refl

commit_not_begun : (at : ℕ) (known : Bool) (o : Option Txn) → AllSome NotBegun (commit_refusals at known o)
commit_not_begun at known None = (refuse_some NotBegun (not known) reply.UnknownDb (λ _. refl), (refl, tt))
commit_not_begun at known (Some t) = (refuse_some NotBegun (not known) reply.UnknownDb (λ _. refl), (refuse_some NotBegun (not (is_precommitted t.state)) (reply.WrongState t.state) (λ _. refl), (refuse_some NotBegun (nat_le (t.since + 3600) at) (reply.Expired t.since) (λ _. refl), tt)))

part_not_begun : (part : Part) (o : Option Table) → IfSome (refused_part part o) NotBegun
part_not_begun part None = tt
part_not_begun part (Some t) = go (add_fault t.layout (part_of t.layout.kind part))
  where
    go : (o : Option LayoutError) → IfSome (option_map reply.BadPartition o) NotBegun
    go None = tt
    go (Some e) = refl

no_commit : (o : Option Txn) (txns : List Txn) (last : ℕ) (r : Reply) → CommittedFor o txns last r → is_rare r ≡ false
no_commit None txns last r h = absurd h
no_commit (Some t) txns last r h = ap is_rare h

no_cancel_by : (o : Option JobInfo) (r : Reply) → MatchOption o ⊥ (λ (j : JobInfo). r ≡ reply.Cancelled j.job) → is_rare r ≡ false
no_cancel_by None r h = absurd h
no_cancel_by (Some j) r h = ap is_rare h

no_cancel : (o : Option Table) (kind : JobKind) (jobs : List JobInfo) (r : Reply) → CancelledFor o kind jobs r → is_rare r ≡ false
no_cancel None kind jobs r h = absurd h
no_cancel (Some t) kind jobs r h = no_cancel_by (job_of_kind t.number kind jobs) r h

no_advance : (o : Option JobInfo) (tables : List Table) (txns : List Txn) (r : Reply) → AdvancedFor o tables txns r → is_rare r ≡ false
no_advance None tables txns r h = absurd h
no_advance (Some j) tables txns r h = ap is_rare h

taken_not_begun : (P : Task → Type 0) (r : Reply) → TakenBy P r → is_rare r ≡ false
taken_not_begun P (reply.Taken task) h = refl
taken_not_begun P (reply.Begun txn plan) h = absurd h
taken_not_begun P (reply.BadJournal seq) h = absurd h
taken_not_begun P _ h = refl

no_take_in : (a : TaskName) (taken live : ℕ) (j : JobInfo) (o : Option Table) (source : ℕ → List (List Cell)) (r : Reply) → TakenIn a taken live j o source r → is_rare r ≡ false
no_take_in a taken live j None source r h = absurd h
no_take_in a taken live j (Some t) source r h = taken_not_begun (IsTask a taken live t (change_maps j.change t) (source t.number)) r h

no_take_of : (a : TaskName) (taken live : ℕ) (o : Option JobInfo) (tables : List Table) (source : ℕ → List (List Cell)) (r : Reply) → TakenOf a taken live o tables source r → is_rare r ≡ false
no_take_of a taken live None tables source r h = absurd h
no_take_of a taken live (Some j) tables source r h = no_take_in a taken live j (table_at j.table tables) source r h

no_take : (o : Option TaskName) (taken live : ℕ) (jobs : List JobInfo) (tables : List Table) (source : ℕ → List (List Cell)) (r : Reply) → TakenFor o taken live jobs tables source r → is_rare r ≡ false
no_take None taken live jobs tables source r h = absurd h
no_take (Some a) taken live jobs tables source r h = no_take_of a taken live (job_at a.job jobs) tables source r h

pub begins_by : (Es : List Event) (c : Command) (r : Reply) → Answer Es c r → is_rare r ≡ true → BeginsBy Es c r
begins_by Es (command.CreateDb name if_not_exists) r a b =
    absurd (let h = all_not_begun (refusals Es (command.CreateDb name if_not_exists)) (refuse_some NotBegun (not (is_name name)) reply.BadName (λ _. refl), (refuse_some NotBegun (has_db name (databases_of Es)) (cond if_not_exists reply.Done reply.DbExists) (λ _. exists_not_begun if_not_exists reply.DbExists refl), (refuse_some NotBegun (nat_le most (length (databases_of Es))) reply.TooManyDbs (λ _. refl), tt))) (λ r. r ≡ reply.Done) r a b in let z : is_rare r ≡ false = ap is_rare h in cc (z, b))
begins_by Es (command.CreateTable db table def if_not_exists) r a b =
    absurd (let h = all_not_begun (refusals Es (command.CreateTable db table def if_not_exists)) (refuse_some NotBegun (not (has_db db (databases_of Es))) reply.UnknownDb (λ _. refl), (refuse_some NotBegun (is_some (table_named db table (tables_of Es))) (cond if_not_exists reply.Done reply.TableExists) (λ _. exists_not_begun if_not_exists reply.TableExists refl), (refuse_some NotBegun (not (is_name table)) reply.BadName (λ _. refl), (refuse_some NotBegun (nat_le most (length (tables_of Es))) reply.TooManyTables (λ _. refl), (def_not_begun table def, tt))))) (λ r. r ≡ reply.Done) r a b in let z : is_rare r ≡ false = ap is_rare h in cc (z, b))
begins_by Es (command.Begin db table label two_phase at) r a b =
    begun_for (next_of Es) (table_named db table (tables_of Es)) (jobs_of Es) r (all_not_begun (refusals Es (command.Begin db table label two_phase at)) (refuse_some NotBegun (not (has_db db (databases_of Es))) reply.UnknownDb (λ _. refl), (refuse_some NotBegun (is_none (table_named db table (tables_of Es))) reply.UnknownTable (λ _. refl), (label_not_begun label, (used_not_begun (label_of db (label_for label (next_of Es)) (txns_of Es)), tt)))) (BegunFor (next_of Es) (table_named db table (tables_of Es)) (jobs_of Es)) r a b)
begins_by Es (command.Submit txn built at) r a b =
    absurd (let h = all_not_begun (refusals Es (command.Submit txn built at)) (submit_not_begun at (txn_at txn (txns_of Es))) (λ r. r ≡ reply.Submitted (placed_for (txn_at txn (txns_of Es)) (txns_of Es) (places_of Es))) r a b in let z : is_rare r ≡ false = ap is_rare h in cc (z, b))
begins_by Es (command.Publish at) r a b =
    absurd (let h = all_not_begun (refusals Es (command.Publish at)) (refuse_some NotBegun (is_none (due (txns_of Es))) reply.NothingToPublish (λ _. refl), tt) (PublishedFor (due (txns_of Es))) r a b in let z = no_table (due (txns_of Es)) r h in cc (z, b))
begins_by Es (command.Abort db txn at) r a b =
    absurd (let h = all_not_begun (refusals Es (command.Abort db txn at)) (abort_not_begun (has_db db (databases_of Es)) (txn_by db txn (txns_of Es))) (AbortedFor (txn_by db txn (txns_of Es))) r a b in let z = no_abort (txn_by db txn (txns_of Es)) r h in cc (z, b))
begins_by Es (command.Snapshot db table query) r a b =
    absurd (let h = all_not_begun (refusals Es (command.Snapshot db table query)) (refuse_some NotBegun (not (has_db db (databases_of Es))) reply.UnknownDb (λ _. refl), (refuse_some NotBegun (is_none (table_named db table (tables_of Es))) reply.UnknownTable (λ _. refl), tt)) (ShownFor (table_named db table (tables_of Es)) query (base_of Es) (λ t index. cost_of (stored_of Es t index))) r a b in let z = no_show (table_named db table (tables_of Es)) query (base_of Es) (λ t index. cost_of (stored_of Es t index)) r h in cc (z, b))
begins_by Es (command.DropTable db table if_exists at) r a b =
    absurd (let h = all_not_begun (refusals Es (command.DropTable db table if_exists at)) (refuse_some NotBegun (not (has_db db (databases_of Es))) reply.UnknownDb (λ _. refl), (refuse_some NotBegun (is_none (table_named db table (tables_of Es))) (cond if_exists reply.Done reply.UnknownTable) (λ _. exists_not_begun if_exists reply.UnknownTable refl), tt)) (λ r. r ≡ reply.Done) r a b in let z : is_rare r ≡ false = ap is_rare h in cc (z, b))
begins_by Es (command.AddPartition db table part) r a b =
    absurd (let h = all_not_begun (refusals Es (command.AddPartition db table part)) (refuse_some NotBegun (not (has_db db (databases_of Es))) reply.UnknownDb (λ _. refl), (refuse_some NotBegun (is_none (table_named db table (tables_of Es))) reply.UnknownTable (λ _. refl), (busy_any NotBegun (λ n. refl) (table_named db table (tables_of Es)) (jobs_of Es), (part_not_begun part (table_named db table (tables_of Es)), tt)))) (λ r. r ≡ reply.Done) r a b in let z : is_rare r ≡ false = ap is_rare h in cc (z, b))
begins_by Es (command.Commit db txn at) r a b =
    absurd (let h = all_not_begun (refusals Es (command.Commit db txn at)) (commit_not_begun at (has_db db (databases_of Es)) (txn_by db txn (txns_of Es))) (CommittedFor (txn_by db txn (txns_of Es)) (txns_of Es) (places_of Es)) r a b in let z = no_commit (txn_by db txn (txns_of Es)) (txns_of Es) (places_of Es) r h in cc (z, b))
begins_by Es (command.Sweep at) r a b =
    absurd (let h = all_not_begun (refusals Es (command.Sweep at)) (refuse_some NotBegun (not (list_any (sweeps at) (txns_of Es) || list_any (is_job_over at) (jobs_of Es))) reply.NothingToSweep (λ _. refl), tt) (λ r. r ≡ reply.Swept (count_by (is_expired at) (txns_of Es)) (count_by (is_over at) (txns_of Es) + count_by (is_job_over at) (jobs_of Es))) r a b in let z : is_rare r ≡ false = ap is_rare h in cc (z, b))
begins_by Es (command.AddAlter db table def at) r a b =
    absurd (let h = all_not_begun (refusals Es (command.AddAlter db table def at)) (add_alter_any NotBegun refl refl (λ n. refl) refl refl refl refl (λ e. refl) db table def (databases_of Es) (tables_of Es) (jobs_of Es)) (λ r. r ≡ reply.Added (last_job_of Es + 1)) r a b in let z : is_rare r ≡ false = ap is_rare h in cc (z, b))
begins_by Es (command.CancelAlter db table kind at) r a b =
    absurd (let h = all_not_begun (refusals Es (command.CancelAlter db table kind at)) (cancel_alter_any NotBegun refl refl refl db table kind (databases_of Es) (tables_of Es) (jobs_of Es)) (CancelledFor (table_named db table (tables_of Es)) kind (jobs_of Es)) r a b in let z = no_cancel (table_named db table (tables_of Es)) kind (jobs_of Es) r h in cc (z, b))
begins_by Es (command.Advance at) r a b =
    absurd (let h = all_not_begun (refusals Es (command.Advance at)) (refuse_some NotBegun (is_none (next_move (jobs_of Es) (tables_of Es) (txns_of Es) (tasks_of Es))) reply.NothingToAdvance (λ _. refl), tt) (AdvancedFor (next_move (jobs_of Es) (tables_of Es) (txns_of Es) (tasks_of Es)) (tables_of Es) (txns_of Es)) r a b in let z = no_advance (next_move (jobs_of Es) (tables_of Es) (txns_of Es) (tasks_of Es)) (tables_of Es) (txns_of Es) r h in cc (z, b))
begins_by Es command.Take r a b =
    absurd (let h = all_not_begun (refusals Es command.Take) (refuse_some NotBegun (is_none (next_task (jobs_of Es) (tables_of Es) (tasks_of Es))) reply.NoTask (λ _. refl), tt) (TakenFor (next_task (jobs_of Es) (tables_of Es) (tasks_of Es)) (taken_of Es) (live_of Es) (jobs_of Es) (tables_of Es) (source_of Es)) r a b in let z = no_take (next_task (jobs_of Es) (tables_of Es) (tasks_of Es)) (taken_of Es) (live_of Es) (jobs_of Es) (tables_of Es) (source_of Es) r h in cc (z, b))
begins_by Es (command.Show db what) r a b =
    absurd (let h = all_not_begun (refusals Es (command.Show db what)) (show_any NotBegun refl refl refl db what (databases_of Es) (tables_of Es) (txns_of Es)) (Reports (report Es db what)) r a b in let z = no_report (report Es db what) r h in cc (z, b))
begins_by Es command.Restart r a b = absurd (let h = all_not_begun [] tt (λ r. r ≡ reply.Done) r a b in let z : is_rare r ≡ false = ap is_rare h in cc (z, b))
begins_by Es (command.Give piece at) r a b =
    absurd (let h = all_not_begun (refusals Es (command.Give piece at)) (give_any NotBegun (λ n. refl) (λ s. refl) piece (live_of Es) (jobs_of Es) (tasks_of Es)) (λ r. r ≡ reply.Given piece.job (given_state piece.result)) r a b in let z : is_rare r ≡ false = ap is_rare h in cc (z, b))
