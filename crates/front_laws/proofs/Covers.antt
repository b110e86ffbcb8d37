-- The plan of a load has what its table owes to it, until the load is submitted.
use Rattle.std.proofs.Common.{◌≡◌, ℕ, ◌+◌, ◌≤◌, ◌<◌, Bool, true, false, cond, ◌&&◌, List, [], ◌∷◌, ◌++◌, Option, Some, ◌⊎◌, inl, inr, refl, sym, ◌∙◌, ap, arith, subst, append-nil}
use Rattle.std.proofs.lemmas.Bool.Decides.{nat_tests}
use Rattle.std.specs.Prelude.{nat_eq}
use Rattle.row_map.specs.declared.map.RowMap.{RowMap}
use Rattle.alter_core.specs.declared.job.JobInfo.{JobInfo}
use Rattle.alter_core.specs.declared.job.JobState.{JobState}
use Rattle.alter_core.specs.declared.job.JobState.TheVariants as job_state
use Rattle.front_defs.specs.declared.event.Event.{Event}
use Rattle.front_defs.specs.declared.event.Event.TheVariants as event
use Rattle.front_defs.specs.declared.catalogue.Table.{Table}
use Rattle.front_defs.specs.declared.txn.Txn.{Txn}
use Rattle.front_defs.specs.Catalogue.{is_named, table_at, table_named, tables_of}
use Rattle.front_defs.specs.Ids.{next_of}
use Rattle.front_defs.specs.Indexes.{change_maps, maps_of, numbered, plan_maps, rollup_maps, targets_of}
use Rattle.front_defs.specs.Jobs.{is_live, is_planned, jobs_of, planned_job}
use Rattle.front_defs.specs.Transactions.{txns_of, begun_txn}
use Rattle.front_laws.specs.Tidy.{Each, HappenAll, Happens, LiveApart, Pairs, last_begun}
use Rattle.front_laws.specs.Laws.{IsOwed, Owed, OwesJob, target_maps}
use Rattle.front_laws.proofs.Lists.{each_both, each_imp, each_snoc, eq_is}
use Rattle.shadow_writes.specs.declared.plan.Plan.{Plan}
use Rattle.shadow_writes.specs.declared.built.Built.{Built}
use Rattle.front_defs.specs.declared.command.Command.{Command}
use Rattle.front_defs.specs.declared.command.Command.TheVariants as command
use Rattle.front_defs.specs.declared.reply.Reply.{Reply}
use Rattle.front_defs.specs.declared.reply.Reply.TheVariants as reply
use Rattle.front_defs.specs.declared.history.Call.{Call}
use Rattle.front_defs.specs.declared.history.Entry.{Entry}
use Rattle.front_defs.specs.declared.history.Entry.TheVariants.{Told, Made}
use Rattle.front_defs.specs.Answer.{Answer, plan_of}
use Rattle.front_defs.specs.History.{begins, effect, happened, new_range, opening}
use Rattle.front_defs.specs.Legal.{Legal}
use Rattle.front_defs.specs.May.{HasCause, May, PlannedBy}
use Rattle.front_laws.proofs.Following.{some_is}
use Rattle.front_laws.proofs.Submitting.{begun_now, key_found, ranged_jobs, ranged_tables, ranged_txns}
use Rattle.front_laws.proofs.Replies.{BeginsBy, begins_by, is_rare}
use Rattle.front_laws.proofs.Histories.{kept}
use Rattle.front_laws.proofs.Plans.{Good, good_on, no_cause, opened_good, planned_is, went}
use Rattle.front_laws.proofs.Owing.{Covers, cover_on}

-- ---- from events to histories

-- what was begun stays begun
begun_one : (e : Event) (Es : List Event) (n : ℕ) → Good Es → Happens Es e → n ≤ last_begun Es → n ≤ last_begun (e ∷ Es)
begun_one (event.TxnBegun x) Es n g h b = let f = h.fresh in omega (arith, f, b)
begun_one (event.DbMade x) Es n g h b = b
begun_one (event.TableMade x) Es n g h b = b
begun_one (event.RangeDrawn x) Es n g h b = b
begun_one (event.LoadSubmitted x) Es n g h b = b
begun_one (event.TxnAborted x) Es n g h b = b
begun_one (event.LoadPublished x) Es n g h b = b
begun_one (event.PartAdded x) Es n g h b = b
begun_one (event.TableDropped x) Es n g h b = b
begun_one (event.LoadCommitted x) Es n g h b = b
begun_one (event.Swept x) Es n g h b = b
begun_one (event.SweptUntold x) Es n g h b = b
begun_one (event.Compacted x) Es n g h b = b
begun_one (event.TxnEnded x) Es n g h b = b
begun_one (event.JobAdded x) Es n g h b = b
begun_one (event.JobWaiting x) Es n g h b = b
begun_one (event.WatershedDrawn x) Es n g h b = b
begun_one (event.JobRan x) Es n g h b = b
begun_one (event.TaskTaken x) Es n g h b = b
begun_one (event.TaskGiven x) Es n g h b = b
begun_one (event.JobFinished x) Es n g h b = b
begun_one (event.JobCancelled x) Es n g h b = b
begun_one event.Opened Es n g h b = b

begun_more : (new Es : List Event) (n : ℕ) → HappenAll new Es → Good Es → n ≤ last_begun Es → n ≤ last_begun (new ++ Es)
begun_more [] Es n h g b = b
begun_more (e ∷ new) Es n h g b = begun_one e (new ++ Es) n (good_on new Es h.2 g) h.0 (begun_more new Es n h.2 g b)

covers_all : (new Es : List Event) (id : ℕ) (maps : List RowMap) → HappenAll new Es → Good Es → id ≤ last_begun Es → Covers Es id maps → Covers (new ++ Es) id maps
covers_all [] Es id maps h g b p = p
covers_all (e ∷ new) Es id maps h g b p = cover_on (new ++ Es) e id maps (good_on new Es h.2 g) h.0 (begun_more new Es id h.2 g b) (covers_all new Es id maps h.2 g b p)

-- a job in the plans is the one that is found for its table
found_planned : (js : List JobInfo) → Pairs LiveApart js → Each (λ (j : JobInfo). is_planned j.state ≡ true → planned_job j.table js ≡ Some j) js
found_planned [] a = tt
found_planned (j ∷ js) a =
    ((λ r. rw (same j.table, r) refl), each_imp (λ (k : JobInfo). LiveApart j k × (is_planned k.state ≡ true → planned_job k.table js ≡ Some k)) (λ (k : JobInfo). is_planned k.state ≡ true → planned_job k.table (j ∷ js) ≡ Some k) (λ k h r. skip k h.0 r (h.1 r)) js (each_both (LiveApart j) (λ (k : JobInfo). is_planned k.state ≡ true → planned_job k.table js ≡ Some k) js a.0 (found_planned js a.1)))
  where
    same : (n : ℕ) → nat_eq n n ≡ true
    same n = grind (arith, nat_tests)

    lives : (s : JobState) → is_planned s ≡ true → is_live s ≡ true
    lives job_state.Pending p = refl
    lives job_state.WaitingTxn p = refl
    lives job_state.Running p = refl
    lives job_state.Finished p = absurd (cc)
    lives job_state.Cancelled p = absurd (cc)

    skip : (k : JobInfo) → LiveApart j k → is_planned k.state ≡ true → planned_job k.table js ≡ Some k → cond (nat_eq j.table k.table && is_planned j.state) (Some j) (planned_job k.table js) ≡ Some k
    skip k a r f = go (nat_eq j.table k.table) (is_planned j.state) refl refl
      where
        go : (x y : Bool) → nat_eq j.table k.table ≡ x → is_planned j.state ≡ y → cond (x && y) (Some j) (planned_job k.table js) ≡ Some k
        go true true i s = absurd (a (lives j.state s) (lives k.state r) (eq_is j.table k.table i))
        go true false i s = f
        go false y i s = f

-- the plan of a table has all that it owes
plan_owes : (jobs : List JobInfo) (id : ℕ) (t : Table) → Pairs LiveApart jobs → Owed jobs id (plan_maps t jobs) t
plan_owes jobs id t a = record {
  rollups = record { rest = maps_of (planned_job t.number jobs) t; is = refl };
  news = each_imp (λ (j : JobInfo). is_planned j.state ≡ true → planned_job j.table jobs ≡ Some j) (OwesJob t id (plan_maps t jobs)) (λ j f i p w. record { rest = []; is = ap (λ (o : Option JobInfo). rollup_maps t ++ maps_of o t) (ap (λ (n : ℕ). planned_job n jobs) (sym i) ∙ f p) ∙ sym (append-nil (rollup_maps t ++ change_maps j.change t)) }) jobs (found_planned jobs a);
}

maps_back : (n : ℕ) (ms : List RowMap) → target_maps (numbered n ms) ≡ ms
maps_back n [] = refl
maps_back n (m ∷ ms) = ap (λ (l : List RowMap). m ∷ l) (maps_back (n + 1) ms)

begun_covers : (Es : List Event) (db table : List ℕ) (label : Option (List ℕ)) (two_phase : Bool) (at : ℕ) (t : Table) → Good Es → table_named db table (tables_of Es) ≡ Some t → Covers (begins (next_of Es) label two_phase at (Some t) ++ new_range Es ++ Es) (next_of Es) (target_maps (targets_of t (jobs_of Es)))
begun_covers Es db table label two_phase at t g found =
    let n = next_of Es in
    let Gs = new_range Es ++ Es in
    let maps = target_maps (targets_of t (jobs_of Es)) in
    let below = subst (λ (l : List Txn). Each (λ u. u.id < n) l) (sym (ranged_txns Es)) g.tidy.below in
    let owed : Owed (jobs_of Gs) n maps t = subst (λ (js : List JobInfo). Owed js n maps t) (sym (ranged_jobs Es)) (subst (λ (ms : List RowMap). Owed (jobs_of Es) n ms t) (sym (maps_back 1 (plan_maps t (jobs_of Es)))) (plan_owes (jobs_of Es) n t g.alters.alone)) in
    let there = some_is (table_at t.number (tables_of Gs)) t (Owed (jobs_of Gs) n maps) (ap (table_at t.number) (ranged_tables Es) ∙ key_found (λ (b : Table). b.number) (is_named db table) (tables_of Es) t g.tidy.numbers found) owed in
    each_snoc (IsOwed (tables_of Gs) (jobs_of Gs) n maps) (txns_of Gs) (begun_txn (begun_now n label two_phase at t)) (each_imp (λ u. u.id < n) (IsOwed (tables_of Gs) (jobs_of Gs) n maps) (λ u lt i q. absurd (omega (arith, lt, i))) (txns_of Gs) below) (λ i q. there)

begin_covers : (Es : List Event) (c : Command) (r : Reply) (took : Bool) (txn : ℕ) (plan : Plan) → Good Es → BeginsBy Es c r → r ≡ reply.Begun txn plan → Covers (effect Es c r took ++ Es) txn (target_maps plan.targets)
begin_covers Es (command.Begin db table label two_phase at) r took txn plan g (t, found, is) e =
    let both : reply.Begun (next_of Es) (plan_of (next_of Es) t (jobs_of Es)) ≡ reply.Begun txn plan = sym is ∙ e in
    let id_is : next_of Es ≡ txn = cc in
    let plan_is : plan_of (next_of Es) t (jobs_of Es) ≡ plan = cc in
    let here = begun_covers Es db table label two_phase at t g found in
    let there = subst (λ (o : Option Table). Covers (begins (next_of Es) label two_phase at o ++ new_range Es ++ Es) (next_of Es) (target_maps (targets_of t (jobs_of Es)))) (sym found) here in
    let now = subst (λ (x : Reply). Covers (effect Es (command.Begin db table label two_phase at) x took ++ Es) (next_of Es) (target_maps (targets_of t (jobs_of Es)))) (sym is) there in
    subst (λ (n : ℕ). Covers (effect Es (command.Begin db table label two_phase at) r took ++ Es) n (target_maps plan.targets)) id_is (subst (λ (q : Plan). Covers (effect Es (command.Begin db table label two_phase at) r took ++ Es) (next_of Es) (target_maps q.targets)) plan_is now)
begin_covers Es (command.CreateDb name if_not_exists) r took txn plan g b e = absurd b
begin_covers Es (command.CreateTable db table def if_not_exists) r took txn plan g b e = absurd b
begin_covers Es (command.Submit id built at) r took txn plan g b e = absurd b
begin_covers Es (command.Publish at) r took txn plan g b e = absurd b
begin_covers Es (command.Abort db id at) r took txn plan g b e = absurd b
begin_covers Es (command.Snapshot db table query) r took txn plan g b e = absurd b
begin_covers Es (command.DropTable db table if_exists at) r took txn plan g b e = absurd b
begin_covers Es (command.AddPartition db table part) r took txn plan g b e = absurd b
begin_covers Es (command.Commit db id at) r took txn plan g b e = absurd b
begin_covers Es (command.Sweep at) r took txn plan g b e = absurd b
begin_covers Es (command.AddAlter db table def at) r took txn plan g b e = absurd b
begin_covers Es (command.CancelAlter db table kind at) r took txn plan g b e = absurd b
begin_covers Es (command.Advance at) r took txn plan g b e = absurd b
begin_covers Es command.Take r took txn plan g b e = absurd b
begin_covers Es (command.Give piece at) r took txn plan g b e = absurd b
begin_covers Es (command.Show db what) r took txn plan g b e = absurd b
begin_covers Es command.Restart r took txn plan g b e = absurd b

new_covers : (c : Call) (H : List Entry) (txn : ℕ) (built : Built) → Good (happened H) → Answer (opening c.opened (happened H)) c.command c.reply ⊎ (c.reply ≡ reply.KeeperFault) → PlannedBy txn built c.reply → Covers (happened (Made c ∷ H)) txn (target_maps built.plan.targets)
new_covers c H txn built g (inr f) p = absurd (let k = planned_is txn built c.reply p in let z = k.1 in cc (z, f))
new_covers c H txn built g (inl a) p =
    let k = planned_is txn built c.reply p in
    let Es = opening c.opened (happened H) in
    let b : is_rare c.reply ≡ true = ap is_rare k.1 in
    subst (λ (q : Plan). Covers (happened (Made c ∷ H)) txn (target_maps q.targets)) (sym k.2.plan_is) (begin_covers Es c.command c.reply c.took txn k.0 (opened_good c.opened (happened H) g) (begins_by Es c.command c.reply a b) k.1)

opened_covers : (opened : Bool) (Es : List Event) (id : ℕ) (maps : List RowMap) → Good Es → id ≤ last_begun Es → Covers Es id maps → Covers (opening opened Es) id maps
opened_covers true Es id maps g b p = cover_on Es event.Opened id maps g tt b p
opened_covers false Es id maps g b p = p

pub plans_cover : (H : List Entry) → Legal H → (txn : ℕ) (built : Built) (at : ℕ) → HasCause (command.Submit txn built at) H → Covers (happened H) txn (target_maps built.plan.targets)
plans_cover [] l txn built at h = absurd h
plans_cover (Told e ∷ H) l txn built at h = absurd (no_cause (command.Submit txn built at) H l.1 h)
plans_cover (Made c ∷ H) l txn built at h =
    let k = kept H l.1 in
    elim h [
      | inl x ↦ new_covers c H txn built k.good l.0.answer x
      | inr x ↦ let Es = opening c.opened (happened H) in let b = (k.plans txn built at x).0.begun in covers_all (effect Es c.command c.reply c.took) Es txn (target_maps built.plan.targets) (went c H l.0 k.good k.plans) (opened_good c.opened (happened H) k.good) (opened_begun c.opened (happened H) txn b) (opened_covers c.opened (happened H) txn (target_maps built.plan.targets) k.good b (plans_cover H l.1 txn built at x))
    ]
  where
    opened_begun : (opened : Bool) (Es : List Event) (n : ℕ) → n ≤ last_begun Es → n ≤ last_begun (opening opened Es)
    opened_begun true Es n b = b
    opened_begun false Es n b = b

-- the law
pub load_owed : (H : List Entry) (txn : ℕ) (built : Built) (at : ℕ) → Legal H → May H (command.Submit txn built at) → Each (IsOwed (tables_of (happened H)) (jobs_of (happened H)) txn (target_maps built.plan.targets)) (txns_of (happened H))
load_owed H txn built at l m = plans_cover H l txn built at m
