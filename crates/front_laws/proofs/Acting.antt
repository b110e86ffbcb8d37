-- What a command makes happen that is answered well may happen.
use Rattle.std.proofs.Common.{◌≡◌, ℕ, ◌+◌, ◌≤◌, ◌<◌, Bool, true, false, cond, not, ◌&&◌, ◌||◌, List, [], ◌∷◌, ◌++◌, Option, Some, None, ◌⊎◌, inl, inr, refl, sym, ap, arith, subst, find, is_some, is_none, map}
use Rattle.std.proofs.lemmas.Bool.Decides.{nat_tests}
use Rattle.std.specs.Prelude.{nat_eq, nat_lt, nat_le, length}
use Rattle.std.specs.List.{list_any}
use Rattle.std.specs.Option.{option_map}
use Rattle.labels.specs.declared.txn_state.TxnState.{TxnState}
use Rattle.labels.specs.declared.txn_state.TxnState.TheVariants as state
use Rattle.schema_models.specs.Faults.{refuse_if, first_of}
use Rattle.schema_models.specs.Names.{is_name}
use Rattle.schema_models.specs.ShapeRules.{shape_fault}
use Rattle.sql_text.specs.declared.part.Part.{Part}
use Rattle.table_defs.specs.declared.def_error.DefError.TheVariants as def_error
use Rattle.front_laws.proofs.Journals.{journal_cons}
use Rattle.front_defs.specs.declared.event.Event.{Event}
use Rattle.front_defs.specs.declared.event.Event.TheVariants as event
use Rattle.front_defs.specs.declared.catalogue.Table.{Table}
use Rattle.front_defs.specs.declared.txn.Txn.{Txn}
use Rattle.front_defs.specs.declared.command.TxnKey.{TxnKey}
use Rattle.front_defs.specs.declared.command.Command.{Command}
use Rattle.front_defs.specs.declared.command.Command.TheVariants as command
use Rattle.front_defs.specs.declared.reply.Reply.TheVariants as reply
use Rattle.front_defs.specs.Ids.{live_of, range_of, next_of, told_ids, range_size}
use Rattle.front_defs.specs.Catalogue.{has_db, is_named, table_named, table_at, databases_of, tables_of}
use Rattle.front_defs.specs.Transactions.{is_prepare, is_precommitted, sweeps_told, txn_at, txn_by, label_of, due, txns_of}
use Rattle.table_defs.specs.Columns.{shape_of}
use Rattle.table_defs.specs.Defined.{columns_fault, key_fault, layout_faults, layout_of}
use Rattle.table_defs.specs.Parts.{part_of}
use Rattle.partitions.specs.LayoutFaults.{add_fault}
use Rattle.partitions.specs.LayoutRules.{IsLayout}
use Rattle.partitions.specs.Ranges.{with_range}
use Rattle.partitions.proofs.Valid.{added_valid}
use Rattle.front_defs.specs.Answer.{add_alter_refusals, busy_by, busy_in, give_refusals, refused_part, commit_refusals, most, label_for, bad_label, used, refused_def, abort_refusals, refusals}
use Rattle.front_defs.specs.History.{adds_job, cancels, cancels_job, gives, takes, is_told, journal, new_range, begins, submits, aborts, publishes, commits, drops, adds_part, swept_by, acted}
use Rattle.front_laws.specs.Tidy.{Alters, IsMarkedJob, Each, Tells, Tidy, HappenAll}
use Rattle.front_laws.proofs.Lists.{each_map, each_found}
use Rattle.alter_core.specs.declared.job.Cause.TheVariants as cause
use Rattle.alter_core.specs.declared.job.JobInfo.{JobInfo}
use Rattle.alter_core.specs.declared.job.JobKind.{JobKind}
use Rattle.alter_core.specs.declared.job.JobState.{JobState}
use Rattle.alter_core.specs.declared.job.JobState.TheVariants as job_state
use Rattle.history_convert.specs.declared.task.Piece.{Piece}
use Rattle.history_convert.specs.declared.task.PieceResult.{PieceResult}
use Rattle.history_convert.specs.declared.task.PieceResult.TheVariants as piece_result
use Rattle.front_defs.specs.declared.command.AlterDef.{AlterDef}
use Rattle.front_defs.specs.Jobs.{TaskMark, TaskName, changed_job, has_live, is_job_over, is_live, is_live_of, is_planned, is_running, job_at, jobs_of, kind_of, last_job_of, live_job, same_kind, tasks_of, waiting_job}
use Rattle.front_defs.specs.Indexes.{spoiled_by}
use Rattle.front_defs.specs.Moves.{bad_load, has_open_below, moved, moved_by, moves, moves_by, next_move, next_task, runs, upto_for, watershed_of}
use Rattle.front_defs.specs.Alters.{change_by, job_of_kind, job_state_of, may_give, refused_alter, runs_in}
use Rattle.front_laws.proofs.Following.{or_false}
use Rattle.front_laws.proofs.Tidying.{and_left}
use Rattle.front_laws.proofs.Submitting.{none_first, not_refused, not_false, mapped_none, def_accepted, laid_out, one_event, ranged, range_if, key_found, by_found, begin_happens, prepare_told, Shaped, each_job_found, job_passes, spoiled_lives, load_now, submit_happens}

-- Publish
publish_happens : (Es : List Event) (at : ℕ) (o : Option Txn) → due (txns_of Es) ≡ o → HappenAll (publishes at o) Es
publish_happens Es at None e = tt
publish_happens Es at (Some x) e = ((x, e, refl), tt, tt)

-- Abort
either_is : (s : TxnState) → (not (is_prepare s) && not (is_precommitted s)) ≡ false → (s ≡ state.Prepare) ⊎ (s ≡ state.Precommitted)
either_is state.Prepare h = inl refl
either_is state.Precommitted h = inr refl
either_is state.Committed h = absurd (cc)
either_is state.Visible h = absurd (cc)
either_is state.Aborted h = absurd (cc)

told_abort : (s : TxnState) (b : Bool) → Tells s b → b ≡ true → (s ≡ state.Prepare) ⊎ (s ≡ state.Precommitted) → s ≡ state.Precommitted
told_abort s b h e (inl k) = absurd (let z = prepare_told s b h k in cc (z, e))
told_abort s b h e (inr k) = k

aborted_now : (Es : List Event) (at : ℕ) (x : Txn) (b : Bool) → x.told ≡ b → txn_at x.id (txns_of Es) ≡ Some x → Tells x.state x.told → (x.state ≡ state.Prepare) ⊎ (x.state ≡ state.Precommitted) → HappenAll (cond b (event.TxnAborted (record { txn = x.id; at = at })) (event.TxnEnded (record { txn = x.id; at = at })) ∷ []) Es
aborted_now Es at x true is e t s = ((x, e, told_abort x.state x.told t is s), tt, tt)
aborted_now Es at x false is e t s = ((x, e, is), tt, tt)

abort_happens : (Es : List Event) (db : List ℕ) (which : TxnKey) (at : ℕ) (known : Bool) (o : Option Txn) → Tidy Es → txn_by db which (txns_of Es) ≡ o → first_of (abort_refusals known o) ≡ None → HappenAll (aborts at o) Es
abort_happens Es db which at known None k f h = tt
abort_happens Es db which at known (Some x) k f h =
    let g = by_found db which (txns_of Es) x k.ascends f in
    let r = none_first (refuse_if (not known) reply.UnknownDb) (refuse_if (not (is_prepare x.state) && not (is_precommitted x.state)) (reply.WrongState x.state) ∷ []) h in
    let s = none_first (refuse_if (not (is_prepare x.state) && not (is_precommitted x.state)) (reply.WrongState x.state)) [] r.1 in
    aborted_now Es at x x.told refl g (each_found (λ u. Tells u.state u.told) (λ u. nat_eq u.id x.id) (txns_of Es) x k.tells g) (either_is x.state (not_refused _ (reply.WrongState x.state) s.0))

-- Commit
precommitted_is : (s : TxnState) → is_precommitted s ≡ true → s ≡ state.Precommitted
precommitted_is state.Precommitted h = refl
precommitted_is state.Prepare h = absurd (cc)
precommitted_is state.Committed h = absurd (cc)
precommitted_is state.Visible h = absurd (cc)
precommitted_is state.Aborted h = absurd (cc)

commit_happens : (Es : List Event) (db : List ℕ) (which : TxnKey) (at : ℕ) (known : Bool) (o : Option Txn) → Tidy Es → Alters Es → txn_by db which (txns_of Es) ≡ o → first_of (commit_refusals at known o) ≡ None → HappenAll (commits at (tables_of Es) (jobs_of Es) o) Es
commit_happens Es db which at known None k a f h = tt
commit_happens Es db which at known (Some x) k a f h =
    let g = by_found db which (txns_of Es) x k.ascends f in
    let r = none_first (refuse_if (not known) reply.UnknownDb) _ h in
    let s = none_first (refuse_if (not (is_precommitted x.state)) (reply.WrongState x.state)) _ r.1 in
    ((x, g, (precommitted_is x.state (not_false (is_precommitted x.state) (not_refused (not (is_precommitted x.state)) (reply.WrongState x.state) s.0)), record { lives = spoiled_lives (jobs_of Es) x.table (tables_of Es) (table_at x.table (tables_of Es)) x.rows a.numbers refl; spoils = inr refl })), tt, tt)

-- DropTable
drop_happens : (Es : List Event) (db table : List ℕ) (at : ℕ) (o : Option Table) → Tidy Es → table_named db table (tables_of Es) ≡ o → HappenAll (drops at o) Es
drop_happens Es db table at None k f = tt
drop_happens Es db table at (Some t) k f = ((t, key_found (λ (b : Table). b.number) (is_named db table) (tables_of Es) t k.numbers f), tt, tt)

-- AddPartition
and_right : (a b : Bool) → (a && b) ≡ true → b ≡ true
and_right true b h = h
and_right false b h = absurd (cc)

find_none : {X : Type 0} (p : X → Bool) (xs : List X) → find p xs ≡ None → list_any p xs ≡ false
find_none p [] h = refl
find_none p (x ∷ xs) h = go (p x) h (find_none p xs)
  where
    go : (b : Bool) → cond b (Some x) (find p xs) ≡ None → (find p xs ≡ None → list_any p xs ≡ false) → (b || list_any p xs) ≡ false
    go true h k = absurd (cc)
    go false h k = k h

no_live : (table : ℕ) (jobs : List JobInfo) → busy_by (live_job table jobs) ≡ None → has_live table jobs ≡ false
no_live table jobs h = find_none (is_live_of table) jobs (go (live_job table jobs) h)
  where
    go : (o : Option JobInfo) → busy_by o ≡ None → o ≡ None
    go None h = refl
    go (Some j) h = absurd (cc)

add_happens : (Es : List Event) (db table : List ℕ) (part : Part) (o : Option Table) → Tidy Es → table_named db table (tables_of Es) ≡ o → busy_in o (jobs_of Es) ≡ None → refused_part part o ≡ None → HappenAll (adds_part part o) Es
add_happens Es db table part None k f b h = tt
add_happens Es db table part (Some t) k f b h =
    let p = part_of t.layout.kind part in
    let found = key_found (λ (b : Table). b.number) (is_named db table) (tables_of Es) t k.numbers f in
    let laid = each_found (λ (b : Table). IsLayout b.shape b.layout) (is_named db table) (tables_of Es) t k.laid f in
    ((no_live t.number (jobs_of Es) b, (t, found, added_valid t.shape t.layout p laid (mapped_none reply.BadPartition (add_fault t.layout p) h))), tt, tt)

-- Sweep
sweep_happens : (Es : List Event) (at : ℕ) (b : Bool) → (list_any (sweeps_told at) (txns_of Es) || list_any (is_job_over at) (jobs_of Es)) ≡ b → HappenAll (swept_by at b) Es
sweep_happens Es at true e = (e, tt, tt)
sweep_happens Es at false e = ((or_false (list_any (sweeps_told at) (txns_of Es)) (list_any (is_job_over at) (jobs_of Es)) e).0, tt, tt)

swept_told : (Es : List Event) (at : ℕ) (b : Bool) → HappenAll (swept_by at b) Es → HappenAll (journal (swept_by at b)) Es
swept_told Es at true h = h
swept_told Es at false h = tt

-- AddAlter
alter_happens : (Es : List Event) (db table : List ℕ) (def : AlterDef) (at : ℕ) (o : Option Table) → Tidy Es → table_named db table (tables_of Es) ≡ o → busy_in o (jobs_of Es) ≡ None → nat_le most (length (jobs_of Es)) ≡ false → refused_alter def o ≡ None → HappenAll (adds_job (change_by def) at (last_job_of Es) o) Es
alter_happens Es db table def at None k f b n h = tt
alter_happens Es db table def at (Some t) k f b n h =
    let found = key_found (λ (x : Table). x.number) (is_named db table) (tables_of Es) t k.numbers f in
    ((t, found, record { number = refl; free = no_live t.number (jobs_of Es) b; room = n; change = h }), tt, tt)

-- CancelAlter
cancel_job_happens : (Es : List Event) (table at : ℕ) (kind : JobKind) (o : Option JobInfo) → Alters Es → job_of_kind table kind (jobs_of Es) ≡ o → HappenAll (cancels_job at o) Es
cancel_job_happens Es table at kind None a f = tt
cancel_job_happens Es table at kind (Some j) a f =
    let test : JobInfo → Bool = λ x. is_live_of table x && same_kind (kind_of x.change) kind in
    let p = and_left (is_live_of table j) (same_kind (kind_of j.change) kind) (job_passes test (jobs_of Es) j f) in
    ((j, each_job_found test (jobs_of Es) j a.numbers f, and_right (nat_eq j.table table) (is_live j.state) p), tt, tt)

cancel_happens : (Es : List Event) (at : ℕ) (kind : JobKind) (o : Option Table) → Alters Es → HappenAll (cancels at kind (jobs_of Es) o) Es
cancel_happens Es at kind None a = tt
cancel_happens Es at kind (Some t) a = cancel_job_happens Es t.number at kind (job_of_kind t.number kind (jobs_of Es)) a refl

-- Advance
upto_is : (range next : ℕ) → next ≤ range + 1 → (next ≤ upto_for range next) × ((upto_for range next ≡ range) ⊎ (upto_for range next ≡ range + range_size))
upto_is range next w = go (nat_lt range next) refl
  where
    go : (b : Bool) → nat_lt range next ≡ b → (next ≤ cond b (range + range_size) range) × ((cond b (range + range_size) range ≡ range) ⊎ (cond b (range + range_size) range ≡ range + range_size))
    go true e = (omega (arith, w), inr refl)
    go false e = (let k : next ≤ range = grind (arith, nat_tests) in k, inl refl)

none_above : (n : ℕ) (ids : List ℕ) → Each (λ i. i < n) ids → list_any (nat_le n) ids ≡ false
none_above n [] e = refl
none_above n (i ∷ is) e = let k : nat_le n i ≡ false = (let h = e.0 in grind (arith, nat_tests)) in rw k (none_above n is e.1)

waits_happen : (Es : List Event) (j : JobInfo) → Tidy Es → Alters Es → job_at j.job (jobs_of Es) ≡ Some j → j.state ≡ job_state.Pending → HappenAll (event.JobWaiting (record { job = j.job; watershed = next_of Es; upto = upto_for (range_of Es) (next_of Es) }) ∷ []) Es
waits_happen Es j k a f is =
    let u = upto_is (range_of Es) (next_of Es) k.within in
    ((j, f, record { fresh = k.spent; pending = is; within = u.0; above = none_above (next_of Es) (told_ids Es) k.ids; upto = u.1 }), tt, tt)

draw_marks : (next number : ℕ) (js : List JobInfo) → Each (λ (j : JobInfo). is_planned j.state ≡ true → IsMarkedJob next j) js → Each (λ (j : JobInfo). is_planned j.state ≡ true → watershed_of j ≤ next) (map (changed_job number (waiting_job next)) js)
draw_marks next number js m = each_map (λ (j : JobInfo). is_planned j.state ≡ true → IsMarkedJob next j) (λ (j : JobInfo). is_planned j.state ≡ true → watershed_of j ≤ next) (changed_job number (waiting_job next)) (λ j h. elim (nat_eq j.job number) as (λ b. is_planned (cond b (waiting_job next j) j).state ≡ true → watershed_of (cond b (waiting_job next j) j) ≤ next) [ true ↦ (λ p. omega arith) | false ↦ (λ p. let b = (h p).below in omega (arith, b)) ]) js m

pending_happens : (Es : List Event) (j : JobInfo) → Tidy Es → Alters Es → job_at j.job (jobs_of Es) ≡ Some j → j.state ≡ job_state.Pending → HappenAll (event.WatershedDrawn (record { watershed = next_of Es }) ∷ event.JobWaiting (record { job = j.job; watershed = next_of Es; upto = upto_for (range_of Es) (next_of Es) }) ∷ []) Es
pending_happens Es j k a f is =
    (record { above = k.below; unspent = k.ids; within = (upto_is (range_of Es) (next_of Es) k.within).0; fresh = k.spent; marks = draw_marks (next_of Es) j.job (jobs_of Es) a.marked }, tt, waits_happen Es j k a f is)

runs_happen : (Es : List Event) (at : ℕ) (j : JobInfo) (o : Option Txn) → bad_load j (table_at j.table (tables_of Es)) (txns_of Es) ≡ o → job_at j.job (jobs_of Es) ≡ Some j → j.state ≡ job_state.WaitingTxn → has_open_below (watershed_of j) (txns_of Es) ≡ false → HappenAll (runs at j o) Es
runs_happen Es at j None b f is n = ((j, f, record { waits = is; ended = n; good = b }), tt, tt)
runs_happen Es at j (Some u) b f is n = ((j, f, ap is_live is), tt, tt)

not_true : (b : Bool) → not b ≡ true → b ≡ false
not_true true h = absurd (cc)
not_true false h = refl

move_happens : (Es : List Event) (at : ℕ) (j : JobInfo) (s : JobState) → Tidy Es → Alters Es → job_at j.job (jobs_of Es) ≡ Some j → j.state ≡ s → moves_by s j (tables_of Es) (txns_of Es) (tasks_of Es) ≡ true → HappenAll (moved_by s at (next_of Es) (range_of Es) (tables_of Es) (txns_of Es) j) Es
move_happens Es at j job_state.Pending k a f is m = pending_happens Es j k a f is
move_happens Es at j job_state.WaitingTxn k a f is m = runs_happen Es at j (bad_load j (table_at j.table (tables_of Es)) (txns_of Es)) refl f is (not_true (has_open_below (watershed_of j) (txns_of Es)) m)
move_happens Es at j job_state.Running k a f is m = ((j, f, inl (record { runs = ap is_running is; done = m })), tt, tt)
move_happens Es at j job_state.Finished k a f is m = tt
move_happens Es at j job_state.Cancelled k a f is m = tt

advance_happens : (Es : List Event) (at : ℕ) (o : Option JobInfo) → Tidy Es → Alters Es → next_move (jobs_of Es) (tables_of Es) (txns_of Es) (tasks_of Es) ≡ o → HappenAll (moved at (next_of Es) (range_of Es) (tables_of Es) (txns_of Es) o) Es
advance_happens Es at None k a e = tt
advance_happens Es at (Some j) k a e =
    let test : JobInfo → Bool = moves (tables_of Es) (txns_of Es) (tasks_of Es) in
    move_happens Es at j j.state k a (each_job_found test (jobs_of Es) j a.numbers e) refl (job_passes test (jobs_of Es) j e)

move_told : (Es : List Event) (at : ℕ) (j : JobInfo) (s : JobState) → Tidy Es → Alters Es → job_at j.job (jobs_of Es) ≡ Some j → j.state ≡ s → moves_by s j (tables_of Es) (txns_of Es) (tasks_of Es) ≡ true → HappenAll (journal (moved_by s at (next_of Es) (range_of Es) (tables_of Es) (txns_of Es) j)) Es
move_told Es at j job_state.Pending k a f is m = waits_happen Es j k a f is
move_told Es at j job_state.WaitingTxn k a f is m = go (bad_load j (table_at j.table (tables_of Es)) (txns_of Es))
  where
    go : (o : Option Txn) → HappenAll (journal (runs at j o)) Es
    go None = tt
    go (Some u) = ((j, f, ap is_live is), tt, tt)
move_told Es at j job_state.Running k a f is m = ((j, f, inl (record { runs = ap is_running is; done = m })), tt, tt)
move_told Es at j job_state.Finished k a f is m = tt
move_told Es at j job_state.Cancelled k a f is m = tt

advance_told : (Es : List Event) (at : ℕ) (o : Option JobInfo) → Tidy Es → Alters Es → next_move (jobs_of Es) (tables_of Es) (txns_of Es) (tasks_of Es) ≡ o → HappenAll (journal (moved at (next_of Es) (range_of Es) (tables_of Es) (txns_of Es) o)) Es
advance_told Es at None k a e = tt
advance_told Es at (Some j) k a e =
    let test : JobInfo → Bool = moves (tables_of Es) (txns_of Es) (tasks_of Es) in
    move_told Es at j j.state k a (each_job_found test (jobs_of Es) j a.numbers e) refl (job_passes test (jobs_of Es) j e)

-- Take and Give
take_happens : (Es : List Event) (o : Option TaskName) → HappenAll (takes o) Es
take_happens Es None = tt
take_happens Es (Some x) = (tt, tt, tt)

take_told : (Es : List Event) (o : Option TaskName) → HappenAll (journal (takes o)) Es
take_told Es None = tt
take_told Es (Some x) = tt

running_found : (Es : List Event) (number : ℕ) (o : Option JobInfo) → job_at number (jobs_of Es) ≡ o → runs_in o ≡ true → (j : JobInfo) × (job_at number (jobs_of Es) ≡ Some j) × (is_live j.state ≡ true)
running_found Es number None f h = absurd (cc)
running_found Es number (Some j) f h = (j, f, live j.state h)
  where
    live : (s : JobState) → is_running s ≡ true → is_live s ≡ true
    live job_state.Running h = refl
    live job_state.Pending h = refl
    live job_state.WaitingTxn h = refl
    live job_state.Finished h = absurd (cc)
    live job_state.Cancelled h = absurd (cc)

give_happens : (Es : List Event) (piece : Piece) (at : ℕ) (x : PieceResult) → may_give piece (jobs_of Es) (tasks_of Es) ≡ true → HappenAll (gives piece at x) Es
give_happens Es piece at (piece_result.Rows rows) m = (tt, tt, tt)
give_happens Es piece at (piece_result.Fault row column) m = (running_found Es piece.job (job_at piece.job (jobs_of Es)) refl (and_left (runs_in (job_at piece.job (jobs_of Es))) _ m), tt, tt)
give_happens Es piece at piece_result.Back m = (tt, tt, tt)

give_told : (Es : List Event) (piece : Piece) (at : ℕ) (x : PieceResult) → may_give piece (jobs_of Es) (tasks_of Es) ≡ true → HappenAll (journal (gives piece at x)) Es
give_told Es piece at (piece_result.Rows rows) m = tt
give_told Es piece at (piece_result.Fault row column) m = (running_found Es piece.job (job_at piece.job (jobs_of Es)) refl (and_left (runs_in (job_at piece.job (jobs_of Es))) _ m), tt, tt)
give_told Es piece at piece_result.Back m = tt

given_well : (piece : Piece) (live : ℕ) (jobs : List JobInfo) (tasks : List TaskMark) → first_of (give_refusals piece live jobs tasks) ≡ None → may_give piece jobs tasks ≡ true
given_well piece live jobs tasks h =
    let a = none_first (refuse_if (not (nat_eq piece.born live)) (reply.Stale live)) _ h in
    let b = none_first (refuse_if (not (may_give piece jobs tasks)) (reply.TaskOver (job_state_of (job_at piece.job jobs)))) [] a.1 in
    not_false (may_give piece jobs tasks) (not_refused (not (may_give piece jobs tasks)) (reply.TaskOver (job_state_of (job_at piece.job jobs))) b.0)

alter_accepted : (Es : List Event) (db table : List ℕ) (def : AlterDef) (at : ℕ) → Tidy Es → first_of (add_alter_refusals db table def (databases_of Es) (tables_of Es) (jobs_of Es)) ≡ None → HappenAll (adds_job (change_by def) at (last_job_of Es) (table_named db table (tables_of Es))) Es
alter_accepted Es db table def at k h =
    let a = none_first (refuse_if (not (has_db db (databases_of Es))) reply.UnknownDb) _ h in
    let b = none_first (refuse_if (is_none (table_named db table (tables_of Es))) reply.UnknownTable) _ a.1 in
    let c = none_first (busy_in (table_named db table (tables_of Es)) (jobs_of Es)) _ b.1 in
    let d = none_first (refuse_if (nat_le most (length (jobs_of Es))) reply.TooManyJobs) _ c.1 in
    let e = none_first (refused_alter def (table_named db table (tables_of Es))) [] d.1 in
    alter_happens Es db table def at (table_named db table (tables_of Es)) k refl c.0 (not_refused (nat_le most (length (jobs_of Es))) reply.TooManyJobs d.0) e.0

-- A command that is not refused makes happen what may happen.
pub acted_happens : (Es : List Event) (c : Command) → Tidy Es → Alters Es → Shaped Es c → first_of (refusals Es c) ≡ None → HappenAll (acted Es c) Es
acted_happens Es (command.CreateDb name if_not_exists) k al shaped h =
    let a = none_first (refuse_if (not (is_name name)) reply.BadName) _ h in
    let b = none_first (refuse_if (has_db name (databases_of Es)) (cond if_not_exists reply.Done reply.DbExists)) _ a.1 in
    let c = none_first (refuse_if (nat_le most (length (databases_of Es))) reply.TooManyDbs) [] b.1 in
    let new = not_refused (has_db name (databases_of Es)) (cond if_not_exists reply.Done reply.DbExists) b.0 in
    one_event (event.DbMade (record { name = name })) Es (has_db name (databases_of Es)) new
    (record { named = not_false (is_name name) (not_refused (not (is_name name)) reply.BadName a.0); new = new; room = not_refused (nat_le most (length (databases_of Es))) reply.TooManyDbs c.0 }, tt, tt)
acted_happens Es (command.CreateTable db table def if_not_exists) k al shaped h =
    let a = none_first (refuse_if (not (has_db db (databases_of Es))) reply.UnknownDb) _ h in
    let b = none_first (refuse_if (is_some (table_named db table (tables_of Es))) (cond if_not_exists reply.Done reply.TableExists)) _ a.1 in
    let c = none_first (refuse_if (not (is_name table)) reply.BadName) _ b.1 in
    let e = none_first (refuse_if (nat_le most (length (tables_of Es))) reply.TooManyTables) _ c.1 in
    let f = none_first (refused_def table def) [] e.1 in
    let g = none_first (option_map def_error.Shape (key_fault def)) _ (def_accepted table def f.0) in
    let i = none_first (columns_fault def) _ g.1 in
    let j = none_first (layout_faults table def) _ i.1 in
    let new = not_refused (is_some (table_named db table (tables_of Es))) (cond if_not_exists reply.Done reply.TableExists) b.0 in
    one_event (event.TableMade (record { db = db; name = table; shape = shape_of def; layout = layout_of table def })) Es (is_some (table_named db table (tables_of Es))) new (
      record {
        known = not_false (has_db db (databases_of Es)) (not_refused (not (has_db db (databases_of Es))) reply.UnknownDb a.0);
        named = not_false (is_name table) (not_refused (not (is_name table)) reply.BadName c.0);
        new = new;
        room = not_refused (nat_le most (length (tables_of Es))) reply.TooManyTables e.0;
        shape = mapped_none def_error.Shape (shape_fault (shape_of def).model (shape_of def).columns) i.0;
        layout = laid_out table def j.0;
      },
      tt,
      tt,
    )
acted_happens Es (command.Begin db table label two_phase at) k al shaped h =
    let a = none_first (refuse_if (not (has_db db (databases_of Es))) reply.UnknownDb) _ h in
    let b = none_first (refuse_if (is_none (table_named db table (tables_of Es))) reply.UnknownTable) _ a.1 in
    let c = none_first (bad_label label) _ b.1 in
    let e = none_first (used (label_of db (label_for label (next_of Es)) (txns_of Es))) [] c.1 in
    begin_happens Es db table label two_phase at (table_named db table (tables_of Es)) k al refl c.0 e.0
acted_happens Es (command.Submit txn built at) k al shaped h = submit_happens Es txn built.rows at (txn_at txn (txns_of Es)) k al refl h shaped
acted_happens Es (command.Publish at) k al shaped h = publish_happens Es at (due (txns_of Es)) refl
acted_happens Es (command.Abort db txn at) k al shaped h = abort_happens Es db txn at (has_db db (databases_of Es)) (txn_by db txn (txns_of Es)) k refl h
acted_happens Es (command.Snapshot db table query) k al shaped h = tt
acted_happens Es (command.DropTable db table if_exists at) k al shaped h = drop_happens Es db table at (table_named db table (tables_of Es)) k refl
acted_happens Es (command.AddPartition db table part) k al shaped h =
    let a = none_first (refuse_if (not (has_db db (databases_of Es))) reply.UnknownDb) _ h in
    let b = none_first (refuse_if (is_none (table_named db table (tables_of Es))) reply.UnknownTable) _ a.1 in
    let c = none_first (busy_in (table_named db table (tables_of Es)) (jobs_of Es)) _ b.1 in
    let d = none_first (refused_part part (table_named db table (tables_of Es))) [] c.1 in
    add_happens Es db table part (table_named db table (tables_of Es)) k refl c.0 d.0
acted_happens Es (command.Commit db txn at) k al shaped h = commit_happens Es db txn at (has_db db (databases_of Es)) (txn_by db txn (txns_of Es)) k al refl h
acted_happens Es (command.Sweep at) k al shaped h = sweep_happens Es at (list_any (sweeps_told at) (txns_of Es) || list_any (is_job_over at) (jobs_of Es)) refl
acted_happens Es (command.AddAlter db table def at) k al shaped h = alter_accepted Es db table def at k h
acted_happens Es (command.CancelAlter db table kind at) k al shaped h = cancel_happens Es at kind (table_named db table (tables_of Es)) al
acted_happens Es (command.Advance at) k al shaped h = advance_happens Es at (next_move (jobs_of Es) (tables_of Es) (txns_of Es) (tasks_of Es)) k al refl
acted_happens Es (command.Show db what) k al shaped h = tt
acted_happens Es command.Restart k al shaped h = tt
acted_happens Es command.Take k al shaped h = take_happens Es (next_task (jobs_of Es) (tables_of Es) (tasks_of Es))
acted_happens Es (command.Give piece at) k al shaped h = give_happens Es piece at piece.result (given_well piece (live_of Es) (jobs_of Es) (tasks_of Es) h)

-- Of what it makes happen, the records alone may happen too.
one_told : (e : Event) (Es : List Event) → HappenAll (e ∷ []) Es → HappenAll (journal (e ∷ [])) Es
one_told e Es h = subst (λ (l : List Event). HappenAll l Es) (sym (journal_cons e [])) (go (is_told e))
  where
    go : (b : Bool) → HappenAll (cond b (e ∷ []) []) Es
    go true = h
    go false = tt

event_told : (Es : List Event) (e : Event) (b : Bool) → HappenAll (cond b [] (e ∷ [])) Es → HappenAll (journal (cond b [] (e ∷ []))) Es
event_told Es e true h = tt
event_told Es e false h = one_told e Es h

range_told : (Es : List Event) → journal (new_range Es) ≡ new_range Es
range_told Es = elim (nat_lt (range_of Es) (next_of Es)) as (λ b. journal (range_if b Es) ≡ range_if b Es) [ true ↦ refl | false ↦ refl ]

begin_told : (Es : List Event) (label : Option (List ℕ)) (two_phase : Bool) (at : ℕ) (o : Option Table) → journal (begins (next_of Es) label two_phase at o ++ new_range Es) ≡ new_range Es
begin_told Es label two_phase at None = range_told Es
begin_told Es label two_phase at (Some t) = range_told Es

kept_told : {X : Type 0} (o : Option X) (f : Option X → List Event) (g : X → Event) (Es : List Event) → f None ≡ [] → ((x : X) → f (Some x) ≡ g x ∷ []) → HappenAll (f o) Es → HappenAll (journal (f o)) Es
kept_told None f g Es n k h = subst (λ (l : List Event). HappenAll (journal l) Es) (sym n) tt
kept_told (Some x) f g Es n k h = subst (λ (l : List Event). HappenAll (journal l) Es) (sym (k x)) (one_told (g x) Es (subst (λ (l : List Event). HappenAll l Es) (k x) h))

pub told_happens : (Es : List Event) (c : Command) → Tidy Es → Alters Es → Shaped Es c → first_of (refusals Es c) ≡ None → HappenAll (journal (acted Es c)) Es
told_happens Es (command.CreateDb name if_not_exists) k al shaped h = event_told Es (event.DbMade (record { name = name })) (has_db name (databases_of Es)) (acted_happens Es (command.CreateDb name if_not_exists) k al shaped h)
told_happens Es (command.CreateTable db table def if_not_exists) k al shaped h = event_told Es (event.TableMade (record { db = db; name = table; shape = shape_of def; layout = layout_of table def })) (is_some (table_named db table (tables_of Es))) (acted_happens Es (command.CreateTable db table def if_not_exists) k al shaped h)
told_happens Es (command.Begin db table label two_phase at) k al shaped h = subst (λ (l : List Event). HappenAll l Es) (sym (begin_told Es label two_phase at (table_named db table (tables_of Es)))) (ranged Es)
told_happens Es (command.Submit txn built at) k al shaped h = kept_told (txn_at txn (txns_of Es)) (submits built.rows at (tables_of Es) (jobs_of Es)) (λ x. event.LoadSubmitted (load_now built.rows at (tables_of Es) (jobs_of Es) x)) Es refl (λ x. refl) (acted_happens Es (command.Submit txn built at) k al shaped h)
told_happens Es (command.Publish at) k al shaped h = kept_told (due (txns_of Es)) (publishes at) (λ x. event.LoadPublished (record { txn = x.id; at = at })) Es refl (λ x. refl) (acted_happens Es (command.Publish at) k al shaped h)
told_happens Es (command.Abort db txn at) k al shaped h = kept_told (txn_by db txn (txns_of Es)) (aborts at) (λ x. cond x.told (event.TxnAborted (record { txn = x.id; at = at })) (event.TxnEnded (record { txn = x.id; at = at }))) Es refl (λ x. refl) (acted_happens Es (command.Abort db txn at) k al shaped h)
told_happens Es (command.Snapshot db table query) k al shaped h = tt
told_happens Es (command.DropTable db table if_exists at) k al shaped h = kept_told (table_named db table (tables_of Es)) (drops at) (λ x. event.TableDropped (record { table = x.number; at = at })) Es refl (λ x. refl) (acted_happens Es (command.DropTable db table if_exists at) k al shaped h)
told_happens Es (command.AddPartition db table part) k al shaped h = kept_told (table_named db table (tables_of Es)) (adds_part part) (λ x. event.PartAdded (record { table = x.number; part = with_range x.layout.parts (part_of x.layout.kind part) })) Es refl (λ x. refl) (acted_happens Es (command.AddPartition db table part) k al shaped h)
told_happens Es (command.Commit db txn at) k al shaped h = kept_told (txn_by db txn (txns_of Es)) (commits at (tables_of Es) (jobs_of Es)) (λ x. event.LoadCommitted (record { txn = x.id; at = at; cancelled = spoiled_by (jobs_of Es) (table_at x.table (tables_of Es)) x.rows })) Es refl (λ x. refl) (acted_happens Es (command.Commit db txn at) k al shaped h)
told_happens Es (command.Sweep at) k al shaped h = swept_told Es at (list_any (sweeps_told at) (txns_of Es) || list_any (is_job_over at) (jobs_of Es)) (acted_happens Es (command.Sweep at) k al shaped h)
told_happens Es (command.AddAlter db table def at) k al shaped h = kept_told (table_named db table (tables_of Es)) (adds_job (change_by def) at (last_job_of Es)) (λ x. event.JobAdded (record { job = last_job_of Es + 1; table = x.number; at = at; change = change_by def })) Es refl (λ x. refl) (acted_happens Es (command.AddAlter db table def at) k al shaped h)
told_happens Es (command.CancelAlter db table kind at) k al shaped h = go (table_named db table (tables_of Es))
  where
    go : (o : Option Table) → HappenAll (journal (cancels at kind (jobs_of Es) o)) Es
    go None = tt
    go (Some t) = kept_told (job_of_kind t.number kind (jobs_of Es)) (cancels_job at) (λ (x : JobInfo). event.JobCancelled (record { job = x.job; at = at; cause = cause.Command })) Es refl (λ x. refl) (cancel_job_happens Es t.number at kind (job_of_kind t.number kind (jobs_of Es)) al refl)
told_happens Es (command.Advance at) k al shaped h = advance_told Es at (next_move (jobs_of Es) (tables_of Es) (txns_of Es) (tasks_of Es)) k al refl
told_happens Es (command.Show db what) k al shaped h = tt
told_happens Es command.Restart k al shaped h = tt
told_happens Es command.Take k al shaped h = take_told Es (next_task (jobs_of Es) (tables_of Es) (tasks_of Es))
told_happens Es (command.Give piece at) k al shaped h = give_told Es piece at piece.result (given_well piece (live_of Es) (jobs_of Es) (tasks_of Es) h)
