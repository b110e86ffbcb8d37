-- While a job runs, the work of its tasks and the lists since fold to the converted base; so do the stored lists of each index.
use Rattle.std.proofs.Common.{◌≡◌, ℕ, ◌+◌, ◌≤◌, Bool, true, false, cond, not, ◌&&◌, List, [], ◌∷◌, ◌++◌, Option, Some, None, IfSome, inr, map, filter, refl, sym, ◌∙◌, ap, arith, subst, append_assoc, append-nil}
use Rattle.std.proofs.lemmas.Bool.Decides.{nat_tests}
use Rattle.std.specs.Prelude.{nat_eq}
use Rattle.std.specs.Option.{option_map}
use Rattle.dl_values.specs.declared.cell.Cell.{Cell}
use Rattle.schema_models.specs.Folds.{fold_of}
use Rattle.row_map.specs.Maps.{rollup_map}
use Rattle.partitions.specs.LayoutFaults.{with_part}
use Rattle.partitions.specs.LayoutRules.{IsLayout}
use Rattle.partitions.specs.Places.{Place}
use Rattle.alter_core.specs.declared.job.Cause.TheVariants as cause
use Rattle.alter_core.specs.declared.job.Change.{Change}
use Rattle.alter_core.specs.declared.job.Change.TheVariants as change
use Rattle.alter_core.specs.declared.job.JobInfo.{JobInfo}
use Rattle.alter_core.specs.declared.job.JobState.{JobState}
use Rattle.alter_core.specs.declared.job.JobState.TheVariants as job_state
use Rattle.front_defs.specs.declared.event.Event.{Event}
use Rattle.front_defs.specs.declared.event.Event.TheVariants as event
use Rattle.front_defs.specs.declared.event.PartAdded.{PartAdded}
use Rattle.front_defs.specs.declared.history.Entry.{Entry}
use Rattle.front_defs.specs.declared.catalogue.Table.{Table}
use Rattle.front_defs.specs.declared.txn.Txn.{Txn}
use Rattle.front_defs.specs.Catalogue.{finished_in, table_at, tables_of, last_table_of, new_table, part_added, with_change}
use Rattle.front_defs.specs.Transactions.{txn_at, txns_of}
use Rattle.front_defs.specs.Jobs.{added_job, cancelled_job, changed_job, dropped_job, finished_job, has_live, is_job_over, is_live, is_live_of, is_running, job_at, jobs_of, ran_job, reopened_job, running_job, spoiled_job, waiting_job}
use Rattle.front_defs.specs.Indexes.{Index, first_new, mapped_index, new_index}
use Rattle.front_defs.specs.Stored as stored
use Rattle.front_defs.specs.Stored.{AreRowsOf, StoredList, base_of, base_with, brought, ended_lists, fixed_of, index_lists, is_tablet, lists_of, lists_to, since_of, since_with, source_of, started, stored_of, version_of, whole_list, writes}
use Rattle.front_defs.specs.History.{happened}
use Rattle.front_defs.specs.Legal.{Legal}
use Rattle.front_defs.specs.Journal.{There}
use Rattle.front_laws.specs.Tidy.{Each, Happens, LiveApart, Pairs}
use Rattle.front_laws.specs.Laws.{ChainsBy, IndexFoldsTo, IsBase, PartsFold, RunsWell, TabletFolds, TabletFoldsTo}
use Rattle.front_laws.proofs.Lists.{each_both, each_filter, each_found, each_imp, each_map, each_snoc, eq_is}
use Rattle.front_laws.proofs.Tidying.{due_found, finished_number}
use Rattle.front_laws.proofs.Keeping.{found_map, found_without, made_apart, part_number, table_number}
use Rattle.front_laws.proofs.Following.{any_none, each_job}
use Rattle.front_laws.proofs.Commuting.{never_runs}
use Rattle.front_laws.proofs.Histories.{always_holds, kept}
use Rattle.front_laws.proofs.Plans.{Good}
use Rattle.front_laws.proofs.Stored.{Spread, live_ends, spread_first, spread_step, sturdy}
use Rattle.front_laws.proofs.Ending.{ChangeAdmits, JobHolds, finished_chain, finished_holds, whole_folds}
use Rattle.front_laws.proofs.Folding.{Holds, IsIndex, all_fold, load_tablet}
use Rattle.front_laws.proofs.Loading.{IsHeld, IsHeldBy, IsSturdy, TableHolds, compact_chain, compact_holds, dropped_chain, dropped_table, each_in, load_chain, made_chain, made_holds, part_chain, part_table, published}
use Rattle.front_laws.proofs.Stories.{held_table}

-- what holds of the parts of a table, for a change
abbrev PartsOf : List Event → ℕ → Change → Type 0
PartsOf Es table c = IfSome (table_at table (tables_of Es)) (λ (t : Table). PartsFold c t (base_of Es table) (fixed_of Es table) (source_of Es table) (since_of Es table))

-- a change of a job that keeps its table and its change, and makes none run
record RunKept (j k : JobInfo) : Type 0 where
  table : k.table ≡ j.table
  change : k.change ≡ j.change
  runs : is_running k.state ≡ true → is_running j.state ≡ true

same_run : (j : JobInfo) → RunKept j j
same_run j = record { table = refl; change = refl; runs = λ h. h }

runs_mapped : (Es : List Event) (f : JobInfo → JobInfo) (js : List JobInfo) → ((j : JobInfo) → RunKept j (f j)) → Each (RunsWell Es) js → Each (RunsWell Es) (map f js)
runs_mapped Es f js k e = each_map (RunsWell Es) (RunsWell Es) f (λ j h. go j h (k j)) js e
  where
    go : (j : JobInfo) → RunsWell Es j → RunKept j (f j) → RunsWell Es (f j)
    go j h q = λ r. subst (λ (n : ℕ). PartsOf Es n (f j).change) (sym q.table) (subst (PartsOf Es j.table) (sym q.change) (h (q.runs r)))

kept_run : (number : ℕ) (f : JobInfo → JobInfo) (j : JobInfo) → RunKept j (f j) → RunKept j (changed_job number f j)
kept_run number f j k = go (nat_eq j.job number)
  where
    go : (b : Bool) → RunKept j (cond b (f j) j)
    go true = k
    go false = same_run j

spoiled_run : (o : Option ℕ) (txn at : ℕ) (j : JobInfo) → RunKept j (spoiled_job o txn at j)
spoiled_run None txn at j = same_run j
spoiled_run (Some n) txn at j = kept_run n (cancelled_job at (cause.Load txn)) j (record { table = refl; change = refl; runs = λ h. absurd (cc) })

-- a job that runs is the one that is found for its table
found_running : (js : List JobInfo) → Pairs LiveApart js → Each (λ (j : JobInfo). is_running j.state ≡ true → running_job j.table js ≡ Some j) js
found_running [] a = tt
found_running (j ∷ js) a =
    ((λ r. rw (same j.table, r) refl), each_imp (λ (k : JobInfo). LiveApart j k × (is_running k.state ≡ true → running_job k.table js ≡ Some k)) (λ (k : JobInfo). is_running k.state ≡ true → running_job k.table (j ∷ js) ≡ Some k) (λ k h r. skip k h.0 r (h.1 r)) js (each_both (LiveApart j) (λ (k : JobInfo). is_running k.state ≡ true → running_job k.table js ≡ Some k) js a.0 (found_running js a.1)))
  where
    same : (n : ℕ) → nat_eq n n ≡ true
    same n = grind (arith, nat_tests)

    lives : (s : JobState) → is_running s ≡ true → is_live s ≡ true
    lives job_state.Running h = refl
    lives job_state.Pending h = refl
    lives job_state.WaitingTxn h = refl
    lives job_state.Finished h = absurd (cc)
    lives job_state.Cancelled h = absurd (cc)

    skip : (k : JobInfo) → LiveApart j k → is_running k.state ≡ true → running_job k.table js ≡ Some k → cond (nat_eq j.table k.table && is_running j.state) (Some j) (running_job k.table js) ≡ Some k
    skip k a r f = go (nat_eq j.table k.table) (is_running j.state) refl refl
      where
        go : (x y : Bool) → nat_eq j.table k.table ≡ x → is_running j.state ≡ y → cond (x && y) (Some j) (running_job k.table js) ≡ Some k
        go true true i s = absurd (a (lives j.state s) (lives k.state r) (eq_is j.table k.table i))
        go true false i s = f
        go false y i s = f

-- the other live jobs are of other tables
pub other_tables : (n : ℕ) (js : List JobInfo) (w : JobInfo) → Pairs LiveApart js → job_at n js ≡ Some w → is_live w.state ≡ true → Each (λ (k : JobInfo). (k.job ≡ n → ⊥) → is_live k.state ≡ true → k.table ≡ w.table → ⊥) js
other_tables n [] w a f l = tt
other_tables n (j ∷ js) w a f l = go (nat_eq j.job n) refl f (λ g. other_tables n js w a.1 g l)
  where
    go : (b : Bool) → nat_eq j.job n ≡ b → cond b (Some j) (job_at n js) ≡ Some w → (job_at n js ≡ Some w → Each (λ (k : JobInfo). (k.job ≡ n → ⊥) → is_live k.state ≡ true → k.table ≡ w.table → ⊥) js) → Each (λ (k : JobInfo). (k.job ≡ n → ⊥) → is_live k.state ≡ true → k.table ≡ w.table → ⊥) (j ∷ js)
    go true e k r =
        let i : j ≡ w = cc in
        let live : is_live j.state ≡ true = subst (λ (x : JobInfo). is_live x.state ≡ true) (sym i) l in
        ((λ m x y. m (eq_is j.job n e)), each_imp (LiveApart j) (λ (k : JobInfo). (k.job ≡ n → ⊥) → is_live k.state ≡ true → k.table ≡ w.table → ⊥) (λ k q m x y. q live x (ap (λ (z : JobInfo). z.table) i ∙ sym y)) js a.0)
    go false e k r = ((λ m x y. each_found (LiveApart j) (λ (z : JobInfo). nat_eq z.job n) js w a.0 k x l y), r k)

running_lives : (s : JobState) → is_running s ≡ true → is_live s ≡ true
running_lives job_state.Running h = refl
running_lives job_state.Pending h = refl
running_lives job_state.WaitingTxn h = refl
running_lives job_state.Finished h = absurd (cc)
running_lives job_state.Cancelled h = absurd (cc)

-- a new index is one that is admitted
new_is : (c : Change) (t : Table) (index : ℕ) (x : Index) → ChangeAdmits t.shape c → new_index c t index ≡ Some x → IsIndex t x
new_is (change.Rollup name columns) t index x a e = go (nat_eq index (first_new t)) e
  where
    go : (b : Bool) → cond b (Some (mapped_index (rollup_map t.shape columns))) None ≡ Some x → IsIndex t x
    go true k = let i : mapped_index (rollup_map t.shape columns) ≡ x = cc in inr (columns, sym i, a)
    go false k = absurd (cc)

-- a load becomes visible
since_append : (t : Table) (x : Index) (w : Place) (v : ℕ) (front lists : List StoredList) (rows : List (List Cell)) → lists_to t (Some x) w v (front ++ lists) rows ≡ front ++ lists_to t (Some x) w v lists rows
since_append t x w v front lists rows = go (writes t w rows)
  where
    go : (b : Bool) → cond b ((front ++ lists) ++ stored.list_at t x w v rows ∷ []) (front ++ lists) ≡ front ++ cond b (lists ++ stored.list_at t x w v rows ∷ []) lists
    go true = append_assoc front lists (stored.list_at t x w v rows ∷ [])
    go false = refl

load_parts : (c : Change) (t : Table) (base rows : List (List Cell)) (version fixed : ℕ → ℕ) (source : List (List Cell)) (since lists : ℕ → Place → List StoredList) → IsLayout t.shape t.layout → ChangeAdmits t.shape c → AreRowsOf t.shape t.layout rows → Holds t base lists → PartsFold c t base fixed source since
    → PartsFold c t (fold_of t.shape (base ++ rows)) fixed source (λ index w. lists_to t (new_index c t index) w (version w.part) (since index w) rows)
load_parts c t base rows version fixed source since lists v a i holds h index w = go (new_index c t index) refl (h index w)
  where
    go : (o : Option Index) → new_index c t index ≡ o → IfSome o (λ (x : Index). TabletFolds (Some x) t w base (whole_list t x w (fixed w.part) source ++ since index w)) → IfSome o (λ (x : Index). TabletFolds (Some x) t w (fold_of t.shape (base ++ rows)) (whole_list t x w (fixed w.part) source ++ lists_to t o w (version w.part) (since index w) rows))
    go None e k = tt
    go (Some x) e k =
        subst (λ (l : List StoredList). TabletFolds (Some x) t w (fold_of t.shape (base ++ rows)) l) (since_append t x w (version w.part) (whole_list t x w (fixed w.part) source) (since index w) rows)
        (load_tablet t (Some x) w (version w.part) base rows (whole_list t x w (fixed w.part) source ++ since index w) v (λ y f. let q : x ≡ y = cc in subst (IsIndex t) q (new_is c t index x a e)) holds.base_is holds.converts i.shaped k)

no_parts : (c : Change) (t : Table) (base : List (List Cell)) (version fixed : ℕ → ℕ) (source : List (List Cell)) (since : ℕ → Place → List StoredList) → PartsFold c t base fixed source since → PartsFold c t base fixed source (λ index w. lists_to t (new_index c t index) w (version w.part) (since index w) [])
no_parts c t base version fixed source since h = h

published_parts : (Es : List Event) (j : JobInfo) (id : ℕ) (u : Txn) → Good Es → Spread Es → txn_at id (txns_of Es) ≡ Some u → JobHolds (tables_of Es) (last_table_of Es) j → is_running j.state ≡ true → running_job j.table (jobs_of Es) ≡ Some j → RunsWell Es j
    → IfSome (table_at j.table (tables_of Es)) (λ (t : Table). PartsFold j.change t (base_with j.table (table_at j.table (tables_of Es)) (base_of Es j.table) (txn_at id (txns_of Es))) (fixed_of Es j.table) (source_of Es j.table) (λ index w. since_with (table_at j.table (tables_of Es)) (running_job j.table (jobs_of Es)) index w (version_of Es j.table w.part + 1) (since_of Es j.table index w) (brought j.table (txn_at id (txns_of Es)))))
published_parts Es j id u g p found own runs is well =
    subst (λ (q : Option Txn). IfSome (table_at j.table (tables_of Es)) (λ (t : Table). PartsFold j.change t (base_with j.table (table_at j.table (tables_of Es)) (base_of Es j.table) q) (fixed_of Es j.table) (source_of Es j.table) (λ index w. since_with (table_at j.table (tables_of Es)) (running_job j.table (jobs_of Es)) index w (version_of Es j.table w.part + 1) (since_of Es j.table index w) (brought j.table q)))) (sym found)
    (subst (λ (q : Option JobInfo). IfSome (table_at j.table (tables_of Es)) (λ (t : Table). PartsFold j.change t (base_with j.table (table_at j.table (tables_of Es)) (base_of Es j.table) (Some u)) (fixed_of Es j.table) (source_of Es j.table) (λ index w. since_with (table_at j.table (tables_of Es)) q index w (version_of Es j.table w.part + 1) (since_of Es j.table index w) (brought j.table (Some u))))) (sym is)
    (go (table_at j.table (tables_of Es)) refl (well runs)))
  where
    held : IsHeld (tables_of Es) u
    held = each_found (IsHeld (tables_of Es)) (λ t. nat_eq t.id id) (txns_of Es) u p.held found

    go : (o : Option Table) → table_at j.table (tables_of Es) ≡ o → IfSome o (λ (t : Table). PartsFold j.change t (base_of Es j.table) (fixed_of Es j.table) (source_of Es j.table) (since_of Es j.table))
        → IfSome o (λ (t : Table). PartsFold j.change t (base_with j.table o (base_of Es j.table) (Some u)) (fixed_of Es j.table) (source_of Es j.table) (λ index w. since_with o (Some j) index w (version_of Es j.table w.part + 1) (since_of Es j.table index w) (brought j.table (Some u))))
    go None e h = tt
    go (Some t) e h = here (nat_eq u.table j.table) refl
      where
        laid : IsSturdy t
        laid = each_found IsSturdy (λ (b : Table). nat_eq b.number j.table) (tables_of Es) t (sturdy Es g p) e

        admits : ChangeAdmits t.shape j.change
        admits = of (table_at j.table (tables_of Es)) e (own.admits (running_lives j.state runs))
          where
            of : (o : Option Table) → o ≡ Some t → There o (λ (x : Table). ChangeAdmits x.shape j.change) → ChangeAdmits t.shape j.change
            of None f k = absurd (cc)
            of (Some b) f k = let i : b ≡ t = cc in subst (λ (x : Table). ChangeAdmits x.shape j.change) i k

        here : (b : Bool) → nat_eq u.table j.table ≡ b → PartsFold j.change t (cond b (fold_of t.shape (base_of Es j.table ++ u.rows)) (base_of Es j.table)) (fixed_of Es j.table) (source_of Es j.table) (λ index w. lists_to t (new_index j.change t index) w (version_of Es j.table w.part + 1) (since_of Es j.table index w) (cond b u.rows []))
        here true f =
            let rows : IsHeldBy (Some t) u = subst (λ (o : Option Table). IsHeldBy o u) e (subst (λ (n : ℕ). IsHeldBy (table_at n (tables_of Es)) u) (eq_is u.table j.table f) held) in
            load_parts j.change t (base_of Es j.table) u.rows (λ part. version_of Es j.table part + 1) (fixed_of Es j.table) (source_of Es j.table) (since_of Es j.table) (stored.fresh_of Es j.table) laid.0 admits rows (held_table (table_at j.table (tables_of Es)) t (base_of Es j.table) (stored.fresh_of Es j.table) e (p.fresh j.table)) h
        here false f = no_parts j.change t (base_of Es j.table) (λ part. version_of Es j.table part + 1) (fixed_of Es j.table) (source_of Es j.table) (since_of Es j.table) h

-- where the table of a job stays as it is
part_apart : (a : PartAdded) (tables : List Table) (n : ℕ) (P : Table → Type 0) → nat_eq n a.table ≡ false → IfSome (table_at n tables) P → IfSome (table_at n (map (part_added a) tables)) P
part_apart a tables n P ne h = subst (λ (o : Option Table). IfSome o P) (sym (found_map (part_added a) (part_number a) n tables)) (go (table_at n tables) refl h)
  where
    go : (o : Option Table) → table_at n tables ≡ o → IfSome o P → IfSome (option_map (part_added a) o) P
    go None e k = tt
    go (Some t) e k = let i : nat_eq t.number a.table ≡ false = ap (λ (m : ℕ). nat_eq m a.table) (table_number n tables t e) ∙ ne in subst (λ (b : Bool). P (cond b (record t { layout = with_part a.part t.layout }) t)) (sym i) k

finished_apart : (o : Option JobInfo) (tables : List Table) (n : ℕ) (P : Table → Type 0) → IfSome o (λ (j : JobInfo). nat_eq n j.table ≡ false) → IfSome (table_at n tables) P → IfSome (table_at n (map (finished_in o) tables)) P
finished_apart o tables n P ne h = subst (λ (x : Option Table). IfSome x P) (sym (found_map (finished_in o) (finished_number o) n tables)) (go (table_at n tables) o refl ne h)
  where
    go : (x : Option Table) (q : Option JobInfo) → table_at n tables ≡ x → IfSome q (λ (j : JobInfo). nat_eq n j.table ≡ false) → IfSome x P → IfSome (option_map (finished_in q) x) P
    go None q e m k = tt
    go (Some t) None e m k = k
    go (Some t) (Some j) e m k = let i : nat_eq t.number j.table ≡ false = ap (λ (z : ℕ). nat_eq z j.table) (table_number n tables t e) ∙ m in subst (λ (b : Bool). P (cond b (with_change j.change t) t)) (sym i) k

neq : (a b : ℕ) → (a ≡ b → ⊥) → nat_eq a b ≡ false
neq a b k = go (nat_eq a b) refl
  where
    go : (c : Bool) → nat_eq a b ≡ c → c ≡ false
    go true e = absurd (k (eq_is a b e))
    go false e = refl

-- a job goes to run: its rows are the base now, and no load has come since
starts_parts : (Es : List Event) (c : Change) (t : Table) (base : List (List Cell)) (version : ℕ → ℕ) → IsLayout t.shape t.layout → PartsFold c t base version base (λ index w. [])
starts_parts Es c t base version v index w = go (new_index c t index)
  where
    go : (o : Option Index) → IfSome o (λ (x : Index). TabletFolds (Some x) t w base (whole_list t x w (version w.part) base ++ []))
    go None = tt
    go (Some x) = subst (λ (l : List StoredList). TabletFolds (Some x) t w base l) (sym (append-nil (whole_list t x w (version w.part) base))) (whole_folds t x w (version w.part) base v)

abbrev StartParts : Option JobInfo → List Event → ℕ → Change → Type 0
StartParts o Es table c = IfSome (table_at table (tables_of Es)) (λ (t : Table). PartsFold c t (base_of Es table) (λ part. started o table (version_of Es table part) (fixed_of Es table part)) (started o table (base_of Es table) (source_of Es table)) (λ index w. started o table [] (since_of Es table index w)))

ran_parts : (Es : List Event) (r : ℕ) (w j : JobInfo) → Good Es → job_at r (jobs_of Es) ≡ Some w → (j.job ≡ r → j ≡ w) → ((j.job ≡ r → ⊥) → is_live j.state ≡ true → j.table ≡ w.table → ⊥) → RunsWell Es j → is_running (changed_job r ran_job j).state ≡ true → StartParts (job_at r (jobs_of Es)) Es (changed_job r ran_job j).table (changed_job r ran_job j).change
ran_parts Es r w j g f same apart well = subst (λ (o : Option JobInfo). is_running (changed_job r ran_job j).state ≡ true → StartParts o Es (changed_job r ran_job j).table (changed_job r ran_job j).change) (sym f) (go (nat_eq j.job r) refl)
  where
    self : (n : ℕ) → nat_eq n n ≡ true
    self n = grind (arith, nat_tests)

    go : (b : Bool) → nat_eq j.job r ≡ b → is_running (cond b (ran_job j) j).state ≡ true → StartParts (Some w) Es (cond b (ran_job j) j).table (cond b (ran_job j) j).change
    go true e run =
        let i : j ≡ w = same (eq_is j.job r e) in
        let same_table : nat_eq w.table j.table ≡ true = ap (λ (x : JobInfo). nat_eq x.table j.table) (sym i) ∙ self j.table in
        subst (λ (b : Bool). IfSome (table_at j.table (tables_of Es)) (λ (t : Table). PartsFold j.change t (base_of Es j.table) (λ part. cond b (version_of Es j.table part) (fixed_of Es j.table part)) (cond b (base_of Es j.table) (source_of Es j.table)) (λ index v. cond b [] (since_of Es j.table index v)))) (sym same_table)
        (new (table_at j.table (tables_of Es)) refl)
      where
        new : (o : Option Table) → table_at j.table (tables_of Es) ≡ o → IfSome o (λ (t : Table). PartsFold j.change t (base_of Es j.table) (version_of Es j.table) (base_of Es j.table) (λ index v. []))
        new None k = tt
        new (Some t) k = starts_parts Es j.change t (base_of Es j.table) (version_of Es j.table) (each_found (λ (b : Table). IsLayout b.shape b.layout) (λ (b : Table). nat_eq b.number j.table) (tables_of Es) t g.tidy.laid k)
    go false e run =
        let not_same : j.job ≡ r → ⊥ = λ m. (let z : nat_eq j.job r ≡ true = grind (arith, nat_tests) in cc (z, e)) in
        let other : nat_eq w.table j.table ≡ false = neq w.table j.table (λ q. apart not_same (running_lives j.state run) (sym q)) in
        subst (λ (b : Bool). IfSome (table_at j.table (tables_of Es)) (λ (t : Table). PartsFold j.change t (base_of Es j.table) (λ part. cond b (version_of Es j.table part) (fixed_of Es j.table part)) (cond b (base_of Es j.table) (source_of Es j.table)) (λ index v. cond b [] (since_of Es j.table index v)))) (sym other) (well run)

-- a table is dropped: its job runs no more
dropped_parts : (Es : List Event) (table at : ℕ) (j : JobInfo) → RunsWell Es j → is_running (dropped_job table at j).state ≡ true → IfSome (table_at (dropped_job table at j).table (filter (λ b. not (nat_eq b.number table)) (tables_of Es))) (λ (t : Table). PartsFold (dropped_job table at j).change t (cond (nat_eq table (dropped_job table at j).table) [] (base_of Es (dropped_job table at j).table)) (fixed_of Es (dropped_job table at j).table) (source_of Es (dropped_job table at j).table) (since_of Es (dropped_job table at j).table))
dropped_parts Es table at j well = go (is_live_of table j) refl
  where
    go : (b : Bool) → is_live_of table j ≡ b → is_running (cond b (cancelled_job at cause.Drop j) j).state ≡ true → IfSome (table_at (cond b (cancelled_job at cause.Drop j) j).table (filter (λ x. not (nat_eq x.number table)) (tables_of Es))) (λ (t : Table). PartsFold (cond b (cancelled_job at cause.Drop j) j).change t (cond (nat_eq table (cond b (cancelled_job at cause.Drop j) j).table) [] (base_of Es (cond b (cancelled_job at cause.Drop j) j).table)) (fixed_of Es (cond b (cancelled_job at cause.Drop j) j).table) (source_of Es (cond b (cancelled_job at cause.Drop j) j).table) (since_of Es (cond b (cancelled_job at cause.Drop j) j).table))
    go true e run = absurd (cc)
    go false e run =
        let ne : nat_eq table j.table ≡ false = neq table j.table (λ q. no q) in
        subst (λ (o : Option Table). IfSome o (λ (t : Table). PartsFold j.change t (cond (nat_eq table j.table) [] (base_of Es j.table)) (fixed_of Es j.table) (source_of Es j.table) (since_of Es j.table))) (sym (found_without j.table table (tables_of Es)))
        (subst (λ (b : Bool). IfSome (cond b None (table_at j.table (tables_of Es))) (λ (t : Table). PartsFold j.change t (cond b [] (base_of Es j.table)) (fixed_of Es j.table) (source_of Es j.table) (since_of Es j.table))) (sym ne) (well run))
      where
        no : table ≡ j.table → ⊥
        no q = let z : nat_eq j.table table ≡ true = grind (arith, nat_tests) in let l = running_lives j.state run in let y : is_live_of table j ≡ true = rw (z, l) refl in cc (y, e)

-- What holds of every history: the parts of the jobs that run, and the lists that are stored.
pub record Runs (Es : List Event) : Type 0 where
  pub running : Each (RunsWell Es) (jobs_of Es)
  pub lists : (table : ℕ) → TableHolds (table_at table (tables_of Es)) (base_of Es table) (lists_of Es table)
  pub chained : (table : ℕ) (w : Place) → ChainsBy (table_at table (tables_of Es)) w (lists_of Es table 0 w) (version_of Es table w.part)

-- the lists that a job leaves that ends well
ended_folds : (Es : List Event) (table : ℕ) (t : Table) (j : JobInfo) (x : Index) (index : ℕ) (w : Place) → Good Es → table_at table (tables_of Es) ≡ Some t → j.table ≡ table → RunsWell Es j → new_index j.change t index ≡ Some x → TabletFolds (Some x) t w (base_of Es table) (ended_lists j t x w (version_of Es table w.part) (base_of Es table) (fixed_of Es table w.part) (source_of Es table) (since_of Es table index w))
ended_folds Es table t j x index w g f n well e = go (is_running j.state) refl
  where
    laid : IsLayout t.shape t.layout
    laid = each_found (λ (b : Table). IsLayout b.shape b.layout) (λ (b : Table). nat_eq b.number table) (tables_of Es) t g.tidy.laid f

    found : (o : Option Table) → o ≡ Some t → IfSome o (λ (b : Table). PartsFold j.change b (base_of Es table) (fixed_of Es table) (source_of Es table) (since_of Es table)) → PartsFold j.change t (base_of Es table) (fixed_of Es table) (source_of Es table) (since_of Es table)
    found None q k = absurd (cc)
    found (Some b) q k = let i : b ≡ t = cc in subst (λ (y : Table). PartsFold j.change y (base_of Es table) (fixed_of Es table) (source_of Es table) (since_of Es table)) i k

    at : (o : Option Index) → o ≡ Some x → IfSome o (λ (y : Index). TabletFolds (Some y) t w (base_of Es table) (whole_list t y w (fixed_of Es table w.part) (source_of Es table) ++ since_of Es table index w)) → TabletFolds (Some x) t w (base_of Es table) (whole_list t x w (fixed_of Es table w.part) (source_of Es table) ++ since_of Es table index w)
    at None q k = absurd (cc)
    at (Some y) q k = let i : y ≡ x = cc in subst (λ (z : Index). TabletFolds (Some z) t w (base_of Es table) (whole_list t z w (fixed_of Es table w.part) (source_of Es table) ++ since_of Es table index w)) i k

    go : (b : Bool) → is_running j.state ≡ b → TabletFolds (Some x) t w (base_of Es table) (cond b (whole_list t x w (fixed_of Es table w.part) (source_of Es table) ++ since_of Es table index w) (whole_list t x w (version_of Es table w.part) (base_of Es table)))
    go true r = at (new_index j.change t index) e (found (table_at table (tables_of Es)) f (subst (λ (k : ℕ). PartsOf Es k j.change) n (well r)) index w)
    go false r = whole_folds t x w (version_of Es table w.part) (base_of Es table) laid

-- a table more
made_parts : (Es : List Event) (y : Table) (j : JobInfo) → y.number ≡ last_table_of Es + 1 → j.table ≤ last_table_of Es → RunsWell Es j → is_running j.state ≡ true → IfSome (table_at j.table (tables_of Es ++ y ∷ [])) (λ (t : Table). PartsFold j.change t (base_of Es j.table) (fixed_of Es j.table) (source_of Es j.table) (since_of Es j.table))
made_parts Es y j n u h r = let e : nat_eq y.number j.table ≡ false = grind (arith, nat_tests) in subst (λ (o : Option Table). IfSome o (λ (t : Table). PartsFold j.change t (base_of Es j.table) (fixed_of Es j.table) (source_of Es j.table) (since_of Es j.table))) (sym (made_apart j.table y (tables_of Es) e)) (h r)

run_apart : (js : List JobInfo) (table : ℕ) → has_live table js ≡ false → Each (λ (j : JobInfo). is_running j.state ≡ true → nat_eq j.table table ≡ false) js
run_apart js table h = each_imp (λ (j : JobInfo). is_live_of table j ≡ false) (λ (j : JobInfo). is_running j.state ≡ true → nat_eq j.table table ≡ false) (λ j k r. go j (nat_eq j.table table) refl k (running_lives j.state r)) js (any_none (is_live_of table) js h)
  where
    go : (j : JobInfo) (b : Bool) → nat_eq j.table table ≡ b → (nat_eq j.table table && is_live j.state) ≡ false → is_live j.state ≡ true → b ≡ false
    go j true e k l = absurd (let z : (nat_eq j.table table && is_live j.state) ≡ true = rw (e, l) refl in cc (z, k))
    go j false e k l = refl

finished_parts : (Es : List Event) (f at : ℕ) (w j : JobInfo) → job_at f (jobs_of Es) ≡ Some w → ((j.job ≡ f → ⊥) → is_live j.state ≡ true → j.table ≡ w.table → ⊥) → RunsWell Es j → is_running (changed_job f (finished_job at) j).state ≡ true → IfSome (table_at (changed_job f (finished_job at) j).table (map (finished_in (job_at f (jobs_of Es))) (tables_of Es))) (λ (t : Table). PartsFold (changed_job f (finished_job at) j).change t (base_of Es (changed_job f (finished_job at) j).table) (fixed_of Es (changed_job f (finished_job at) j).table) (source_of Es (changed_job f (finished_job at) j).table) (since_of Es (changed_job f (finished_job at) j).table))
finished_parts Es f at w j found apart well = go (nat_eq j.job f) refl
  where
    go : (b : Bool) → nat_eq j.job f ≡ b → is_running (cond b (finished_job at j) j).state ≡ true → IfSome (table_at (cond b (finished_job at j) j).table (map (finished_in (job_at f (jobs_of Es))) (tables_of Es))) (λ (t : Table). PartsFold (cond b (finished_job at j) j).change t (base_of Es (cond b (finished_job at j) j).table) (fixed_of Es (cond b (finished_job at j) j).table) (source_of Es (cond b (finished_job at j) j).table) (since_of Es (cond b (finished_job at j) j).table))
    go true e run = absurd (cc)
    go false e run =
        let not_same : j.job ≡ f → ⊥ = λ m. (let z : nat_eq j.job f ≡ true = grind (arith, nat_tests) in cc (z, e)) in
        let other : nat_eq j.table w.table ≡ false = neq j.table w.table (λ q. apart not_same (running_lives j.state run) q) in
        finished_apart (job_at f (jobs_of Es)) (tables_of Es) j.table (λ (t : Table). PartsFold j.change t (base_of Es j.table) (fixed_of Es j.table) (source_of Es j.table) (since_of Es j.table)) (some_job (job_at f (jobs_of Es)) found) (well run)
      where
        some_job : (o : Option JobInfo) → o ≡ Some w → IfSome o (λ (x : JobInfo). nat_eq j.table x.table ≡ false)
        some_job None q = tt
        some_job (Some x) q = let i : x ≡ w = cc in subst (λ (y : JobInfo). nat_eq j.table y.table ≡ false) (sym i) (neq j.table w.table (λ k. apart (λ m. (let z : nat_eq j.job f ≡ true = grind (arith, nat_tests) in cc (z, e))) (running_lives j.state run) k))

runs_step : (e : Event) (Es : List Event) → Good Es → Happens Es e → Spread Es → Runs Es → Runs (e ∷ Es)
runs_step (event.DbMade d) Es g h s p = record { running = p.running; lists = p.lists; chained = p.chained }
runs_step (event.TableMade m) Es g h s p =
    let y = new_table m (last_table_of Es + 1) in
    record {
      running = each_imp (λ (j : JobInfo). JobHolds (tables_of Es) (last_table_of Es) j × RunsWell Es j) (RunsWell (event.TableMade m ∷ Es)) (λ j k r. made_parts Es y j refl (k.0).used k.1 r) (jobs_of Es) (each_both (JobHolds (tables_of Es) (last_table_of Es)) (RunsWell Es) (jobs_of Es) s.jobs p.running);
      lists = λ table. made_holds table y (tables_of Es) (base_of Es table) (lists_of Es table) (p.lists table);
      chained = λ table w. made_chain table y (tables_of Es) w (lists_of Es table 0 w) (version_of Es table w.part) (p.chained table w);
    }
runs_step (event.RangeDrawn r) Es g h s p = record { running = p.running; lists = p.lists; chained = p.chained }
runs_step (event.TxnBegun b) Es g h s p = record { running = p.running; lists = p.lists; chained = p.chained }
runs_step (event.LoadSubmitted x) Es g h s p = record { running = runs_mapped Es (spoiled_job x.cancelled x.txn x.at) (jobs_of Es) (spoiled_run x.cancelled x.txn x.at) p.running; lists = p.lists; chained = p.chained }
runs_step (event.TxnAborted a) Es g h s p = record { running = p.running; lists = p.lists; chained = p.chained }
runs_step (event.LoadPublished x) Es g h s p =
    let u : Txn = h.0 in
    let found = subst (λ (n : ℕ). txn_at n (txns_of Es) ≡ Some u) h.2 (due_found Es u g.tidy h.1) in
    let held = each_found (IsHeld (tables_of Es)) (λ t. nat_eq t.id x.txn) (txns_of Es) u s.held found in
    record {
      running = each_imp (λ (j : JobInfo). RunsWell Es j × (JobHolds (tables_of Es) (last_table_of Es) j × (is_running j.state ≡ true → running_job j.table (jobs_of Es) ≡ Some j))) (RunsWell (event.LoadPublished x ∷ Es)) (λ j k r. published_parts Es j x.txn u g s found k.1.0 r (k.1.1 r) k.0) (jobs_of Es)
          (each_both (RunsWell Es) (λ (j : JobInfo). JobHolds (tables_of Es) (last_table_of Es) j × (is_running j.state ≡ true → running_job j.table (jobs_of Es) ≡ Some j)) (jobs_of Es) p.running (each_both (JobHolds (tables_of Es) (last_table_of Es)) (λ (j : JobInfo). is_running j.state ≡ true → running_job j.table (jobs_of Es) ≡ Some j) (jobs_of Es) s.jobs (found_running (jobs_of Es) g.alters.alone)));
      lists = λ table. published table (tables_of Es) (base_of Es table) (λ part. version_of Es table part + 1) (lists_of Es table) (txns_of Es) x.txn u found (sturdy Es g s) held (p.lists table);
      chained = λ table w. load_chain (table_at table (tables_of Es)) w (version_of Es table w.part) (lists_of Es table 0 w) (brought table (txn_at x.txn (txns_of Es))) (p.chained table w);
    }
runs_step (event.TxnEnded x) Es g h s p = record { running = p.running; lists = p.lists; chained = p.chained }
runs_step (event.PartAdded a) Es g h s p = record {
  running = each_imp (λ (j : JobInfo). RunsWell Es j × (is_running j.state ≡ true → nat_eq j.table a.table ≡ false)) (RunsWell (event.PartAdded a ∷ Es)) (λ j k r. part_apart a (tables_of Es) j.table (λ (t : Table). PartsFold j.change t (base_of Es j.table) (fixed_of Es j.table) (source_of Es j.table) (since_of Es j.table)) (k.1 r) (k.0 r)) (jobs_of Es) (each_both (RunsWell Es) (λ (j : JobInfo). is_running j.state ≡ true → nat_eq j.table a.table ≡ false) (jobs_of Es) p.running (run_apart (jobs_of Es) a.table h.0));
  lists = λ table. subst (λ (o : Option Table). TableHolds o (base_of Es table) (lists_of Es table)) (sym (found_map (part_added a) (part_number a) table (tables_of Es))) (part_table a (table_at table (tables_of Es)) (base_of Es table) (lists_of Es table) (p.lists table));
  chained = λ table w. subst (λ (o : Option Table). ChainsBy o w (lists_of Es table 0 w) (version_of Es table w.part)) (sym (found_map (part_added a) (part_number a) table (tables_of Es))) (part_chain a (table_at table (tables_of Es)) w (lists_of Es table 0 w) (version_of Es table w.part) (p.chained table w));
}
runs_step (event.TableDropped d) Es g h s p = record {
  running = each_map (RunsWell Es) (RunsWell (event.TableDropped d ∷ Es)) (dropped_job d.table d.at) (λ j k r. dropped_parts Es d.table d.at j k r) (jobs_of Es) p.running;
  lists = λ table. dropped_table table d.table (tables_of Es) (base_of Es table) (lists_of Es table) (p.lists table);
  chained = λ table w. dropped_chain table d.table (tables_of Es) w (lists_of Es table 0 w) (version_of Es table w.part) (p.chained table w);
}
runs_step (event.LoadCommitted c) Es g h s p = record { running = runs_mapped Es (spoiled_job c.cancelled c.txn c.at) (jobs_of Es) (spoiled_run c.cancelled c.txn c.at) p.running; lists = p.lists; chained = p.chained }
runs_step (event.Swept x) Es g h s p = record { running = each_filter (RunsWell Es) (λ (j : JobInfo). not (is_job_over x.at j)) (jobs_of Es) p.running; lists = p.lists; chained = p.chained }
runs_step (event.SweptUntold x) Es g h s p = record { running = p.running; lists = p.lists; chained = p.chained }
runs_step (event.Compacted c) Es g h s p = record {
  running = p.running;
  lists = λ table. compact_holds (table_at table (tables_of Es)) c.lists (is_tablet c table) (base_of Es table) (lists_of Es table) (p.lists table);
  chained = λ table w. compact_chain (table_at table (tables_of Es)) w c.lists (is_tablet c table 0 w) (lists_of Es table 0 w) (version_of Es table w.part) (p.chained table w);
}
runs_step (event.JobAdded x) Es g h s p = record { running = each_snoc (RunsWell Es) (jobs_of Es) (added_job x) p.running (λ r. absurd (cc)); lists = p.lists; chained = p.chained }
runs_step (event.JobWaiting x) Es g h s p = record { running = runs_mapped Es (changed_job x.job (waiting_job x.watershed)) (jobs_of Es) (λ j. kept_run x.job (waiting_job x.watershed) j (record { table = refl; change = refl; runs = λ r. absurd (cc) })) p.running; lists = p.lists; chained = p.chained }
runs_step (event.WatershedDrawn x) Es g h s p = record { running = p.running; lists = p.lists; chained = p.chained }
runs_step (event.JobRan x) Es g h s p =
    let w : JobInfo = h.0 in
    let self = each_job (λ (j : JobInfo). j ≡ w) x.job (jobs_of Es) w g.alters.numbers h.1 refl in
    let apart = other_tables x.job (jobs_of Es) w g.alters.alone h.1 (ap is_live h.2.waits) in
    record {
      running = each_map (λ (j : JobInfo). RunsWell Es j × ((j.job ≡ x.job → j ≡ w) × ((j.job ≡ x.job → ⊥) → is_live j.state ≡ true → j.table ≡ w.table → ⊥))) (RunsWell (event.JobRan x ∷ Es)) (changed_job x.job ran_job) (λ j k r. ran_parts Es x.job w j g h.1 k.1.0 k.1.1 k.0 r) (jobs_of Es)
          (each_both (RunsWell Es) (λ (j : JobInfo). (j.job ≡ x.job → j ≡ w) × ((j.job ≡ x.job → ⊥) → is_live j.state ≡ true → j.table ≡ w.table → ⊥)) (jobs_of Es) p.running (each_both (λ (j : JobInfo). j.job ≡ x.job → j ≡ w) (λ (j : JobInfo). (j.job ≡ x.job → ⊥) → is_live j.state ≡ true → j.table ≡ w.table → ⊥) (jobs_of Es) self apart));
      lists = p.lists;
      chained = p.chained;
    }
runs_step (event.TaskTaken x) Es g h s p = record { running = p.running; lists = p.lists; chained = p.chained }
runs_step (event.TaskGiven x) Es g h s p = record { running = p.running; lists = p.lists; chained = p.chained }
runs_step (event.JobFinished x) Es g h s p =
    let w : JobInfo = h.0 in
    let o = job_at x.job (jobs_of Es) in
    let apart = other_tables x.job (jobs_of Es) w g.alters.alone h.1 (live_ends Es w h.2) in
    record {
      running = each_map (λ (j : JobInfo). RunsWell Es j × ((j.job ≡ x.job → ⊥) → is_live j.state ≡ true → j.table ≡ w.table → ⊥)) (RunsWell (event.JobFinished x ∷ Es)) (changed_job x.job (finished_job x.at)) (λ j k r. finished_parts Es x.job x.at w j h.1 k.1 k.0 r) (jobs_of Es) (each_both (RunsWell Es) (λ (j : JobInfo). (j.job ≡ x.job → ⊥) → is_live j.state ≡ true → j.table ≡ w.table → ⊥) (jobs_of Es) p.running apart);
      lists = λ table. finished_holds table (tables_of Es) o (base_of Es table) (λ k t i index v. ended_lists k t i v (version_of Es table v.part) (base_of Es table) (fixed_of Es table v.part) (source_of Es table) (since_of Es table index v)) (lists_of Es table)
          (λ t k f q n i index v z. ended_folds Es table t k i index v g f n (each_found (RunsWell Es) (λ (y : JobInfo). nat_eq y.job x.job) (jobs_of Es) k p.running q) z) (p.lists table);
      chained = λ table v. finished_chain table (tables_of Es) o v (λ k t i. ended_lists k t i v (version_of Es table v.part) (base_of Es table) (fixed_of Es table v.part) (source_of Es table) (since_of Es table 0 v)) (lists_of Es table 0 v) (version_of Es table v.part) (p.chained table v);
    }
runs_step (event.JobCancelled x) Es g h s p = record { running = runs_mapped Es (changed_job x.job (cancelled_job x.at x.cause)) (jobs_of Es) (λ j. kept_run x.job (cancelled_job x.at x.cause) j (record { table = refl; change = refl; runs = λ r. absurd (cc) })) p.running; lists = p.lists; chained = p.chained }
runs_step event.Opened Es g h s p = record { running = each_map (RunsWell Es) (RunsWell (event.Opened ∷ Es)) reopened_job (λ j k r. absurd (let z = never_runs j.state in cc (z, r))) (jobs_of Es) p.running; lists = s.fresh; chained = s.fresh_chained }

pub record Whole (Es : List Event) : Type 0 where
  pub spread : Spread Es
  pub runs : Runs Es

pub always_whole : (H : List Entry) → Legal H → Whole (happened H)
always_whole H l = always_holds Whole (record { spread = spread_first; runs = record { running = tt; lists = λ table. (refl, λ index w. refl); chained = λ table w. (refl, refl) } }) (λ e Es g h p. record { spread = spread_step e Es g h p.spread; runs = runs_step e Es g h p.spread p.runs }) H l

-- the laws
folds_to : (Es : List Event) (o : Option Table) (index : ℕ) (base : List (List Cell)) (lists : ℕ → Place → List StoredList) → IfSome o IsSturdy → TableHolds o base lists → IndexFoldsTo o index base (index_lists o (lists index))
folds_to Es None index base lists v h = (h.0, refl)
folds_to Es (Some t) index base lists v h = all_fold t index base lists v.0 v.1 h

pub lists_fold : (H : List Entry) → Legal H → (table index : ℕ) → IndexFoldsTo (table_at table (tables_of (happened H))) index (base_of (happened H) table) (stored_of (happened H) table index)
lists_fold H l table index =
    let p = always_whole H l in
    folds_to (happened H) (table_at table (tables_of (happened H))) index (base_of (happened H) table) (lists_of (happened H) table) (each_in IsSturdy table (tables_of (happened H)) (sturdy (happened H) (kept H l).good p.spread)) (p.runs.lists table)

tablet_to : (o : Option Table) (base : List (List Cell)) (lists : ℕ → Place → List StoredList) (index : ℕ) (w : Place) → TableHolds o base lists → TabletFoldsTo o index w base (lists index w)
tablet_to None base lists index w h = h.1 index w
tablet_to (Some t) base lists index w h = h.tablets index w

pub tablets_fold_to : (H : List Entry) → Legal H → (table index : ℕ) (w : Place) → TabletFoldsTo (table_at table (tables_of (happened H))) index w (base_of (happened H) table) (lists_of (happened H) table index w)
tablets_fold_to H l table index w = tablet_to (table_at table (tables_of (happened H))) (base_of (happened H) table) (lists_of (happened H) table) index w ((always_whole H l).runs.lists table)

base_to : (o : Option Table) (base : List (List Cell)) (lists : ℕ → Place → List StoredList) → TableHolds o base lists → IsBase o base
base_to None base lists h = h.0
base_to (Some t) base lists h = (h.base_is, h.inside)

pub bases_are : (H : List Entry) → Legal H → (table : ℕ) → IsBase (table_at table (tables_of (happened H))) (base_of (happened H) table)
bases_are H l table = base_to (table_at table (tables_of (happened H))) (base_of (happened H) table) (lists_of (happened H) table) ((always_whole H l).runs.lists table)
