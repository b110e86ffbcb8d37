-- What jobs do to the lists of a table: they change, and end well.
use Rattle.std.proofs.Common.{◌≡◌, ℕ, zero, suc, ◌+◌, ◌≤◌, ◌<◌, Bool, true, false, cond, not, ◌&&◌, List, [], ◌∷◌, ◌++◌, Option, Some, None, IfSome, map, filter, refl, sym, ◌∙◌, ap, arith, subst, append-nil}
use Rattle.std.proofs.lemmas.Bool.Decides.{nat_tests}
use Rattle.std.proofs.lemmas.List.{map-append}
use Rattle.std.specs.Prelude.{nat_eq, nat_lt, nat_le, length}
use Rattle.std.specs.Option.{option_map}
use Rattle.std.specs.List.{AllByRecursion}
use Rattle.dl_values.specs.declared.cell.Cell.{Cell}
use Rattle.fold_laws.proofs.Unique.{filter_none}
use Rattle.schema_models.specs.ShapeView.{ShapeView}
use Rattle.schema_models.specs.Folds.{fold_of}
use Rattle.schema_models.specs.Faults.{refuse_if}
use Rattle.schema_models.specs.Names.{is_name}
use Rattle.schema_models.specs.ShapeRules.{IsShape, shape_fault}
use Rattle.schema_models.specs.declared.column_def.ColumnDef.{ColumnDef}
use Rattle.row_map.specs.declared.admit_error.AdmitError.TheVariants as admit_errors
use Rattle.row_map.specs.Maps.{Admits, lacking_key, rollup_map, rollup_shape, unknown_column}
use Rattle.front_defs.specs.declared.alter_error.AlterError.TheVariants as alter_error
use Rattle.alter_core.specs.declared.job.Cause.{Cause}
use Rattle.alter_core.specs.declared.job.Cause.TheVariants as cause
use Rattle.alter_core.specs.declared.job.Change.{Change}
use Rattle.alter_core.specs.declared.job.Change.TheVariants as change
use Rattle.alter_core.specs.declared.job.JobInfo.{JobInfo}
use Rattle.alter_core.specs.declared.job.JobState.TheVariants as job_state
use Rattle.front_defs.specs.declared.catalogue.Rollup.{Rollup}
use Rattle.front_defs.specs.declared.reply.Reply.TheVariants as reply
use Rattle.front_defs.specs.Jobs.{cancelled_job, changed_job, dropped_job, finished_job, is_live, is_live_of, ran_job, reopened_job, spoiled_job, waiting_job}
use Rattle.front_defs.specs.Indexes.{Index, base_index, conv_by, first_new, index_at, indexes_of, mapped_index, new_index, nth, rollup_maps}
use Rattle.front_defs.specs.Alters.{change_refusal, has_index_name, most_rollups, roll_fault}
use Rattle.partitions.specs.LayoutRules.{IsLayout}
use Rattle.partitions.specs.Places.{Place, is_at, lies_at, place_for, rows_at}
use Rattle.partitions.proofs.Places.{place_within}
use Rattle.front_defs.specs.declared.event.PartAdded.{PartAdded}
use Rattle.front_defs.specs.declared.catalogue.Table.{Table}
use Rattle.front_defs.specs.declared.txn.Txn.{Txn}
use Rattle.front_defs.specs.Catalogue.{finished_in, table_at, part_added, with_change}
use Rattle.front_defs.specs.Stored.{AreRowsOf, StoredList, indexed, is_tablet_of, switched, switched_to, whole_list, rows_in}
use Rattle.front_defs.specs.Journal.{There}
use Rattle.front_laws.specs.Tidy.{Each}
use Rattle.front_laws.specs.Laws.{Chains, ChainsBy, TabletFolds, joined}
use Rattle.front_laws.proofs.Lists.{each_imp, each_both, each_map, each_snoc, eq_is}
use Rattle.front_laws.proofs.Tidying.{finished_any, finished_number, there_mapped}
use Rattle.front_laws.proofs.Keeping.{found_map, found_without, made_apart, part_number, part_there, table_number}
use Rattle.front_laws.proofs.Commuting.{live_again}
use Rattle.front_laws.proofs.Submitting.{mapped_none, none_first}
use Rattle.front_laws.proofs.Folding.{again, fold_none, Holds, Admitted, indexed_none}
use Rattle.front_laws.proofs.Loading.{TableHolds, IsHeldBy, IsHeld}

-- ---- jobs

abbrev pub ChangeAdmits : ShapeView → Change → Type 0
ChangeAdmits s (change.Rollup name columns) = Admits s columns

-- the table of a live job is there, and what it changes is admitted
pub record JobHolds (tables : List Table) (last : ℕ) (j : JobInfo) : Type 0 where
  pub used : j.table ≤ last
  pub admits : is_live j.state ≡ true → There (table_at j.table tables) (λ (t : Table). ChangeAdmits t.shape j.change)

-- a change of a job that keeps its table and its change, and makes none live
pub record JobKept (j k : JobInfo) : Type 0 where
  pub table : k.table ≡ j.table
  pub change : k.change ≡ j.change
  pub live : is_live k.state ≡ true → is_live j.state ≡ true

pub same_job : (j : JobInfo) → JobKept j j
same_job j = record { table = refl; change = refl; live = λ h. h }

pub job_kept_holds : (tables : List Table) (last : ℕ) (j k : JobInfo) → JobKept j k → JobHolds tables last j → JobHolds tables last k
job_kept_holds tables last j k q h = record {
  used = let a = q.table in let b = h.used in omega (arith, a, b);
  admits = λ l. subst (λ (n : ℕ). There (table_at n tables) (λ (t : Table). ChangeAdmits t.shape k.change)) (sym q.table) (subst (λ (c : Change). There (table_at j.table tables) (λ (t : Table). ChangeAdmits t.shape c)) (sym q.change) (h.admits (q.live l)));
}

pub jobs_mapped : (tables : List Table) (last : ℕ) (f : JobInfo → JobInfo) (js : List JobInfo) → Each (λ (j : JobInfo). JobKept j (f j)) js → Each (JobHolds tables last) js → Each (JobHolds tables last) (map f js)
jobs_mapped tables last f js k e = each_map (λ (j : JobInfo). JobKept j (f j) × JobHolds tables last j) (JobHolds tables last) f (λ j h. job_kept_holds tables last j (f j) h.0 h.1) js (each_both (λ (j : JobInfo). JobKept j (f j)) (JobHolds tables last) js k e)

pub kept_if : (number : ℕ) (f : JobInfo → JobInfo) (j : JobInfo) → (j.job ≡ number → JobKept j (f j)) → JobKept j (changed_job number f j)
kept_if number f j k = go (nat_eq j.job number) refl
  where
    go : (b : Bool) → nat_eq j.job number ≡ b → JobKept j (cond b (f j) j)
    go true e = k (let i : j.job ≡ number = grind (arith, nat_tests) in i)
    go false e = same_job j

pub cancelled_kept : (number at : ℕ) (why : Cause) (j : JobInfo) → JobKept j (changed_job number (cancelled_job at why) j)
cancelled_kept number at why j = kept_if number (cancelled_job at why) j (λ _. record { table = refl; change = refl; live = λ h. absurd (cc) })

pub finished_kept : (number at : ℕ) (j : JobInfo) → JobKept j (changed_job number (finished_job at) j)
finished_kept number at j = kept_if number (finished_job at) j (λ _. record { table = refl; change = refl; live = λ h. absurd (cc) })

pub spoiled_kept : (o : Option ℕ) (txn at : ℕ) (j : JobInfo) → JobKept j (spoiled_job o txn at j)
spoiled_kept None txn at j = same_job j
spoiled_kept (Some n) txn at j = cancelled_kept n at (cause.Load txn) j

pub dropped_kept : (table at : ℕ) (j : JobInfo) → JobKept j (dropped_job table at j)
dropped_kept table at j = go (is_live_of table j)
  where
    go : (b : Bool) → JobKept j (cond b (cancelled_job at cause.Drop j) j)
    go true = record { table = refl; change = refl; live = λ h. absurd (cc) }
    go false = same_job j

pub reopened_kept : (j : JobInfo) → JobKept j (reopened_job j)
reopened_kept j = record { table = refl; change = refl; live = λ h. sym (live_again j.state) ∙ h }

pub waiting_kept : (number watershed : ℕ) (js : List JobInfo) → Each (λ (j : JobInfo). j.job ≡ number → j.state ≡ job_state.Pending) js → Each (λ (j : JobInfo). JobKept j (changed_job number (waiting_job watershed) j)) js
waiting_kept number watershed js e = each_imp (λ (j : JobInfo). j.job ≡ number → j.state ≡ job_state.Pending) (λ (j : JobInfo). JobKept j (changed_job number (waiting_job watershed) j)) (λ j k. kept_if number (waiting_job watershed) j (λ i. record { table = refl; change = refl; live = λ h. ap is_live (k i) })) js e

pub ran_kept : (number : ℕ) (js : List JobInfo) → Each (λ (j : JobInfo). j.job ≡ number → j.state ≡ job_state.WaitingTxn) js → Each (λ (j : JobInfo). JobKept j (changed_job number ran_job j)) js
ran_kept number js e = each_imp (λ (j : JobInfo). j.job ≡ number → j.state ≡ job_state.WaitingTxn) (λ (j : JobInfo). JobKept j (changed_job number ran_job j)) (λ j k. kept_if number ran_job j (λ i. record { table = refl; change = refl; live = λ h. ap is_live (k i) })) js e

-- tables that change
pub there_imp : (o p : Option Table) (P Q : Table → Type 0) → (There o P → There p Q) → There o P → There p Q
there_imp o p P Q k h = k h

pub jobs_tables : (tables us : List Table) (last more : ℕ) (js : List JobInfo) → last ≤ more → Each (λ (j : JobInfo). j.table ≤ last → is_live j.state ≡ true → There (table_at j.table tables) (λ (t : Table). ChangeAdmits t.shape j.change) → There (table_at j.table us) (λ (t : Table). ChangeAdmits t.shape j.change)) js → Each (JobHolds tables last) js → Each (JobHolds us more) js
jobs_tables tables us last more js le k e = each_imp (λ (j : JobInfo). (j.table ≤ last → is_live j.state ≡ true → There (table_at j.table tables) (λ (t : Table). ChangeAdmits t.shape j.change) → There (table_at j.table us) (λ (t : Table). ChangeAdmits t.shape j.change)) × JobHolds tables last j) (JobHolds us more) (λ j h. record { used = let a = (h.1).used in omega (arith, a, le); admits = λ l. h.0 (h.1).used l ((h.1).admits l) }) js (each_both (λ (j : JobInfo). j.table ≤ last → is_live j.state ≡ true → There (table_at j.table tables) (λ (t : Table). ChangeAdmits t.shape j.change) → There (table_at j.table us) (λ (t : Table). ChangeAdmits t.shape j.change)) (JobHolds tables last) js k e)

pub apart_made : (last : ℕ) (y : Table) (tables : List Table) (n : ℕ) (P : Table → Type 0) → y.number ≡ last + 1 → n ≤ last → There (table_at n tables) P → There (table_at n (tables ++ y ∷ [])) P
apart_made last y tables n P i u h = let e : nat_eq y.number n ≡ false = grind (arith, nat_tests) in subst (λ (o : Option Table). There o P) (sym (made_apart n y tables e)) h

pub part_kept : (a : PartAdded) (tables : List Table) (n : ℕ) (c : Change) → There (table_at n tables) (λ (t : Table). ChangeAdmits t.shape c) → There (table_at n (map (part_added a) tables)) (λ (t : Table). ChangeAdmits t.shape c)
part_kept a tables n c h = subst (λ (o : Option Table). There o (λ (t : Table). ChangeAdmits t.shape c)) (sym (found_map (part_added a) (part_number a) n tables)) (part_there a (table_at n tables) (λ (t : Table). ChangeAdmits t.shape c) (λ b k. k) h)

pub finished_there : (o : Option JobInfo) (tables : List Table) (n : ℕ) (c : Change) → There (table_at n tables) (λ (t : Table). ChangeAdmits t.shape c) → There (table_at n (map (finished_in o) tables)) (λ (t : Table). ChangeAdmits t.shape c)
finished_there o tables n c h =
    let P : Table → Type 0 = λ t. ChangeAdmits t.shape c in
    subst (λ (x : Option Table). There x P) (sym (found_map (finished_in o) (finished_number o) n tables)) (there_mapped (finished_in o) P P (λ b. finished_any P (λ rs y q. q) o b) (table_at n tables) h)

-- a job that is dropped is not live any more
pub dropped_jobs : (table at last : ℕ) (tables : List Table) (j : JobInfo) → JobHolds tables last j → JobHolds (filter (λ b. not (nat_eq b.number table)) tables) last (dropped_job table at j)
dropped_jobs table at last tables j h = go (is_live_of table j) refl
  where
    P : Table → Type 0
    P t = ChangeAdmits t.shape j.change

    other : (c : Bool) → nat_eq table j.table ≡ c → (nat_eq j.table table && is_live j.state) ≡ false → is_live j.state ≡ true → There (table_at j.table tables) P → There (cond c None (table_at j.table tables)) P
    other true e f l k = absurd (let i = eq_is table j.table e in let z : nat_eq j.table table ≡ true = grind (arith, nat_tests) in let y : (nat_eq j.table table && is_live j.state) ≡ true = rw (z, l) refl in cc (y, f))
    other false e f l k = k

    go : (b : Bool) → is_live_of table j ≡ b → JobHolds (filter (λ x. not (nat_eq x.number table)) tables) last (cond b (cancelled_job at cause.Drop j) j)
    go true e = record { used = h.used; admits = λ l. absurd (cc) }
    go false e = record { used = h.used; admits = λ l. subst (λ (o : Option Table). There o P) (sym (found_without j.table table tables)) (other (nat_eq table j.table) refl e l (h.admits l)) }

pub admitted_change : (c : Change) (t : Table) → IsShape t.shape → change_refusal c t ≡ None → ChangeAdmits t.shape c
admitted_change (change.Rollup name columns) t v h =
    let a = none_first (refuse_if (nat_le most_rollups (length t.rollups)) reply.TooManyRollups) _ h in
    let b = none_first (refuse_if (not (is_name name)) reply.BadName) _ a.1 in
    let c = none_first (refuse_if (has_index_name name t) reply.DoubleName) _ b.1 in
    let d = none_first (option_map reply.BadAlter (roll_fault t.shape columns)) [] c.1 in
    let e = mapped_none reply.BadAlter (roll_fault t.shape columns) d.0 in
    let f = none_first (option_map alter_error.NoColumn (unknown_column t.shape columns)) _ e in
    let g = none_first (option_map alter_error.Shape (shape_fault t.shape.model (rollup_shape t.shape columns).columns)) _ f.1 in
    let i = none_first (option_map (λ (x : ColumnDef). alter_error.Map (admit_errors.NeedsKey x.name)) (lacking_key t.shape columns)) [] g.1 in
    record { base = v; known = mapped_none alter_error.NoColumn (unknown_column t.shape columns) f.0; shape = mapped_none alter_error.Shape (shape_fault t.shape.model (rollup_shape t.shape columns).columns) g.0; keyed = mapped_none (λ (x : ColumnDef). alter_error.Map (admit_errors.NeedsKey x.name)) (lacking_key t.shape columns) i.0 }

-- ---- a job ends well

pub eq_suc : (a b : ℕ) → nat_eq (suc a) (suc b) ≡ nat_eq a b
eq_suc a b = go (nat_eq a b) refl
  where
    go : (c : Bool) → nat_eq a b ≡ c → nat_eq (suc a) (suc b) ≡ c
    go true e = let z : nat_eq (suc a) (suc b) ≡ true = grind (arith, nat_tests) in z
    go false e = let z : nat_eq (suc a) (suc b) ≡ false = grind (arith, nat_tests) in z

pub same_tablet : (o : Option Index) (t : Table) (rs : List Rollup) (w : Place) (base : List (List Cell)) (l : List StoredList) → TabletFolds o t w base l → TabletFolds o (record t { rollups = rs }) w base l
same_tablet None t rs w base l h = h
same_tablet (Some x) t rs w base l h = h

pub nth_snoc : {X : Type 0} (n : ℕ) (xs : List X) (y : X) → nth n (xs ++ y ∷ []) ≡ cond (nat_eq n (length xs)) (Some y) (nth n xs)
nth_snoc zero [] y = refl
nth_snoc (suc n) [] y = let z : nat_eq (suc n) 0 ≡ false = grind (arith, nat_tests) in rw z refl
nth_snoc zero (x ∷ xs) y = let z : nat_eq 0 (length (x ∷ xs)) ≡ false = grind (arith, nat_tests) in rw z refl
nth_snoc (suc n) (x ∷ xs) y = nth_snoc n xs y ∙ ap (λ (b : Bool). cond b (Some y) (nth n xs)) (sym (eq_suc n (length xs)))

pub more_indexes : (t : Table) (r : Rollup) → indexes_of (record t { rollups = t.rollups ++ r ∷ [] }) ≡ indexes_of t ++ mapped_index (rollup_map t.shape r.columns) ∷ []
more_indexes t r = ap (λ (l : List Index). base_index t ∷ l) (ap (map mapped_index) (map-append (λ (x : Rollup). rollup_map t.shape x.columns) t.rollups (r ∷ [])) ∙ map-append mapped_index (rollup_maps t) (rollup_map t.shape r.columns ∷ []))

pub rollup_lists : (t : Table) (r : Rollup) (base : List (List Cell)) (new : Index → ℕ → Place → List StoredList) (lists : ℕ → Place → List StoredList) → ((x : Index) (index : ℕ) (w : Place) → nat_eq index (first_new t) ≡ true → x ≡ mapped_index (rollup_map t.shape r.columns) → TabletFolds (Some x) t w base (new x index w)) → ((index : ℕ) (w : Place) → TabletFolds (index_at index t) t w base (lists index w)) → (index : ℕ) (w : Place)
    → TabletFolds (index_at index (record t { rollups = t.rollups ++ r ∷ [] })) t w base (switched_to (cond (nat_eq index (first_new t)) (Some (mapped_index (rollup_map t.shape r.columns))) None) (λ x. new x index w) (lists index w))
rollup_lists t r base new lists k h index w =
    subst (λ (l : List Index). TabletFolds (nth index l) t w base (switched_to (cond (nat_eq index (first_new t)) (Some (mapped_index (rollup_map t.shape r.columns))) None) (λ x. new x index w) (lists index w))) (sym (more_indexes t r))
    (subst (λ (o : Option Index). TabletFolds o t w base (switched_to (cond (nat_eq index (first_new t)) (Some (mapped_index (rollup_map t.shape r.columns))) None) (λ x. new x index w) (lists index w))) (sym (nth_snoc index (indexes_of t) (mapped_index (rollup_map t.shape r.columns)))) (go (nat_eq index (first_new t)) refl))
  where
    go : (b : Bool) → nat_eq index (first_new t) ≡ b → TabletFolds (cond b (Some (mapped_index (rollup_map t.shape r.columns))) (nth index (indexes_of t))) t w base (switched_to (cond b (Some (mapped_index (rollup_map t.shape r.columns))) None) (λ x. new x index w) (lists index w))
    go true e = k (mapped_index (rollup_map t.shape r.columns)) index w e refl
    go false e = h index w

pub change_holds : (c : Change) (t : Table) (base : List (List Cell)) (new : Index → ℕ → Place → List StoredList) (lists : ℕ → Place → List StoredList) → ((x : Index) (index : ℕ) (w : Place) → new_index c t index ≡ Some x → TabletFolds (Some x) t w base (new x index w)) → Holds t base lists → Holds (with_change c t) base (λ index w. switched_to (new_index c t index) (λ x. new x index w) (lists index w))
change_holds (change.Rollup name columns) t base new lists k h = record {
  base_is = h.base_is;
  inside = h.inside;
  converts = h.converts;
  tablets = λ index w. same_tablet (index_at index (record t { rollups = t.rollups ++ record { name = name; columns = columns } ∷ [] })) t (t.rollups ++ record { name = name; columns = columns } ∷ []) w base (switched_to (new_index (change.Rollup name columns) t index) (λ x. new x index w) (lists index w)) (rollup_lists t (record { name = name; columns = columns }) base new lists (λ x i v e f. k x i v (ap (λ (b : Bool). cond b (Some (mapped_index (rollup_map t.shape columns))) None) e ∙ ap Some (sym f))) h.tablets index w);
}

-- one list of all rows of a tablet
pub no_tablet : (t : Table) (w : Place) (rows : List (List Cell)) → IsLayout t.shape t.layout → is_tablet_of t w ≡ false → rows_at t.layout w rows ≡ []
no_tablet t w rows v h = filter_none (lies_at t.layout w) rows (all rows)
  where
    apart : (r : List Cell) (o : Option Place) → place_for t.layout r ≡ o → is_at w o ≡ false
    apart r None e = refl
    apart r (Some p) e =
        let k = place_within t.shape t.layout v r p e in
        go (nat_eq p.part w.part) (nat_eq p.bucket w.bucket) refl refl k.0 k.1
      where
        go : (a b : Bool) → nat_eq p.part w.part ≡ a → nat_eq p.bucket w.bucket ≡ b → p.part < length t.layout.parts → p.bucket < t.layout.buckets → (a && b) ≡ false
        go true true i j m n = absurd (let x : nat_lt w.part (length t.layout.parts) ≡ true = (let q : p.part ≡ w.part = eq_is p.part w.part i in grind (arith, nat_tests)) in let y : nat_lt w.bucket t.layout.buckets ≡ true = (let q : p.bucket ≡ w.bucket = eq_is p.bucket w.bucket j in grind (arith, nat_tests)) in let z : is_tablet_of t w ≡ true = rw (x, y) refl in cc (z, h))
        go true false i j m n = refl
        go false b i j m n = refl

    all : (xs : List (List Cell)) → AllByRecursion (λ r. lies_at t.layout w r ≡ false) xs
    all [] = tt
    all (x ∷ xs) = (apart x (place_for t.layout x) refl, all xs)

pub whole_folds : (t : Table) (x : Index) (w : Place) (v : ℕ) (base : List (List Cell)) → IsLayout t.shape t.layout → TabletFolds (Some x) t w base (whole_list t x w v base)
whole_folds t x w v base l = go (is_tablet_of t w) refl
  where
    go : (b : Bool) → is_tablet_of t w ≡ b → fold_of x.shape (joined (rows_in (cond b (record { first = 1; last = v; rows = indexed x (rows_at t.layout w base) } ∷ []) []))) ≡ indexed x (rows_at t.layout w base)
    go true e = ap (fold_of x.shape) (append-nil (indexed x (rows_at t.layout w base))) ∙ again x.shape (conv_by x.map (rows_at t.layout w base))
    go false e = fold_none x.shape ∙ sym (ap (indexed x) (no_tablet t w base l e) ∙ indexed_none x)

pub eq_swap : (a b : ℕ) → nat_eq a b ≡ nat_eq b a
eq_swap a b = go (nat_eq a b) refl
  where
    go : (c : Bool) → nat_eq a b ≡ c → c ≡ nat_eq b a
    go true e = sym (let z : nat_eq b a ≡ true = grind (arith, nat_tests) in z)
    go false e = sym (let z : nat_eq b a ≡ false = grind (arith, nat_tests) in z)

pub ended_table : (table : ℕ) (t : Table) (j : JobInfo) (base : List (List Cell)) (new : Index → ℕ → Place → List StoredList) (lists : ℕ → Place → List StoredList) (b : Bool) → nat_eq t.number j.table ≡ b → nat_eq j.table table ≡ b → (b ≡ true → (x : Index) (index : ℕ) (w : Place) → new_index j.change t index ≡ Some x → TabletFolds (Some x) t w base (new x index w)) → Holds t base lists → Holds (cond b (with_change j.change t) t) base (λ index w. cond b (switched_to (new_index j.change t index) (λ x. new x index w) (lists index w)) (lists index w))
ended_table table t j base new lists true e f k h = change_holds j.change t base new lists (k refl) h
ended_table table t j base new lists false e f k h = h

-- a job ended well: its table has its new indexes, and others stay as they are
pub finished_holds : (table : ℕ) (tables : List Table) (jo : Option JobInfo) (base : List (List Cell)) (new : JobInfo → Table → Index → ℕ → Place → List StoredList) (lists : ℕ → Place → List StoredList) → ((t : Table) (j : JobInfo) → table_at table tables ≡ Some t → jo ≡ Some j → j.table ≡ table → (x : Index) (index : ℕ) (w : Place) → new_index j.change t index ≡ Some x → TabletFolds (Some x) t w base (new j t x index w)) → TableHolds (table_at table tables) base lists
    → TableHolds (table_at table (map (finished_in jo) tables)) base (λ index w. switched jo (table_at table tables) table index (λ j t x. new j t x index w) (lists index w))
finished_holds table tables jo base new lists k h = subst (λ (o : Option Table). TableHolds o base (λ index w. switched jo (table_at table tables) table index (λ j t x. new j t x index w) (lists index w))) (sym (found_map (finished_in jo) (finished_number jo) table tables)) (go (table_at table tables) jo refl refl h)
  where
    none_cond : (b : Bool) (l : List StoredList) → l ≡ [] → cond b l l ≡ []
    none_cond true l e = e
    none_cond false l e = e

    go : (o : Option Table) (q : Option JobInfo) → table_at table tables ≡ o → jo ≡ q → TableHolds o base lists → TableHolds (option_map (finished_in q) o) base (λ index w. switched q o table index (λ j t x. new j t x index w) (lists index w))
    go None None e f g = g
    go None (Some j) e f g = (g.0, λ index w. none_cond (nat_eq j.table table) (lists index w) (g.1 index w))
    go (Some t) None e f g = g
    go (Some t) (Some j) e f g =
        let n : t.number ≡ table = table_number table tables t e in
        let same : nat_eq t.number j.table ≡ nat_eq j.table table = ap (λ (m : ℕ). nat_eq m j.table) n ∙ eq_swap table j.table in
        subst (λ (b : Bool). Holds (cond b (with_change j.change t) t) base (λ index w. cond (nat_eq j.table table) (switched_to (new_index j.change t index) (λ x. new j t x index w) (lists index w)) (lists index w))) (sym same)
        (ended_table table t j base (λ x. new j t x) lists (nat_eq j.table table) same refl (λ b. k t j e f (eq_is j.table table b)) g)

pub finished_chain : (table : ℕ) (tables : List Table) (jo : Option JobInfo) (w : Place) (new : JobInfo → Table → Index → List StoredList) (lists : List StoredList) (v : ℕ) → ChainsBy (table_at table tables) w lists v → ChainsBy (table_at table (map (finished_in jo) tables)) w (switched jo (table_at table tables) table 0 new lists) v
finished_chain table tables jo w new lists v h = subst (λ (o : Option Table). ChainsBy o w (switched jo (table_at table tables) table 0 new lists) v) (sym (found_map (finished_in jo) (finished_number jo) table tables)) (go (table_at table tables) jo h)
  where
    base_stays : (c : Change) (t : Table) (n : Index → List StoredList) → switched_to (new_index c t 0) n lists ≡ lists
    base_stays (change.Rollup name columns) t n = let z : nat_eq 0 (first_new t) ≡ false = grind (arith, nat_tests) in ap (λ (b : Bool). switched_to (cond b (Some (mapped_index (rollup_map t.shape columns))) None) n lists) z

    same_lists : (b : Bool) (l m : List StoredList) → m ≡ l → cond b m l ≡ l
    same_lists true l m e = e
    same_lists false l m e = refl

    go : (o : Option Table) (q : Option JobInfo) → ChainsBy o w lists v → ChainsBy (option_map (finished_in q) o) w (switched q o table 0 new lists) v
    go None None g = g
    go None (Some j) g = (same_lists (nat_eq j.table table) lists lists refl ∙ g.0, g.1)
    go (Some t) None g = g
    go (Some t) (Some j) g = finished_any (λ (b : Table). w.bucket < b.layout.buckets → Chains 1 (cond (nat_eq j.table table) (switched_to (new_index j.change t 0) (new j t) lists) lists) v) (λ rs b q. q) (Some j) t (subst (λ (l : List StoredList). w.bucket < t.layout.buckets → Chains 1 l v) (sym (same_lists (nat_eq j.table table) lists (switched_to (new_index j.change t 0) (new j t) lists) (base_stays j.change t (new j t)))) g)

pub finished_held : (o : Option JobInfo) (tables : List Table) (u : Txn) → IsHeld tables u → IsHeld (map (finished_in o) tables) u
finished_held o tables u h = subst (λ (x : Option Table). IsHeldBy x u) (sym (found_map (finished_in o) (finished_number o) u.table tables)) (go (table_at u.table tables) h)
  where
    go : (x : Option Table) → IsHeldBy x u → IsHeldBy (option_map (finished_in o) x) u
    go None k = k
    go (Some b) k = finished_any (λ (y : Table). AreRowsOf y.shape y.layout u.rows) (λ rs y q. q) o b k

pub with_admitted : (c : Change) (t : Table) → ChangeAdmits t.shape c → Admitted t → Admitted (with_change c t)
with_admitted (change.Rollup name columns) t a h = record { shape = h.shape; rollups = each_snoc (λ (r : Rollup). Admits t.shape r.columns) t.rollups (record { name = name; columns = columns }) h.rollups a }

pub finished_admitted : (jo : Option JobInfo) (tables : List Table) → (IfSome jo (λ (j : JobInfo). Each (λ (t : Table). t.number ≡ j.table → ChangeAdmits t.shape j.change) tables)) → Each Admitted tables → Each Admitted (map (finished_in jo) tables)
finished_admitted None tables k e = each_map Admitted Admitted (finished_in None) (λ t h. h) tables e
finished_admitted (Some j) tables k e = each_map (λ (t : Table). (t.number ≡ j.table → ChangeAdmits t.shape j.change) × Admitted t) Admitted (finished_in (Some j)) (λ t h. go t (nat_eq t.number j.table) refl h.0 h.1) tables (each_both (λ (t : Table). t.number ≡ j.table → ChangeAdmits t.shape j.change) Admitted tables k e)
  where
    go : (t : Table) (b : Bool) → nat_eq t.number j.table ≡ b → (t.number ≡ j.table → ChangeAdmits t.shape j.change) → Admitted t → Admitted (cond b (with_change j.change t) t)
    go t true e a h = with_admitted j.change t (a (eq_is t.number j.table e)) h
    go t false e a h = h
