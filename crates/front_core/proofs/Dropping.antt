-- A table is dropped, with what is stored of it and what its loads hold.
use Rattle.std.proofs.Common.{◌≡◌, ℕ, Bool, true, false, cond, not, List, [], ◌∷◌, Option, Some, None, MatchOption, map, filter, refl, sym, ◌∙◌, ap, arith, subst, nat_eq}
use Rattle.std.proofs.lemmas.Bool.Decides.{nat_tests}
use Rattle.std.specs.Prelude.{nat_lt}
use Rattle.std.specs.List.{AllByRecursion}
use Rattle.partitions.specs.Places.{Place}
use Rattle.alter_core.specs.declared.job.JobInfo.{JobInfo}
use Rattle.front_defs.specs.declared.event.Event.{Event}
use Rattle.front_defs.specs.declared.catalogue.Table.{Table}
use Rattle.front_defs.specs.declared.txn.Txn.{Txn}
use Rattle.front_defs.specs.declared.command.Command.TheVariants as command
use Rattle.front_defs.specs.declared.reply.Reply.{Reply}
use Rattle.front_defs.specs.Answer.{Answer}
use Rattle.front_defs.specs.Catalogue.{table_at, table_named, tables_of}
use Rattle.front_defs.specs.Indexes.{first_new}
use Rattle.front_defs.specs.Jobs.{dropped_job, jobs_of}
use Rattle.front_defs.specs.Stands.{HasGrid, HasIndex, TableTablets, View, StandsOpen, lists_for, stored_for, version_for, waiting_for}
use Rattle.front_defs.specs.Stored.{StoredList, lists_of, version_of, waiting_by, waiting_in}
use Rattle.front_defs.specs.Transactions.{dropped, txn_at, txns_of}
use Rattle.front_laws.specs.Tidy.{Each}
use Rattle.front_laws.proofs.Lists.{each_found, eq_is}
use Rattle.front_state.specs.Parts.{emptied_where, is_of}
use Rattle.front_core.specs.Parts.{Drops, DropsTable, IsFront, with_drop}
use Rattle.front_core.proofs.Alters.{no_jobs, stands_so}
use Rattle.front_core.proofs.Going.{Acts}
use Rattle.front_core.proofs.Loads.{no_rows}
use Rattle.front_core.proofs.Waits.{waiting_emptied}

-- ---- what is stored
abbrev others : ℕ → List TableTablets → List TableTablets
others n ks = filter (λ (k : TableTablets). not (nat_eq k.table n)) ks

none_step : (n : ℕ) (k : TableTablets) (ks : List TableTablets) (b : Bool) → nat_eq k.table n ≡ b → stored_for n ks ≡ None → stored_for n (cond (not b) (k ∷ ks) ks) ≡ None
none_step n k ks true e h = h
none_step n k ks false e h = rw e h

none_stored : (n : ℕ) (ks : List TableTablets) → stored_for n (others n ks) ≡ None
none_stored n [] = refl
none_stored n (k ∷ ks) = none_step n k (others n ks) (nat_eq k.table n) refl (none_stored n ks)

other_step : (n m : ℕ) (k : TableTablets) (us ks : List TableTablets) (a b : Bool) → nat_eq n m ≡ false → nat_eq k.table n ≡ a → nat_eq k.table m ≡ b → stored_for m us ≡ stored_for m ks → stored_for m (cond (not a) (k ∷ us) us) ≡ cond b (Some k) (stored_for m ks)
other_step n m k us ks true true off e f h = absurd (let x : k.table ≡ n = eq_is k.table n e in let y : k.table ≡ m = eq_is k.table m f in let z : nat_eq n m ≡ true = grind (arith, nat_tests) in cc (z, off))
other_step n m k us ks true false off e f h = h
other_step n m k us ks false true off e f h = rw f refl
other_step n m k us ks false false off e f h = rw f h

other_stored : (n m : ℕ) (ks : List TableTablets) → nat_eq n m ≡ false → stored_for m (others n ks) ≡ stored_for m ks
other_stored n m [] off = refl
other_stored n m (k ∷ ks) off = other_step n m k (others n ks) ks (nat_eq k.table n) (nat_eq k.table m) off refl refl (other_stored n m ks off)

lists_dropped : (n table index : ℕ) (w : Place) (ks : List TableTablets) (lists : List StoredList) (b : Bool) → nat_eq n table ≡ b → lists_for index w (stored_for table ks) ≡ lists → lists_for index w (stored_for table (others n ks)) ≡ cond b [] lists
lists_dropped n table index w ks lists true e h = ap (λ (m : ℕ). lists_for index w (stored_for table (others m ks))) (eq_is n table e) ∙ ap (lists_for index w) (none_stored table ks)
lists_dropped n table index w ks lists false e h = ap (lists_for index w) (other_stored n table ks e) ∙ h

versions_dropped : (n table part version : ℕ) (ks : List TableTablets) (b : Bool) → nat_eq n table ≡ b → version_for part (stored_for table ks) ≡ version → version_for part (stored_for table (others n ks)) ≡ cond b 1 version
versions_dropped n table part version ks true e h = ap (λ (m : ℕ). version_for part (stored_for table (others m ks))) (eq_is n table e) ∙ ap (version_for part) (none_stored table ks)
versions_dropped n table part version ks false e h = ap (version_for part) (other_stored n table ks e) ∙ h

turned : (n m : ℕ) → nat_eq n m ≡ nat_eq m n
turned n m = grind (arith, nat_tests)

grid_step : (n : ℕ) (ks : List TableTablets) (t : Table) (us : List Table) (b : Bool) → nat_eq t.number n ≡ b → HasGrid ks t → AllByRecursion (HasGrid (others n ks)) us → AllByRecursion (HasGrid (others n ks)) (cond (not b) (t ∷ us) us)
grid_step n ks t us true e h k = k
grid_step n ks t us false e h k = (subst (λ (o : Option TableTablets). MatchOption o ⊥ (λ x. (index : ℕ) → nat_lt index (first_new t) ≡ true → HasIndex t x index)) (sym (other_stored n t.number ks (turned n t.number ∙ e))) h, k)

grid_dropped : (n : ℕ) (ks : List TableTablets) (ts : List Table) → AllByRecursion (HasGrid ks) ts → AllByRecursion (HasGrid (others n ks)) (filter (λ (t : Table). not (nat_eq t.number n)) ts)
grid_dropped n ks [] h = tt
grid_dropped n ks (t ∷ ts) h = grid_step n ks t (filter (λ (t : Table). not (nat_eq t.number n)) ts) (nat_eq t.number n) refl h.0 (grid_dropped n ks ts h.1)

-- ---- what waits
table_step : (n m : ℕ) (t : Table) (us ts : List Table) (a b : Bool) → nat_eq m n ≡ false → nat_eq t.number n ≡ a → nat_eq t.number m ≡ b → table_at m us ≡ table_at m ts → table_at m (cond (not a) (t ∷ us) us) ≡ cond b (Some t) (table_at m ts)
table_step n m t us ts true true off e f h = absurd (let x : t.number ≡ n = eq_is t.number n e in let y : t.number ≡ m = eq_is t.number m f in let z : nat_eq m n ≡ true = grind (arith, nat_tests) in cc (z, off))
table_step n m t us ts true false off e f h = h
table_step n m t us ts false true off e f h = rw f refl
table_step n m t us ts false false off e f h = rw f h

other_table : (n m : ℕ) (ts : List Table) → nat_eq m n ≡ false → table_at m (filter (λ (t : Table). not (nat_eq t.number n)) ts) ≡ table_at m ts
other_table n m [] off = refl
other_table n m (t ∷ ts) off = table_step n m t (filter (λ (t : Table). not (nat_eq t.number n)) ts) ts (nat_eq t.number n) (nat_eq t.number m) off refl refl (other_table n m ts off)

abbrev HasNoRows : ℕ → Txn → Type 0
HasNoRows n t = nat_eq t.table n ≡ true → t.rows ≡ []

rowless : (n at : ℕ) (ts : List Txn) → Each (HasNoRows n) (map (dropped n at) ts)
rowless n at [] = tt
rowless n at (t ∷ ts) = (go (nat_eq t.table n) refl, rowless n at ts)
  where
    go : (b : Bool) → nat_eq t.table n ≡ b → HasNoRows n (dropped n at t)
    go true e = λ h. rw e refl
    go false e = λ h. absurd (let z : nat_eq t.table n ≡ true = rw e at h in cc (z, e))

waits_without : (n index : ℕ) (o : Option Txn) (tables : List Table) (jobs : List JobInfo) → ((t : Txn) → o ≡ Some t → HasNoRows n t) → waiting_by o index (filter (λ (t : Table). not (nat_eq t.number n)) tables) jobs ≡ waiting_by o index tables jobs
waits_without n index None tables jobs h = refl
waits_without n index (Some t) tables jobs h = go (nat_eq t.table n) refl
  where
    go : (b : Bool) → nat_eq t.table n ≡ b → waiting_in (table_at t.table (filter (λ (t : Table). not (nat_eq t.number n)) tables)) jobs index t.id t.rows ≡ waiting_in (table_at t.table tables) jobs index t.id t.rows
    go true e = let r = h t refl e in no_rows (table_at t.table (filter (λ (t : Table). not (nat_eq t.number n)) tables)) jobs index t.id t.rows r ∙ sym (no_rows (table_at t.table tables) jobs index t.id t.rows r)
    go false e = ap (λ (x : Option Table). waiting_in x jobs index t.id t.rows) (other_table n t.table tables e)

same_id : (n at : ℕ) (t : Txn) → (dropped n at t).id ≡ t.id
same_id n at t = go (nat_eq t.table n) refl
  where
    go : (b : Bool) → nat_eq t.table n ≡ b → (dropped n at t).id ≡ t.id
    go true e = rw e refl
    go false e = rw e refl

no_rows_of : (n at : ℕ) (t : Txn) → is_of n t ≡ true → (dropped n at t).rows ≡ []
no_rows_of n at t e = rw e refl

still_of : (n at : ℕ) (t : Txn) → is_of n t ≡ false → dropped n at t ≡ t
still_of n at t e = rw e refl

dropped_by : (v : View) (Es : List Event) (db name : List ℕ) (flag : Bool) (at : ℕ) (t : Table) → table_named db name (tables_of Es) ≡ Some t → IsFront v → StandsOpen v Es → Acts v (with_drop t.number at v) Es (command.DropTable db name flag at)
dropped_by v Es db name flag at t found p s =
    let n = t.number in
    let before = no_jobs v Es p.jobless s in
    let after : map (dropped_job n at) (jobs_of Es) ≡ [] = ap (map (dropped_job n at)) before in
    let waits : (m index : ℕ) → waiting_for m index (emptied_where (is_of n) v.txns v.waiting) ≡ waiting_by (txn_at m (map (dropped n at) v.txns)) index (tables_of Es) (jobs_of Es) = λ m index.
    waiting_emptied (is_of n) (dropped n at) m index v.txns v.waiting (tables_of Es) (jobs_of Es) (same_id n at) (no_rows_of n at) (still_of n at) p.aligned (s.tablets.waiting m index ∙ ap (λ (ts : List Txn). waiting_by (txn_at m ts) index (tables_of Es) (jobs_of Es)) (sym s.txns.txns)) in
    rw found (record {
      live = refl;
      taken = refl;
      parts = stands_so v Es (record { none = p.jobless; last = refl; marks = refl; jobs = after; last_job = refl; tasks = refl }) s
          (record { databases = s.cat.databases; tables = ap (filter (λ (x : Table). not (nat_eq x.number n))) s.cat.tables; last_table = s.cat.last_table })
          (record { txns = ap (map (dropped n at)) s.txns.txns; range = s.txns.range; next = s.txns.next; places = s.txns.places })
          (record {
            grid = grid_dropped n v.tablets (tables_of Es) s.tablets.grid;
            lists = λ m index w. lists_dropped n m index w v.tablets (lists_of Es m index w) (nat_eq n m) refl (s.tablets.lists m index w);
            versions = λ m part. versions_dropped n m part (version_of Es m part) v.tablets (nat_eq n m) refl (s.tablets.versions m part);
            waiting = λ m index. waits m index
                ∙ sym (waits_without n index (txn_at m (map (dropped n at) v.txns)) (tables_of Es) (jobs_of Es) (λ x f. each_found (HasNoRows n) (λ (y : Txn). nat_eq y.id m) (map (dropped n at) v.txns) x (rowless n at v.txns) f))
                ∙ ap (λ (ts : List Txn). waiting_by (txn_at m (map (dropped n at) ts)) index (filter (λ (x : Table). not (nat_eq x.number n)) (tables_of Es)) (jobs_of Es)) s.txns.txns
                ∙ ap (λ (js : List JobInfo). waiting_by (txn_at m (map (dropped n at) (txns_of Es))) index (filter (λ (x : Table). not (nat_eq x.number n)) (tables_of Es)) js) (before ∙ sym after);
          });
    })

drops_by : (v new : View) (Es : List Event) (db name : List ℕ) (flag : Bool) (at : ℕ) (o : Option Table) → table_named db name (tables_of Es) ≡ o → DropsTable o at v new → IsFront v → StandsOpen v Es → Acts v new Es (command.DropTable db name flag at)
drops_by v new Es db name flag at None found h p s = subst (λ (x : View). Acts v x Es (command.DropTable db name flag at)) (sym h) (rw found (record { live = refl; taken = refl; parts = s }))
drops_by v new Es db name flag at (Some t) found h p s = subst (λ (x : View). Acts v x Es (command.DropTable db name flag at)) (sym h) (dropped_by v Es db name flag at t found p s)

pub drops_table : (v new : View) (Es : List Event) (db name : List ℕ) (flag : Bool) (at : ℕ) → DropsTable (table_named db name v.tables) at v new → IsFront v → StandsOpen v Es → Acts v new Es (command.DropTable db name flag at)
drops_table v new Es db name flag at h p s = drops_by v new Es db name flag at (table_named db name v.tables) (ap (table_named db name) (sym s.cat.tables)) h p s

-- what answers a DropTable after what the front has answers it after what happened
pub drops_so : (v : View) (Es : List Event) (db name : List ℕ) (flag : Bool) (at : ℕ) (r : Reply) → Drops db name flag v.databases v.tables r → StandsOpen v Es → Answer Es (command.DropTable db name flag at) r
drops_so v Es db name flag at r h s = rw (s.cat.databases, s.cat.tables) at h
