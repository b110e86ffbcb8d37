-- What a Begin and a Submit that are answered well make happen may happen.
use Rattle.std.proofs.Common.{◌≡◌, ℕ, ◌+◌, ◌≤◌, ◌<◌, Bool, true, false, cond, not, ◌&&◌, ◌||◌, List, [], ◌∷◌, ◌++◌, Option, Some, None, IfSome, inr, refl, sym, ◌∙◌, ap, arith, subst, find, reverse, is_none}
use Rattle.std.proofs.lemmas.Bool.Decides.{nat_tests}
use Rattle.std.proofs.lemmas.Grind.{reverse_onto}
use Rattle.std.proofs.lemmas.Slice.Eq.{bytes_eq-Decides}
use Rattle.std.specs.Prelude.{nat_eq, nat_lt}
use Rattle.std.specs.List.{list_any}
use Rattle.std.specs.Option.{option_map, option_or}
use Rattle.dl_values.specs.declared.cell.Cell.{Cell}
use Rattle.labels.specs.declared.txn_state.TxnState.{TxnState}
use Rattle.labels.specs.declared.txn_state.TxnState.TheVariants as state
use Rattle.schema_models.specs.Faults.{refuse_if, first_of}
use Rattle.sql_text.specs.declared.table_def.TableDef.{TableDef}
use Rattle.table_defs.specs.declared.def_error.DefError.{DefError}
use Rattle.table_defs.specs.declared.def_error.DefError.TheVariants as def_error
use Rattle.front_defs.specs.declared.event.Event.{Event}
use Rattle.front_defs.specs.declared.event.Event.TheVariants as event
use Rattle.front_defs.specs.declared.event.TxnBegun.{TxnBegun}
use Rattle.front_defs.specs.declared.event.LoadSubmitted.{LoadSubmitted}
use Rattle.front_defs.specs.declared.catalogue.Table.{Table}
use Rattle.front_defs.specs.declared.txn.Txn.{Txn}
use Rattle.front_defs.specs.declared.command.TxnKey.{TxnKey}
use Rattle.front_defs.specs.declared.command.TxnKey.TheVariants as key
use Rattle.front_defs.specs.declared.command.Command.{Command}
use Rattle.front_defs.specs.declared.command.Command.TheVariants as command
use Rattle.front_defs.specs.declared.reply.Reply.TheVariants as reply
use Rattle.front_defs.specs.Names.{same, is_label, auto_label}
use Rattle.front_defs.specs.Ids.{range_of, next_of, told_ids, range_size}
use Rattle.front_defs.specs.Catalogue.{is_named, table_named, table_at, db_in, db_of, tables_of}
use Rattle.front_defs.specs.Transactions.{is_prepare, is_aborted, txn_at, txn_by, holds, label_of, txns_of}
use Rattle.front_defs.specs.Stored.{AreRowsOf}
use Rattle.table_defs.specs.Columns.{shape_of}
use Rattle.table_defs.specs.Defined.{def_fault, layout_faults, layout_of}
use Rattle.table_defs.specs.Parts.{buckets_of, parts_of}
use Rattle.partitions.specs.LayoutFaults.{layout_fault}
use Rattle.partitions.specs.LayoutRules.{IsLayout}
use Rattle.partitions.proofs.Valid.{defined_valid}
use Rattle.front_defs.specs.Answer.{label_for, bad_label, used, refused_by, refused_def, submit_refusals}
use Rattle.front_defs.specs.History.{new_range, begins, submits}
use Rattle.front_defs.specs.Journal.{There, IsLiveJob, is_load_label}
use Rattle.front_laws.specs.Tidy.{AllFrom, Alters, IsMarkedJob, Each, Pairs, Ascends, Tells, Tidy, IsHome, HomeBy, HasHome, OlderIsAborted, label_key, LabelFits, BeginsNow, HappenAll, last_begun}
use Rattle.front_laws.proofs.Lists.{each_imp, each_both, each_found, each_append, found_id, label_fits}
use Rattle.row_map.specs.declared.map.RowMap.{RowMap}
use Rattle.row_map.specs.Maps.{is_bad}
use Rattle.alter_core.specs.declared.job.JobInfo.{JobInfo}
use Rattle.alter_core.specs.declared.job.JobState.{JobState}
use Rattle.alter_core.specs.declared.job.JobState.TheVariants as job_state
use Rattle.front_defs.specs.Jobs.{is_live, is_live_of, is_planned, is_running, is_running_of, job_at, jobs_of, running_job}
use Rattle.front_defs.specs.Indexes.{change_maps, spoiled_by, spoils}
use Rattle.front_defs.specs.Moves.{is_open, watershed_of}
use Rattle.front_laws.proofs.Jobs.{Settled, no_open}
use Rattle.front_laws.proofs.Following.{held_key, key_held, match_is}
use Rattle.front_laws.proofs.Tidying.{passes, and_left}
use Rattle.front_laws.proofs.Keeping.{table_number}

-- Where no refusal holds.
pub none_first : {E : Type 0} (r : Option E) (rs : List (Option E)) → first_of (r ∷ rs) ≡ None → (r ≡ None) × (first_of rs ≡ None)
none_first None rs h = (refl, h)
none_first (Some x) rs h = absurd (cc)

pub not_refused : {E : Type 0} (b : Bool) (x : E) → refuse_if b x ≡ None → b ≡ false
not_refused true x h = absurd (cc)
not_refused false x h = refl

pub not_false : (b : Bool) → not b ≡ false → b ≡ true
not_false true h = refl
not_false false h = absurd (cc)

pub mapped_none : {X Y : Type 0} (f : X → Y) (o : Option X) → option_map f o ≡ None → o ≡ None
mapped_none f None h = refl
mapped_none f (Some x) h = absurd (cc)

pub def_accepted : (table : List ℕ) (def : TableDef) → refused_def table def ≡ None → def_fault table def ≡ None
def_accepted table def h = go (def_fault table def) h
  where
    go : (o : Option DefError) → refused_by o ≡ None → o ≡ None
    go None h = refl
    go (Some e) h = absurd (cc)

pub some_of : {X : Type 0} (o : Option X) → is_none o ≡ false → (x : X) × (o ≡ Some x)
some_of None h = absurd (cc)
some_of (Some x) h = (x, refl)

-- the layout of a definition that nothing is wrong with is valid
pub laid_out : (table : List ℕ) (def : TableDef) → layout_faults table def ≡ None → IsLayout (shape_of def) (layout_of table def)
laid_out table def h = defined_valid (shape_of def) (parts_of table (shape_of def).columns def.ranges) def.hash (buckets_of def.buckets) (mapped_none def_error.Layout (layout_fault (shape_of def) (parts_of table (shape_of def).columns def.ranges) def.hash (buckets_of def.buckets)) h)

-- one event, or none
pub one_event : (e : Event) (Es : List Event) (b : Bool) → b ≡ false → HappenAll (e ∷ []) Es → HappenAll (cond b [] (e ∷ [])) Es
one_event e Es true h k = tt
one_event e Es false h k = k

-- A range that is drawn where the last one is used up.
pub ranged : (Es : List Event) → HappenAll (new_range Es) Es
ranged Es = elim (nat_lt (range_of Es) (next_of Es)) as (λ b. HappenAll (cond b (event.RangeDrawn (record { upto = range_of Es + range_size }) ∷ []) []) Es) [ true ↦ (refl, tt, tt) | false ↦ tt ]

abbrev pub range_if : Bool → List Event → List Event
range_if b Es = cond b (event.RangeDrawn (record { upto = range_of Es + range_size }) ∷ []) []

pub ranged_range : (Es : List Event) (b : Bool) → nat_lt (range_of Es) (next_of Es) ≡ b → next_of Es ≤ range_of Es + 1 → next_of Es ≤ range_of (range_if b Es ++ Es)
ranged_range Es true e w = omega arith
ranged_range Es false e w = grind (arith, nat_tests)

pub ranged_txns : (Es : List Event) → txns_of (new_range Es ++ Es) ≡ txns_of Es
ranged_txns Es = elim (nat_lt (range_of Es) (next_of Es)) as (λ b. txns_of (range_if b Es ++ Es) ≡ txns_of Es) [ true ↦ refl | false ↦ refl ]

pub ranged_tables : (Es : List Event) → tables_of (new_range Es ++ Es) ≡ tables_of Es
ranged_tables Es = elim (nat_lt (range_of Es) (next_of Es)) as (λ b. tables_of (range_if b Es ++ Es) ≡ tables_of Es) [ true ↦ refl | false ↦ refl ]

pub ranged_jobs : (Es : List Event) → jobs_of (new_range Es ++ Es) ≡ jobs_of Es
ranged_jobs Es = elim (nat_lt (range_of Es) (next_of Es)) as (λ b. jobs_of (range_if b Es ++ Es) ≡ jobs_of Es) [ true ↦ refl | false ↦ refl ]

pub ranged_ids : (Es : List Event) → told_ids (new_range Es ++ Es) ≡ told_ids Es
ranged_ids Es = elim (nat_lt (range_of Es) (next_of Es)) as (λ b. told_ids (range_if b Es ++ Es) ≡ told_ids Es) [ true ↦ refl | false ↦ refl ]

pub ranged_begun : (Es : List Event) → last_begun (new_range Es ++ Es) ≡ last_begun Es
ranged_begun Es = elim (nat_lt (range_of Es) (next_of Es)) as (λ b. last_begun (range_if b Es ++ Es) ≡ last_begun Es) [ true ↦ refl | false ↦ refl ]

-- What is found by number.
pub key_here : {X : Type 0} (key : X → ℕ) (u t : X) (us : List X) (p : X → Bool) (b : Bool) → Each (λ w. key u < key w) us → cond b (Some u) (find p us) ≡ Some t → (find p us ≡ Some t → find (λ a. nat_eq (key a) (key t)) us ≡ Some t) → cond (nat_eq (key u) (key t)) (Some u) (find (λ a. nat_eq (key a) (key t)) us) ≡ Some t
key_here key u t us p true e f k = let i : u ≡ t = cc in subst (λ w. cond (nat_eq (key u) (key w)) (Some u) (find (λ a. nat_eq (key a) (key w)) us) ≡ Some w) i (let s : nat_eq (key u) (key u) ≡ true = grind (arith, nat_tests) in rw s refl)
key_here key u t us p false e f k = let lt = each_found (λ w. key u < key w) p us t e f in let s : nat_eq (key u) (key t) ≡ false = grind (arith, nat_tests) in rw s (k f)

-- where numbers ascend, what is found is the one of its number
pub key_found : {X : Type 0} (key : X → ℕ) (p : X → Bool) (xs : List X) (t : X) → Pairs (λ a b. key a < key b) xs → find p xs ≡ Some t → find (λ a. nat_eq (key a) (key t)) xs ≡ Some t
key_found key p [] t a f = absurd (cc)
key_found key p (u ∷ us) t a f = key_here key u t us p (p u) a.0 f (key_found key p us t a.1)

pub skip_cons : (u w : Txn) (us : List Txn) → u.id < w.id → txn_at w.id us ≡ Some w → txn_at w.id (u ∷ us) ≡ Some w
skip_cons u w us lt h = let s : nat_eq u.id w.id ≡ false = grind (arith, nat_tests) in rw s h

-- each is the one of its number
pub all_found : (ts : List Txn) → Ascends ts → Each (λ u. txn_at u.id ts ≡ Some u) ts
all_found [] a = tt
all_found (u ∷ us) a =
    (let s : nat_eq u.id u.id ≡ true = grind (arith, nat_tests) in rw s refl, each_imp (λ w. (u.id < w.id) × (txn_at w.id us ≡ Some w)) (λ w. txn_at w.id (u ∷ us) ≡ Some w) (λ w h. skip_cons u w us h.0 h.1) us (each_both (λ w. u.id < w.id) (λ w. txn_at w.id us ≡ Some w) us a.0 (all_found us a.1)))

-- what holds of each in the reverse order
pub each_reverse : {X : Type 0} (P : X → Type 0) (xs : List X) → Each P xs → Each P (reverse xs)
each_reverse P [] e = tt
each_reverse P (x ∷ xs) e = subst (Each P) (sym (reverse_onto xs x [])) (each_append P (reverse xs) (x ∷ []) (each_reverse P xs e.1) (e.0, tt))

pub last_found : (p : Txn → Bool) (ts : List Txn) (t : Txn) → Ascends ts → find p (reverse ts) ≡ Some t → txn_at t.id ts ≡ Some t
last_found p ts t a f = each_found (λ u. txn_at u.id ts ≡ Some u) p (reverse ts) t (each_reverse (λ u. txn_at u.id ts ≡ Some u) ts (all_found ts a)) f

pub first_found : (p : Txn → Bool) (ts : List Txn) (t : Txn) → Ascends ts → find p ts ≡ Some t → txn_at t.id ts ≡ Some t
first_found p ts t a f = each_found (λ u. txn_at u.id ts ≡ Some u) p ts t (all_found ts a) f

pub by_found : (db : List ℕ) (x : TxnKey) (ts : List Txn) (t : Txn) → Ascends ts → txn_by db x ts ≡ Some t → txn_at t.id ts ≡ Some t
by_found db (key.Id id) ts t a f = first_found (λ u. nat_eq u.id id && same u.db db) ts t a f
by_found db (key.Label label) ts t a f = last_found (holds db label) ts t a f

-- A label that no transaction uses: all that hold it are aborted.
pub aborted_is : (s : TxnState) → not (is_aborted s) ≡ false → s ≡ state.Aborted
aborted_is state.Aborted h = refl
aborted_is state.Prepare h = absurd (cc)
aborted_is state.Precommitted h = absurd (cc)
aborted_is state.Visible h = absurd (cc)
aborted_is state.Committed h = absurd (cc)

pub unused : (w : Txn) → used (Some w) ≡ None → w.state ≡ state.Aborted
unused w h = aborted_is w.state (not_refused (not (is_aborted w.state)) (reply.Used w.id w.state) h)

pub append_cons : {X : Type 0} (p : X → Bool) (x : X) (xs : List X) (y : X) (b : Bool) → find p (xs ++ y ∷ []) ≡ option_or (find p xs) (find p (y ∷ [])) → cond b (Some x) (find p (xs ++ y ∷ [])) ≡ option_or (cond b (Some x) (find p xs)) (find p (y ∷ []))
append_cons p x xs y true h = refl
append_cons p x xs y false h = h

pub found_append : {X : Type 0} (p : X → Bool) (xs : List X) (y : X) → find p (xs ++ y ∷ []) ≡ option_or (find p xs) (find p (y ∷ []))
found_append p [] y = refl
found_append p (x ∷ xs) y = append_cons p x xs y (p x) (found_append p xs y)

abbrev pub IsFree : List ℕ → List ℕ → Txn → Type 0
IsFree db label u = (db, label) ≡ label_key u → u.state ≡ state.Aborted

pub free_none : (db label : List ℕ) (t : Txn) (ts : List Txn) → used (cond (holds db label t) (Some t) None) ≡ None → IsFree db label t
free_none db label t ts h i = unused t (subst (λ (b : Bool). used (cond b (Some t) None) ≡ None) (key_held db label t (sym i)) h)

pub free_cons : (db label : List ℕ) (t : Txn) (ts : List Txn) (o : Option Txn) → find (holds db label) (reverse ts) ≡ o → Each (OlderIsAborted t) ts → used (option_or o (cond (holds db label t) (Some t) None)) ≡ None → (used o ≡ None → Each (IsFree db label) ts) → Each (IsFree db label) (t ∷ ts)
free_cons db label t ts None f older h k = (free_none db label t ts h, k refl)
free_cons db label t ts (Some w) f older h k =
    (λ i. each_found (OlderIsAborted t) (holds db label) (reverse ts) w (each_reverse (OlderIsAborted t) ts older) f (held_key db label w (passes (holds db label) (reverse ts) w f) ∙ i), k h)

pub last_free : (db label : List ℕ) (ts : List Txn) → Pairs OlderIsAborted ts → used (label_of db label ts) ≡ None → Each (IsFree db label) ts
last_free db label [] o h = tt
last_free db label (t ∷ ts) o h =
    let e : used (find (holds db label) (reverse ts ++ t ∷ [])) ≡ None = subst (λ (l : List Txn). used (find (holds db label) l) ≡ None) (reverse_onto ts t []) h in
    let f : used (option_or (find (holds db label) (reverse ts)) (cond (holds db label t) (Some t) None)) ≡ None = subst (λ (x : Option Txn). used x ≡ None) (found_append (holds db label) (reverse ts) t) e in
    free_cons db label t ts (find (holds db label) (reverse ts)) refl o.0 f (λ k. last_free db label ts o.1 k)

-- Begin
pub named_db : (db table : List ℕ) (t : Table) → is_named db table t ≡ true → t.db ≡ db
named_db db table t h = (bytes_eq-Decides t.db db).0 (and_left (same t.db db) (same t.name table) h)

pub table_passes : (p : Table → Bool) (xs : List Table) (y : Table) → find p xs ≡ Some y → p y ≡ true
table_passes p [] y e = absurd (cc)
table_passes p (x ∷ xs) y e = go (p x) refl (table_passes p xs y) e
  where
    go : (b : Bool) → p x ≡ b → (find p xs ≡ Some y → p y ≡ true) → cond b (Some x) (find p xs) ≡ Some y → p y ≡ true
    go true is k e = let i : x ≡ y = cc in subst (λ z. p z ≡ true) i is
    go false is k e = k e

pub load_label : (label : Option (List ℕ)) (next : ℕ) → bad_label label ≡ None → is_load_label next (label_for label next) ≡ true
load_label None next h = auto (is_label (auto_label next)) ((bytes_eq-Decides (auto_label next) (auto_label next)).1 refl)
  where
    auto : (b : Bool) → same (auto_label next) (auto_label next) ≡ true → (b || same (auto_label next) (auto_label next)) ≡ true
    auto true h = refl
    auto false h = h
load_label (Some label) next h = rw (not_false (is_label label) (not_refused (not (is_label label)) reply.BadLabel h)) refl

abbrev pub begun_now : ℕ → Option (List ℕ) → Bool → ℕ → Table → TxnBegun
begun_now next label two_phase at t = record { txn = next; db = t.db; table = t.number; label = label_for label next; two_phase = two_phase; schema = t.schema; at = at }

pub begins_now : (Es : List Event) (db table : List ℕ) (label : Option (List ℕ)) (two_phase : Bool) (at : ℕ) (t : Table) → Tidy Es → Alters Es → table_named db table (tables_of Es) ≡ Some t → bad_label label ≡ None → used (label_of db (label_for label (next_of Es)) (txns_of Es)) ≡ None → BeginsNow (new_range Es ++ Es) (begun_now (next_of Es) label two_phase at t)
begins_now Es db table label two_phase at t k a found good free =
    let n = next_of Es in
    let db_is = named_db db table t (table_passes (is_named db table) (tables_of Es) t found) in
    record {
      above = subst (λ (l : List Txn). Each (λ u. u.id < n) l) (sym (ranged_txns Es)) k.below;
      unspent = subst (λ (l : List ℕ). Each (λ i. i < n) l) (sym (ranged_ids Es)) k.ids;
      within = ranged_range Es (nat_lt (range_of Es) n) refl k.within;
      free = subst (λ (l : List Txn). Each (λ u. (t.db, label_for label n) ≡ label_key u → u.state ≡ state.Aborted) l) (sym (ranged_txns Es)) (subst (λ (x : List ℕ). Each (IsFree x (label_for label n)) (txns_of Es)) (sym db_is) (last_free db (label_for label n) (txns_of Es) k.labels free));
      fresh = rw (ranged_begun Es) k.spent;
      marks = subst (Each (λ (j : JobInfo). is_planned j.state ≡ true → watershed_of j < n)) (sym (ranged_jobs Es)) (each_imp (λ (j : JobInfo). is_planned j.state ≡ true → IsMarkedJob n j) (λ (j : JobInfo). is_planned j.state ≡ true → watershed_of j < n) (λ j m p. (m p).below) (jobs_of Es) a.marked);
      label = load_label label n good;
      home = match_is (table_at t.number (tables_of (new_range Es ++ Es))) t (IsHome t.db t.schema) (ap (table_at t.number) (ranged_tables Es) ∙ key_found (λ (b : Table). b.number) (is_named db table) (tables_of Es) t k.numbers found) (refl, refl);
    }

pub begin_happens : (Es : List Event) (db table : List ℕ) (label : Option (List ℕ)) (two_phase : Bool) (at : ℕ) (o : Option Table) → Tidy Es → Alters Es → table_named db table (tables_of Es) ≡ o → bad_label label ≡ None → used (label_of db (label_for label (next_of Es)) (txns_of Es)) ≡ None → HappenAll (begins (next_of Es) label two_phase at o ++ new_range Es) Es
begin_happens Es db table label two_phase at None k a found good free = ranged Es
begin_happens Es db table label two_phase at (Some t) k a found good free = (begins_now Es db table label two_phase at t k a found good free, tt, ranged Es)

-- Submit
pub prepare_is : (s : TxnState) → is_prepare s ≡ true → s ≡ state.Prepare
prepare_is state.Prepare h = refl
prepare_is state.Precommitted h = absurd (cc)
prepare_is state.Committed h = absurd (cc)
prepare_is state.Visible h = absurd (cc)
prepare_is state.Aborted h = absurd (cc)

pub prepare_told : (s : TxnState) (b : Bool) → Tells s b → s ≡ state.Prepare → b ≡ false
prepare_told state.Prepare b h e = h
prepare_told state.Precommitted b h e = absurd (cc)
prepare_told state.Committed b h e = absurd (cc)
prepare_told state.Visible b h e = absurd (cc)
prepare_told state.Aborted b h e = absurd (cc)

abbrev pub Alters_numbers : List JobInfo → Type 0
Alters_numbers js = Pairs (λ (a b : JobInfo). a.job < b.job) js

-- the rows of a submitted load are of its table
abbrev pub Shaped : List Event → Command → Type 0
Shaped Es (command.Submit txn built at) = IfSome (txn_at txn (txns_of Es)) (λ x. IfSome (table_at x.table (tables_of Es)) (λ b. AreRowsOf b.shape b.layout built.rows))
Shaped Es _ = Unit {0}

-- what a load cancels is a live job of its table
pub each_job_found : (p : JobInfo → Bool) (js : List JobInfo) (j : JobInfo) → Alters_numbers js → find p js ≡ Some j → job_at j.job js ≡ Some j
each_job_found p js j a f = key_found (λ (x : JobInfo). x.job) p js j a f

pub job_passes : (p : JobInfo → Bool) (xs : List JobInfo) (y : JobInfo) → find p xs ≡ Some y → p y ≡ true
job_passes p [] y e = absurd (cc)
job_passes p (x ∷ xs) y e = go (p x) refl (job_passes p xs y) e
  where
    go : (b : Bool) → p x ≡ b → (find p xs ≡ Some y → p y ≡ true) → cond b (Some x) (find p xs) ≡ Some y → p y ≡ true
    go true is k e = let i : x ≡ y = cc in subst (λ z. p z ≡ true) i is
    go false is k e = k e

pub running_lives : (table : ℕ) (j : JobInfo) → is_running_of table j ≡ true → is_live_of table j ≡ true
running_lives table j h = go (nat_eq j.table table) j.state h
  where
    go : (b : Bool) (x : JobState) → (b && is_running x) ≡ true → (b && is_live x) ≡ true
    go true job_state.Running h = refl
    go true job_state.Pending h = absurd (cc)
    go true job_state.WaitingTxn h = absurd (cc)
    go true job_state.Finished h = absurd (cc)
    go true job_state.Cancelled h = absurd (cc)
    go false x h = h

pub spoiled_lives : (jobs : List JobInfo) (table : ℕ) (tables : List Table) (o : Option Table) (rows : List (List Cell)) → Alters_numbers jobs → table_at table tables ≡ o → IfSome (spoiled_by jobs o rows) (IsLiveJob jobs table)
spoiled_lives jobs table tables None rows a f = tt
spoiled_lives jobs table tables (Some t) rows a f = go (running_job t.number jobs) refl
  where
    n : t.number ≡ table
    n = table_number table tables t f

    here : (j : JobInfo) (b : Bool) → IsLiveJob jobs table j.job → IfSome (cond b (Some j.job) None) (IsLiveJob jobs table)
    here j true h = h
    here j false h = tt

    go : (o : Option JobInfo) → running_job t.number jobs ≡ o → IfSome (spoils o t rows) (IsLiveJob jobs table)
    go None e = tt
    go (Some j) e = here j (list_any (λ (m : RowMap). is_bad m rows) (change_maps j.change t)) (match_is (job_at j.job jobs) j (λ (x : JobInfo). is_live_of table x ≡ true) (each_job_found (is_running_of t.number) jobs j a e) (subst (λ (k : ℕ). is_live_of k j ≡ true) n (running_lives t.number j (job_passes (is_running_of t.number) jobs j e))))

-- an open load is not below the watershed of a job that runs
pub open_from : (Es : List Event) (x : Txn) (p : Txn → Bool) → Alters Es → find p (txns_of Es) ≡ Some x → is_open x.state ≡ true → AllFrom x.id (jobs_of Es)
open_from Es x p a f o = each_imp (Settled (txns_of Es)) (λ (j : JobInfo). is_running j.state ≡ true → watershed_of j ≤ x.id) (λ j s r. not_below (watershed_of j) (each_found (λ u. (is_open u.state && nat_lt u.id (watershed_of j)) ≡ false) p (txns_of Es) x (no_open (watershed_of j) (txns_of Es) (s r)) f)) (jobs_of Es) a.settled
  where
    not_below : (w : ℕ) → (is_open x.state && nat_lt x.id w) ≡ false → w ≤ x.id
    not_below w h = let k : nat_lt x.id w ≡ false = ap (λ (b : Bool). b && nat_lt x.id w) (sym o) ∙ h in grind (arith, nat_tests)

pub there_both : {X : Type 0} (o : Option X) (P Q R : X → Type 0) → ((x : X) → P x → Q x → R x) → There o P → IfSome o Q → There o R
there_both None P Q R k h i = h
there_both (Some x) P Q R k h i = k x h i

pub home_db : (o : Option Table) (db : List ℕ) (schema : ℕ) → There o (IsHome db schema) → db_in o ≡ db
home_db None db schema h = absurd h
home_db (Some b) db schema h = h.0

abbrev pub load_now : List (List Cell) → ℕ → List Table → List JobInfo → Txn → LoadSubmitted
load_now rows at tables jobs x = record { txn = x.id; table = x.table; label = x.label; at = at; two_phase = x.two_phase; schema = x.schema; cancelled = spoiled_by jobs (table_at x.table tables) rows; rows = rows }

pub submits_now : (Es : List Event) (id : ℕ) (rows : List (List Cell)) (at : ℕ) (x : Txn) → Tidy Es → Alters Es → txn_at id (txns_of Es) ≡ Some x → x.state ≡ state.Prepare → IfSome (table_at x.table (tables_of Es)) (λ b. AreRowsOf b.shape b.layout rows) → HappenAll (event.LoadSubmitted (load_now rows at (tables_of Es) (jobs_of Es) x) ∷ []) Es
submits_now Es id rows at x k a f is shaped =
    let same_id : Txn → Bool = λ u. nat_eq u.id id in
    let told = prepare_told x.state x.told (each_found (λ u. Tells u.state u.told) same_id (txns_of Es) x k.tells f) is in
    let known = each_found (λ u. u.told ≡ list_any (nat_eq u.id) (told_ids Es)) same_id (txns_of Es) x k.known f in
    let home = subst (λ (s : TxnState). HomeBy s (table_at x.table (tables_of Es)) (IsHome x.db x.schema)) is (each_found (HasHome (tables_of Es)) same_id (txns_of Es) x k.homes f) in
    let key_is : label_key x ≡ (db_of x.table (tables_of Es), x.label) = ap (λ (z : List ℕ). (z, x.label)) (sym (home_db (table_at x.table (tables_of Es)) x.db x.schema home)) in
    let i : x.id ≡ id = found_id id (txns_of Es) x f in (
      record {
        first = each_found (λ u. 1 ≤ u.id) same_id (txns_of Es) x k.from f;
        from = open_from Es x same_id a f (ap is_open is);
        cancels = record { lives = spoiled_lives (jobs_of Es) x.table (tables_of Es) (table_at x.table (tables_of Es)) rows a.numbers refl; spoils = inr refl };
        below = each_found (λ u. u.id < next_of Es) same_id (txns_of Es) x k.below f;
        new = sym known ∙ told;
        home = there_both (table_at x.table (tables_of Es)) (IsHome x.db x.schema) (λ b. AreRowsOf b.shape b.layout rows) (λ b. (b.schema ≡ x.schema) × AreRowsOf b.shape b.layout rows) (λ b p q. (p.1, q)) home shaped;
        label = each_found (λ u. is_load_label u.id u.label ≡ true) same_id (txns_of Es) x k.labelled f;
        fits = subst (λ (z : List ℕ × List ℕ). Each (LabelFits x.id z) (txns_of Es)) key_is (label_fits id (txns_of Es) x k.ascends k.labels f (λ h. cc (is, h)));
      },
      (x, ap (λ (n : ℕ). txn_at n (txns_of Es)) i ∙ f, refl),
      tt,
    )

pub submit_happens : (Es : List Event) (id : ℕ) (rows : List (List Cell)) (at : ℕ) (o : Option Txn) → Tidy Es → Alters Es → txn_at id (txns_of Es) ≡ o → first_of (submit_refusals at o) ≡ None → IfSome o (λ x. IfSome (table_at x.table (tables_of Es)) (λ b. AreRowsOf b.shape b.layout rows)) → HappenAll (submits rows at (tables_of Es) (jobs_of Es) o) Es
submit_happens Es id rows at None k a f h shaped = tt
submit_happens Es id rows at (Some x) k a f h shaped =
    submits_now Es id rows at x k a f (prepare_is x.state (not_false (is_prepare x.state) (not_refused (not (is_prepare x.state)) (reply.WrongState x.state) (none_first (refuse_if (not (is_prepare x.state)) (reply.WrongState x.state)) _ h).0))) shaped
