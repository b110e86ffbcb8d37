-- Each record of a legal history follows the ones before it.
use Rattle.std.proofs.Common.{suc, map, ◌⊎◌, ◌≡◌, ℕ, ◌+◌, ◌≤◌, ◌<◌, Bool, true, false, cond, not, ◌&&◌, ◌||◌, List, [], ◌∷◌, Option, Some, None, IfSome, inl, inr, refl, sym, ◌∙◌, ap, ap₂, arith, subst, find}
use Rattle.std.proofs.lemmas.Bool.Decides.{nat_tests}
use Rattle.std.proofs.lemmas.Slice.Eq.{bytes_eq-Decides}
use Rattle.std.specs.Prelude.{filter, nat_eq, nat_lt, nat_le, is_some, length}
use Rattle.std.specs.List.{list_any}
use Rattle.labels.specs.declared.txn_state.TxnState.{TxnState}
use Rattle.labels.specs.declared.txn_state.TxnState.TheVariants as state
use Rattle.front_defs.specs.declared.event.Event.{Event}
use Rattle.front_defs.specs.declared.event.Event.TheVariants as event
use Rattle.front_defs.specs.declared.event.LoadSubmitted.{LoadSubmitted}
use Rattle.front_defs.specs.declared.catalogue.Table.{Table}
use Rattle.front_defs.specs.declared.txn.Txn.{Txn}
use Rattle.front_defs.specs.Names.{same}
use Rattle.front_defs.specs.Ids.{range_of, told_ids, range_size}
use Rattle.front_defs.specs.Catalogue.{has_db, table_named, table_at, db_in, db_of, tables_of}
use Rattle.front_defs.specs.Transactions.{is_committed, is_aborted, sweeps, sweeps_told, txn_at, holds, has_lower, place_of, due, txns_of}
use Rattle.partitions.specs.LayoutFaults.{with_part}
use Rattle.partitions.specs.LayoutRules.{IsLayout}
use Rattle.front_defs.specs.Stored.{AreRowsOf}
use Rattle.front_defs.specs.Answer.{most}
use Rattle.front_defs.specs.History.{is_told}
use Rattle.std.specs.Option.{option_map}
use Rattle.dl_values.specs.declared.cell.Cell.{Cell}
use Rattle.row_map.specs.declared.map.RowMap.{RowMap}
use Rattle.row_map.specs.Maps.{is_bad}
use Rattle.alter_core.specs.declared.job.JobInfo.{JobInfo}
use Rattle.alter_core.specs.declared.job.JobState.{JobState}
use Rattle.alter_core.specs.declared.job.JobState.TheVariants as job_state
use Rattle.front_defs.specs.Jobs.{has_live, is_job_over, is_live, is_live_of, is_running, job_at, jobs_of, reopened_job, waits_again}
use Rattle.front_defs.specs.Indexes.{change_maps}
use Rattle.front_defs.specs.Moves.{has_open_below, is_open, watershed_of}
use Rattle.front_defs.specs.Stored.{base_of}
use Rattle.front_defs.specs.Journal.{There, FollowsCommit, FollowsFinish, FollowsJob, FollowsLoad, FollowsWaiting, Follows, HasNoBad, IsLiveJob, hinders, is_load_label, Agrees}
use Rattle.front_laws.specs.Tidy.{Alters, EndsNow, Pairs, Each, Tells, Tidy, LabelFits, label_key, Happens, Fits}
use Rattle.front_laws.proofs.Lists.{each_filter, each_found, each_imp, always, each_both, each_passed, alone}
use Rattle.front_laws.proofs.Commuting as opening
use Rattle.front_laws.proofs.Tidying.{due_is, due_found, and_left}
use Rattle.front_laws.proofs.Keeping.{found_told, told_precommitted, told_committed}

pub some_is : {X : Type 0} (o : Option X) (w : X) (P : X → Type 0) → o ≡ Some w → P w → IfSome o P
some_is None w P e h = absurd (cc)
some_is (Some x) w P e h = let i : w ≡ x = cc in subst P i h

pub or_false : (a b : Bool) → (a || b) ≡ false → (a ≡ false) × (b ≡ false)
or_false true b h = absurd (cc)
or_false false b h = (refl, h)

-- what holds of the job of a number holds of each of that number
pub each_job : (P : JobInfo → Type 0) (number : ℕ) (js : List JobInfo) (w : JobInfo) → Pairs (λ (a b : JobInfo). a.job < b.job) js → job_at number js ≡ Some w → P w → Each (λ (j : JobInfo). j.job ≡ number → P j) js
each_job P number [] w p f h = tt
each_job P number (j ∷ js) w p f h = go (nat_eq j.job number) refl f (λ k. each_job P number js w p.1 k h)
  where
    go : (b : Bool) → nat_eq j.job number ≡ b → cond b (Some j) (job_at number js) ≡ Some w → (job_at number js ≡ Some w → Each (λ (x : JobInfo). x.job ≡ number → P x) js) → Each (λ (x : JobInfo). x.job ≡ number → P x) (j ∷ js)
    go true e k r =
        let i : w ≡ j = cc in
        let n : j.job ≡ number = grind (arith, nat_tests) in
        ((λ _. subst P i h), each_imp (λ (x : JobInfo). j.job < x.job) (λ (x : JobInfo). x.job ≡ number → P x) (λ x lt m. absurd (omega (arith, lt, m, n))) js p.0)
    go false e k r = ((λ m. absurd (let z : nat_eq j.job number ≡ true = grind (arith, nat_tests) in cc (z, e))), r k)

pub fits_on : (Es : List Event) (e : Event) → Tidy Es → Alters Es → Happens Es e → Fits e (txns_of Es) (jobs_of Es)
fits_on Es (event.LoadPublished p) t a h =
    let found = subst (λ (n : ℕ). txn_at n (txns_of Es) ≡ Some h.0) h.2 (due_found Es h.0 t h.1) in
    some_is (txn_at p.txn (txns_of Es)) h.0 (λ u. u.told ≡ true) found (found_told Es p.txn h.0 state.Committed t found (due_is (txns_of Es) h.0 h.1) told_committed)
fits_on Es (event.TxnEnded x) t a h = alone x.txn (λ u. u.told) (txns_of Es) h.0 t.ascends h.1 h.2
fits_on Es (event.DbMade d) t a h = tt
fits_on Es (event.TableMade m) t a h = tt
fits_on Es (event.RangeDrawn r) t a h = tt
fits_on Es (event.TxnBegun b) t a h = tt
fits_on Es (event.LoadSubmitted s) t a h = tt
fits_on Es (event.TxnAborted x) t a h = tt
fits_on Es (event.PartAdded x) t a h = tt
fits_on Es (event.TableDropped d) t a h = tt
fits_on Es (event.LoadCommitted c) t a h = tt
fits_on Es (event.Swept s) t a h = tt
fits_on Es (event.SweptUntold s) t a h = h
fits_on Es (event.Compacted c) t a h = tt
fits_on Es event.Opened t a h = tt
fits_on Es (event.JobAdded x) t a h = tt
fits_on Es (event.JobWaiting x) t a h = tt
fits_on Es (event.WatershedDrawn x) t a h = tt
fits_on Es (event.JobRan r) t a h = each_job (λ (j : JobInfo). j.state ≡ job_state.WaitingTxn) r.job (jobs_of Es) h.0 a.numbers h.1 h.2.waits
fits_on Es (event.TaskTaken x) t a h = tt
fits_on Es (event.TaskGiven x) t a h = tt
fits_on Es (event.JobFinished x) t a h = tt
fits_on Es (event.JobCancelled x) t a h = tt

-- tests and filters
pub none_any : {X : Type 0} (q : X → Bool) (xs : List X) → Each (λ x. q x ≡ false) xs → list_any q xs ≡ false
none_any q [] e = refl
none_any q (x ∷ xs) e = rw (e.0) (none_any q xs e.1)

pub any_none : {X : Type 0} (q : X → Bool) (xs : List X) → list_any q xs ≡ false → Each (λ x. q x ≡ false) xs
any_none q [] h = tt
any_none q (x ∷ xs) h = let p = or_false (q x) (list_any q xs) h in (p.0, any_none q xs p.1)

any_cons : {X : Type 0} (p q : X → Bool) (x : X) (xs : List X) (b c : Bool) → p x ≡ b → q x ≡ c → (c ≡ true → b ≡ true) → list_any q (filter p xs) ≡ list_any q xs → list_any q (cond b (x ∷ filter p xs) (filter p xs)) ≡ (c || list_any q xs)
any_cons p q x xs true c e f k h = rw f (ap (λ (d : Bool). c || d) h)
any_cons p q x xs false true e f k h = absurd (let z = k refl in cc (z))
any_cons p q x xs false false e f k h = h

any_kept : {X : Type 0} (p q : X → Bool) (xs : List X) → Each (λ x. q x ≡ true → p x ≡ true) xs → list_any q (filter p xs) ≡ list_any q xs
any_kept p q [] e = refl
any_kept p q (x ∷ xs) e = any_cons p q x xs (p x) (q x) refl refl e.0 (any_kept p q xs e.1)

find_cons : {X : Type 0} (p q : X → Bool) (x : X) (xs : List X) (b c : Bool) → p x ≡ b → q x ≡ c → (c ≡ true → b ≡ true) → find q (filter p xs) ≡ find q xs → find q (cond b (x ∷ filter p xs) (filter p xs)) ≡ cond c (Some x) (find q xs)
find_cons p q x xs true c e f k h = rw f (ap (λ (o : Option _). cond c (Some x) o) h)
find_cons p q x xs false true e f k h = absurd (let z = k refl in cc (z))
find_cons p q x xs false false e f k h = h

find_kept : {X : Type 0} (p q : X → Bool) (xs : List X) → Each (λ x. q x ≡ true → p x ≡ true) xs → find q (filter p xs) ≡ find q xs
find_kept p q [] e = refl
find_kept p q (x ∷ xs) e = find_cons p q x xs (p x) (q x) refl refl e.0 (find_kept p q xs e.1)

find_same : {X : Type 0} (q r : X → Bool) (k : (x : X) → q x ≡ r x) (xs : List X) → find q xs ≡ find r xs
find_same q r k [] = refl
find_same q r k (x ∷ xs) = rw (k x) (ap (λ (o : Option _). cond (r x) (Some x) o) (find_same q r k xs))

committed_told : (s : TxnState) (b : Bool) → Tells s b → is_committed s ≡ true → b ≡ true
committed_told state.Committed b h e = h
committed_told state.Prepare b h e = absurd (cc)
committed_told state.Precommitted b h e = absurd (cc)
committed_told state.Visible b h e = absurd (cc)
committed_told state.Aborted b h e = absurd (cc)

-- the load that is due is the same among those that were told
due_same : (ts : List Txn) → Each (λ t. Tells t.state t.told) ts → due (filter (λ t. t.told) ts) ≡ due ts
due_same ts e =
    let told : Txn → Bool = λ t. t.told in
    find_kept told (λ t. is_committed t.state && not (has_lower (filter told ts) (place_of t))) ts (each_imp (λ t. Tells t.state t.told) (λ t. (is_committed t.state && not (has_lower (filter told ts) (place_of t))) ≡ true → t.told ≡ true) (λ t h k. committed_told t.state t.told h (and_left (is_committed t.state) (not (has_lower (filter told ts) (place_of t))) k)) ts e)
    ∙ find_same (λ t. is_committed t.state && not (has_lower (filter told ts) (place_of t))) (λ t. is_committed t.state && not (has_lower ts (place_of t)))
    (λ t. ap (λ (b : Bool). is_committed t.state && not b) (any_kept told (λ u. is_committed u.state && nat_lt (place_of u) (place_of t)) ts (each_imp (λ u. Tells u.state u.told) (λ u. (is_committed u.state && nat_lt (place_of u) (place_of t)) ≡ true → u.told ≡ true) (λ u h k. committed_told u.state u.told h (and_left (is_committed u.state) (nat_lt (place_of u) (place_of t)) k)) ts e))) ts

aborted_or : (id : ℕ) (u : Txn) → (u.id < id) → u.state ≡ state.Aborted → (nat_lt id u.id || not (is_aborted u.state)) ≡ false
aborted_or id u lt e = let n : nat_lt id u.id ≡ false = grind (arith, nat_tests) in rw (n, e) refl

pub held_key : (db label : List ℕ) (u : Txn) → holds db label u ≡ true → label_key u ≡ (db, label)
held_key db label u h =
    let p : (same u.db db ≡ true) × (same u.label label ≡ true) = both (same u.db db) (same u.label label) h in
    ap₂ (λ (a : List ℕ) (b : List ℕ). (a, b)) ((bytes_eq-Decides u.db db).0 p.0) ((bytes_eq-Decides u.label label).0 p.1)
  where
    both : (a b : Bool) → (a && b) ≡ true → (a ≡ true) × (b ≡ true)
    both true b h = (refl, h)
    both false b h = absurd (cc)

pub key_held : (db label : List ℕ) (u : Txn) → label_key u ≡ (db, label) → holds db label u ≡ true
key_held db label u h =
    let a : same u.db db ≡ true = (bytes_eq-Decides u.db db).1 (ap (λ (x : List ℕ × List ℕ). x.0) h) in
    let b : same u.label label ≡ true = (bytes_eq-Decides u.label label).1 (ap (λ (x : List ℕ × List ℕ). x.1) h) in
    rw (a, b) refl

not_used : (id : ℕ) (db label : List ℕ) (u : Txn) (ids : List ℕ) (b : Bool) → holds db label u ≡ b → u.told ≡ list_any (nat_eq u.id) ids → list_any (nat_eq id) ids ≡ false → LabelFits id (db, label) u → u.told ≡ true → (b && (nat_lt id u.id || not (is_aborted u.state))) ≡ false
not_used id db label u ids false e known new fits told = refl
not_used id db label u ids true e known new fits told =
    elim (fits (held_key db label u e)) [
      | inl i ↦ absurd (let z : list_any (nat_eq u.id) ids ≡ false = ap (λ (n : ℕ). list_any (nat_eq n) ids) i ∙ new in cc (z, known, told))
      | inr k ↦ aborted_or id u k.0 k.1
    ]

told_label : (id : ℕ) (db label : List ℕ) (ts : List Txn) (ids : List ℕ) → Each (λ u. u.told ≡ list_any (nat_eq u.id) ids) ts → list_any (nat_eq id) ids ≡ false → Each (LabelFits id (db, label)) ts → list_any (hinders id db label) (filter (λ u. u.told) ts) ≡ false
told_label id db label ts ids known new fits =
    none_any (hinders id db label) (filter (λ u. u.told) ts)
    (each_passed (λ u. hinders id db label u ≡ false) (λ u. u.told) ts
    (each_imp (λ u. (u.told ≡ list_any (nat_eq u.id) ids) × LabelFits id (db, label) u) (λ u. u.told ≡ true → hinders id db label u ≡ false)
    (λ u h told. not_used id db label u ids (holds db label u) refl h.0 new h.1 told) ts (each_both (λ u. u.told ≡ list_any (nat_eq u.id) ids) (LabelFits id (db, label)) ts known fits)))

pub match_is : {X : Type 0} (o : Option X) (w : X) (P : X → Type 0) → o ≡ Some w → P w → There o P
match_is None w P e h = absurd (cc)
match_is (Some x) w P e h = let i : w ≡ x = cc in subst P i h

in_told : (Es : List Event) (id : ℕ) (w : Txn) → Tidy Es → txn_at id (txns_of Es) ≡ Some w → w.state ≡ state.Precommitted → There (txn_at id (filter (λ t. t.told) (txns_of Es))) (λ t. t.state ≡ state.Precommitted)
in_told Es id w t f is =
    let told = found_told Es id w state.Precommitted t f is told_precommitted in
    match_is (txn_at id (filter (λ x. x.told) (txns_of Es))) w (λ x. x.state ≡ state.Precommitted)
    (sym (opening.found_told id (txns_of Es) (some_is (txn_at id (txns_of Es)) w (λ u. u.told ≡ true) f told)) ∙ f) is

load_follows : (Gs : List Event) (s : LoadSubmitted) (o : Option Table) → There o (λ b. (b.schema ≡ s.schema) × AreRowsOf b.shape b.layout s.rows) → 1 ≤ s.txn → s.txn ≤ range_of Gs → list_any (nat_eq s.txn) (told_ids Gs) ≡ false → is_load_label s.txn s.label ≡ true → list_any (hinders s.txn (db_in o) s.label) (txns_of Gs) ≡ false → IfSome s.cancelled (IsLiveJob (jobs_of Gs) s.table) → There o (FollowsLoad Gs s)
load_follows Gs s None h from within new label free c = h
load_follows Gs s (Some b) h from within new label free c = record { cancels = c; from = from; within = within; new = new; label = label; free = free; schema = sym h.0; rows = h.1 }

-- Jobs after an opening.
live_reopened : (table : ℕ) (js : List JobInfo) → has_live table (map reopened_job js) ≡ has_live table js
live_reopened table [] = refl
live_reopened table (j ∷ js) = ap (λ (b : Bool). (nat_eq j.table table && b) || has_live table (map reopened_job js)) (opening.live_again j.state) ∙ ap (λ (b : Bool). is_live_of table j || b) (live_reopened table js)

over_reopened : (at : ℕ) (js : List JobInfo) → list_any (is_job_over at) (map reopened_job js) ≡ list_any (is_job_over at) js
over_reopened at [] = refl
over_reopened at (j ∷ js) = ap (λ (b : Bool). (not b && nat_le (j.since + 259200) at) || list_any (is_job_over at) (map reopened_job js)) (opening.live_again j.state) ∙ ap (λ (b : Bool). is_job_over at j || b) (over_reopened at js)

as_many : (js : List JobInfo) → length (map reopened_job js) ≡ length js
as_many [] = refl
as_many (j ∷ js) = let k = as_many js in ap suc k

there_job : (number : ℕ) (js : List JobInfo) (j : JobInfo) (P : JobInfo → Type 0) → job_at number js ≡ Some j → P (reopened_job j) → There (job_at number (map reopened_job js)) P
there_job number js j P f h = match_is (job_at number (map reopened_job js)) (reopened_job j) P (opening.job_reopened number js ∙ ap (option_map reopened_job) f) h

found_job : {X : Type 0} (o : Option X) (P : X → Type 0) → There o P → (x : X) × (o ≡ Some x) × P x
found_job None P h = absurd h
found_job (Some x) P h = (x, refl, h)

lives_reopened : (js : List JobInfo) (table : ℕ) (o : Option ℕ) → IfSome o (IsLiveJob js table) → IfSome o (IsLiveJob (map reopened_job js) table)
lives_reopened js table None h = tt
lives_reopened js table (Some n) h =
    let k = found_job (job_at n js) (λ (j : JobInfo). is_live_of table j ≡ true) h in
    there_job n js k.0 (λ (j : JobInfo). is_live_of table j ≡ true) k.1 (ap (λ (b : Bool). nat_eq (k.0).table table && b) (opening.live_again (k.0).state) ∙ k.2)

none_open : (w : ℕ) (ts : List Txn) → has_open_below w ts ≡ false → has_open_below w (filter (λ t. t.told) ts) ≡ false
none_open w ts h = none_any (λ u. is_open u.state && nat_lt u.id w) (filter (λ t. t.told) ts) (each_filter (λ u. (is_open u.state && nat_lt u.id w) ≡ false) (λ t. t.told) ts (any_none (λ u. is_open u.state && nat_lt u.id w) ts h))

less_bad : (ms : List RowMap) (base : List (List Cell)) (n : ℕ) (ts : List Txn) → list_any (λ (m : RowMap). is_bad m base || list_any (λ u. is_committed u.state && nat_eq u.table n && is_bad m u.rows) ts) ms ≡ false → list_any (λ (m : RowMap). is_bad m base || list_any (λ u. is_committed u.state && nat_eq u.table n && is_bad m u.rows) (filter (λ t. t.told) ts)) ms ≡ false
less_bad ms base n ts h =
    none_any (λ (m : RowMap). is_bad m base || list_any (λ u. is_committed u.state && nat_eq u.table n && is_bad m u.rows) (filter (λ t. t.told) ts)) ms
    (each_imp (λ (m : RowMap). (is_bad m base || list_any (λ u. is_committed u.state && nat_eq u.table n && is_bad m u.rows) ts) ≡ false) (λ (m : RowMap). (is_bad m base || list_any (λ u. is_committed u.state && nat_eq u.table n && is_bad m u.rows) (filter (λ t. t.told) ts)) ≡ false) one ms
    (any_none (λ (m : RowMap). is_bad m base || list_any (λ u. is_committed u.state && nat_eq u.table n && is_bad m u.rows) ts) ms h))
  where
    one : (m : RowMap) → (is_bad m base || list_any (λ u. is_committed u.state && nat_eq u.table n && is_bad m u.rows) ts) ≡ false → (is_bad m base || list_any (λ u. is_committed u.state && nat_eq u.table n && is_bad m u.rows) (filter (λ t. t.told) ts)) ≡ false
    one m k =
        let p = or_false (is_bad m base) (list_any (λ u. is_committed u.state && nat_eq u.table n && is_bad m u.rows) ts) k in
        rw (p.0) (none_any (λ u. is_committed u.state && nat_eq u.table n && is_bad m u.rows) (filter (λ t. t.told) ts) (each_filter (λ u. (is_committed u.state && nat_eq u.table n && is_bad m u.rows) ≡ false) (λ t. t.told) ts (any_none (λ u. is_committed u.state && nat_eq u.table n && is_bad m u.rows) ts p.1)))

there_less : (o : Option Table) (j : JobInfo) (base : List (List Cell)) (ts : List Txn) → There o (HasNoBad j base ts) → There o (HasNoBad (reopened_job j) base (filter (λ t. t.told) ts))
there_less None j base ts h = h
there_less (Some t) j base ts h = less_bad (change_maps j.change t) base t.number ts h

-- where the tasks of a running job were given their rows, no row is bad for it
abbrev pub Ends : List Event → Type 0
Ends Es = (j : JobInfo) → job_at j.job (jobs_of Es) ≡ Some j → EndsNow Es j → There (table_at j.table (tables_of Es)) (HasNoBad j (base_of Es j.table) (txns_of Es))

running_is : (s : JobState) → is_running s ≡ true → s ≡ job_state.Running
running_is job_state.Running h = refl
running_is job_state.Pending h = absurd (cc)
running_is job_state.WaitingTxn h = absurd (cc)
running_is job_state.Finished h = absurd (cc)
running_is job_state.Cancelled h = absurd (cc)

job_number : (number : ℕ) (js : List JobInfo) (j : JobInfo) → job_at number js ≡ Some j → j.job ≡ number
job_number number js j f = go (passes_job (λ (x : JobInfo). nat_eq x.job number) js j f)
  where
    passes_job : (p : JobInfo → Bool) (xs : List JobInfo) (y : JobInfo) → find p xs ≡ Some y → p y ≡ true
    passes_job p [] y e = absurd (cc)
    passes_job p (x ∷ xs) y e = here (p x) refl (passes_job p xs y) e
      where
        here : (b : Bool) → p x ≡ b → (find p xs ≡ Some y → p y ≡ true) → cond b (Some x) (find p xs) ≡ Some y → p y ≡ true
        here true is k e = let i : x ≡ y = cc in subst (λ z. p z ≡ true) i is
        here false is k e = k e

    go : nat_eq j.job number ≡ true → j.job ≡ number
    go e = grind (arith, nat_tests)

finish_follows : (Es : List Event) (number : ℕ) (j : JobInfo) → Alters Es → Ends Es → job_at number (jobs_of Es) ≡ Some j → EndsNow Es j ⊎ FollowsFinish Es j → FollowsFinish (event.Opened ∷ Es) (reopened_job j)
finish_follows Es number j a ends f (inl h) =
    let n = job_number number (jobs_of Es) j f in
    record {
      waits = ap waits_again (running_is j.state h.runs);
      ended = none_open (watershed_of j) (txns_of Es) (each_found (λ (x : JobInfo). is_running x.state ≡ true → has_open_below (watershed_of x) (txns_of Es) ≡ false) (λ (x : JobInfo). nat_eq x.job number) (jobs_of Es) j a.settled f h.runs);
      converts = there_less (table_at j.table (tables_of Es)) j (base_of Es j.table) (txns_of Es) (ends j (subst (λ (k : ℕ). job_at k (jobs_of Es) ≡ Some j) (sym n) f) h);
    }
finish_follows Es number j a ends f (inr h) = record {
  waits = ap waits_again h.waits;
  ended = none_open (watershed_of j) (txns_of Es) h.ended;
  converts = there_less (table_at j.table (tables_of Es)) j (base_of Es j.table) (txns_of Es) h.converts;
}

commit_told : (Es : List Event) (id : ℕ) (o : Option ℕ) (w : Txn) → Tidy Es → txn_at id (txns_of Es) ≡ Some w → w.state ≡ state.Precommitted → IfSome o (IsLiveJob (jobs_of Es) w.table) → There (txn_at id (filter (λ t. t.told) (txns_of Es))) (FollowsCommit (event.Opened ∷ Es) o)
commit_told Es id o w t f is lives =
    let told = found_told Es id w state.Precommitted t f is told_precommitted in
    match_is (txn_at id (filter (λ x. x.told) (txns_of Es))) w (FollowsCommit (event.Opened ∷ Es) o)
    (sym (opening.found_told id (txns_of Es) (some_is (txn_at id (txns_of Es)) w (λ u. u.told ≡ true) f told)) ∙ f) (record { waits = is; cancels = lives_reopened (jobs_of Es) w.table o lives })

swept_told : (Es : List Event) (at : ℕ) → list_any (sweeps_told at) (filter (λ t. t.told) (txns_of Es)) ≡ list_any (sweeps_told at) (txns_of Es) → (list_any (sweeps_told at) (txns_of Es) || list_any (is_job_over at) (jobs_of Es)) ≡ true → (list_any (sweeps_told at) (filter (λ t. t.told) (txns_of Es)) || list_any (is_job_over at) (map reopened_job (jobs_of Es))) ≡ true
swept_told Es at e h = ap (λ (b : Bool). b || list_any (is_job_over at) (map reopened_job (jobs_of Es))) e ∙ ap (λ (b : Bool). list_any (sweeps_told at) (txns_of Es) || b) (over_reopened at (jobs_of Es)) ∙ h

-- What may come follows what an opening leaves.
pub follows_on : (Es : List Event) (e : Event) → is_told e ≡ true → Tidy Es → Alters Es → Ends Es → Happens Es e → Follows (event.Opened ∷ Es) e
follows_on Es (event.DbMade d) told t a n h = record { named = h.named; new = h.new; room = h.room }
follows_on Es (event.TableMade m) told t a n h = record { known = h.known; named = h.named; new = h.new; room = h.room; shape = h.shape; layout = h.layout }
follows_on Es (event.RangeDrawn r) told t a n h = h
follows_on Es (event.TxnBegun b) told t a n h = absurd (cc)
follows_on Es (event.LoadSubmitted s) told t a n h =
    load_follows (event.Opened ∷ Es) s (table_at s.table (tables_of Es)) h.home h.first (let k = h.below in let w = t.within in omega (arith, k, w)) h.new h.label
    (told_label s.txn (db_of s.table (tables_of Es)) s.label (txns_of Es) (told_ids Es) t.known h.new h.fits) (lives_reopened (jobs_of Es) s.table s.cancelled h.cancels.lives)
follows_on Es (event.TxnAborted x) told t a n h = in_told Es x.txn h.0 t h.1 h.2
follows_on Es (event.LoadPublished p) told t a n h = match_is (due (filter (λ x. x.told) (txns_of Es))) h.0 (λ x. x.id ≡ p.txn) (due_same (txns_of Es) t.tells ∙ h.1) h.2
follows_on Es (event.PartAdded x) told t a n h = (live_reopened x.table (jobs_of Es) ∙ h.0, match_is (table_at x.table (tables_of Es)) h.1.0 (λ b. IsLayout b.shape (with_part x.part b.layout)) h.1.1 h.1.2)
follows_on Es (event.TableDropped d) told t a n h = match_is (table_at d.table (tables_of Es)) h.0 (λ b. Unit {0}) h.1 tt
follows_on Es (event.LoadCommitted c) told t a n h = commit_told Es c.txn c.cancelled h.0 t h.1 h.2.0 h.2.1.lives
follows_on Es (event.Swept s) told t a n h = swept_told Es s.at (any_kept (λ u. u.told) (sweeps_told s.at) (txns_of Es) (always (λ u. sweeps_told s.at u ≡ true → u.told ≡ true) (txns_of Es) (λ u k. and_left u.told (sweeps s.at u) k))) h
follows_on Es (event.SweptUntold s) told t a n h = absurd (cc)
follows_on Es (event.TxnEnded x) told t a n h = absurd (cc)
follows_on Es (event.Compacted c) told t a n h = absurd (cc)
follows_on Es event.Opened told t a n h = absurd (cc)
follows_on Es (event.JobAdded x) told t a n h = match_is (table_at x.table (tables_of Es)) h.0 (FollowsJob (event.Opened ∷ Es) x) h.1 (record { number = h.2.number; free = live_reopened x.table (jobs_of Es) ∙ h.2.free; room = ap (λ (k : ℕ). nat_le most k) (as_many (jobs_of Es)) ∙ h.2.room; change = h.2.change })
follows_on Es (event.JobWaiting x) told t a n h = there_job x.job (jobs_of Es) h.0 (FollowsWaiting (event.Opened ∷ Es) x) h.1 (record { first = let f = h.2.fresh in omega (arith, f); pending = ap waits_again h.2.pending; within = h.2.within; above = h.2.above; upto = h.2.upto })
follows_on Es (event.WatershedDrawn x) told t a n h = absurd (cc)
follows_on Es (event.JobRan x) told t a n h = absurd (cc)
follows_on Es (event.TaskTaken x) told t a n h = absurd (cc)
follows_on Es (event.TaskGiven x) told t a n h = absurd (cc)
follows_on Es (event.JobFinished x) told t a n h = there_job x.job (jobs_of Es) h.0 (FollowsFinish (event.Opened ∷ Es)) h.1 (finish_follows Es x.job h.0 a n h.1 h.2)
follows_on Es (event.JobCancelled x) told t a n h = there_job x.job (jobs_of Es) h.0 (λ (j : JobInfo). is_live j.state ≡ true) h.1 (opening.live_again (h.0).state ∙ h.2)

load_same : (Gs Js : List Event) (s : LoadSubmitted) (b : Table) → Agrees Gs Js → FollowsLoad Gs s b → FollowsLoad Js s b
load_same Gs Js s b a h = record {
  from = h.from;
  cancels = subst (λ (l : List JobInfo). IfSome s.cancelled (IsLiveJob l s.table)) a.jobs h.cancels;
  within = subst (λ (n : ℕ). s.txn ≤ n) a.range h.within;
  new = subst (λ (l : List ℕ). list_any (nat_eq s.txn) l ≡ false) a.told h.new;
  label = h.label;
  free = subst (λ (l : List Txn). list_any (hinders s.txn b.db s.label) l ≡ false) a.txns h.free;
  schema = h.schema;
  rows = h.rows;
}

pub there_imp : {X : Type 0} (o : Option X) (P Q : X → Type 0) → ((x : X) → P x → Q x) → There o P → There o Q
there_imp None P Q k h = h
there_imp (Some x) P Q k h = k x h

-- and what agrees with it
pub follows_same : (Gs Js : List Event) (e : Event) → Agrees Gs Js → Follows Gs e → Follows Js e
follows_same Gs Js (event.DbMade d) a h = record { named = h.named; new = subst (λ (l : List (List ℕ)). has_db d.name l ≡ false) a.databases h.new; room = subst (λ (l : List (List ℕ)). nat_le most (length l) ≡ false) a.databases h.room }
follows_same Gs Js (event.TableMade m) a h = record {
  known = subst (λ (l : List (List ℕ)). has_db m.db l ≡ true) a.databases h.known;
  named = h.named;
  new = subst (λ (l : List Table). is_some (table_named m.db m.name l) ≡ false) a.tables h.new;
  room = subst (λ (l : List Table). nat_le most (length l) ≡ false) a.tables h.room;
  shape = h.shape;
  layout = h.layout;
}
follows_same Gs Js (event.RangeDrawn r) a h = subst (λ (n : ℕ). r.upto ≡ n + range_size) a.range h
follows_same Gs Js (event.TxnBegun b) a h = h
follows_same Gs Js (event.LoadSubmitted s) a h = there_imp (table_at s.table (tables_of Js)) (FollowsLoad Gs s) (FollowsLoad Js s) (λ b k. load_same Gs Js s b a k) (subst (λ (l : List Table). There (table_at s.table l) (FollowsLoad Gs s)) a.tables h)
follows_same Gs Js (event.TxnAborted x) a h = subst (λ (l : List Txn). There (txn_at x.txn l) (λ t. t.state ≡ state.Precommitted)) a.txns h
follows_same Gs Js (event.LoadPublished p) a h = subst (λ (l : List Txn). There (due l) (λ t. t.id ≡ p.txn)) a.txns h
follows_same Gs Js (event.PartAdded x) a h = (ap (has_live x.table) (sym a.jobs) ∙ h.0, subst (λ (l : List Table). There (table_at x.table l) (λ b. IsLayout b.shape (with_part x.part b.layout))) a.tables h.1)
follows_same Gs Js (event.TableDropped d) a h = subst (λ (l : List Table). There (table_at d.table l) (λ b. Unit {0})) a.tables h
follows_same Gs Js (event.LoadCommitted c) a h = there_imp (txn_at c.txn (txns_of Js)) (FollowsCommit Gs c.cancelled) (FollowsCommit Js c.cancelled) (λ t k. record { waits = k.waits; cancels = subst (λ (l : List JobInfo). IfSome c.cancelled (IsLiveJob l t.table)) a.jobs k.cancels }) (subst (λ (l : List Txn). There (txn_at c.txn l) (FollowsCommit Gs c.cancelled)) a.txns h)
follows_same Gs Js (event.Swept s) a h = subst (λ (l : List JobInfo). (list_any (sweeps_told s.at) (txns_of Js) || list_any (is_job_over s.at) l) ≡ true) a.jobs (subst (λ (l : List Txn). (list_any (sweeps_told s.at) l || list_any (is_job_over s.at) (jobs_of Gs)) ≡ true) a.txns h)
follows_same Gs Js (event.SweptUntold s) a h = h
follows_same Gs Js (event.TxnEnded x) a h = h
follows_same Gs Js (event.Compacted c) a h = h
follows_same Gs Js event.Opened a h = h
follows_same Gs Js (event.JobAdded x) a h = there_imp (table_at x.table (tables_of Js)) (FollowsJob Gs x) (FollowsJob Js x) (λ t k. record { number = k.number ∙ ap (λ (n : ℕ). n + 1) a.last_job; free = subst (λ (l : List JobInfo). has_live x.table l ≡ false) a.jobs k.free; room = subst (λ (l : List JobInfo). nat_le most (length l) ≡ false) a.jobs k.room; change = k.change }) (subst (λ (l : List Table). There (table_at x.table l) (FollowsJob Gs x)) a.tables h)
follows_same Gs Js (event.JobWaiting x) a h = there_imp (job_at x.job (jobs_of Js)) (FollowsWaiting Gs x) (FollowsWaiting Js x) (λ j k. record { first = k.first; pending = k.pending; within = k.within; above = subst (λ (l : List ℕ). list_any (nat_le x.watershed) l ≡ false) a.told k.above; upto = subst (λ (n : ℕ). (x.upto ≡ n) ⊎ (x.upto ≡ n + range_size)) a.range k.upto }) (subst (λ (l : List JobInfo). There (job_at x.job l) (FollowsWaiting Gs x)) a.jobs h)
follows_same Gs Js (event.JobFinished x) a h = there_imp (job_at x.job (jobs_of Js)) (FollowsFinish Gs) (FollowsFinish Js) (λ j k. record { waits = k.waits; ended = subst (λ (l : List Txn). has_open_below (watershed_of j) l ≡ false) a.txns k.ended; converts = subst (λ (l : List Txn). There (table_at j.table (tables_of Js)) (HasNoBad j (base_of Js j.table) l)) a.txns (subst (λ (b : List (List Cell)). There (table_at j.table (tables_of Js)) (HasNoBad j b (txns_of Gs))) (a.base j.table) (subst (λ (l : List Table). There (table_at j.table l) (HasNoBad j (base_of Gs j.table) (txns_of Gs))) a.tables k.converts)) }) (subst (λ (l : List JobInfo). There (job_at x.job l) (FollowsFinish Gs)) a.jobs h)
follows_same Gs Js (event.JobCancelled x) a h = subst (λ (l : List JobInfo). There (job_at x.job l) (λ (j : JobInfo). is_live j.state ≡ true)) a.jobs h
follows_same Gs Js (event.WatershedDrawn x) a h = h
follows_same Gs Js (event.JobRan x) a h = h
follows_same Gs Js (event.TaskTaken x) a h = h
follows_same Gs Js (event.TaskGiven x) a h = h
