-- What holds of the transactions of every legal history holds after one event more.
use Rattle.std.proofs.Common.{◌≡◌, ℕ, ◌+◌, ◌<◌, ◌≤◌, Bool, true, false, cond, not, ◌&&◌, List, [], ◌∷◌, ◌++◌, Option, Some, None, IfSome, ◌⊎◌, inl, inr, map, refl, sym, ap, arith, subst, find}
use Rattle.std.proofs.lemmas.Bool.Decides.{nat_tests}
use Rattle.std.specs.Prelude.{filter, nat_eq}
use Rattle.std.specs.List.{list_any}
use Rattle.labels.specs.declared.txn_state.TxnState.{TxnState}
use Rattle.labels.specs.declared.txn_state.TxnState.TheVariants as state
use Rattle.front_defs.specs.declared.event.Event.{Event}
use Rattle.front_defs.specs.declared.event.Event.TheVariants as event
use Rattle.front_defs.specs.declared.catalogue.Table.{Table}
use Rattle.front_defs.specs.declared.txn.Txn.{Txn}
use Rattle.front_defs.specs.Ids.{range_of, next_of, told_ids, range_size}
use Rattle.alter_core.specs.declared.job.Change.{Change}
use Rattle.alter_core.specs.declared.job.Change.TheVariants as change
use Rattle.alter_core.specs.declared.job.JobInfo.{JobInfo}
use Rattle.front_defs.specs.declared.catalogue.Rollup.{Rollup}
use Rattle.front_defs.specs.Jobs.{job_at, jobs_of}
use Rattle.front_defs.specs.Catalogue.{finished_in, with_change, table_at, db_of, tables_of, last_table_of, new_table, part_added}
use Rattle.front_defs.specs.Transactions.{is_committed, txn_at, txns_of, changed, begun_txn, submitted_txn, aborted_at, visible_at, committed_at, dropped, dropped_at, dropped_state, is_expired, is_over, sweep, swept_at, places_of, place_of, has_lower, due}
use Rattle.std.specs.Option.{option_map}
use Rattle.partitions.specs.LayoutFaults.{with_part}
use Rattle.partitions.specs.LayoutRules.{IsLayout}
use Rattle.front_defs.specs.Stored.{AreRowsOf}
use Rattle.front_defs.specs.Journal.{There, is_load_label}
use Rattle.front_laws.specs.Tidy.{Each, Tells, label_key, OlderIsAborted, IsHome, HomeBy, HasHome, Tidy, Happens}
use Rattle.front_laws.proofs.Lists.{each_imp, always, each_filter, each_map, each_snoc, each_both, each_put, each_at, pairs_filter, pairs_map, pairs_snoc, at_found, eq_is}
use Rattle.front_laws.proofs.Keeping.{Parts, parts_of, Keeps, settled, home_settled, home_imp, committed_keeps, visible_keeps, all_changed, one_changed, abort_parts, filter_parts, put_parts, none_told, tidy_of, used_map, used_changed, there_used, made_apart, found_map, each_table, part_number, part_homes, dropped_home}

-- a load of a dropped table, by its state
dropped_tells : (s : TxnState) (told : Bool) → Tells s told → Tells (dropped_state s) told
dropped_tells state.Prepare told h = tt
dropped_tells state.Precommitted told h = tt
dropped_tells state.Committed told h = h
dropped_tells state.Visible told h = h
dropped_tells state.Aborted told h = h

dropped_settled : (s : TxnState) (o : Option Table) (P : Table → Type 0) → HomeBy s o P → HomeBy (dropped_state s) o P
dropped_settled state.Prepare o P h = settled state.Prepare o P h
dropped_settled state.Precommitted o P h = settled state.Precommitted o P h
dropped_settled state.Committed o P h = h
dropped_settled state.Visible o P h = h
dropped_settled state.Aborted o P h = h

dropped_keeps : (table at : ℕ) → Keeps (dropped table at)
dropped_keeps table at = record {
  id = λ t. elim (nat_eq t.table table) as (λ b. (cond b (dropped_at at t) t).id ≡ t.id) [ true ↦ refl | false ↦ refl ];
  key = λ t. elim (nat_eq t.table table) as (λ b. label_key (cond b (dropped_at at t) t) ≡ label_key t) [ true ↦ refl | false ↦ refl ];
  told = λ t. elim (nat_eq t.table table) as (λ b. (cond b (dropped_at at t) t).told ≡ t.told) [ true ↦ refl | false ↦ refl ];
  home = λ tables t h. elim (nat_eq t.table table) as (λ b. HasHome tables (cond b (dropped_at at t) t)) [ true ↦ dropped_settled t.state (table_at t.table tables) (IsHome t.db t.schema) h | false ↦ h ];
  labelled = λ t h. elim (nat_eq t.table table) as (λ b. is_load_label (cond b (dropped_at at t) t).id (cond b (dropped_at at t) t).label ≡ true) [ true ↦ h | false ↦ h ];
}

dropped_parts : (ts : List Txn) (ids : List ℕ) (next : ℕ) (tables : List Table) (table at : ℕ) → Parts ts ids next tables → Parts (map (dropped table at) ts) ids next tables
dropped_parts ts ids next tables table at p =
    all_changed ts ids next tables (dropped table at) (dropped_keeps table at) p
    (always (λ t. Tells t.state t.told → Tells (dropped table at t).state t.told) ts (λ t h. elim (nat_eq t.table table) as (λ b. Tells (cond b (dropped_at at t) t).state t.told) [ true ↦ dropped_tells t.state t.told h | false ↦ h ]))
    (always (λ t. t.state ≡ state.Aborted → (dropped table at t).state ≡ state.Aborted) ts (λ t h. elim (nat_eq t.table table) as (λ b. (cond b (dropped_at at t) t).state ≡ state.Aborted) [ true ↦ ap dropped_state h | false ↦ h ]))

-- a sweep
swept_keeps : (at : ℕ) → Keeps (swept_at at)
swept_keeps at = record {
  id = λ t. elim (is_expired at t) as (λ b. (cond b (aborted_at at t) t).id ≡ t.id) [ true ↦ refl | false ↦ refl ];
  key = λ t. elim (is_expired at t) as (λ b. label_key (cond b (aborted_at at t) t) ≡ label_key t) [ true ↦ refl | false ↦ refl ];
  told = λ t. elim (is_expired at t) as (λ b. (cond b (aborted_at at t) t).told ≡ t.told) [ true ↦ refl | false ↦ refl ];
  home = λ tables t h. elim (is_expired at t) as (λ b. HasHome tables (cond b (aborted_at at t) t)) [ true ↦ home_settled tables t h | false ↦ h ];
  labelled = λ t h. elim (is_expired at t) as (λ b. is_load_label (cond b (aborted_at at t) t).id (cond b (aborted_at at t) t).label ≡ true) [ true ↦ h | false ↦ h ];
}

swept_parts : (ts : List Txn) (ids : List ℕ) (next : ℕ) (tables : List Table) (at : ℕ) → Parts ts ids next tables → Parts (sweep at ts) ids next tables
swept_parts ts ids next tables at p =
    let left : List Txn = filter (λ t. not (is_over at t)) ts in
    all_changed left ids next tables (swept_at at) (swept_keeps at) (filter_parts (λ t. not (is_over at t)) ts ids next tables p)
    (always (λ t. Tells t.state t.told → Tells (swept_at at t).state t.told) left (λ t h. elim (is_expired at t) as (λ b. Tells (cond b (aborted_at at t) t).state t.told) [ true ↦ tt | false ↦ h ]))
    (always (λ t. t.state ≡ state.Aborted → (swept_at at t).state ≡ state.Aborted) left (λ t h. elim (is_expired at t) as (λ b. (cond b (aborted_at at t) t).state ≡ state.Aborted) [ true ↦ refl | false ↦ h ]))

swept_used : (last at : ℕ) (ts : List Txn) → Each (λ t. t.table ≤ last) ts → Each (λ t. t.table ≤ last) (sweep at ts)
swept_used last at ts e = used_map last (swept_at at) (λ t. elim (is_expired at t) as (λ b. (cond b (aborted_at at t) t).table ≡ t.table) [ true ↦ refl | false ↦ refl ]) (filter (λ t. not (is_over at t)) ts) (each_filter (λ t. t.table ≤ last) (λ t. not (is_over at t)) ts e)

-- a two-phase load is committed
commit_parts : (Es : List Event) (id place at : ℕ) (w : Txn) → Tidy Es → txn_at id (txns_of Es) ≡ Some w → w.state ≡ state.Precommitted → Parts (map (changed id (committed_at place at)) (txns_of Es)) (told_ids Es) (next_of Es) (tables_of Es)
commit_parts Es id place at w t found is =
    one_changed (txns_of Es) (told_ids Es) (next_of Es) (tables_of Es) id (committed_at place at) (committed_keeps place at) (parts_of Es t)
    (each_at (λ x. Tells x.state x.told → Tells state.Committed x.told) id (txns_of Es) w t.ascends found (λ h. subst (λ (x : TxnState). Tells x w.told) is h))
    (each_at (λ x. x.state ≡ state.Aborted → state.Committed ≡ state.Aborted) id (txns_of Es) w t.ascends found (λ h. absurd (cc)))

due_is_cons : (p : Txn → Bool) (x y : Txn) (o : Option Txn) (b : Bool) → p x ≡ b → (o ≡ Some y → p y ≡ true) → cond b (Some x) o ≡ Some y → p y ≡ true
due_is_cons p x y o true is k e = let i : x ≡ y = cc in subst (λ z. p z ≡ true) i is
due_is_cons p x y o false is k e = k e

pub passes : (p : Txn → Bool) (xs : List Txn) (y : Txn) → find p xs ≡ Some y → p y ≡ true
passes p [] y e = absurd (cc)
passes p (x ∷ xs) y e = due_is_cons p x y (find p xs) (p x) refl (passes p xs y) e

pub committed_is : (s : TxnState) → is_committed s ≡ true → s ≡ state.Committed
committed_is state.Committed h = refl
committed_is state.Prepare h = absurd (cc)
committed_is state.Precommitted h = absurd (cc)
committed_is state.Visible h = absurd (cc)
committed_is state.Aborted h = absurd (cc)

pub and_left : (a b : Bool) → (a && b) ≡ true → a ≡ true
and_left true b h = refl
and_left false b h = h

pub due_is : (txns : List Txn) (x : Txn) → due txns ≡ Some x → x.state ≡ state.Committed
due_is txns x e = committed_is x.state (and_left (is_committed x.state) (not (has_lower txns (place_of x))) (passes (λ t. is_committed t.state && not (has_lower txns (place_of t))) txns x e))

pub due_found : (Es : List Event) (x : Txn) → Tidy Es → due (txns_of Es) ≡ Some x → txn_at x.id (txns_of Es) ≡ Some x
due_found Es x t e = at_found (λ u. is_committed u.state && not (has_lower (txns_of Es) (place_of u))) (txns_of Es) x t.ascends e

visible_parts : (Es : List Event) (id at : ℕ) (w : Txn) → Tidy Es → txn_at id (txns_of Es) ≡ Some w → w.state ≡ state.Committed → Parts (map (changed id (visible_at at)) (txns_of Es)) (told_ids Es) (next_of Es) (tables_of Es)
visible_parts Es id at w t found is =
    one_changed (txns_of Es) (told_ids Es) (next_of Es) (tables_of Es) id (visible_at at) (visible_keeps at) (parts_of Es t)
    (each_at (λ x. Tells x.state x.told → Tells state.Visible x.told) id (txns_of Es) w t.ascends found (λ h. subst (λ (x : TxnState). Tells x w.told) is h))
    (each_at (λ x. x.state ≡ state.Aborted → state.Visible ≡ state.Aborted) id (txns_of Es) w t.ascends found (λ h. absurd (cc)))

-- another table is made, with a number that no transaction has
homes_later : (last : ℕ) (x : Table) (tables : List Table) (t : Txn) → x.number ≡ last + 1 → t.table ≤ last → HasHome tables t → HasHome (tables ++ x ∷ []) t
homes_later last x tables t n u h =
    let e : nat_eq x.number t.table ≡ false = grind (arith, nat_tests) in
    subst (λ (o : Option Table). HomeBy t.state o (IsHome t.db t.schema)) (sym (made_apart t.table x tables e)) h

-- a job that ends well changes the rollups of its table alone
pub with_change_any : (P : Table → Type 0) → ((rs : List Rollup) (b : Table) → P b → P (record b { rollups = rs })) → (c : Change) (b : Table) → P b → P (with_change c b)
with_change_any P k (change.Rollup name columns) b h = k (b.rollups ++ record { name = name; columns = columns } ∷ []) b h

pub finished_any : (P : Table → Type 0) → ((rs : List Rollup) (b : Table) → P b → P (record b { rollups = rs })) → (o : Option JobInfo) (b : Table) → P b → P (finished_in o b)
finished_any P k None b h = h
finished_any P k (Some j) b h = elim (nat_eq b.number j.table) as (λ (c : Bool). P (cond c (with_change j.change b) b)) [ true ↦ with_change_any P k j.change b h | false ↦ h ]

pub finished_number : (o : Option JobInfo) (b : Table) → (finished_in o b).number ≡ b.number
finished_number o b = finished_any (λ (x : Table). x.number ≡ b.number) (λ rs x h. h) o b refl

pub if_mapped : (f : Table → Table) (P Q : Table → Type 0) → ((b : Table) → P b → Q (f b)) → (o : Option Table) → IfSome o P → IfSome (option_map f o) Q
if_mapped f P Q k None h = tt
if_mapped f P Q k (Some b) h = k b h

pub there_mapped : (f : Table → Table) (P Q : Table → Type 0) → ((b : Table) → P b → Q (f b)) → (o : Option Table) → There o P → There (option_map f o) Q
there_mapped f P Q k None h = h
there_mapped f P Q k (Some b) h = k b h

finished_homes : (o : Option JobInfo) (tables : List Table) (t : Txn) → HasHome tables t → HasHome (map (finished_in o) tables) t
finished_homes o tables t h =
    let H : Table → Type 0 = IsHome t.db t.schema in
    let k : (b : Table) → H b → H (finished_in o b) = λ b. finished_any H (λ rs x q. q) o b in
    subst (λ (x : Option Table). HomeBy t.state x H) (sym (found_map (finished_in o) (finished_number o) t.table tables))
    (home_imp t.state (table_at t.table tables) (option_map (finished_in o) (table_at t.table tables)) H H (there_mapped (finished_in o) H H k (table_at t.table tables)) (if_mapped (finished_in o) H H k (table_at t.table tables)) h)

pub tidy_on : (Es : List Event) (e : Event) → Tidy Es → Happens Es e → Tidy (e ∷ Es)
tidy_on Es (event.DbMade d) t h = tidy_of (event.DbMade d) Es refl refl refl refl refl refl t (parts_of Es t) t.used
tidy_on Es (event.TableMade m) t h =
    let y = new_table m (last_table_of Es + 1) in
    record {
      tells = t.tells;
      ascends = t.ascends;
      labels = t.labels;
      below = t.below;
      known = t.known;
      labelled = t.labelled;
      from = t.from;
      ids = t.ids;
      within = t.within;
      spent = t.spent;
      numbers = pairs_snoc (λ (a b : Table). a.number < b.number) (tables_of Es) y t.numbers (each_imp (λ (b : Table). b.number ≤ last_table_of Es) (λ (b : Table). b.number < last_table_of Es + 1) (λ b k. omega arith) (tables_of Es) t.numbered);
      numbered = each_snoc (λ (b : Table). b.number ≤ last_table_of Es + 1) (tables_of Es) y (each_imp (λ (b : Table). b.number ≤ last_table_of Es) (λ (b : Table). b.number ≤ last_table_of Es + 1) (λ b k. omega arith) (tables_of Es) t.numbered) (omega arith);
      homes = each_imp (λ u. (u.table ≤ last_table_of Es) × HasHome (tables_of Es) u) (HasHome (tables_of Es ++ y ∷ [])) (λ u k. homes_later (last_table_of Es) y (tables_of Es) u refl k.0 k.1) (txns_of Es) (each_both (λ u. u.table ≤ last_table_of Es) (HasHome (tables_of Es)) (txns_of Es) t.used t.homes);
      laid = each_snoc (λ (b : Table). IsLayout b.shape b.layout) (tables_of Es) y t.laid h.layout;
      used = each_imp (λ u. u.table ≤ last_table_of Es) (λ u. u.table ≤ last_table_of Es + 1) (λ u k. omega (arith, k)) (txns_of Es) t.used;
    }
tidy_on Es (event.RangeDrawn r) t h = record {
  tells = t.tells;
  ascends = t.ascends;
  labels = t.labels;
  known = t.known;
  homes = t.homes;
  labelled = t.labelled;
  from = t.from;
  numbers = t.numbers;
  laid = t.laid;
  used = t.used;
  numbered = t.numbered;
  spent = let w = t.within in let x = t.spent in omega (arith, h, w, x);
  below = each_imp (λ u. u.id < next_of Es) (λ u. u.id < r.upto + 1) (λ u k. let w = t.within in omega (arith, h, w)) (txns_of Es) t.below;
  ids = each_imp (λ i. i < next_of Es) (λ i. i < r.upto + 1) (λ i k. let w = t.within in omega (arith, h, w, k)) (told_ids Es) t.ids;
  within = omega arith;
}
tidy_on Es (event.TxnBegun b) t h =
    let y = begun_txn b in
    record {
      tells = each_snoc (λ u. Tells u.state u.told) (txns_of Es) y t.tells refl;
      ascends = pairs_snoc (λ (u w : Txn). u.id < w.id) (txns_of Es) y t.ascends h.above;
      labels = pairs_snoc OlderIsAborted (txns_of Es) y t.labels h.free;
      below = each_snoc (λ u. u.id < b.txn + 1) (txns_of Es) y (each_imp (λ u. u.id < b.txn) (λ u. u.id < b.txn + 1) (λ u k. omega arith) (txns_of Es) h.above) (omega arith);
      known = each_snoc (λ u. u.told ≡ list_any (nat_eq u.id) (told_ids Es)) (txns_of Es) y t.known (sym (none_told b.txn (told_ids Es) h.unspent));
      homes = each_snoc (HasHome (tables_of Es)) (txns_of Es) y t.homes h.home;
      labelled = each_snoc (λ u. is_load_label u.id u.label ≡ true) (txns_of Es) y t.labelled h.label;
      from = each_snoc (λ u. 1 ≤ u.id) (txns_of Es) y t.from (let k = h.fresh in omega (arith, k));
      ids = each_imp (λ i. i < b.txn) (λ i. i < b.txn + 1) (λ i k. omega (arith, k)) (told_ids Es) h.unspent;
      within = let k = h.within in omega (arith, k);
      spent = omega arith;
      numbers = t.numbers;
      laid = t.laid;
      used = each_snoc (λ u. u.table ≤ last_table_of Es) (txns_of Es) y t.used (there_used b.table (last_table_of Es) (tables_of Es) (IsHome b.db b.schema) t.numbered h.home);
      numbered = t.numbered;
    }
tidy_on Es (event.LoadSubmitted s) t h =
    let p = put_parts (txns_of Es) (told_ids Es) (next_of Es) (places_of Es) (tables_of Es) s (parts_of Es t) h.first h.below h.home h.label h.fits in
    record { tells = p.tells; ascends = p.ascends; labels = p.labels; below = p.below; known = p.known; homes = p.homes; labelled = p.labelled; from = p.from; ids = (h.below, t.ids); within = t.within; spent = t.spent; numbers = t.numbers; laid = t.laid; used = each_put (λ u. u.table ≤ last_table_of Es) (submitted_txn s (db_of s.table (tables_of Es)) (places_of Es)) (txns_of Es) (each_imp (λ u. u.table ≤ last_table_of Es) (λ u. (u.id ≡ s.txn → ⊥) → u.table ≤ last_table_of Es) (λ u k _. k) (txns_of Es) t.used) (there_used s.table (last_table_of Es) (tables_of Es) (λ b. (b.schema ≡ s.schema) × AreRowsOf b.shape b.layout s.rows) t.numbered h.home); numbered = t.numbered }
tidy_on Es (event.TxnAborted a) t h = tidy_of (event.TxnAborted a) Es refl refl refl refl refl refl t (abort_parts (txns_of Es) (told_ids Es) (next_of Es) (tables_of Es) a.txn a.at (parts_of Es t)) (used_changed (last_table_of Es) a.txn (aborted_at a.at) (λ t. refl) (txns_of Es) t.used)
tidy_on Es (event.LoadPublished p) t h =
    let found = subst (λ (n : ℕ). txn_at n (txns_of Es) ≡ Some h.0) h.2 (due_found Es h.0 t h.1) in
    tidy_of (event.LoadPublished p) Es refl refl refl refl refl refl t (visible_parts Es p.txn p.at h.0 t found (due_is (txns_of Es) h.0 h.1)) (used_changed (last_table_of Es) p.txn (visible_at p.at) (λ t. refl) (txns_of Es) t.used)
tidy_on Es (event.TxnEnded x) t h = tidy_of (event.TxnEnded x) Es refl refl refl refl refl refl t (abort_parts (txns_of Es) (told_ids Es) (next_of Es) (tables_of Es) x.txn x.at (parts_of Es t)) (used_changed (last_table_of Es) x.txn (aborted_at x.at) (λ t. refl) (txns_of Es) t.used)
tidy_on Es (event.LoadCommitted c) t h =
    tidy_of (event.LoadCommitted c) Es refl refl refl refl refl refl t (commit_parts Es c.txn (places_of Es + 1) c.at h.0 t h.1 h.2.0) (used_changed (last_table_of Es) c.txn (committed_at (places_of Es + 1) c.at) (λ t. refl) (txns_of Es) t.used)
tidy_on Es (event.Swept s) t h = tidy_of (event.Swept s) Es refl refl refl refl refl refl t (swept_parts (txns_of Es) (told_ids Es) (next_of Es) (tables_of Es) s.at (parts_of Es t)) (swept_used (last_table_of Es) s.at (txns_of Es) t.used)
tidy_on Es (event.SweptUntold s) t h = tidy_of (event.SweptUntold s) Es refl refl refl refl refl refl t (swept_parts (txns_of Es) (told_ids Es) (next_of Es) (tables_of Es) s.at (parts_of Es t)) (swept_used (last_table_of Es) s.at (txns_of Es) t.used)
tidy_on Es (event.PartAdded a) t h =
    let f = part_added a in
    record {
      tells = t.tells;
      ascends = t.ascends;
      labels = t.labels;
      below = t.below;
      known = t.known;
      labelled = t.labelled;
      from = t.from;
      ids = t.ids;
      within = t.within;
      spent = t.spent;
      used = t.used;
      numbers = pairs_map (λ (b : Table). Unit {0}) (λ (a b : Table). a.number < b.number) f (λ x y _ _ k. let m = part_number a x in let n = part_number a y in omega (arith, k, m, n)) (tables_of Es) (always (λ (b : Table). Unit {0}) (tables_of Es) (λ b. tt)) t.numbers;
      numbered = each_map (λ (b : Table). b.number ≤ last_table_of Es) (λ (b : Table). b.number ≤ last_table_of Es) f (λ b k. let m = part_number a b in omega (arith, k, m)) (tables_of Es) t.numbered;
      laid = each_map (λ (b : Table). IsLayout b.shape b.layout × (b.number ≡ a.table → IsLayout b.shape (with_part a.part b.layout))) (λ (b : Table). IsLayout b.shape b.layout) f (λ b k. laid_one b (nat_eq b.number a.table) refl k.0 k.1) (tables_of Es)
          (each_both (λ (b : Table). IsLayout b.shape b.layout) (λ (b : Table). b.number ≡ a.table → IsLayout b.shape (with_part a.part b.layout)) (tables_of Es) t.laid (each_table (λ (b : Table). IsLayout b.shape (with_part a.part b.layout)) a.table (tables_of Es) h.1.0 t.numbers h.1.1 h.1.2));
      homes = each_imp (HasHome (tables_of Es)) (HasHome (map f (tables_of Es))) (λ u k. part_homes a (tables_of Es) u k) (txns_of Es) t.homes;
    }
  where
    laid_one : (b : Table) (c : Bool) → nat_eq b.number a.table ≡ c → IsLayout b.shape b.layout → (b.number ≡ a.table → IsLayout b.shape (with_part a.part b.layout)) → IsLayout (cond c (record b { layout = with_part a.part b.layout }) b).shape (cond c (record b { layout = with_part a.part b.layout }) b).layout
    laid_one b true e k l = l (eq_is b.number a.table e)
    laid_one b false e k l = k
tidy_on Es (event.TableDropped d) t h =
    let p = dropped_parts (txns_of Es) (told_ids Es) (next_of Es) (tables_of Es) d.table d.at (parts_of Es t) in
    let stays : Table → Bool = λ b. not (nat_eq b.number d.table) in
    record {
      tells = p.tells;
      ascends = p.ascends;
      labels = p.labels;
      below = p.below;
      known = p.known;
      labelled = p.labelled;
      from = p.from;
      ids = t.ids;
      within = t.within;
      spent = t.spent;
      used = used_map (last_table_of Es) (dropped d.table d.at) (λ u. elim (nat_eq u.table d.table) as (λ b. (cond b (dropped_at d.at u) u).table ≡ u.table) [ true ↦ refl | false ↦ refl ]) (txns_of Es) t.used;
      numbers = pairs_filter (λ (a b : Table). a.number < b.number) stays (tables_of Es) t.numbers;
      numbered = each_filter (λ (b : Table). b.number ≤ last_table_of Es) stays (tables_of Es) t.numbered;
      laid = each_filter (λ (b : Table). IsLayout b.shape b.layout) stays (tables_of Es) t.laid;
      homes = each_map (HasHome (tables_of Es)) (HasHome (filter stays (tables_of Es))) (dropped d.table d.at) (λ u k. dropped_home d.table d.at (tables_of Es) u k) (txns_of Es) t.homes;
    }
tidy_on Es (event.Compacted c) t h = tidy_of (event.Compacted c) Es refl refl refl refl refl refl t (parts_of Es t) t.used
tidy_on Es event.Opened t h =
    let p = filter_parts (λ u. u.told) (txns_of Es) (told_ids Es) (next_of Es) (tables_of Es) (parts_of Es t) in
    record {
      tells = p.tells;
      ascends = p.ascends;
      labels = p.labels;
      known = p.known;
      homes = p.homes;
      labelled = p.labelled;
      from = p.from;
      below = each_imp (λ u. u.id < next_of Es) (λ u. u.id < range_of Es + 1) (λ u k. let w = t.within in omega (arith, k, w)) (filter (λ u. u.told) (txns_of Es)) p.below;
      numbers = t.numbers;
      laid = t.laid;
      used = each_filter (λ u. u.table ≤ last_table_of Es) (λ u. u.told) (txns_of Es) t.used;
      numbered = t.numbered;
      spent = let w = t.within in let x = t.spent in omega (arith, w, x);
      ids = each_imp (λ i. i < next_of Es) (λ i. i < range_of Es + 1) (λ i k. let w = t.within in omega (arith, k, w)) (told_ids Es) t.ids;
      within = omega arith;
    }
tidy_on Es (event.JobAdded x) t h = tidy_of (event.JobAdded x) Es refl refl refl refl refl refl t (parts_of Es t) t.used
tidy_on Es (event.JobRan x) t h = tidy_of (event.JobRan x) Es refl refl refl refl refl refl t (parts_of Es t) t.used
tidy_on Es (event.TaskTaken x) t h = tidy_of (event.TaskTaken x) Es refl refl refl refl refl refl t (parts_of Es t) t.used
tidy_on Es (event.TaskGiven x) t h = tidy_of (event.TaskGiven x) Es refl refl refl refl refl refl t (parts_of Es t) t.used
tidy_on Es (event.JobCancelled x) t h = tidy_of (event.JobCancelled x) Es refl refl refl refl refl refl t (parts_of Es t) t.used
tidy_on Es (event.JobWaiting x) t h =
    let more : next_of Es ≤ x.upto + 1 = next_fits x.upto (next_of Es) (range_of Es) t.within h.2.upto in
    record {
      tells = t.tells;
      ascends = t.ascends;
      labels = t.labels;
      known = t.known;
      homes = t.homes;
      labelled = t.labelled;
      from = t.from;
      numbers = t.numbers;
      laid = t.laid;
      used = t.used;
      numbered = t.numbered;
      spent = let y = t.spent in omega (arith, more, y);
      below = each_imp (λ u. u.id < next_of Es) (λ u. u.id < x.upto + 1) (λ u k. omega (arith, more, k)) (txns_of Es) t.below;
      ids = each_imp (λ i. i < next_of Es) (λ i. i < x.upto + 1) (λ i k. omega (arith, more, k)) (told_ids Es) t.ids;
      within = omega arith;
    }
  where
    next_fits : (upto next range : ℕ) → next ≤ range + 1 → (upto ≡ range) ⊎ (upto ≡ range + range_size) → next ≤ upto + 1
    next_fits upto next range w (inl i) = omega (arith, w, i)
    next_fits upto next range w (inr i) = omega (arith, w, i)
tidy_on Es (event.WatershedDrawn x) t h = record {
  tells = t.tells;
  ascends = t.ascends;
  labels = t.labels;
  known = t.known;
  homes = t.homes;
  labelled = t.labelled;
  from = t.from;
  numbers = t.numbers;
  laid = t.laid;
  used = t.used;
  numbered = t.numbered;
  spent = let y = h.fresh in omega (arith, y);
  below = each_imp (λ u. u.id < x.watershed) (λ u. u.id < x.watershed + 1) (λ u k. omega (arith, k)) (txns_of Es) h.above;
  ids = each_imp (λ i. i < x.watershed) (λ i. i < x.watershed + 1) (λ i k. omega (arith, k)) (told_ids Es) h.unspent;
  within = let w = h.within in omega (arith, w);
}
tidy_on Es (event.JobFinished x) t h =
    let f = finished_in (job_at x.job (jobs_of Es)) in
    let o = job_at x.job (jobs_of Es) in
    record {
      tells = t.tells;
      ascends = t.ascends;
      labels = t.labels;
      below = t.below;
      known = t.known;
      labelled = t.labelled;
      from = t.from;
      ids = t.ids;
      within = t.within;
      spent = t.spent;
      used = t.used;
      numbers = pairs_map (λ (b : Table). Unit {0}) (λ (a b : Table). a.number < b.number) f (λ y z _ _ k. let m = finished_number o y in let n = finished_number o z in omega (arith, k, m, n)) (tables_of Es) (always (λ (b : Table). Unit {0}) (tables_of Es) (λ b. tt)) t.numbers;
      numbered = each_map (λ (b : Table). b.number ≤ last_table_of Es) (λ (b : Table). b.number ≤ last_table_of Es) f (λ b k. let m = finished_number o b in omega (arith, k, m)) (tables_of Es) t.numbered;
      laid = each_map (λ (b : Table). IsLayout b.shape b.layout) (λ (b : Table). IsLayout b.shape b.layout) f (λ b k. finished_any (λ (y : Table). IsLayout y.shape y.layout) (λ rs y q. q) o b k) (tables_of Es) t.laid;
      homes = each_imp (HasHome (tables_of Es)) (HasHome (map f (tables_of Es))) (λ u k. finished_homes o (tables_of Es) u k) (txns_of Es) t.homes;
    }
