-- What a change of transactions and tables keeps.
use Rattle.std.proofs.Common.{◌≡◌, ℕ, ◌<◌, ◌≤◌, Bool, true, false, cond, not, List, [], ◌∷◌, ◌++◌, Option, Some, None, IfSome, map, refl, sym, ◌∙◌, ap, arith, subst}
use Rattle.std.proofs.lemmas.Bool.Decides.{nat_tests}
use Rattle.std.specs.Prelude.{filter, nat_eq}
use Rattle.std.specs.List.{list_any}
use Rattle.labels.specs.declared.txn_state.TxnState.{TxnState}
use Rattle.labels.specs.declared.txn_state.TxnState.TheVariants as state
use Rattle.front_defs.specs.declared.event.Event.{Event}
use Rattle.front_defs.specs.declared.event.LoadSubmitted.{LoadSubmitted}
use Rattle.front_defs.specs.declared.catalogue.Table.{Table}
use Rattle.front_defs.specs.declared.txn.Txn.{Txn}
use Rattle.front_defs.specs.Ids.{range_of, next_of, told_ids}
use Rattle.front_defs.specs.Catalogue.{table_at, db_in, db_of, tables_of, last_table_of, part_added}
use Rattle.front_defs.specs.Transactions.{txn_at, txns_of, changed, put_txn, submitted_txn, aborted_at, visible_at, committed_at, dropped, dropped_at, dropped_state}
use Rattle.front_defs.specs.declared.event.PartAdded.{PartAdded}
use Rattle.std.specs.Option.{option_map}
use Rattle.partitions.specs.LayoutFaults.{with_part}
use Rattle.front_defs.specs.Stored.{AreRowsOf}
use Rattle.front_defs.specs.Journal.{There, is_load_label}
use Rattle.front_laws.specs.Tidy.{Each, Pairs, Ascends, Tells, label_key, OlderIsAborted, IsHome, HomeBy, HasHome, Tidy, LabelFits, last_begun}
use Rattle.front_laws.proofs.Lists.{each_imp, always, each_filter, each_map, each_found, each_both, each_put, pairs_filter, pairs_map, ascends_put, ascends_map, labels_put, eq_is}

-- the transactions, beside the numbers that were told, the next number and the tables
pub record Parts (ts : List Txn) (ids : List ℕ) (next : ℕ) (tables : List Table) : Type 0 where
  pub tells : Each (λ t. Tells t.state t.told) ts
  pub ascends : Ascends ts
  pub labels : Pairs OlderIsAborted ts
  pub below : Each (λ t. t.id < next) ts
  pub known : Each (λ t. t.told ≡ list_any (nat_eq t.id) ids) ts
  pub homes : Each (HasHome tables) ts
  pub labelled : Each (λ t. is_load_label t.id t.label ≡ true) ts
  pub from : Each (λ t. 1 ≤ t.id) ts

pub parts_of : (Es : List Event) → Tidy Es → Parts (txns_of Es) (told_ids Es) (next_of Es) (tables_of Es)
parts_of Es t = record { tells = t.tells; ascends = t.ascends; labels = t.labels; below = t.below; known = t.known; homes = t.homes; labelled = t.labelled; from = t.from }

-- a change of state, moment, place and rows alone
pub record Keeps (f : Txn → Txn) : Type 0 where
  pub id : (t : Txn) → (f t).id ≡ t.id
  pub key : (t : Txn) → label_key (f t) ≡ label_key t
  pub told : (t : Txn) → (f t).told ≡ t.told
  pub home : (tables : List Table) (t : Txn) → HasHome tables t → HasHome tables (f t)
  pub labelled : (t : Txn) → is_load_label t.id t.label ≡ true → is_load_label (f t).id (f t).label ≡ true

-- a home in any state is one while the table is there
pub settled : (s : TxnState) (o : Option Table) (P : Table → Type 0) → HomeBy s o P → IfSome o P
settled state.Prepare o P h = if_there o P h
  where
    if_there : (o : Option Table) (P : Table → Type 0) → There o P → IfSome o P
    if_there None P h = absurd h
    if_there (Some b) P h = h
settled state.Precommitted o P h = if_there o P h
  where
    if_there : (o : Option Table) (P : Table → Type 0) → There o P → IfSome o P
    if_there None P h = absurd h
    if_there (Some b) P h = h
settled state.Committed o P h = h
settled state.Visible o P h = h
settled state.Aborted o P h = h

pub home_settled : (tables : List Table) (t : Txn) → HasHome tables t → IfSome (table_at t.table tables) (IsHome t.db t.schema)
home_settled tables t h = settled t.state (table_at t.table tables) (IsHome t.db t.schema) h

pub home_imp : (s : TxnState) (o r : Option Table) (P Q : Table → Type 0) → (There o P → There r Q) → (IfSome o P → IfSome r Q) → HomeBy s o P → HomeBy s r Q
home_imp state.Prepare o r P Q k l h = k h
home_imp state.Precommitted o r P Q k l h = k h
home_imp state.Committed o r P Q k l h = l h
home_imp state.Visible o r P Q k l h = l h
home_imp state.Aborted o r P Q k l h = l h

pub committed_keeps : (place at : ℕ) → Keeps (committed_at place at)
committed_keeps place at = record { id = λ t. refl; key = λ t. refl; told = λ t. refl; home = λ tables t h. home_settled tables t h; labelled = λ t h. h }

pub aborted_keeps : (at : ℕ) → Keeps (aborted_at at)
aborted_keeps at = record { id = λ t. refl; key = λ t. refl; told = λ t. refl; home = λ tables t h. home_settled tables t h; labelled = λ t h. h }

pub visible_keeps : (at : ℕ) → Keeps (visible_at at)
visible_keeps at = record { id = λ t. refl; key = λ t. refl; told = λ t. refl; home = λ tables t h. home_settled tables t h; labelled = λ t h. h }

pub changed_keeps : (id : ℕ) (f : Txn → Txn) → Keeps f → Keeps (changed id f)
changed_keeps id f k = record {
  id = λ t. elim (nat_eq t.id id) as (λ b. (cond b (f t) t).id ≡ t.id) [ true ↦ k.id t | false ↦ refl ];
  key = λ t. elim (nat_eq t.id id) as (λ b. label_key (cond b (f t) t) ≡ label_key t) [ true ↦ k.key t | false ↦ refl ];
  told = λ t. elim (nat_eq t.id id) as (λ b. (cond b (f t) t).told ≡ t.told) [ true ↦ k.told t | false ↦ refl ];
  home = λ tables t h. elim (nat_eq t.id id) as (λ b. HasHome tables (cond b (f t) t)) [ true ↦ k.home tables t h | false ↦ h ];
  labelled = λ t h. elim (nat_eq t.id id) as (λ b. is_load_label (cond b (f t) t).id (cond b (f t) t).label ≡ true) [ true ↦ k.labelled t h | false ↦ h ];
}

pub older_kept : (f : Txn → Txn) → Keeps f → (t u : Txn) → (t.state ≡ state.Aborted → (f t).state ≡ state.Aborted) → OlderIsAborted t u → OlderIsAborted (f t) (f u)
older_kept f k t u stays h i = stays (h (sym (k.key u) ∙ i ∙ k.key t))

pub all_changed : (ts : List Txn) (ids : List ℕ) (next : ℕ) (tables : List Table) (f : Txn → Txn) → Keeps f → Parts ts ids next tables → Each (λ t. Tells t.state t.told → Tells (f t).state t.told) ts → Each (λ t. t.state ≡ state.Aborted → (f t).state ≡ state.Aborted) ts → Parts (map f ts) ids next tables
all_changed ts ids next tables f k p e a = record {
  tells = each_map (λ t. (Tells t.state t.told) × (Tells t.state t.told → Tells (f t).state t.told)) (λ t. Tells t.state t.told) f (λ t h. subst (λ (b : Bool). Tells (f t).state b) (sym (k.told t)) (h.1 h.0)) ts (each_both (λ t. Tells t.state t.told) (λ t. Tells t.state t.told → Tells (f t).state t.told) ts p.tells e);
  ascends = ascends_map f k.id ts p.ascends;
  labels = pairs_map (λ t. t.state ≡ state.Aborted → (f t).state ≡ state.Aborted) OlderIsAborted f (λ t u s _ h. older_kept f k t u s h) ts a p.labels;
  below = each_map (λ t. t.id < next) (λ t. t.id < next) f (λ t h. rw (k.id t) h) ts p.below;
  known = each_map (λ t. t.told ≡ list_any (nat_eq t.id) ids) (λ t. t.told ≡ list_any (nat_eq t.id) ids) f (λ t h. k.told t ∙ h ∙ ap (λ (n : ℕ). list_any (nat_eq n) ids) (sym (k.id t))) ts p.known;
  homes = each_map (HasHome tables) (HasHome tables) f (λ t h. k.home tables t h) ts p.homes;
  labelled = each_map (λ t. is_load_label t.id t.label ≡ true) (λ t. is_load_label t.id t.label ≡ true) f (λ t h. k.labelled t h) ts p.labelled;
  from = each_map (λ t. 1 ≤ t.id) (λ t. 1 ≤ t.id) f (λ t h. rw (k.id t) h) ts p.from;
}

-- where the change is made, it has this
pub one_of : (P : Txn → Txn → Type 0) (id : ℕ) (f : Txn → Txn) (t : Txn) (b : Bool) → nat_eq t.id id ≡ b → P t t → (t.id ≡ id → P t (f t)) → P t (cond b (f t) t)
one_of P id f t true same h k = k (eq_is t.id id same)
one_of P id f t false same h k = h

pub one_changed : (ts : List Txn) (ids : List ℕ) (next : ℕ) (tables : List Table) (id : ℕ) (f : Txn → Txn) → Keeps f → Parts ts ids next tables → Each (λ t. t.id ≡ id → Tells t.state t.told → Tells (f t).state t.told) ts → Each (λ t. t.id ≡ id → t.state ≡ state.Aborted → (f t).state ≡ state.Aborted) ts → Parts (map (changed id f) ts) ids next tables
one_changed ts ids next tables id f k p e a =
    all_changed ts ids next tables (changed id f) (changed_keeps id f k) p
    (each_imp (λ t. t.id ≡ id → Tells t.state t.told → Tells (f t).state t.told) (λ t. Tells t.state t.told → Tells (changed id f t).state t.told) (λ t h. one_of (λ x y. Tells x.state x.told → Tells y.state x.told) id f t (nat_eq t.id id) refl (λ z. z) h) ts e)
    (each_imp (λ t. t.id ≡ id → t.state ≡ state.Aborted → (f t).state ≡ state.Aborted) (λ t. t.state ≡ state.Aborted → (changed id f t).state ≡ state.Aborted) (λ t h. one_of (λ x y. x.state ≡ state.Aborted → y.state ≡ state.Aborted) id f t (nat_eq t.id id) refl (λ z. z) h) ts a)

pub tells_told : (s r : TxnState) (b : Bool) → Tells s b → s ≡ r → ((c : Bool) → Tells r c → c ≡ true) → b ≡ true
tells_told s r b h e k = k b (subst (λ (x : TxnState). Tells x b) e h)

pub told_precommitted : (c : Bool) → Tells state.Precommitted c → c ≡ true
told_precommitted c h = h

pub told_committed : (c : Bool) → Tells state.Committed c → c ≡ true
told_committed c h = h

pub found_told : (Es : List Event) (id : ℕ) (w : Txn) (s : TxnState) → Tidy Es → txn_at id (txns_of Es) ≡ Some w → w.state ≡ s → ((c : Bool) → Tells s c → c ≡ true) → w.told ≡ true
found_told Es id w s t f is k = tells_told w.state s w.told (each_found (λ u. Tells u.state u.told) (λ u. nat_eq u.id id) (txns_of Es) w t.tells f) is k

pub abort_parts : (ts : List Txn) (ids : List ℕ) (next : ℕ) (tables : List Table) (id at : ℕ) → Parts ts ids next tables → Parts (map (changed id (aborted_at at)) ts) ids next tables
abort_parts ts ids next tables id at p =
    one_changed ts ids next tables id (aborted_at at) (aborted_keeps at) p
    (always (λ t. t.id ≡ id → Tells t.state t.told → Tells state.Aborted t.told) ts (λ t _ _. tt))
    (always (λ t. t.id ≡ id → t.state ≡ state.Aborted → state.Aborted ≡ state.Aborted) ts (λ t _ _. refl))

pub filter_parts : (p : Txn → Bool) (ts : List Txn) (ids : List ℕ) (next : ℕ) (tables : List Table) → Parts ts ids next tables → Parts (filter p ts) ids next tables
filter_parts p ts ids next tables k = record {
  tells = each_filter (λ t. Tells t.state t.told) p ts k.tells;
  ascends = pairs_filter (λ (t u : Txn). t.id < u.id) p ts k.ascends;
  labels = pairs_filter OlderIsAborted p ts k.labels;
  below = each_filter (λ t. t.id < next) p ts k.below;
  known = each_filter (λ t. t.told ≡ list_any (nat_eq t.id) ids) p ts k.known;
  homes = each_filter (HasHome tables) p ts k.homes;
  labelled = each_filter (λ t. is_load_label t.id t.label ≡ true) p ts k.labelled;
  from = each_filter (λ t. 1 ≤ t.id) p ts k.from;
}

pub eq_self : (n : ℕ) → nat_eq n n ≡ true
eq_self n = grind (arith, nat_tests)

pub eq_apart : (n m : ℕ) → (n ≡ m → ⊥) → nat_eq n m ≡ false
eq_apart n m h = grind (arith, nat_tests)

pub told_tells : (two_phase : Bool) → Tells (cond two_phase state.Precommitted state.Committed) true
told_tells true = refl
told_tells false = refl

pub home_in : (two_phase : Bool) (o : Option Table) (schema : ℕ) (Q : Table → Type 0) → There o (λ b. (b.schema ≡ schema) × Q b) → HomeBy (cond two_phase state.Precommitted state.Committed) o (IsHome (db_in o) schema)
home_in two_phase None schema Q h = absurd h
home_in true (Some b) schema Q h = (refl, h.0)
home_in false (Some b) schema Q h = (refl, h.0)

pub put_parts : (ts : List Txn) (ids : List ℕ) (next last : ℕ) (tables : List Table) (s : LoadSubmitted) → Parts ts ids next tables → 1 ≤ s.txn → s.txn < next → There (table_at s.table tables) (λ b. (b.schema ≡ s.schema) × AreRowsOf b.shape b.layout s.rows) → is_load_label s.txn s.label ≡ true → Each (LabelFits s.txn (db_of s.table tables, s.label)) ts → Parts (put_txn (submitted_txn s (db_of s.table tables) last) ts) (s.txn ∷ ids) next tables
put_parts ts ids next last tables s p from lt home label fits =
    let y = submitted_txn s (db_of s.table tables) last in
    record {
      tells = each_put (λ u. Tells u.state u.told) y ts (each_imp (λ u. Tells u.state u.told) (λ u. (u.id ≡ s.txn → ⊥) → Tells u.state u.told) (λ u h _. h) ts p.tells) (told_tells s.two_phase);
      ascends = ascends_put y ts p.ascends;
      labels = labels_put y ts p.ascends p.labels fits;
      below = each_put (λ u. u.id < next) y ts (each_imp (λ u. u.id < next) (λ u. (u.id ≡ s.txn → ⊥) → u.id < next) (λ u h _. h) ts p.below) lt;
      known = each_put (λ u. u.told ≡ list_any (nat_eq u.id) (s.txn ∷ ids)) y ts (each_imp (λ (u : Txn). u.told ≡ list_any (nat_eq u.id) ids) (λ (u : Txn). (u.id ≡ s.txn → ⊥) → u.told ≡ list_any (nat_eq u.id) (s.txn ∷ ids)) (λ (u : Txn) h n. rw (eq_apart u.id s.txn n) h) ts p.known) (rw (eq_self s.txn) refl);
      homes = each_put (HasHome tables) y ts (each_imp (HasHome tables) (λ u. (u.id ≡ s.txn → ⊥) → HasHome tables u) (λ u h _. h) ts p.homes) (home_in s.two_phase (table_at s.table tables) s.schema (λ b. AreRowsOf b.shape b.layout s.rows) home);
      labelled = each_put (λ t. is_load_label t.id t.label ≡ true) y ts (each_imp (λ t. is_load_label t.id t.label ≡ true) (λ t. (t.id ≡ s.txn → ⊥) → is_load_label t.id t.label ≡ true) (λ u h _. h) ts p.labelled) label;
      from = each_put (λ u. 1 ≤ u.id) y ts (each_imp (λ u. 1 ≤ u.id) (λ u. (u.id ≡ s.txn → ⊥) → 1 ≤ u.id) (λ u h _. h) ts p.from) from;
    }

-- a number that is above all that were told
pub none_told : (id : ℕ) (ids : List ℕ) → Each (λ i. i < id) ids → list_any (nat_eq id) ids ≡ false
none_told id [] e = refl
none_told id (i ∷ is) e = let n : nat_eq id i ≡ false = let h = e.0 in grind (arith, nat_tests) in rw n (none_told id is e.1)

pub tidy_of : (e : Event) (Es : List Event) → next_of (e ∷ Es) ≡ next_of Es → range_of (e ∷ Es) ≡ range_of Es → told_ids (e ∷ Es) ≡ told_ids Es → last_begun (e ∷ Es) ≡ last_begun Es → tables_of (e ∷ Es) ≡ tables_of Es → last_table_of (e ∷ Es) ≡ last_table_of Es → Tidy Es → Parts (txns_of (e ∷ Es)) (told_ids Es) (next_of Es) (tables_of (e ∷ Es)) → Each (λ t. t.table ≤ last_table_of Es) (txns_of (e ∷ Es)) → Tidy (e ∷ Es)
tidy_of e Es n r i l b m t p u = record { spent = rw (n, l) t.spent; numbers = rw b t.numbers; laid = rw b t.laid; used = rw m u; numbered = rw (b, m) t.numbered; tells = p.tells; ascends = p.ascends; labels = p.labels; below = rw n p.below; known = rw i p.known; homes = p.homes; labelled = p.labelled; from = p.from; ids = rw (n, i) t.ids; within = let w = t.within in omega (arith, n, r, w) }

-- a change that keeps the table
pub used_map : (last : ℕ) (f : Txn → Txn) → ((t : Txn) → (f t).table ≡ t.table) → (ts : List Txn) → Each (λ t. t.table ≤ last) ts → Each (λ t. t.table ≤ last) (map f ts)
used_map last f k ts e = each_map (λ t. t.table ≤ last) (λ t. t.table ≤ last) f (λ t h. let i = k t in omega (arith, h, i)) ts e

pub used_changed : (last id : ℕ) (f : Txn → Txn) → ((t : Txn) → (f t).table ≡ t.table) → (ts : List Txn) → Each (λ t. t.table ≤ last) ts → Each (λ t. t.table ≤ last) (map (changed id f) ts)
used_changed last id f k ts e = used_map last (changed id f) (λ t. elim (nat_eq t.id id) as (λ b. (cond b (f t) t).table ≡ t.table) [ true ↦ k t | false ↦ refl ]) ts e

-- the table of a number has that number
pub table_number : (n : ℕ) (ts : List Table) (b : Table) → table_at n ts ≡ Some b → b.number ≡ n
table_number n [] b e = absurd (cc)
table_number n (x ∷ xs) b e = go (nat_eq x.number n) refl e (table_number n xs b)
  where
    go : (c : Bool) → nat_eq x.number n ≡ c → cond c (Some x) (table_at n xs) ≡ Some b → (table_at n xs ≡ Some b → b.number ≡ n) → b.number ≡ n
    go true is k r = let i : x ≡ b = cc in ap (λ (y : Table). y.number) (sym i) ∙ eq_is x.number n is
    go false is k r = r k

pub there_used : (n last : ℕ) (ts : List Table) (P : Table → Type 0) → Each (λ (b : Table). b.number ≤ last) ts → There (table_at n ts) P → n ≤ last
there_used n last ts P e h = go (table_at n ts) refl h
  where
    go : (o : Option Table) → table_at n ts ≡ o → There o P → n ≤ last
    go None f h = absurd h
    go (Some b) f h = let i = table_number n ts b f in let k = each_found (λ (b : Table). b.number ≤ last) (λ (b : Table). nat_eq b.number n) ts b e f in omega (arith, i, k)

-- a table of another number more
pub made_apart : (n : ℕ) (y : Table) (ts : List Table) → nat_eq y.number n ≡ false → table_at n (ts ++ y ∷ []) ≡ table_at n ts
made_apart n y [] e = rw e refl
made_apart n y (b ∷ bs) e = ap (λ (o : Option Table). cond (nat_eq b.number n) (Some b) o) (made_apart n y bs e)

-- a change of tables that keeps their numbers
pub found_map : (f : Table → Table) → ((b : Table) → (f b).number ≡ b.number) → (n : ℕ) (ts : List Table) → table_at n (map f ts) ≡ option_map f (table_at n ts)
found_map f k n [] = refl
found_map f k n (b ∷ bs) = ap (λ (m : ℕ). cond (nat_eq m n) (Some (f b)) (table_at n (map f bs))) (k b) ∙ go (nat_eq b.number n) (found_map f k n bs)
  where
    go : (c : Bool) → table_at n (map f bs) ≡ option_map f (table_at n bs) → cond c (Some (f b)) (table_at n (map f bs)) ≡ option_map f (cond c (Some b) (table_at n bs))
    go true h = refl
    go false h = h

pub none_cond : (o : Option Table) (c : Bool) → o ≡ cond c o o
none_cond o true = refl
none_cond o false = refl

-- without the tables of a number
pub found_without : (n m : ℕ) (ts : List Table) → table_at n (filter (λ b. not (nat_eq b.number m)) ts) ≡ cond (nat_eq m n) None (table_at n ts)
found_without n m [] = none_cond None (nat_eq m n)
found_without n m (b ∷ bs) = go (nat_eq b.number m) (nat_eq b.number n) (nat_eq m n) refl refl refl (found_without n m bs)
  where
    go : (x y z : Bool) → nat_eq b.number m ≡ x → nat_eq b.number n ≡ y → nat_eq m n ≡ z → table_at n (filter (λ c. not (nat_eq c.number m)) bs) ≡ cond (nat_eq m n) None (table_at n bs)
        → table_at n (cond (not x) (b ∷ filter (λ c. not (nat_eq c.number m)) bs) (filter (λ c. not (nat_eq c.number m)) bs)) ≡ cond z None (cond y (Some b) (table_at n bs))
    go true y true e f g h = rw g at h
    go true true false e f g h = absurd (let i = eq_is b.number m e in let j = eq_is b.number n f in let k : nat_eq m n ≡ true = grind (arith, nat_tests) in cc (k, g))
    go true false false e f g h = rw g at h
    go false true true e f g h = absurd (let i = eq_is m n g in let j = eq_is b.number n f in let k : nat_eq b.number m ≡ true = grind (arith, nat_tests) in cc (k, e))
    go false true false e f g h = rw f refl
    go false false true e f g h = rw f (rw g at h)
    go false false false e f g h = rw f (rw g at h)

-- what holds of the table of a number holds of each of that number
pub each_table : (P : Table → Type 0) (n : ℕ) (ts : List Table) (w : Table) → Pairs (λ (a b : Table). a.number < b.number) ts → table_at n ts ≡ Some w → P w → Each (λ (b : Table). b.number ≡ n → P b) ts
each_table P n [] w a e h = tt
each_table P n (b ∷ bs) w a e h = go (nat_eq b.number n) refl e (each_table P n bs w a.1)
  where
    go : (c : Bool) → nat_eq b.number n ≡ c → cond c (Some b) (table_at n bs) ≡ Some w → (table_at n bs ≡ Some w → P w → Each (λ (x : Table). x.number ≡ n → P x) bs) → Each (λ (x : Table). x.number ≡ n → P x) (b ∷ bs)
    go true is k r =
        let i : b ≡ w = cc in
        let m = eq_is b.number n is in
        (λ _. subst P (sym i) h, each_imp (λ (x : Table). b.number < x.number) (λ (x : Table). x.number ≡ n → P x) (λ x lt j. absurd (omega (arith, lt, j, m))) bs a.0)
    go false is k r = (λ j. absurd (let z : nat_eq b.number n ≡ true = grind (arith, nat_tests) in cc (z, is)), r k h)

pub part_number : (a : PartAdded) (b : Table) → (part_added a b).number ≡ b.number
part_number a b = elim (nat_eq b.number a.table) as (λ (c : Bool). (cond c (record b { layout = with_part a.part b.layout }) b).number ≡ b.number) [ true ↦ refl | false ↦ refl ]

pub part_there : (a : PartAdded) (o : Option Table) (P : Table → Type 0) → ((b : Table) → P b → P (record b { layout = with_part a.part b.layout })) → There o P → There (option_map (part_added a) o) P
part_there a None P k h = h
part_there a (Some b) P k h = elim (nat_eq b.number a.table) as (λ (c : Bool). P (cond c (record b { layout = with_part a.part b.layout }) b)) [ true ↦ k b h | false ↦ h ]

pub part_if : (a : PartAdded) (o : Option Table) (P : Table → Type 0) → ((b : Table) → P b → P (record b { layout = with_part a.part b.layout })) → IfSome o P → IfSome (option_map (part_added a) o) P
part_if a None P k h = h
part_if a (Some b) P k h = elim (nat_eq b.number a.table) as (λ (c : Bool). P (cond c (record b { layout = with_part a.part b.layout }) b)) [ true ↦ k b h | false ↦ h ]

-- homes where a partition is added, and where a table goes
pub part_homes : (a : PartAdded) (tables : List Table) (t : Txn) → HasHome tables t → HasHome (map (part_added a) tables) t
part_homes a tables t h =
    subst (λ (o : Option Table). HomeBy t.state o (IsHome t.db t.schema)) (sym (found_map (part_added a) (part_number a) t.table tables))
    (home_imp t.state (table_at t.table tables) (option_map (part_added a) (table_at t.table tables)) (IsHome t.db t.schema) (IsHome t.db t.schema) (part_there a (table_at t.table tables) (IsHome t.db t.schema) (λ b k. k)) (part_if a (table_at t.table tables) (IsHome t.db t.schema) (λ b k. k)) h)

pub none_home : (s : TxnState) (P : Table → Type 0) → HomeBy (dropped_state s) None P
none_home state.Prepare P = tt
none_home state.Precommitted P = tt
none_home state.Committed P = tt
none_home state.Visible P = tt
none_home state.Aborted P = tt

pub dropped_home : (table at : ℕ) (tables : List Table) (t : Txn) → HasHome tables t → HasHome (filter (λ b. not (nat_eq b.number table)) tables) (dropped table at t)
dropped_home table at tables t h = go (nat_eq t.table table) refl
  where
    gone : (c : Bool) → nat_eq table t.table ≡ c → t.table ≡ table → HomeBy (dropped_state t.state) (cond c None (table_at t.table tables)) (IsHome t.db t.schema)
    gone true e i = none_home t.state (IsHome t.db t.schema)
    gone false e i = absurd (let z : nat_eq table t.table ≡ true = grind (arith, nat_tests) in cc (z, e))

    stays : (c : Bool) → nat_eq table t.table ≡ c → nat_eq t.table table ≡ false → HomeBy t.state (cond c None (table_at t.table tables)) (IsHome t.db t.schema)
    stays true e i = absurd (let j = eq_is table t.table e in let z : nat_eq t.table table ≡ true = grind (arith, nat_tests) in cc (z, i))
    stays false e i = h

    go : (c : Bool) → nat_eq t.table table ≡ c → HasHome (filter (λ b. not (nat_eq b.number table)) tables) (cond c (dropped_at at t) t)
    go true e = subst (λ (o : Option Table). HomeBy (dropped_state t.state) o (IsHome t.db t.schema)) (sym (found_without t.table table tables)) (gone (nat_eq table t.table) refl (eq_is t.table table e))
    go false e = subst (λ (o : Option Table). HomeBy t.state o (IsHome t.db t.schema)) (sym (found_without t.table table tables)) (stays (nat_eq table t.table) refl e)
