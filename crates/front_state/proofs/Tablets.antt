-- What is stored of tables, after a list more or a table more.
use Rattle.std.proofs.Common.{◌≡◌, ℕ, zero, suc, ◌+◌, ◌≤◌, ◌<◌, Bool, true, false, cond, List, [], ◌∷◌, ◌++◌, length, get_or, Option, Some, map, find, refl, sym, ◌∙◌, ap, arith, position, slice_set, nat_eq}
use Rattle.std.proofs.lemmas.Bool.Decides.{nat_tests}
use Rattle.std.proofs.lemmas.List.{get_or-map, length-map, map-set}
use Rattle.std.proofs.lemmas.List.Quantifiers.{position-Some}
use Rattle.std.specs.Option.{option_map}
use Rattle.front_defs.specs.Stands.{TableTablets, stored_for}
use Rattle.front_defs.specs.Stored.{PlacedRows}
use Rattle.front_laws.specs.Tidy.{Each}
use Rattle.front_laws.proofs.Lists.{each_imp, each_snoc, eq_is}
use Rattle.txn_core.specs.Seen.{AscendsBy}
use Rattle.front_state.specs.Tablets.{HasSets, Stores, table_seen}
use Rattle.front_state.specs.declared.stored_table.StoredTable.{StoredTable}

abbrev Known : ℕ → List StoredTable → Type 0
Known last ks = Each (λ (k : StoredTable). k.table ≤ last) ks

pub known_snoc : (last next : ℕ) (ks : List StoredTable) (k : StoredTable) → next ≡ last + 1 → k.table ≡ next → Known last ks → Known next (ks ++ k ∷ [])
known_snoc last next ks k n t e = each_snoc (λ (x : StoredTable). x.table ≤ next) ks k (each_imp (λ (x : StoredTable). x.table ≤ last) (λ (x : StoredTable). x.table ≤ next) (λ x h. omega (arith, n, h)) ks e) (omega (arith, t))

known_index : (last : ℕ) (ks : List StoredTable) (i : ℕ) (d : StoredTable) → i < length ks → Known last ks → (get_or ks i d).table ≤ last
known_index last [] i d lt e = absurd (omega arith)
known_index last (k ∷ ks) zero d lt e = e.0
known_index last (k ∷ ks) (suc i) d lt e = known_index last ks i d (omega arith) e.1

known_set : (last : ℕ) (ks : List StoredTable) (i : ℕ) (k : StoredTable) → k.table ≤ last → Known last ks → Known last (slice_set ks i k)
known_set last [] i k h e = tt
known_set last (x ∷ xs) zero k h e = (h, e.1)
known_set last (x ∷ xs) (suc i) k h e = (e.0, known_set last xs i k h e.1)

-- the first of a number is the one that is found
pub record IsFirst (table i : ℕ) (d : TableTablets) (ks : List TableTablets) : Type 0 where
  pub within : i < length ks
  pub at : get_or ks i d ≡ d
  pub hit : nat_eq d.table table ≡ true
  pub miss : (j : ℕ) → j < i → nat_eq (get_or ks j d).table table ≡ false

later : (table i : ℕ) (d k : TableTablets) (ks : List TableTablets) → IsFirst table (suc i) d (k ∷ ks) → IsFirst table i d ks
later table i d k ks h = record { within = (let w = h.within in omega (arith, w)); at = h.at; hit = h.hit; miss = λ j lt. h.miss (suc j) (omega (arith, lt)) }

found_there : (table i : ℕ) (d : TableTablets) (ks : List TableTablets) → IsFirst table i d ks → stored_for table ks ≡ Some d
found_there table i d [] h = absurd (let w = h.within in omega (arith, w))
found_there table zero d (k ∷ ks) h = let e : k ≡ d = h.at in rw e (rw (h.hit) refl)
found_there table (suc i) d (k ∷ ks) h = rw (h.miss 0 (omega arith)) (found_there table i d ks (later table i d k ks h))

set_found : (table i : ℕ) (d y : TableTablets) (ks : List TableTablets) → IsFirst table i d ks → nat_eq y.table table ≡ true → stored_for table (slice_set ks i y) ≡ Some y
set_found table i d y [] h e = absurd (let w = h.within in omega (arith, w))
set_found table zero d y (k ∷ ks) h e = rw e refl
set_found table (suc i) d y (k ∷ ks) h e = rw (h.miss 0 (omega arith)) (set_found table i d y ks (later table i d k ks h) e)

-- another number finds what it found
set_other : (t i : ℕ) (d y : TableTablets) (ks : List TableTablets) → i < length ks → get_or ks i d ≡ d → nat_eq d.table t ≡ false → nat_eq y.table t ≡ false → stored_for t (slice_set ks i y) ≡ stored_for t ks
set_other t i d y [] lt at h e = absurd (omega arith)
set_other t zero d y (k ∷ ks) lt at h e = let s : nat_eq k.table t ≡ false = ap (λ (x : TableTablets). nat_eq x.table t) at ∙ h in rw (e, s) refl
set_other t (suc i) d y (k ∷ ks) lt at h e = ap (λ (q : Option TableTablets). cond (nat_eq k.table t) (Some k) q) (set_other t i d y ks (omega arith) at h e)

has_after : (table t i : ℕ) (d y : TableTablets) (ks : List TableTablets) → IsFirst table i d ks → y.table ≡ table → (b : Bool) → nat_eq table t ≡ b → stored_for t (slice_set ks i y) ≡ cond b (Some y) (stored_for t ks)
has_after table t i d y ks h e true is =
    let same : table ≡ t = eq_is table t is in
    rw (← same) (set_found table i d y ks h (rw e (let r : nat_eq table table ≡ true = grind (arith, nat_tests) in r)))
has_after table t i d y ks h e false is =
    let hit : d.table ≡ table = eq_is d.table table h.hit in
    set_other t i d y ks h.within h.at (rw hit is) (rw e is)

-- a number is found where the table of that number is
pub seen_found : (table : ℕ) (ks : List StoredTable) → stored_for table (map (λ (k : StoredTable). table_seen k) ks) ≡ option_map (λ (k : StoredTable). table_seen k) (find (λ (k : StoredTable). nat_eq k.table table) ks)
seen_found table [] = refl
seen_found table (k ∷ ks) = go (nat_eq k.table table) (seen_found table ks)
  where
    go : (b : Bool) → stored_for table (map (λ (k : StoredTable). table_seen k) ks) ≡ option_map (λ (k : StoredTable). table_seen k) (find (λ (k : StoredTable). nat_eq k.table table) ks) → cond b (Some (table_seen k)) (stored_for table (map (λ (k : StoredTable). table_seen k) ks)) ≡ option_map (λ (k : StoredTable). table_seen k) (cond b (Some k) (find (λ (k : StoredTable). nat_eq k.table table) ks))
    go true r = refl
    go false r = r

first_by : (table i : ℕ) (d : StoredTable) (ks : List StoredTable) → Some i ≡ position (λ (k : StoredTable). nat_eq k.table table) ks → d ≡ get_or ks i d → IsFirst table i (table_seen d) (map (λ (k : StoredTable). table_seen k) ks)
first_by table i d ks e at =
    let h = position-Some (λ (k : StoredTable). nat_eq k.table table) ks i d (sym e) in
    let lt : i < length ks = h.0 in
    let hit : nat_eq (get_or ks i d).table table ≡ true = h.1 in
    let read = get_or-map (λ (k : StoredTable). table_seen k) ks in
    record {
      within = (let n = length-map ks (λ (k : StoredTable). table_seen k) in omega (arith, n, lt));
      at = read i d (table_seen d) lt ∙ ap (λ (k : StoredTable). table_seen k) (sym at);
      hit = ap (λ (k : StoredTable). nat_eq k.table table) at ∙ hit;
      miss = λ j l. ap (λ (k : TableTablets). nat_eq k.table table) (read j d (table_seen d) (omega (arith, l, lt))) ∙ h.2 j l;
    }

-- a list more where the number is found
pub stores_there : (table i : ℕ) (set : List PlacedRows) (d y : StoredTable) (ks : List StoredTable) → Some i ≡ position (λ (k : StoredTable). nat_eq k.table table) ks → d ≡ get_or ks i d → HasSets set (table_seen d) (table_seen y) → Stores table set (map (λ (k : StoredTable). table_seen k) ks) (map (λ (k : StoredTable). table_seen k) (slice_set ks i y))
stores_there table i set d y ks e at h =
    let f = first_by table i d ks e at in
    let number : y.table ≡ table = h.table ∙ eq_is d.table table f.hit in
    let seen : List TableTablets = map (λ (k : StoredTable). table_seen k) ks in
    record {
      before = table_seen d;
      after = table_seen y;
      had = found_there table i (table_seen d) seen f;
      has = λ t. ap (λ (xs : List TableTablets). stored_for t xs) (map-set (λ (k : StoredTable). table_seen k) ks i y) ∙ has_after table t i (table_seen d) (table_seen y) seen f number (nat_eq table t) refl;
      change = h;
    }

-- nothing is seen of a table that is as it was
pub unseen_there : (i : ℕ) (d y : StoredTable) (ks : List StoredTable) → d ≡ get_or ks i d → table_seen y ≡ table_seen d → map (λ (k : StoredTable). table_seen k) (slice_set ks i y) ≡ map (λ (k : StoredTable). table_seen k) ks
unseen_there i d y [] at e = refl
unseen_there zero d y (k ∷ ks) at e = ap (λ (x : TableTablets). x ∷ map (λ (k : StoredTable). table_seen k) ks) (e ∙ ap (λ (k : StoredTable). table_seen k) at)
unseen_there (suc i) d y (k ∷ ks) at e = ap (λ (xs : List TableTablets). table_seen k ∷ xs) (unseen_there i d y ks at e)

-- the numbers stay
pub known_there : (last i : ℕ) (d y : StoredTable) (ks : List StoredTable) → i < length ks → d ≡ get_or ks i d → y.table ≡ d.table → Known last ks → Known last (slice_set ks i y)
known_there last i d y ks lt at same k =
    let le = known_index last ks i d lt k in
    let e : y.table ≡ (get_or ks i d).table = same ∙ ap (λ (x : StoredTable). x.table) at in
    known_set last ks i y (omega (arith, e, le)) k

-- a list more keeps the numbers
kept_above : (n : ℕ) (ks : List StoredTable) (i : ℕ) (d y : StoredTable) → i < length ks → y.table ≡ (get_or ks i d).table → Each (λ (k : StoredTable). n < k.table) ks → Each (λ (k : StoredTable). n < k.table) (slice_set ks i y)
kept_above n [] i d y lt e a = absurd (omega arith)
kept_above n (k ∷ ks) zero d y lt e a = (let h = a.0 in omega (arith, e, h), a.1)
kept_above n (k ∷ ks) (suc i) d y lt e a = (a.0, kept_above n ks i d y (omega arith) e a.1)

ascends_set : (ks : List StoredTable) (i : ℕ) (d y : StoredTable) → i < length ks → y.table ≡ (get_or ks i d).table → AscendsBy (λ (k : StoredTable). k.table) ks → AscendsBy (λ (k : StoredTable). k.table) (slice_set ks i y)
ascends_set [] i d y lt e a = absurd (omega arith)
ascends_set (k ∷ ks) zero d y lt e a = (each_imp (λ (v : StoredTable). k.table < v.table) (λ (v : StoredTable). y.table < v.table) (λ v h. omega (arith, e, h)) ks a.0, a.1)
ascends_set (k ∷ ks) (suc i) d y lt e a = (kept_above k.table ks i d y (omega arith) e a.0, ascends_set ks i d y (omega arith) e a.1)

pub ascends_there : (i : ℕ) (d y : StoredTable) (ks : List StoredTable) → i < length ks → d ≡ get_or ks i d → y.table ≡ d.table → AscendsBy (λ (k : StoredTable). k.table) ks → AscendsBy (λ (k : StoredTable). k.table) (slice_set ks i y)
ascends_there i d y ks lt at same a = ascends_set ks i d y lt (same ∙ ap (λ (k : StoredTable). k.table) at) a

-- what holds of the numbers of tables holds of them as they are seen
pub each_seen : (last : ℕ) (ks : List StoredTable) → Known last ks → Each (λ (k : TableTablets). k.table ≤ last) (map (λ (k : StoredTable). table_seen k) ks)
each_seen last [] e = tt
each_seen last (k ∷ ks) e = (e.0, each_seen last ks e.1)
