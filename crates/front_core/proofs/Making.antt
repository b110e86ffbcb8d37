-- A new table: nothing is stored of it, and its tablets are there.
use Rattle.std.proofs.Common.{◌≡◌, ℕ, zero, suc, ◌+◌, ◌≤◌, Bool, true, false, cond, List, [], ◌∷◌, ◌++◌, length, get_or, Option, Some, None, MatchOption, refl, sym, ap, arith, nat_eq}
use Rattle.std.proofs.lemmas.Bool.Decides.{nat_tests}
use Rattle.std.specs.Prelude.{nat_lt, replicate}
use Rattle.std.specs.List.{AllByRecursion}
use Rattle.partitions.specs.Places.{Place}
use Rattle.front_defs.specs.declared.catalogue.Table.{Table}
use Rattle.front_defs.specs.declared.event.TableMade.{TableMade}
use Rattle.front_defs.specs.Catalogue.{new_table}
use Rattle.front_defs.specs.Indexes.{first_new}
use Rattle.front_defs.specs.Stands.{HasBuckets, HasGrid, HasIndex, IndexTablets, TableTablets, lists_by, lists_for, stored_for, version_for}
use Rattle.front_defs.specs.Stored.{StoredList}
use Rattle.front_laws.specs.Tidy.{Each}
use Rattle.front_state.specs.Tablets.{empty_tablets, nothing_stored}

-- ---- nothing is stored of it
bucket_at : (buckets bucket : ℕ) (empty none : List StoredList) → none ≡ empty → get_or (replicate buckets empty) bucket none ≡ empty
bucket_at zero bucket empty none e = e
bucket_at (suc n) zero empty none e = refl
bucket_at (suc n) (suc b) empty none e = bucket_at n b empty none e

part_at : (parts buckets part bucket : ℕ) (empty : List StoredList) → empty ≡ [] → get_or (get_or (replicate parts (replicate buckets empty)) part []) bucket [] ≡ empty
part_at zero buckets part bucket empty e = sym e
part_at (suc n) buckets zero bucket empty e = bucket_at buckets bucket empty [] (sym e)
part_at (suc n) buckets (suc p) bucket empty e = part_at n buckets p bucket empty e

empty_lists : (index : ℕ) (w : Place) (table parts buckets : ℕ) → lists_for index w (Some (nothing_stored table parts buckets)) ≡ []
empty_lists index w table parts buckets =
    let x : IndexTablets = record { number = 0; parts = replicate parts (replicate buckets []) } in
    elim (nat_eq 0 index) as (λ (b : Bool). lists_by w (cond b (Some x) None) ≡ []) [ true ↦ part_at parts buckets w.part w.bucket [] refl | false ↦ refl ]

first_version : (parts part one : ℕ) → get_or (replicate parts one) part one ≡ one
first_version zero part one = refl
first_version (suc n) zero one = refl
first_version (suc n) (suc p) one = first_version n p one

-- ---- what is stored of the others is found as before
lists_cons : (index : ℕ) (w : Place) (x : TableTablets) (a b : Option TableTablets) (h : Bool) → lists_for index w a ≡ lists_for index w b → lists_for index w (cond h (Some x) a) ≡ lists_for index w (cond h (Some x) b)
lists_cons index w x a b true e = refl
lists_cons index w x a b false e = e

pub more_lists : (index : ℕ) (w : Place) (t : ℕ) (ks : List TableTablets) (table parts buckets : ℕ) → lists_for index w (stored_for t (ks ++ nothing_stored table parts buckets ∷ [])) ≡ lists_for index w (stored_for t ks)
more_lists index w t [] table parts buckets = elim (nat_eq table t) as (λ (b : Bool). lists_for index w (cond b (Some (nothing_stored table parts buckets)) None) ≡ []) [ true ↦ empty_lists index w table parts buckets | false ↦ refl ]
more_lists index w t (x ∷ xs) table parts buckets = lists_cons index w x (stored_for t (xs ++ nothing_stored table parts buckets ∷ [])) (stored_for t xs) (nat_eq x.table t) (more_lists index w t xs table parts buckets)

version_cons : (part : ℕ) (x : TableTablets) (a b : Option TableTablets) (h : Bool) → version_for part a ≡ version_for part b → version_for part (cond h (Some x) a) ≡ version_for part (cond h (Some x) b)
version_cons part x a b true e = refl
version_cons part x a b false e = e

pub more_versions : (part t : ℕ) (ks : List TableTablets) (table parts buckets : ℕ) → version_for part (stored_for t (ks ++ nothing_stored table parts buckets ∷ [])) ≡ version_for part (stored_for t ks)
more_versions part t [] table parts buckets = elim (nat_eq table t) as (λ (b : Bool). version_for part (cond b (Some (nothing_stored table parts buckets)) None) ≡ 1) [ true ↦ first_version parts part 1 | false ↦ refl ]
more_versions part t (x ∷ xs) table parts buckets = version_cons part x (stored_for t (xs ++ nothing_stored table parts buckets ∷ [])) (stored_for t xs) (nat_eq x.table t) (more_versions part t xs table parts buckets)

-- ---- the tablets are there
found_cons : (x : TableTablets) (a b : Option TableTablets) (h : Bool) (P : TableTablets → Type 0) → (MatchOption b ⊥ P → MatchOption a ⊥ P) → MatchOption (cond h (Some x) b) ⊥ P → MatchOption (cond h (Some x) a) ⊥ P
found_cons x a b true P f h = h
found_cons x a b false P f h = f h

still_found : (t : ℕ) (ks : List TableTablets) (k : TableTablets) (P : TableTablets → Type 0) → MatchOption (stored_for t ks) ⊥ P → MatchOption (stored_for t (ks ++ k ∷ [])) ⊥ P
still_found t [] k P h = absurd h
still_found t (x ∷ xs) k P h = found_cons x (stored_for t (xs ++ k ∷ [])) (stored_for t xs) (nat_eq x.table t) P (still_found t xs k P) h

grids_more : (ks : List TableTablets) (k : TableTablets) (ts : List Table) → AllByRecursion (HasGrid ks) ts → AllByRecursion (HasGrid (ks ++ k ∷ [])) ts
grids_more ks k [] h = tt
grids_more ks k (t ∷ ts) h = (still_found t.number ks k (λ x. (index : ℕ) → nat_lt index (first_new t) ≡ true → HasIndex t x index) h.0, grids_more ks k ts h.1)

last_found : (last n : ℕ) (ks : List TableTablets) (k : TableTablets) (P : TableTablets → Type 0) → k.table ≡ n → n ≡ last + 1 → Each (λ (x : TableTablets). x.table ≤ last) ks → P k → MatchOption (stored_for n (ks ++ k ∷ [])) ⊥ P
last_found last n [] k P e f known h = let hit : nat_eq k.table n ≡ true = grind (arith, nat_tests) in rw hit h
last_found last n (x ∷ xs) k P e f known h = let low = known.0 in let miss : nat_eq x.table n ≡ false = grind (arith, nat_tests) in rw miss (last_found last n xs k P e f known.1 h)

long_as : {X : Type 0} (n : ℕ) (x : X) → length (replicate n x) ≡ n
long_as zero x = refl
long_as (suc n) x = ap suc (long_as n x)

all_as : {X : Type 0} (P : X → Type 0) (n : ℕ) (x : X) → P x → AllByRecursion P (replicate n x)
all_as P zero x h = tt
all_as P (suc n) x h = (h, all_as P n x h)

first_index : (t : Table) (k : TableTablets) (index : ℕ) → nat_lt index 1 ≡ true → HasIndex t k 0 → HasIndex t k index
first_index t k zero lt h = h
first_index t k (suc n) lt h = absurd (let z : nat_lt (suc n) 1 ≡ false = grind (arith, nat_tests) in cc (z, lt))

made_index : (m : TableMade) (n : ℕ) → HasIndex (new_table m n) (empty_tablets n m.layout) 0
made_index m n = record {
  parts = long_as (length m.layout.parts) (replicate m.layout.buckets []);
  buckets = all_as (HasBuckets m.layout.buckets) (length m.layout.parts) (replicate m.layout.buckets []) (long_as m.layout.buckets []);
  versions = long_as (length m.layout.parts) 1;
}

all_snoc : {X : Type 0} (P : X → Type 0) (xs : List X) (x : X) → AllByRecursion P xs → P x → AllByRecursion P (xs ++ x ∷ [])
all_snoc P [] x a h = (h, tt)
all_snoc P (y ∷ ys) x a h = (a.0, all_snoc P ys x a.1 h)

pub made_grid : (last : ℕ) (ks : List TableTablets) (ts : List Table) (m : TableMade) (n : ℕ) → n ≡ last + 1 → Each (λ (x : TableTablets). x.table ≤ last) ks → AllByRecursion (HasGrid ks) ts → AllByRecursion (HasGrid (ks ++ empty_tablets n m.layout ∷ [])) (ts ++ new_table m n ∷ [])
made_grid last ks ts m n e known h =
    let k = empty_tablets n m.layout in
    let t = new_table m n in
    all_snoc (HasGrid (ks ++ k ∷ [])) ts t (grids_more ks k ts h)
    (last_found last n ks k (λ x. (index : ℕ) → nat_lt index (first_new t) ≡ true → HasIndex t x index) refl e known (λ index lt. first_index t k index lt (made_index m n)))
