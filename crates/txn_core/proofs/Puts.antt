-- A change of one of the kept transactions, as contracts see it.
use Rattle.std.proofs.Common.{◌≡◌, ℕ, zero, suc, ◌+◌, ◌<◌, Bool, true, false, cond, List, [], ◌∷◌, ◌++◌, length, get_or, Option, Some, None, map, refl, sym, ◌∙◌, ap, arith, position, slice_set, nat_eq}
use Rattle.std.proofs.lemmas.Bool.Decides.{nat_tests}
use Rattle.std.proofs.lemmas.List.Quantifiers.{position-Some}
use Rattle.std.proofs.lemmas.Iterator.Adapters.{position_from-zero}
use Rattle.std.specs.List.{position_from}
use Rattle.front_laws.specs.Tidy.{Each}
use Rattle.front_laws.proofs.Lists.{each_imp, each_snoc, pairs_snoc}
use Rattle.txn_core.specs.declared.info.TxnInfo.{TxnInfo}
use Rattle.txn_core.specs.Seen.{Ascending, Below}
use Rattle.txn_core.specs.Book.{at_id}
use Rattle.txn_core.specs.Queue.{binding}
use Rattle.label_book.specs.Labels.{finished}
use Rattle.labels.specs.declared.txn_state.TxnState.{TxnState}

-- the first place of a number
pub record IsFirst (id i : ℕ) (d : TxnInfo) (ks : List TxnInfo) : Type 0 where
  pub within : i < length ks
  pub hit : nat_eq (get_or ks i d).id id ≡ true

pub first_by : (id i : ℕ) (d : TxnInfo) (ks : List TxnInfo) → Some i ≡ position (λ (k : TxnInfo). nat_eq k.id id) ks → IsFirst id i d ks
first_by id i d ks e = let h = position-Some (λ (k : TxnInfo). nat_eq k.id id) ks i d (sym e) in record { within = h.0; hit = h.1 }

pub each_index : {X : Type 0} (P : X → Type 0) (xs : List X) (i : ℕ) (d : X) → i < length xs → Each P xs → P (get_or xs i d)
each_index P [] i d lt e = absurd (omega arith)
each_index P (x ∷ xs) zero d lt e = e.0
each_index P (x ∷ xs) (suc i) d lt e = each_index P xs i d (omega arith) e.1

-- a map that leaves those of other numbers as they are
pub record Spares {Y : Type 0} (id : ℕ) (g : TxnInfo → Y) (f : Y → Y) : Type 0 where
  pub other : (k : TxnInfo) → nat_eq k.id id ≡ false → f (g k) ≡ g k

pub none_touched : {Y : Type 0} (id : ℕ) (g : TxnInfo → Y) (f : Y → Y) → Spares id g f → (ks : List TxnInfo) → Each (λ (k : TxnInfo). nat_eq k.id id ≡ false) ks → map f (map g ks) ≡ map g ks
none_touched id g f s [] e = refl
none_touched id g f s (k ∷ ks) e = rw (s.other k e.0) (ap (λ ys. g k ∷ ys) (none_touched id g f s ks e.1))

apart : (n m id : ℕ) → nat_eq n id ≡ true → n < m → nat_eq m id ≡ false
apart n m id e h = grind (arith, nat_tests)

before : (n m id : ℕ) → nat_eq m id ≡ true → n < m → nat_eq n id ≡ false
before n m id e h = grind (arith, nat_tests)

-- one put in its place is the map of all
pub put_there : {Y : Type 0} (id : ℕ) (g : TxnInfo → Y) (f : Y → Y) → Spares id g f → (ks : List TxnInfo) (i : ℕ) (d k : TxnInfo) → Ascending ks → i < length ks → nat_eq (get_or ks i d).id id ≡ true → g k ≡ f (g (get_or ks i d)) → map g (slice_set ks i k) ≡ map f (map g ks)
put_there id g f s [] i d k a lt hit is = absurd (omega arith)
put_there id g f s (u ∷ us) zero d k a lt hit is =
    rw (is, none_touched id g f s us (each_imp (λ (v : TxnInfo). u.id < v.id) (λ (v : TxnInfo). nat_eq v.id id ≡ false) (λ v h. apart u.id v.id id hit h) us a.0)) refl
put_there id g f s (u ∷ us) (suc i) d k a lt hit is =
    let other = s.other u (before u.id (get_or us i d).id id hit (each_index (λ (v : TxnInfo). u.id < v.id) us i d (omega arith) a.0)) in
    rw other (ap (λ ys. g u ∷ ys) (put_there id g f s us i d k a.1 (omega arith) hit is))

-- none of that number
miss_step : (b : Bool) (n : ℕ) (r : Option ℕ) → cond b (Some n) r ≡ None → (b ≡ false) × (r ≡ None)
miss_step true n r e = absurd (cc)
miss_step false n r e = (refl, e)

missed_from : (id n : ℕ) (ks : List TxnInfo) → position_from (λ (k : TxnInfo). nat_eq k.id id) n ks ≡ None → Each (λ (k : TxnInfo). nat_eq k.id id ≡ false) ks
missed_from id n [] e = tt
missed_from id n (k ∷ ks) e = let h = miss_step (nat_eq k.id id) n (position_from (λ (k : TxnInfo). nat_eq k.id id) (n + 1) ks) e in (h.0, missed_from id (n + 1) ks h.1)

pub missed : (id : ℕ) (ks : List TxnInfo) → None ≡ position (λ (k : TxnInfo). nat_eq k.id id) ks → Each (λ (k : TxnInfo). nat_eq k.id id ≡ false) ks
missed id ks e = missed_from id 0 ks (sym (position_from-zero (λ (k : TxnInfo). nat_eq k.id id) ks) ∙ sym e)

pub misses : {Y : Type 0} (id : ℕ) (g : TxnInfo → Y) (f : Y → Y) → Spares id g f → (ks : List TxnInfo) → None ≡ position (λ (k : TxnInfo). nat_eq k.id id) ks → map g ks ≡ map f (map g ks)
misses id g f s ks e = sym (none_touched id g f s ks (missed id ks e))

-- a change of a binding spares the others
pub binding_spares : (id : ℕ) (s : TxnState) → Spares id binding (finished id s)
binding_spares id s = record { other = λ k e. ap (λ (b : Bool). cond b (record (binding k) { state = s }) (binding k)) e }

pub hit_is : {Y : Type 0} (b : Bool) (x y : Y) → b ≡ true → cond b x y ≡ x
hit_is true x y e = refl
hit_is false x y e = absurd (cc)

-- the transactions after a change
none_at : (id : ℕ) (f : TxnInfo → TxnInfo) (ks : List TxnInfo) → Each (λ (k : TxnInfo). nat_eq k.id id ≡ false) ks → ks ≡ map (at_id id f) ks
none_at id f [] e = refl
none_at id f (k ∷ ks) e = rw e.0 (ap (λ (xs : List TxnInfo). k ∷ xs) (none_at id f ks e.1))

pub none_changed : (id : ℕ) (f : TxnInfo → TxnInfo) (ks : List TxnInfo) → None ≡ position (λ (k : TxnInfo). nat_eq k.id id) ks → ks ≡ map (at_id id f) ks
none_changed id f ks e = none_at id f ks (missed id ks e)

put_at : (id : ℕ) (f : TxnInfo → TxnInfo) (ks : List TxnInfo) (i : ℕ) (d k : TxnInfo) → Ascending ks → i < length ks → nat_eq (get_or ks i d).id id ≡ true → k ≡ f (get_or ks i d) → slice_set ks i k ≡ map (at_id id f) ks
put_at id f [] i d k a lt hit is = absurd (omega arith)
put_at id f (u ∷ us) zero d k a lt hit is =
    let rest = none_at id f us (each_imp (λ (v : TxnInfo). u.id < v.id) (λ (v : TxnInfo). nat_eq v.id id ≡ false) (λ v h. apart u.id v.id id hit h) us a.0) in
    rw (hit, is) (ap (λ (xs : List TxnInfo). f u ∷ xs) rest)
put_at id f (u ∷ us) (suc i) d k a lt hit is =
    let other = before u.id (get_or us i d).id id hit (each_index (λ (v : TxnInfo). u.id < v.id) us i d (omega arith) a.0) in
    rw other (ap (λ (xs : List TxnInfo). u ∷ xs) (put_at id f us i d k a.1 (omega arith) hit is))

pub one_changed : (id : ℕ) (f : TxnInfo → TxnInfo) (ks : List TxnInfo) (i : ℕ) (d k : TxnInfo) → Ascending ks → Some i ≡ position (λ (k : TxnInfo). nat_eq k.id id) ks → d ≡ get_or ks i d → k ≡ f d → slice_set ks i k ≡ map (at_id id f) ks
one_changed id f ks i d k a e at is = let h = first_by id i d ks e in put_at id f ks i d k a h.within h.hit (is ∙ ap f at)

-- the labels after it
pub labels_put : (id : ℕ) (s : TxnState) (ks : List TxnInfo) (i : ℕ) (d k : TxnInfo) → Ascending ks → Some i ≡ position (λ (k : TxnInfo). nat_eq k.id id) ks → d ≡ get_or ks i d → binding k ≡ record (binding d) { state = s } → map binding (slice_set ks i k) ≡ map (finished id s) (map binding ks)
labels_put id s ks i d k a e at is =
    let h = first_by id i d ks e in
    put_there id binding (finished id s) (binding_spares id s) ks i d k a h.within h.hit
    (is ∙ ap (λ (x : TxnInfo). record (binding x) { state = s }) at ∙ sym (hit_is (nat_eq (get_or ks i d).id id) (record (binding (get_or ks i d)) { state = s }) (binding (get_or ks i d)) h.hit))

-- a change keeps the order of the numbers
each_set : (P : TxnInfo → Type 0) (ks : List TxnInfo) (i : ℕ) (k : TxnInfo) → P k → Each P ks → Each P (slice_set ks i k)
each_set P [] i k h e = tt
each_set P (u ∷ us) zero k h e = (h, e.1)
each_set P (u ∷ us) (suc i) k h e = (e.0, each_set P us i k h e.1)

pub ascending_set : (ks : List TxnInfo) (i : ℕ) (d k : TxnInfo) → i < length ks → k.id ≡ (get_or ks i d).id → Ascending ks → Ascending (slice_set ks i k)
ascending_set [] i d k lt e a = tt
ascending_set (u ∷ us) zero d k lt e a = (each_imp (λ (v : TxnInfo). u.id < v.id) (λ (v : TxnInfo). k.id < v.id) (λ v h. omega (arith, e, h)) us a.0, a.1)
ascending_set (u ∷ us) (suc i) d k lt e a =
    let h = each_index (λ (v : TxnInfo). u.id < v.id) us i d (omega arith) a.0 in
    (each_set (λ (v : TxnInfo). u.id < v.id) us i k (omega (arith, e, h)) a.0, ascending_set us i d k (omega arith) e a.1)

below_set : (n : ℕ) (ks : List TxnInfo) (i : ℕ) (d k : TxnInfo) → i < length ks → k.id ≡ (get_or ks i d).id → Below n ks → Below n (slice_set ks i k)
below_set n ks i d k lt e b = let h = each_index (λ (v : TxnInfo). v.id < n) ks i d lt b in each_set (λ (v : TxnInfo). v.id < n) ks i k (omega (arith, e, h)) b

same_id : (ks : List TxnInfo) (i : ℕ) (d k : TxnInfo) → d ≡ get_or ks i d → k.id ≡ d.id → k.id ≡ (get_or ks i d).id
same_id ks i d k at is = is ∙ ap (λ (x : TxnInfo). x.id) at

pub ascending_put : (id : ℕ) (ks : List TxnInfo) (i : ℕ) (d k : TxnInfo) → Ascending ks → Some i ≡ position (λ (k : TxnInfo). nat_eq k.id id) ks → d ≡ get_or ks i d → k.id ≡ d.id → Ascending (slice_set ks i k)
ascending_put id ks i d k a e at is = ascending_set ks i d k (first_by id i d ks e).within (same_id ks i d k at is) a

pub below_put : (n id : ℕ) (ks : List TxnInfo) (i : ℕ) (d k : TxnInfo) → Some i ≡ position (λ (k : TxnInfo). nat_eq k.id id) ks → d ≡ get_or ks i d → k.id ≡ d.id → Below n ks → Below n (slice_set ks i k)
below_put n id ks i d k e at is b = below_set n ks i d k (first_by id i d ks e).within (same_id ks i d k at is) b

-- one more with the next number
pub ascending_snoc : (next : ℕ) (ks : List TxnInfo) (k : TxnInfo) → k.id ≡ next → Ascending ks → Below next ks → Ascending (ks ++ k ∷ [])
ascending_snoc next ks k e a b = pairs_snoc (λ (x y : TxnInfo). x.id < y.id) ks k a (each_imp (λ (x : TxnInfo). x.id < next) (λ (x : TxnInfo). x.id < k.id) (λ x h. omega (arith, e, h)) ks b)

pub below_snoc : (next : ℕ) (ks : List TxnInfo) (k : TxnInfo) → k.id ≡ next → Below next ks → Below (next + 1) (ks ++ k ∷ [])
below_snoc next ks k e b = each_snoc (λ (x : TxnInfo). x.id < next + 1) ks k (each_imp (λ (x : TxnInfo). x.id < next) (λ (x : TxnInfo). x.id < next + 1) (λ x h. omega (arith, h)) ks b) (omega (arith, e))

pub length_put : (ks : List TxnInfo) (i : ℕ) (k : TxnInfo) → length (slice_set ks i k) ≡ length ks
length_put [] i k = refl
length_put (u ∷ us) zero k = refl
length_put (u ∷ us) (suc i) k = ap suc (length_put us i k)
