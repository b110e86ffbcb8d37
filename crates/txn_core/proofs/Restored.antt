-- A transaction that is restored stands where its number puts it, and in the queue where its place puts it.
use Rattle.std.proofs.Common.{◌≡◌, ℕ, ◌+◌, ◌≤◌, ◌<◌, Bool, true, false, cond, not, ◌||◌, List, [], ◌∷◌, ◌++◌, find, length, map, Option, Some, None, IfSome, refl, sym, ◌∙◌, ap, subst, arith, nat_eq}
use Rattle.std.proofs.lemmas.Bool.Decides.{nat_tests}
use Rattle.std.proofs.lemmas.List.{map-append}
use Rattle.std.specs.Prelude.{count_by, filter, is_some, nat_lt, unwrap_or}
use Rattle.std.specs.Option.{option_map}
use Rattle.label_book.specs.declared.binding.Binding.{Binding}
use Rattle.label_book.specs.Labels.{bound, finished, is_bound, put_binding}
use Rattle.front_defs.specs.Transactions.{is_committed, is_visible, place_of, txn_at}
use Rattle.front_laws.specs.Tidy.{Each, Pairs}
use Rattle.front_laws.proofs.Lists.{each_imp, each_passed, always, pairs_insert}
use Rattle.txn_core.specs.declared.info.TxnInfo.{TxnInfo}
use Rattle.txn_core.specs.declared.waiter.Waiter.{Waiter}
use Rattle.txn_core.specs.Book.{BookView, put_info}
use Rattle.txn_core.specs.Refusals.{HasOwnPlace}
use Rattle.txn_core.specs.Queue.{IsIndexed, IsListed, IsQueue, binding, put_slot, slot, slot_at, waiter_at}
use Rattle.txn_core.specs.Seen.{seen, Ascending, Below}
use Rattle.txn_core.proofs.Due.{sum_cons}
use Rattle.txn_core.proofs.Puts.{binding_spares, none_touched}
use Rattle.txn_core.proofs.Room.{count_within}
use Rattle.txn_core.proofs.Views.{txn_seen}

-- ---- no one has its number

unfound_step : (b : Bool) (k : TxnInfo) (o : Option TxnInfo) → cond b (Some k) o ≡ None → (b ≡ false) × (o ≡ None)
unfound_step true k o e = absurd (cc)
unfound_step false k o e = (refl, e)

pub none_has : (id : ℕ) (ks : List TxnInfo) → find (λ (k : TxnInfo). nat_eq k.id id) ks ≡ None → Each (λ (k : TxnInfo). nat_eq k.id id ≡ false) ks
none_has id [] e = tt
none_has id (k ∷ ks) e = let h = unfound_step (nat_eq k.id id) k (find (λ (k : TxnInfo). nat_eq k.id id) ks) e in (h.0, none_has id ks h.1)

unseen_step : (o : Option TxnInfo) → option_map seen o ≡ None → o ≡ None
unseen_step None e = refl
unseen_step (Some k) e = absurd (cc)

pub not_kept : (id : ℕ) (ks : List TxnInfo) → txn_at id (map seen ks) ≡ None → find (λ (k : TxnInfo). nat_eq k.id id) ks ≡ None
not_kept id ks e = unseen_step (find (λ (k : TxnInfo). nat_eq k.id id) ks) (sym (txn_seen id ks) ∙ e)

pub none_bound : (id : ℕ) (ks : List TxnInfo) → Each (λ (k : TxnInfo). nat_eq k.id id ≡ false) ks → is_bound id (map binding ks) ≡ false
none_bound id [] e = refl
none_bound id (k ∷ ks) e = rw e.0 (none_bound id ks e.1)

-- ---- the kept ones are those of lower and those of higher numbers

abbrev pub lower : ℕ → List TxnInfo → List TxnInfo
lower id ks = filter (λ (u : TxnInfo). nat_lt u.id id) ks

abbrev pub higher : ℕ → List TxnInfo → List TxnInfo
higher id ks = filter (λ (u : TxnInfo). nat_lt id u.id) ks

lt_is : (n m : ℕ) → nat_lt n m ≡ true → n < m
lt_is n m h = grind (arith, nat_tests)

none_lower : (id n : ℕ) (ks : List TxnInfo) → id < n → Each (λ (u : TxnInfo). n < u.id) ks → lower id ks ≡ []
none_lower id n [] lt e = refl
none_lower id n (k ∷ ks) lt e = let a = e.0 in let h : nat_lt k.id id ≡ false = grind (arith, nat_tests) in rw h (none_lower id n ks lt e.1)

all_higher : (id n : ℕ) (ks : List TxnInfo) → id < n → Each (λ (u : TxnInfo). n < u.id) ks → higher id ks ≡ ks
all_higher id n [] lt e = refl
all_higher id n (k ∷ ks) lt e = let a = e.0 in let h : nat_lt id k.id ≡ true = grind (arith, nat_tests) in rw h (ap (λ (ys : List TxnInfo). k ∷ ys) (all_higher id n ks lt e.1))

split_step : (b : Bool) (id : ℕ) (k : TxnInfo) (ks : List TxnInfo) → nat_lt k.id id ≡ b → nat_eq k.id id ≡ false → Each (λ (u : TxnInfo). k.id < u.id) ks → lower id ks ++ higher id ks ≡ ks → lower id (k ∷ ks) ++ higher id (k ∷ ks) ≡ k ∷ ks
split_step true id k ks e off a h =
    let g : nat_lt id k.id ≡ false = grind (arith, nat_tests) in
    rw (e, g) (ap (λ (ys : List TxnInfo). k ∷ ys) h)
split_step false id k ks e off a h =
    let lt : id < k.id = grind (arith, nat_tests) in
    let g : nat_lt id k.id ≡ true = grind (arith, nat_tests) in
    rw (e, g) (ap (λ (ys : List TxnInfo). ys ++ k ∷ higher id ks) (none_lower id k.id ks lt a) ∙ ap (λ (ys : List TxnInfo). k ∷ ys) (all_higher id k.id ks lt a))

pub parts_are : (id : ℕ) (ks : List TxnInfo) → Ascending ks → Each (λ (k : TxnInfo). nat_eq k.id id ≡ false) ks → lower id ks ++ higher id ks ≡ ks
parts_are id [] a e = refl
parts_are id (k ∷ ks) a e = split_step (nat_lt k.id id) id k ks refl e.0 a.0 (parts_are id ks a.1 e.1)

-- those that are not lower are higher
not_lower : (n id : ℕ) → nat_eq n id ≡ false → not (nat_lt n id) ≡ nat_lt id n
not_lower n id h = grind (arith, nat_tests)

pub others_higher : (id : ℕ) (ks : List TxnInfo) → Each (λ (k : TxnInfo). nat_eq k.id id ≡ false) ks → filter (λ (u : TxnInfo). not (nat_lt u.id id)) ks ≡ higher id ks
others_higher id [] e = refl
others_higher id (k ∷ ks) e = ap (λ (b : Bool). cond b (k ∷ filter (λ (u : TxnInfo). not (nat_lt u.id id)) ks) (filter (λ (u : TxnInfo). not (nat_lt u.id id)) ks)) (not_lower k.id id e.0) ∙ ap (λ (ys : List TxnInfo). cond (nat_lt id k.id) (k ∷ ys) ys) (others_higher id ks e.1)

each_lower : (id : ℕ) (ks : List TxnInfo) → Each (λ (u : TxnInfo). u.id < id) (lower id ks)
each_lower id ks = each_passed (λ (u : TxnInfo). u.id < id) (λ (u : TxnInfo). nat_lt u.id id) ks (always (λ (u : TxnInfo). nat_lt u.id id ≡ true → u.id < id) ks (λ u h. lt_is u.id id h))

each_higher : (id : ℕ) (ks : List TxnInfo) → Each (λ (u : TxnInfo). id < u.id) (higher id ks)
each_higher id ks = each_passed (λ (u : TxnInfo). id < u.id) (λ (u : TxnInfo). nat_lt id u.id) ks (always (λ (u : TxnInfo). nat_lt id u.id ≡ true → id < u.id) ks (λ u h. lt_is id u.id h))

each_insert : {X : Type 0} (P : X → Type 0) (xs ys : List X) (x : X) → Each P (xs ++ ys) → P x → Each P (xs ++ x ∷ ys)
each_insert P [] ys x e h = (h, e)
each_insert P (z ∷ xs) ys x e h = (e.0, each_insert P xs ys x e.1 h)

length_insert : {X : Type 0} (xs ys : List X) (x : X) → length (xs ++ x ∷ ys) ≡ length (xs ++ ys) + 1
length_insert [] ys x = omega arith
length_insert (z ∷ xs) ys x = let h = length_insert xs ys x in omega (arith, h)

-- ---- the labels

filter_step : (b : Bool) (k : TxnInfo) (ks : List TxnInfo) → cond b (binding k ∷ map binding ks) (map binding ks) ≡ map binding (cond b (k ∷ ks) ks)
filter_step true k ks = refl
filter_step false k ks = refl

filter_bound : (p : Binding → Bool) (ks : List TxnInfo) → filter p (map binding ks) ≡ map binding (filter (λ (k : TxnInfo). p (binding k)) ks)
filter_bound p [] = refl
filter_bound p (k ∷ ks) = ap (λ (bs : List Binding). cond (p (binding k)) (binding k ∷ bs) bs) (filter_bound p ks) ∙ filter_step (p (binding k)) k (filter (λ (u : TxnInfo). p (binding u)) ks)

apart_below : (n id : ℕ) → n < id → nat_eq n id ≡ false
apart_below n id h = grind (arith, nat_tests)

apart_above : (n id : ℕ) → id < n → nat_eq n id ≡ false
apart_above n id h = grind (arith, nat_tests)

own_binding : (k : TxnInfo) → finished k.id k.state (bound k.db k.label k.id) ≡ binding k
own_binding k = let z : nat_eq k.id k.id ≡ true = grind (arith, nat_tests) in rw z refl

pub labels_restored : (k : TxnInfo) (ks : List TxnInfo) → map (finished k.id k.state) (put_binding (bound k.db k.label k.id) (map binding ks)) ≡ map binding (put_info k ks)
labels_restored k ks =
    let lo = lower k.id ks in
    let hi = higher k.id ks in
    let f = finished k.id k.state in
    let s = binding_spares k.id k.state in
    let low : map f (map binding lo) ≡ map binding lo = none_touched k.id binding f s lo (each_imp (λ (u : TxnInfo). u.id < k.id) (λ (u : TxnInfo). nat_eq u.id k.id ≡ false) (λ u h. apart_below u.id k.id h) lo (each_lower k.id ks)) in
    let high : map f (map binding hi) ≡ map binding hi = none_touched k.id binding f s hi (each_imp (λ (u : TxnInfo). k.id < u.id) (λ (u : TxnInfo). nat_eq u.id k.id ≡ false) (λ u h. apart_above u.id k.id h) hi (each_higher k.id ks)) in
    ap (λ (bs : List Binding). map f (bs ++ bound k.db k.label k.id ∷ filter (λ (c : Binding). nat_lt k.id c.txn) (map binding ks))) (filter_bound (λ (c : Binding). nat_lt c.txn k.id) ks)
    ∙ ap (λ (bs : List Binding). map f (map binding lo ++ bound k.db k.label k.id ∷ bs)) (filter_bound (λ (c : Binding). nat_lt k.id c.txn) ks)
    ∙ map-append f (map binding lo) (bound k.db k.label k.id ∷ map binding hi)
    ∙ ap (λ (bs : List Binding). bs ++ f (bound k.db k.label k.id) ∷ map f (map binding hi)) low
    ∙ ap (λ (bs : List Binding). map binding lo ++ f (bound k.db k.label k.id) ∷ bs) high
    ∙ ap (λ (b : Binding). map binding lo ++ b ∷ map binding hi) (own_binding k)
    ∙ sym (map-append binding lo (k ∷ hi))

bound_among : (id : ℕ) (b : Binding) (xs ys : List Binding) → nat_eq b.txn id ≡ true → is_bound id (xs ++ b ∷ ys) ≡ true
bound_among id b [] ys h = rw h refl
bound_among id b (x ∷ xs) ys h = rw (bound_among id b xs ys h) (or_true (nat_eq x.txn id))
  where
    or_true : (c : Bool) → (c || true) ≡ true
    or_true true = refl
    or_true false = refl

pub put_is_bound : (b : Binding) (bs : List Binding) → is_bound b.txn (put_binding b bs) ≡ true
put_is_bound b bs = let z : nat_eq b.txn b.txn ≡ true = grind (arith, nat_tests) in bound_among b.txn b (filter (λ (c : Binding). nat_lt c.txn b.txn) bs) (filter (λ (c : Binding). nat_lt b.txn c.txn) bs) z

-- ---- the queue

eq_swap : (n m : ℕ) → nat_eq n m ≡ false → nat_eq m n ≡ false
eq_swap n m h = grind (arith, nat_tests)

slot_other : (j : ℕ) (xs ys : List TxnInfo) (k : TxnInfo) → nat_eq k.id j ≡ false → slot_at j (xs ++ k ∷ ys) ≡ slot_at j (xs ++ ys)
slot_other j [] ys k off = rw off refl
slot_other j (x ∷ xs) ys k off = ap (cond (nat_eq x.id j) (slot x)) (slot_other j xs ys k off)

slot_own : (xs ys : List TxnInfo) (k : TxnInfo) → Each (λ (u : TxnInfo). nat_eq u.id k.id ≡ false) (xs ++ ys) → slot_at k.id (xs ++ k ∷ ys) ≡ slot k
slot_own [] ys k e = let z : nat_eq k.id k.id ≡ true = grind (arith, nat_tests) in rw z refl
slot_own (x ∷ xs) ys k e = rw e.0 (slot_own xs ys k e.1)

slot_missing : (id : ℕ) (ks : List TxnInfo) → Each (λ (k : TxnInfo). nat_eq k.id id ≡ false) ks → slot_at id ks ≡ None
slot_missing id [] e = refl
slot_missing id (k ∷ ks) e = rw e.0 (slot_missing id ks e.1)

other_by : (id j p : ℕ) (ks : List TxnInfo) (b : Bool) → nat_eq id j ≡ b → slot_at id ks ≡ None → slot_at j ks ≡ Some p → nat_eq id j ≡ false
other_by id j p ks true e n s = absurd (let i : j ≡ id = grind (arith, nat_tests) in let z : slot_at id ks ≡ Some p = ap (λ (m : ℕ). slot_at m ks) (sym i) ∙ s in cc)
other_by id j p ks false e n s = e

count_insert : (xs ys : List TxnInfo) (k : TxnInfo) → count_by (λ (x : TxnInfo). is_committed x.state) (xs ++ k ∷ ys) ≡ cond (is_committed k.state) 1 0 + count_by (λ (x : TxnInfo). is_committed x.state) (xs ++ ys)
count_insert [] ys k = sum_cons (λ (x : TxnInfo). cond (is_committed x.state) 1 0) k ys
count_insert (x ∷ xs) ys k =
    let a = sum_cons (λ (x : TxnInfo). cond (is_committed x.state) 1 0) x (xs ++ k ∷ ys) in
    let b = sum_cons (λ (x : TxnInfo). cond (is_committed x.state) 1 0) x (xs ++ ys) in
    let h = count_insert xs ys k in
    omega (arith, a, b, h)

-- one that is not committed
queue_beside : (xs ys : List TxnInfo) (k : TxnInfo) (q : List Waiter) (last : ℕ) → Each (λ (u : TxnInfo). nat_eq u.id k.id ≡ false) (xs ++ ys) → is_committed k.state ≡ false → IsQueue (xs ++ ys) q last → IsQueue (xs ++ k ∷ ys) q last
queue_beside xs ys k q last e off h = record {
  rises = h.rises;
  low = h.low;
  listed = each_insert (λ (x : TxnInfo). IsListed q x.id (slot x)) xs ys k h.listed (rw off tt);
  filled = each_imp (λ (w : Waiter). slot_at w.txn (xs ++ ys) ≡ Some w.place) (λ (w : Waiter). slot_at w.txn (xs ++ k ∷ ys) ≡ Some w.place) (λ w s. slot_other w.txn xs ys k (other_by k.id w.txn w.place (xs ++ ys) (nat_eq k.id w.txn) refl (slot_missing k.id (xs ++ ys) e) s) ∙ s) q h.filled;
  count = count_insert xs ys k ∙ rw off (let n = h.count in omega (arith, n));
}

-- no waiter has its place

placed_step : (p : ℕ) (o : Option ℕ) (n : ℕ) → 0 < p → unwrap_or o 0 ≡ p → o ≡ Some p
placed_step p None n lt e = absurd (omega (arith, e, lt))
placed_step p (Some m) n lt e = ap (λ (x : ℕ). Some x) e

own_step : (b c : Bool) (k : TxnInfo) (p : ℕ) (s : Option ℕ) → 0 < p → (k.place ≡ Some p → ⊥) → cond b (cond c (Some (place_of (seen k))) None) s ≡ Some p → (s ≡ Some p → ⊥) → ⊥
own_step true true k p s lt n e f = n (placed_step p k.place 0 lt (let i : place_of (seen k) ≡ p = cc in i))
own_step true false k p s lt n e f = absurd (cc)
own_step false c k p s lt n e f = f e

no_waiter : (id p : ℕ) (ks : List TxnInfo) → 0 < p → Each (λ (u : TxnInfo). u.place ≡ Some p → ⊥) ks → slot_at id ks ≡ Some p → ⊥
no_waiter id p [] lt e s = absurd (cc)
no_waiter id p (k ∷ ks) lt e s = own_step (nat_eq k.id id) (is_committed k.state) k p (slot_at id ks) lt e.0 s (no_waiter id p ks lt e.1)

place_step : (p n id : ℕ) (ks : List TxnInfo) (b : Bool) → nat_eq n p ≡ b → 0 < p → Each (λ (u : TxnInfo). u.place ≡ Some p → ⊥) ks → slot_at id ks ≡ Some n → nat_eq n p ≡ false
place_step p n id ks true e lt own s = absurd (no_waiter id p ks lt own (let i : n ≡ p = grind (arith, nat_tests) in s ∙ ap (λ (m : ℕ). Some m) i))
place_step p n id ks false e lt own s = e

places_apart : (p : ℕ) (ks : List TxnInfo) (q : List Waiter) → 0 < p → Each (λ (u : TxnInfo). u.place ≡ Some p → ⊥) ks → Each (λ (w : Waiter). slot_at w.txn ks ≡ Some w.place) q → Each (λ (w : Waiter). nat_eq w.place p ≡ false) q
places_apart p ks q lt own e = each_imp (λ (w : Waiter). slot_at w.txn ks ≡ Some w.place) (λ (w : Waiter). nat_eq w.place p ≡ false) (λ w s. place_step p w.place w.txn ks (nat_eq w.place p) refl lt own s) q e

-- the waiters of lower and of other places

abbrev before : ℕ → List Waiter → List Waiter
before p q = filter (λ (w : Waiter). nat_lt w.place p) q

abbrev behind : ℕ → List Waiter → List Waiter
behind p q = filter (λ (w : Waiter). not (nat_lt w.place p)) q

none_before : (p n : ℕ) (q : List Waiter) → p ≤ n → Each (λ (w : Waiter). n < w.place) q → before p q ≡ []
none_before p n [] lt e = refl
none_before p n (v ∷ q) lt e = let a = e.0 in let h : nat_lt v.place p ≡ false = grind (arith, nat_tests) in rw h (none_before p n q lt e.1)

all_behind : (p n : ℕ) (q : List Waiter) → p ≤ n → Each (λ (w : Waiter). n < w.place) q → behind p q ≡ q
all_behind p n [] lt e = refl
all_behind p n (v ∷ q) lt e = let a = e.0 in let h : nat_lt v.place p ≡ false = grind (arith, nat_tests) in rw h (ap (λ (vs : List Waiter). v ∷ vs) (all_behind p n q lt e.1))

queue_step : (b : Bool) (p : ℕ) (v : Waiter) (q : List Waiter) → nat_lt v.place p ≡ b → Each (λ (w : Waiter). v.place < w.place) q → before p q ++ behind p q ≡ q → before p (v ∷ q) ++ behind p (v ∷ q) ≡ v ∷ q
queue_step true p v q e a h = rw e (ap (λ (vs : List Waiter). v ∷ vs) h)
queue_step false p v q e a h =
    let le : p ≤ v.place = grind (arith, nat_tests) in
    rw e (ap (λ (vs : List Waiter). vs ++ v ∷ behind p q) (none_before p v.place q le a) ∙ ap (λ (vs : List Waiter). v ∷ vs) (all_behind p v.place q le a))

queue_parts : (p : ℕ) (q : List Waiter) → Pairs (λ (v w : Waiter). v.place < w.place) q → before p q ++ behind p q ≡ q
queue_parts p [] a = refl
queue_parts p (v ∷ q) a = queue_step (nat_lt v.place p) p v q refl a.0 (queue_parts p q a.1)

each_before : (p : ℕ) (q : List Waiter) → Each (λ (w : Waiter). w.place < p) (before p q)
each_before p q = each_passed (λ (w : Waiter). w.place < p) (λ (w : Waiter). nat_lt w.place p) q (always (λ (w : Waiter). nat_lt w.place p ≡ true → w.place < p) q (λ w h. lt_is w.place p h))

above_is : (n p : ℕ) → nat_eq n p ≡ false → not (nat_lt n p) ≡ true → p < n
above_is n p e h = grind (arith, nat_tests)

each_behind : (p : ℕ) (q : List Waiter) → Each (λ (w : Waiter). nat_eq w.place p ≡ false) q → Each (λ (w : Waiter). p < w.place) (behind p q)
each_behind p q e = each_passed (λ (w : Waiter). p < w.place) (λ (w : Waiter). not (nat_lt w.place p)) q (each_imp (λ (w : Waiter). nat_eq w.place p ≡ false) (λ (w : Waiter). not (nat_lt w.place p) ≡ true → p < w.place) (λ w off h. above_is w.place p off h) q e)

waiter_other : (p : ℕ) (us vs : List Waiter) (w : Waiter) → nat_eq w.place p ≡ false → waiter_at p (us ++ w ∷ vs) ≡ waiter_at p (us ++ vs)
waiter_other p [] vs w off = rw off refl
waiter_other p (u ∷ us) vs w off = ap (cond (nat_eq u.place p) (Some u.txn)) (waiter_other p us vs w off)

waiter_own : (us vs : List Waiter) (w : Waiter) → Each (λ (u : Waiter). u.place < w.place) us → waiter_at w.place (us ++ w ∷ vs) ≡ Some w.txn
waiter_own [] vs w e = let z : nat_eq w.place w.place ≡ true = grind (arith, nat_tests) in rw z refl
waiter_own (u ∷ us) vs w e = let h = e.0 in let z : nat_eq u.place w.place ≡ false = grind (arith, nat_tests) in rw z (waiter_own us vs w e.1)

unlisted_at : (p : ℕ) (q : List Waiter) → Each (λ (w : Waiter). nat_eq w.place p ≡ false) q → waiter_at p q ≡ None
unlisted_at p [] e = refl
unlisted_at p (v ∷ q) e = rw e.0 (unlisted_at p q e.1)

listed_apart : (p n j : ℕ) (q : List Waiter) (b : Bool) → nat_eq p n ≡ b → waiter_at p q ≡ None → waiter_at n q ≡ Some j → nat_eq p n ≡ false
listed_apart p n j q true e m l = absurd (let i : n ≡ p = grind (arith, nat_tests) in let z : waiter_at p q ≡ Some j = ap (λ (m : ℕ). waiter_at m q) (sym i) ∙ l in cc)
listed_apart p n j q false e m l = e

still_listed : (us vs : List Waiter) (w : Waiter) (j : ℕ) (s : Option ℕ) → waiter_at w.place (us ++ vs) ≡ None → IsListed (us ++ vs) j s → IsListed (us ++ w ∷ vs) j s
still_listed us vs w j None m l = tt
still_listed us vs w j (Some n) m l = waiter_other n us vs w (listed_apart w.place n j (us ++ vs) (nat_eq w.place n) refl m l) ∙ l

-- one that is committed, at a place of its own
queue_takes : (xs ys : List TxnInfo) (k : TxnInfo) (us vs : List Waiter) (w : Waiter) (last : ℕ) → Each (λ (u : TxnInfo). nat_eq u.id k.id ≡ false) (xs ++ ys) → slot k ≡ Some w.place → is_committed k.state ≡ true → w.txn ≡ k.id → w.place ≤ last → Each (λ (u : Waiter). u.place < w.place) us → Each (λ (u : Waiter). w.place < u.place) vs → Each (λ (u : Waiter). nat_eq u.place w.place ≡ false) (us ++ vs) → IsQueue (xs ++ ys) (us ++ vs) last → IsQueue (xs ++ k ∷ ys) (us ++ w ∷ vs) last
queue_takes xs ys k us vs w last e on now is le lo hi own h =
    let free = unlisted_at w.place (us ++ vs) own in
    let here : waiter_at w.place (us ++ w ∷ vs) ≡ Some k.id = waiter_own us vs w lo ∙ ap (λ (n : ℕ). Some n) is in
    record {
      rises = pairs_insert (λ (v u : Waiter). v.place < u.place) us vs w h.rises lo hi;
      low = each_insert (λ (u : Waiter). u.place ≤ last) us vs w h.low le;
      listed = each_insert (λ (x : TxnInfo). IsListed (us ++ w ∷ vs) x.id (slot x)) xs ys k (each_imp (λ (x : TxnInfo). IsListed (us ++ vs) x.id (slot x)) (λ (x : TxnInfo). IsListed (us ++ w ∷ vs) x.id (slot x)) (λ x l. still_listed us vs w x.id (slot x) free l) (xs ++ ys) h.listed) (rw on here);
      filled = each_insert (λ (u : Waiter). slot_at u.txn (xs ++ k ∷ ys) ≡ Some u.place) us vs w
          (each_imp (λ (u : Waiter). slot_at u.txn (xs ++ ys) ≡ Some u.place) (λ (u : Waiter). slot_at u.txn (xs ++ k ∷ ys) ≡ Some u.place) (λ u s. slot_other u.txn xs ys k (other_by k.id u.txn u.place (xs ++ ys) (nat_eq k.id u.txn) refl (slot_missing k.id (xs ++ ys) e) s) ∙ s) (us ++ vs) h.filled)
          (ap (λ (n : ℕ). slot_at n (xs ++ k ∷ ys)) is ∙ slot_own xs ys k e ∙ on);
      count = count_insert xs ys k ∙ rw now (let n = h.count in let l = length_insert us vs w in omega (arith, n, l));
    }

slot_is : (k : TxnInfo) (p : ℕ) → is_committed k.state ≡ true → k.place ≡ Some p → slot k ≡ Some p
slot_is k p e f = rw (e, f) refl

queue_restored : (k : TxnInfo) (ks : List TxnInfo) (q : List Waiter) (last : ℕ) (c : Bool) (o : Option ℕ) → is_committed k.state ≡ c → k.place ≡ o → is_some o ≡ (c || is_visible k.state) → IfSome o (λ p. (0 < p) × (p ≤ last)) → IfSome o (λ p. Each (λ (u : TxnInfo). u.place ≡ Some p → ⊥) ks) → Each (λ (u : TxnInfo). nat_eq u.id k.id ≡ false) ks → Ascending ks → IsQueue ks q last → IsQueue (put_info k ks) (put_slot (slot k) k.id q) last
queue_restored k ks q last false o on at has drawn own e a h =
    let parts = parts_are k.id ks a e in
    let none : slot k ≡ None = rw on refl in
    subst (λ (s : Option ℕ). IsQueue (put_info k ks) (put_slot s k.id q) last) (sym none)
    (queue_beside (lower k.id ks) (higher k.id ks) k q last (subst (λ (xs : List TxnInfo). Each (λ (u : TxnInfo). nat_eq u.id k.id ≡ false) xs) (sym parts) e) on (subst (λ (xs : List TxnInfo). IsQueue xs q last) (sym parts) h))
queue_restored k ks q last true None on at has drawn own e a h = absurd (cc)
queue_restored k ks q last true (Some p) on at has drawn own e a h =
    let parts = parts_are k.id ks a e in
    let qs = queue_parts p q h.rises in
    let here = slot_is k p on at in
    let free = places_apart p ks q drawn.0 own h.filled in
    let w : Waiter = record { place = p; txn = k.id } in
    subst (λ (s : Option ℕ). IsQueue (put_info k ks) (put_slot s k.id q) last) (sym here)
    (queue_takes (lower k.id ks) (higher k.id ks) k (before p q) (behind p q) w last (subst (λ (xs : List TxnInfo). Each (λ (u : TxnInfo). nat_eq u.id k.id ≡ false) xs) (sym parts) e) here on refl drawn.1 (each_before p q) (each_behind p q free) (subst (λ (us : List Waiter). Each (λ (u : Waiter). nat_eq u.place p ≡ false) us) (sym qs) free)
    (subst (λ (xs : List TxnInfo). IsQueue xs (before p q ++ behind p q) last) (sym parts) (subst (λ (us : List Waiter). IsQueue ks us last) (sym qs) h)))

length_put : (k : TxnInfo) (ks : List TxnInfo) → lower k.id ks ++ higher k.id ks ≡ ks → length (put_info k ks) ≡ length ks + 1
length_put k ks parts = length_insert (lower k.id ks) (higher k.id ks) k ∙ ap (λ (xs : List TxnInfo). length xs + 1) parts

pub indexed_restored : (k : TxnInfo) (ks : List TxnInfo) (old new : List Binding) (q : List Waiter) (room more next : ℕ) (b : BookView) → b.kept ≡ ks → HasOwnPlace k b → Each (λ (u : TxnInfo). nat_eq u.id k.id ≡ false) ks → k.id < next → new ≡ map binding (put_info k ks) → length ks + 1 ≤ more → IsIndexed ks old q room next b.places → IsIndexed (put_info k ks) new (put_slot (slot k) k.id q) more next b.places
indexed_restored k ks old new q room more next b kept place e lt is enough h =
    let parts = parts_are k.id ks h.ascends e in
    let own = subst (λ (xs : List TxnInfo). IfSome k.place (λ p. Each (λ (u : TxnInfo). u.place ≡ Some p → ⊥) xs)) kept place.own in
    record {
      ascends = pairs_insert (λ (x y : TxnInfo). x.id < y.id) (lower k.id ks) (higher k.id ks) k (subst Ascending (sym parts) h.ascends) (each_lower k.id ks) (each_higher k.id ks);
      below = each_insert (λ (x : TxnInfo). x.id < next) (lower k.id ks) (higher k.id ks) k (subst (Below next) (sym parts) h.below) lt;
      labels = is;
      queued = queue_restored k ks q b.places (is_committed k.state) k.place refl refl place.has place.drawn own e h.ascends h.queued;
      room = let z = length_put k ks parts in omega (arith, z, enough);
    }

-- ---- the room

pub room_for : (ks : List TxnInfo) (q : List Waiter) (last room : ℕ) → IsQueue ks q last → length ks + 1 ≤ room → length q < room
room_for ks q last room h le = let n = h.count in let c = count_within ks in omega (arith, n, c, le)
