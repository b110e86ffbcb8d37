-- The queue of committed loads, as transactions begin, commit and end.
use Rattle.std.proofs.Common.{◌≡◌, ℕ, zero, suc, ◌+◌, ◌≤◌, ◌<◌, Bool, true, false, cond, List, [], ◌∷◌, ◌++◌, append-nil, find, length, get_or, Option, Some, None, IfSome, refl, sym, ◌∙◌, ap, arith, position, slice_set, nat_eq}
use Rattle.std.proofs.lemmas.Bool.Decides.{nat_tests}
use Rattle.std.proofs.lemmas.List.Sums.{sum_by-append, sum_by-set}
use Rattle.std.specs.Prelude.{count_by}
use Rattle.std.specs.Option.{option_map}
use Rattle.labels.specs.declared.txn_state.TxnState.TheVariants as state
use Rattle.txn_core.specs.Book.{places_by, state_by}
use Rattle.front_defs.specs.Transactions.{is_committed, place_of}
use Rattle.front_laws.specs.Tidy.{Each}
use Rattle.front_laws.proofs.Lists.{each_both, each_imp, each_snoc, pairs_snoc}
use Rattle.txn_core.specs.declared.info.TxnInfo.{TxnInfo}
use Rattle.txn_core.specs.declared.waiter.Waiter.{Waiter}
use Rattle.txn_core.specs.Seen.{seen, Ascending}
use Rattle.txn_core.specs.Queue.{IsListed, IsOpen, IsQueue, slot, slot_at, waiter_at, waiters_by}
use Rattle.txn_core.proofs.Puts.{each_index, first_by}

-- who is not committed waits nowhere
pub slot_none : (k : TxnInfo) → is_committed k.state ≡ false → slot k ≡ None
slot_none k e = rw e refl

committed_by : (b : Bool) (n p : ℕ) → cond b (Some n) None ≡ Some p → b ≡ true
committed_by true n p e = refl
committed_by false n p e = absurd (cc)

uncommitted_by : (b : Bool) (n : ℕ) → cond b (Some n) None ≡ None → b ≡ false
uncommitted_by true n e = absurd (cc)
uncommitted_by false n e = refl

-- ---- one more transaction

pub slot_snoc_step : (b : Bool) (here : Option ℕ) (later more : Option ℕ) (p : ℕ) → cond b here later ≡ Some p → (later ≡ Some p → more ≡ Some p) → cond b here more ≡ Some p
slot_snoc_step true here later more p e f = e
slot_snoc_step false here later more p e f = f e

slot_snoc : (id p : ℕ) (ks : List TxnInfo) (k : TxnInfo) → slot_at id ks ≡ Some p → slot_at id (ks ++ k ∷ []) ≡ Some p
slot_snoc id p [] k e = absurd (cc)
slot_snoc id p (u ∷ us) k e = slot_snoc_step (nat_eq u.id id) (slot u) (slot_at id us) (slot_at id (us ++ k ∷ [])) p e (slot_snoc id p us k)

pub queue_begins : (ks : List TxnInfo) (k : TxnInfo) (q : List Waiter) (last : ℕ) → is_committed k.state ≡ false → IsQueue ks q last → IsQueue (ks ++ k ∷ []) q last
queue_begins ks k q last e h = record {
  rises = h.rises;
  low = h.low;
  listed = each_snoc (λ (x : TxnInfo). IsListed q x.id (slot x)) ks k h.listed (rw e tt);
  filled = each_imp (λ (w : Waiter). slot_at w.txn ks ≡ Some w.place) (λ (w : Waiter). slot_at w.txn (ks ++ k ∷ []) ≡ Some w.place) (λ w s. slot_snoc w.txn w.place ks k s) q h.filled;
  count = sum_by-append (λ (x : TxnInfo). cond (is_committed x.state) 1 0) ks (k ∷ []) ∙ rw e (let z : count_by (λ (x : TxnInfo). is_committed x.state) ks + (0 + 0) ≡ count_by (λ (x : TxnInfo). is_committed x.state) ks = omega arith in z ∙ h.count);
}

-- ---- a change of the transaction of a number

-- it stands in its place, and keeps its number
pub record IsPut (id i : ℕ) (d k : TxnInfo) (ks : List TxnInfo) : Type 0 where
  pub ascends : Ascending ks
  pub within : i < length ks
  pub hit : nat_eq (get_or ks i d).id id ≡ true
  pub same : nat_eq k.id id ≡ true

pub is_put : (id i : ℕ) (d k : TxnInfo) (ks : List TxnInfo) → Ascending ks → Some i ≡ position (λ (k : TxnInfo). nat_eq k.id id) ks → d ≡ get_or ks i d → k.id ≡ d.id → IsPut id i d k ks
is_put id i d k ks a e at is =
    let h = first_by id i d ks e in
    let z : k.id ≡ (get_or ks i d).id = is ∙ ap (λ (x : TxnInfo). x.id) at in
    record { ascends = a; within = h.within; hit = h.hit; same = ap (λ (n : ℕ). nat_eq n id) z ∙ h.hit }

earlier : (n m id : ℕ) → nat_eq m id ≡ true → n < m → nat_eq n id ≡ false
earlier n m id e h = grind (arith, nat_tests)

later : (n m id : ℕ) → nat_eq n id ≡ true → n < m → nat_eq m id ≡ false
later n m id e h = grind (arith, nat_tests)

other_than : (n id j : ℕ) → nat_eq n id ≡ true → nat_eq j id ≡ false → nat_eq n j ≡ false
other_than n id j e h = grind (arith, nat_tests)

-- the others wait where they waited
slot_other : (j id i : ℕ) (d k : TxnInfo) (ks : List TxnInfo) → i < length ks → nat_eq (get_or ks i d).id id ≡ true → nat_eq k.id id ≡ true → nat_eq j id ≡ false → slot_at j (slice_set ks i k) ≡ slot_at j ks
slot_other j id i d k [] lt hit same off = absurd (omega arith)
slot_other j id zero d k (u ∷ us) lt hit same off = rw (other_than u.id id j hit off, other_than k.id id j same off) refl
slot_other j id (suc i) d k (u ∷ us) lt hit same off = ap (cond (nat_eq u.id j) (slot u)) (slot_other j id i d k us (omega arith) hit same off)

-- this one as it is now
slot_now : (id i : ℕ) (d k : TxnInfo) (ks : List TxnInfo) → Ascending ks → i < length ks → nat_eq (get_or ks i d).id id ≡ true → nat_eq k.id id ≡ true → slot_at id (slice_set ks i k) ≡ slot k
slot_now id i d k [] a lt hit same = absurd (omega arith)
slot_now id zero d k (u ∷ us) a lt hit same = rw same refl
slot_now id (suc i) d k (u ∷ us) a lt hit same =
    let off = earlier u.id (get_or us i d).id id hit (each_index (λ (v : TxnInfo). u.id < v.id) us i d (omega arith) a.0) in
    rw off (slot_now id i d k us a.1 (omega arith) hit same)

slot_then : (id i : ℕ) (d : TxnInfo) (ks : List TxnInfo) → Ascending ks → i < length ks → nat_eq (get_or ks i d).id id ≡ true → slot_at id ks ≡ slot (get_or ks i d)
slot_then id i d [] a lt hit = absurd (omega arith)
slot_then id zero d (u ∷ us) a lt hit = rw hit refl
slot_then id (suc i) d (u ∷ us) a lt hit =
    let off = earlier u.id (get_or us i d).id id hit (each_index (λ (v : TxnInfo). u.id < v.id) us i d (omega arith) a.0) in
    rw off (slot_then id i d us a.1 (omega arith) hit)

-- what holds of each after a change
each_put : (P Q : TxnInfo → Type 0) (id i : ℕ) (d k : TxnInfo) (ks : List TxnInfo) → Ascending ks → i < length ks → nat_eq (get_or ks i d).id id ≡ true → ((u : TxnInfo) → nat_eq u.id id ≡ false → P u → Q u) → Q k → Each P ks → Each Q (slice_set ks i k)
each_put P Q id i d k [] a lt hit f h e = absurd (omega arith)
each_put P Q id zero d k (u ∷ us) a lt hit f h e =
    (h, each_imp (λ (v : TxnInfo). (u.id < v.id) × P v) Q (λ v b. f v (later u.id v.id id hit b.0) b.1) us (each_both (λ (v : TxnInfo). u.id < v.id) P us a.0 e.1))
each_put P Q id (suc i) d k (u ∷ us) a lt hit f h e =
    let off = earlier u.id (get_or us i d).id id hit (each_index (λ (v : TxnInfo). u.id < v.id) us i d (omega arith) a.0) in
    (f u off e.0, each_put P Q id i d k us a.1 (omega arith) hit f h e.1)

-- how many are committed after it
count_put : (i : ℕ) (d k : TxnInfo) (ks : List TxnInfo) → i < length ks → count_by (λ (x : TxnInfo). is_committed x.state) (slice_set ks i k) + cond (is_committed (get_or ks i d).state) 1 0 ≡ count_by (λ (x : TxnInfo). is_committed x.state) ks + cond (is_committed k.state) 1 0
count_put i d k ks lt = sum_by-set (λ (x : TxnInfo). cond (is_committed x.state) 1 0) ks i k d lt

-- whoever waits is another one, where this one does not wait
waits_apart : (id p j : ℕ) (ks : List TxnInfo) (b : Bool) → nat_eq j id ≡ b → slot_at id ks ≡ None → slot_at j ks ≡ Some p → nat_eq j id ≡ false
waits_apart id p j ks true e n s = let i : j ≡ id = grind (arith, nat_tests) in absurd (let z : slot_at id ks ≡ Some p = ap (λ (m : ℕ). slot_at m ks) (sym i) ∙ s in cc)
waits_apart id p j ks false e n s = e

-- it did not wait, and does not wait now
pub queue_keeps : (id i : ℕ) (d k : TxnInfo) (ks : List TxnInfo) (q : List Waiter) (last : ℕ) → IsPut id i d k ks → slot_at id ks ≡ None → is_committed k.state ≡ false → IsQueue ks q last → IsQueue (slice_set ks i k) q last
queue_keeps id i d k ks q last p none off h =
    let was : is_committed (get_or ks i d).state ≡ false = uncommitted_by (is_committed (get_or ks i d).state) (place_of (seen (get_or ks i d))) (sym (slot_then id i d ks p.ascends p.within p.hit) ∙ none) in
    record {
      rises = h.rises;
      low = h.low;
      listed = each_put (λ (x : TxnInfo). IsListed q x.id (slot x)) (λ (x : TxnInfo). IsListed q x.id (slot x)) id i d k ks p.ascends p.within p.hit (λ u o l. l) (rw off tt) h.listed;
      filled = each_imp (λ (w : Waiter). slot_at w.txn ks ≡ Some w.place) (λ (w : Waiter). slot_at w.txn (slice_set ks i k) ≡ Some w.place) (λ w s. slot_other w.txn id i d k ks p.within p.hit p.same (waits_apart id w.place w.txn ks (nat_eq w.txn id) refl none s) ∙ s) q h.filled;
      count = (let c = rw (was, off) at (count_put i d k ks p.within) in omega (arith, c)) ∙ h.count;
    }

-- it was the first to wait, and waits no more
unlisted_by : (n j id : ℕ) (r : Option ℕ) (b : Bool) → nat_eq n id ≡ true → nat_eq j id ≡ false → cond b (Some n) r ≡ Some j → r ≡ Some j
unlisted_by n j id r true e o l = absurd (let i : n ≡ j = cc in grind (arith, nat_tests))
unlisted_by n j id r false e o l = l

unlisted : (w : Waiter) (q : List Waiter) (j id : ℕ) (s : Option ℕ) → nat_eq w.txn id ≡ true → nat_eq j id ≡ false → IsListed (w ∷ q) j s → IsListed q j s
unlisted w q j id None e o l = tt
unlisted w q j id (Some p) e o l = unlisted_by w.txn j id (waiter_at p q) (nat_eq w.place p) e o l

behind : (w v : Waiter) (id : ℕ) (ks : List TxnInfo) (b : Bool) → nat_eq v.txn id ≡ b → nat_eq w.txn id ≡ true → w.place < v.place → slot_at w.txn ks ≡ Some w.place → slot_at v.txn ks ≡ Some v.place → nat_eq v.txn id ≡ false
behind w v id ks true e hit lt s t = absurd (
    let i : v.txn ≡ w.txn = grind (arith, nat_tests) in
    let z : Some v.place ≡ Some w.place = sym t ∙ ap (λ (m : ℕ). slot_at m ks) i ∙ s in
    let y : v.place ≡ w.place = cc in omega (arith, y, lt))
behind w v id ks false e hit lt s t = e

pub queue_pops : (id i : ℕ) (d k : TxnInfo) (ks : List TxnInfo) (w : Waiter) (q : List Waiter) (last : ℕ) → IsPut id i d k ks → nat_eq w.txn id ≡ true → is_committed k.state ≡ false → IsQueue ks (w ∷ q) last → IsQueue (slice_set ks i k) q last
queue_pops id i d k ks w q last p head off h =
    let same : w.txn ≡ id = grind (arith, nat_tests) in
    let here : slot (get_or ks i d) ≡ Some w.place = sym (slot_then id i d ks p.ascends p.within p.hit) ∙ ap (λ (m : ℕ). slot_at m ks) (sym same) ∙ h.filled.0 in
    let was : is_committed (get_or ks i d).state ≡ true = committed_by (is_committed (get_or ks i d).state) (place_of (seen (get_or ks i d))) w.place here in
    record {
      rises = h.rises.1;
      low = h.low.1;
      listed = each_put (λ (x : TxnInfo). IsListed (w ∷ q) x.id (slot x)) (λ (x : TxnInfo). IsListed q x.id (slot x)) id i d k ks p.ascends p.within p.hit (λ u o l. unlisted w q u.id id (slot u) head o l) (rw off tt) h.listed;
      filled = each_imp (λ (v : Waiter). (w.place < v.place) × (slot_at v.txn ks ≡ Some v.place)) (λ (v : Waiter). slot_at v.txn (slice_set ks i k) ≡ Some v.place) (λ v b. slot_other v.txn id i d k ks p.within p.hit p.same (behind w v id ks (nat_eq v.txn id) refl head b.0 h.filled.0 b.1) ∙ b.1) q (each_both (λ (v : Waiter). w.place < v.place) (λ (v : Waiter). slot_at v.txn ks ≡ Some v.place) q h.rises.0 h.filled.1);
      count = (let c = rw (was, off) at (count_put i d k ks p.within) in let n = h.count in omega (arith, c, n));
    }

-- who is in no place does not wait
pub missing : (id : ℕ) (ks : List TxnInfo) → Each (λ (k : TxnInfo). nat_eq k.id id ≡ false) ks → slot_at id ks ≡ None
missing id [] e = refl
missing id (k ∷ ks) e = rw e.0 (missing id ks e.1)

pub no_first : (id : ℕ) (ks : List TxnInfo) (w : Waiter) (q : List Waiter) (last : ℕ) → Each (λ (k : TxnInfo). nat_eq k.id id ≡ false) ks → w.txn ≡ id → IsQueue ks (w ∷ q) last → ⊥
no_first id ks w q last e is h = let n = missing id ks e in let s : slot_at id ks ≡ Some w.place = ap (λ (m : ℕ). slot_at m ks) (sym is) ∙ h.filled.0 in absurd (cc)

pub same_number : (n id : ℕ) → n ≡ id → nat_eq n id ≡ true
same_number n id e = grind (arith, nat_tests)

-- who is open does not wait
open_step : (b c : Bool) (n : ℕ) (k : TxnInfo) (o : Option TxnInfo) (s : Option ℕ) → is_committed k.state ≡ c → option_map (λ (k : TxnInfo). is_committed k.state) (cond b (Some k) o) ≡ Some false → (option_map (λ (k : TxnInfo). is_committed k.state) o ≡ Some false → s ≡ None) → cond b (cond c (Some n) None) s ≡ None
open_step true true n k o s e h f = absurd (let z : is_committed k.state ≡ false = cc in cc)
open_step true false n k o s e h f = refl
open_step false c n k o s e h f = f h

pub open_slot : (id : ℕ) (ks : List TxnInfo) → IsOpen id ks → slot_at id ks ≡ None
open_slot id [] h = refl
open_slot id (k ∷ ks) h = open_step (nat_eq k.id id) (is_committed k.state) (place_of (seen k)) k (find (λ (k : TxnInfo). nat_eq k.id id) ks) (slot_at id ks) refl h (open_slot id ks)

open_found : (id : ℕ) (ks : List TxnInfo) → Each (λ (k : TxnInfo). nat_eq k.id id ≡ false) ks → find (λ (k : TxnInfo). nat_eq k.id id) ks ≡ None
open_found id [] e = refl
open_found id (k ∷ ks) e = rw e.0 (open_found id ks e.1)

pub open_is_kept : (id : ℕ) (ks : List TxnInfo) → Each (λ (k : TxnInfo). nat_eq k.id id ≡ false) ks → IsOpen id ks → ⊥
open_is_kept id ks e h = let n = open_found id ks e in absurd (cc)

-- it commits, at the next place
listed_snoc : (q : List Waiter) (w : Waiter) (j : ℕ) (s : Option ℕ) → IsListed q j s → IsListed (q ++ w ∷ []) j s
listed_snoc q w j None l = tt
listed_snoc [] w j (Some p) l = absurd (cc)
listed_snoc (v ∷ q) w j (Some p) l = slot_snoc_step (nat_eq v.place p) (Some v.txn) (waiter_at p q) (waiter_at p (q ++ w ∷ [])) j l (listed_snoc q w j (Some p))

listed_last : (q : List Waiter) (w : Waiter) (last : ℕ) → w.place ≡ last + 1 → Each (λ (v : Waiter). v.place ≤ last) q → waiter_at w.place (q ++ w ∷ []) ≡ Some w.txn
listed_last [] w last e l = let z : nat_eq w.place w.place ≡ true = grind (arith, nat_tests) in rw z refl
listed_last (v ∷ q) w last e l = let h = l.0 in let z : nat_eq v.place w.place ≡ false = grind (arith, nat_tests) in rw z (listed_last q w last e l.1)

length_snoc : (q : List Waiter) (w : Waiter) → length (q ++ w ∷ []) ≡ length q + 1
length_snoc [] w = refl
length_snoc (v ∷ q) w = let h = length_snoc q w in omega (arith, h)

pub queue_commits : (id i : ℕ) (d k : TxnInfo) (ks : List TxnInfo) (w : Waiter) (q : List Waiter) (last : ℕ) → IsPut id i d k ks → slot_at id ks ≡ None → slot k ≡ Some w.place → w.txn ≡ id → w.place ≡ last + 1 → IsQueue ks q last → IsQueue (slice_set ks i k) (q ++ w ∷ []) (last + 1)
queue_commits id i d k ks w q last p none on is at h =
    let was : is_committed (get_or ks i d).state ≡ false = uncommitted_by (is_committed (get_or ks i d).state) (place_of (seen (get_or ks i d))) (sym (slot_then id i d ks p.ascends p.within p.hit) ∙ none) in
    let now : is_committed k.state ≡ true = committed_by (is_committed k.state) (place_of (seen k)) w.place on in
    let own : k.id ≡ id = (let s = p.same in grind (arith, nat_tests)) in
    let last_one : waiter_at w.place (q ++ w ∷ []) ≡ Some k.id = listed_last q w last at h.low ∙ ap (λ (n : ℕ). Some n) (is ∙ sym own) in
    record {
      rises = pairs_snoc (λ (x y : Waiter). x.place < y.place) q w h.rises (each_imp (λ (v : Waiter). v.place ≤ last) (λ (v : Waiter). v.place < w.place) (λ v l. omega (arith, l, at)) q h.low);
      low = each_snoc (λ (v : Waiter). v.place ≤ last + 1) q w (each_imp (λ (v : Waiter). v.place ≤ last) (λ (v : Waiter). v.place ≤ last + 1) (λ v l. omega (arith, l)) q h.low) (omega (arith, at));
      listed = each_put (λ (x : TxnInfo). IsListed q x.id (slot x)) (λ (x : TxnInfo). IsListed (q ++ w ∷ []) x.id (slot x)) id i d k ks p.ascends p.within p.hit (λ u o l. listed_snoc q w u.id (slot u) l) (rw on last_one) h.listed;
      filled = each_snoc (λ (v : Waiter). slot_at v.txn (slice_set ks i k) ≡ Some v.place) q w
          (each_imp (λ (v : Waiter). slot_at v.txn ks ≡ Some v.place) (λ (v : Waiter). slot_at v.txn (slice_set ks i k) ≡ Some v.place) (λ v s. slot_other v.txn id i d k ks p.within p.hit p.same (waits_apart id v.place v.txn ks (nat_eq v.txn id) refl none s) ∙ s) q h.filled)
          (ap (λ (m : ℕ). slot_at m (slice_set ks i k)) is ∙ slot_now id i d k ks p.ascends p.within p.hit p.same ∙ on);
      count = (let c = rw (was, now) at (count_put i d k ks p.within) in let n = h.count in let l = length_snoc q w in omega (arith, c, n, l));
    }

committed_slot : (k : TxnInfo) (p : ℕ) → k.state ≡ state.Committed → k.place ≡ Some p → slot k ≡ Some p
committed_slot k p e f = rw (e, f) refl

-- its rows are taken, with a place or without
pub queue_takes : (id i : ℕ) (d k : TxnInfo) (ks : List TxnInfo) (place : Option ℕ) (q : List Waiter) (last : ℕ) → IsPut id i d k ks → k.state ≡ state_by place → k.place ≡ place → IfSome place (λ p. p ≡ last + 1) → IsOpen id ks → IsQueue ks q last → IsQueue (slice_set ks i k) (q ++ waiters_by place id) (places_by place last)
queue_takes id i d k ks None q last p is at next o h = rw (append-nil q) (queue_keeps id i d k ks q last p (open_slot id ks o) (ap is_committed is) h)
queue_takes id i d k ks (Some x) q last p is at next o h = rw next (queue_commits id i d k ks (record { place = last + 1; txn = id }) q last p (open_slot id ks o) (committed_slot k (last + 1) is (at ∙ ap (λ (n : ℕ). Some n) next)) refl refl h)
