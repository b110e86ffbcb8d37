-- The load that is due is the first of the queue, and as many wait as the queue is long.
use Rattle.std.proofs.Common.{◌≡◌, ℕ, ◌+◌, ◌≤◌, ◌<◌, Bool, true, false, cond, not, ◌&&◌, List, [], ◌∷◌, ◌||◌, length, find, map, Option, Some, None, IfSome, Bor, refl, sym, ◌∙◌, ap, subst, arith, nat_eq, slice_index_or, drop}
use Rattle.std.proofs.lemmas.Bool.Decides.{nat_tests}
use Rattle.std.proofs.lemmas.List.Sums.{sum_by-append}
use Rattle.std.specs.Prelude.{count_by, nat_lt, sum_by}
use Rattle.std.specs.List.{list_any}
use Rattle.std.specs.Option.{option_copied, option_map}
use Rattle.labels.specs.declared.txn_state.TxnState.TheVariants as state
use Rattle.txn_core.specs.Book.{BookView, ended, published, published_as}
use Rattle.front_defs.specs.declared.txn.Txn.{Txn}
use Rattle.front_defs.specs.Transactions.{ahead_of, due, has_lower, is_committed, place_of}
use Rattle.front_laws.specs.Tidy.{Each}
use Rattle.front_laws.proofs.Lists.{each_both, each_found, each_imp}
use Rattle.txn_core.specs.declared.info.TxnInfo.{TxnInfo}
use Rattle.txn_core.specs.declared.waiter.Waiter.{Waiter}
use Rattle.txn_core.specs.Seen.{seen, Ascending}
use Rattle.txn_core.specs.Queue.{IsListed, IsQueue, slot, slot_at, waiter_at}
use Rattle.txn_core.proofs.Views.{any_map, find_map}

-- each is found under its number
self_step : (u k : TxnInfo) (us : List TxnInfo) → u.id < k.id → find (λ (x : TxnInfo). nat_eq x.id k.id) us ≡ Some k → cond (nat_eq u.id k.id) (Some u) (find (λ (x : TxnInfo). nat_eq x.id k.id) us) ≡ Some k
self_step u k us lt f = let off : nat_eq u.id k.id ≡ false = grind (arith, nat_tests) in rw off f

pub each_self : (ks : List TxnInfo) → Ascending ks → Each (λ (k : TxnInfo). find (λ (x : TxnInfo). nat_eq x.id k.id) ks ≡ Some k) ks
each_self [] a = tt
each_self (u ∷ us) a = (
  let z : nat_eq u.id u.id ≡ true = grind (arith, nat_tests) in rw z refl,
  each_imp (λ (k : TxnInfo). (u.id < k.id) × (find (λ (x : TxnInfo). nat_eq x.id k.id) us ≡ Some k)) (λ (k : TxnInfo). find (λ (x : TxnInfo). nat_eq x.id k.id) (u ∷ us) ≡ Some k) (λ k b. self_step u k us b.0 b.1) us
      (each_both (λ (k : TxnInfo). u.id < k.id) (λ (k : TxnInfo). find (λ (x : TxnInfo). nat_eq x.id k.id) us ≡ Some k) us a.0 (each_self us a.1)),
)

slot_step : (b : Bool) (u k : TxnInfo) (o : Option TxnInfo) (s : Option ℕ) → cond b (Some u) o ≡ Some k → (o ≡ Some k → s ≡ slot k) → cond b (slot u) s ≡ slot k
slot_step true u k o s e f = let i : u ≡ k = cc in ap slot i
slot_step false u k o s e f = f e

slot_found : (id : ℕ) (ks : List TxnInfo) (k : TxnInfo) → find (λ (x : TxnInfo). nat_eq x.id id) ks ≡ Some k → slot_at id ks ≡ slot k
slot_found id [] k e = absurd (cc)
slot_found id (u ∷ us) k e = slot_step (nat_eq u.id id) u k (find (λ (x : TxnInfo). nat_eq x.id id) us) (slot_at id us) e (slot_found id us k)

-- ---- places in the queue

lowest_step : (n p j v x : ℕ) (r : Option ℕ) (b : Bool) → nat_eq v p ≡ b → n < v → cond b (Some x) r ≡ Some j → (r ≡ Some j → n < p) → n < p
lowest_step n p j v x r true e lt h f = grind (arith, nat_tests)
lowest_step n p j v x r false e lt h f = f h

-- who waits behind another one has a higher place
is_behind : (n p j : ℕ) (q : List Waiter) → Each (λ (v : Waiter). n < v.place) q → waiter_at p q ≡ Some j → n < p
is_behind n p j [] e h = absurd (cc)
is_behind n p j (v ∷ q) e h = lowest_step n p j v.place v.txn (waiter_at p q) (nat_eq v.place p) refl e.0 h (is_behind n p j q e.1)

low_step : (last p j v x : ℕ) (r : Option ℕ) (b : Bool) → nat_eq v p ≡ b → v ≤ last → cond b (Some x) r ≡ Some j → (r ≡ Some j → p ≤ last) → p ≤ last
low_step last p j v x r true e lt h f = grind (arith, nat_tests)
low_step last p j v x r false e lt h f = f h

is_low : (last p j : ℕ) (q : List Waiter) → Each (λ (v : Waiter). v.place ≤ last) q → waiter_at p q ≡ Some j → p ≤ last
is_low last p j [] e h = absurd (cc)
is_low last p j (v ∷ q) e h = low_step last p j v.place v.txn (waiter_at p q) (nat_eq v.place p) refl e.0 h (is_low last p j q e.1)

from_first_step : (w : Waiter) (q : List Waiter) (p j : ℕ) (b : Bool) → nat_eq w.place p ≡ b → Each (λ (v : Waiter). w.place < v.place) q → cond b (Some w.txn) (waiter_at p q) ≡ Some j → w.place ≤ p
from_first_step w q p j true e l h = grind (arith, nat_tests)
from_first_step w q p j false e l h = let lt = is_behind w.place p j q l h in omega (arith, lt)

from_first : (w : Waiter) (q : List Waiter) (p j : ℕ) → Each (λ (v : Waiter). w.place < v.place) q → waiter_at p (w ∷ q) ≡ Some j → w.place ≤ p
from_first w q p j l h = from_first_step w q p j (nat_eq w.place p) refl l h

-- ---- what waits below a place

none_step : (w : Waiter) (q : List Waiter) (j n : ℕ) (c : Bool) → Each (λ (v : Waiter). w.place < v.place) q → IsListed (w ∷ q) j (cond c (Some n) None) → (c && nat_lt n w.place) ≡ false
none_step w q j n false l h = refl
none_step w q j n true l h = let le = from_first w q n j l h in grind (arith, nat_tests)

none_below : (w : Waiter) (q : List Waiter) (ks : List TxnInfo) → Each (λ (v : Waiter). w.place < v.place) q → Each (λ (k : TxnInfo). IsListed (w ∷ q) k.id (slot k)) ks → list_any (λ (k : TxnInfo). is_committed k.state && nat_lt (place_of (seen k)) w.place) ks ≡ false
none_below w q [] l e = refl
none_below w q (k ∷ ks) l e = rw (none_step w q k.id (place_of (seen k)) (is_committed k.state) l e.0) (none_below w q ks l e.1)

one_step : (n p m : ℕ) (b c r : Bool) (s : Option ℕ) → n < p → cond b (cond c (Some m) None) s ≡ Some n → (s ≡ Some n → r ≡ true) → ((c && nat_lt m p) || r) ≡ true
one_step n p m true true r s lt e f = let i : m ≡ n = cc in let z : nat_lt m p ≡ true = grind (arith, nat_tests) in rw z refl
one_step n p m true false r s lt e f = absurd (cc)
one_step n p m false true r s lt e f = let z = f e in grind (arith, nat_tests)
one_step n p m false false r s lt e f = f e

one_below : (id n p : ℕ) (ks : List TxnInfo) → n < p → slot_at id ks ≡ Some n → list_any (λ (k : TxnInfo). is_committed k.state && nat_lt (place_of (seen k)) p) ks ≡ true
one_below id n p [] lt e = absurd (cc)
one_below id n p (k ∷ ks) lt e = one_step n p (place_of (seen k)) (nat_eq k.id id) (is_committed k.state) _ (slot_at id ks) lt e (one_below id n p ks lt)

lower_is : (p : ℕ) (ks : List TxnInfo) → has_lower (map seen ks) p ≡ list_any (λ (k : TxnInfo). is_committed k.state && nat_lt (place_of (seen k)) p) ks
lower_is p ks = any_map seen (λ (t : Txn). is_committed t.state && nat_lt (place_of t) p) ks

-- ---- the first one

-- what the first of the queue knows
record Head (ks : List TxnInfo) (w : Waiter) (q : List Waiter) : Type 0 where
  behind : Each (λ (v : Waiter). w.place < v.place) q
  at : slot_at w.txn ks ≡ Some w.place
  none : has_lower (map seen ks) w.place ≡ false
  one : (p : ℕ) → w.place < p → has_lower (map seen ks) p ≡ true

head_of : (ks : List TxnInfo) (w : Waiter) (q : List Waiter) (last : ℕ) → IsQueue ks (w ∷ q) last → Head ks w q
head_of ks w q last h = record {
  behind = h.rises.0;
  at = h.filled.0;
  none = lower_is w.place ks ∙ none_below w q ks h.rises.0 h.listed;
  one = λ p lt. lower_is p ks ∙ one_below w.txn w.place p ks lt h.filled.0;
}

first_alone : (ks : List TxnInfo) (w : Waiter) (q : List Waiter) (n j : ℕ) (b : Bool) → Head ks w q → nat_eq j w.txn ≡ false → nat_eq w.place n ≡ b → cond b (Some w.txn) (waiter_at n q) ≡ Some j → not (has_lower (map seen ks) n) ≡ false
first_alone ks w q n j true h e p l = absurd (let i : w.txn ≡ j = cc in grind (arith, nat_tests))
first_alone ks w q n j false h e p l = rw (h.one n (is_behind w.place n j q h.behind l)) refl

is_first : (ks : List TxnInfo) (w : Waiter) (q : List Waiter) (n j : ℕ) (c b : Bool) → Head ks w q → nat_eq j w.txn ≡ b → slot_at j ks ≡ cond c (Some n) None → IsListed (w ∷ q) j (cond c (Some n) None) → (c && not (has_lower (map seen ks) n)) ≡ b
is_first ks w q n j true true h e s l =
    let i : j ≡ w.txn = grind (arith, nat_tests) in
    let z : Some n ≡ Some w.place = sym s ∙ ap (λ (m : ℕ). slot_at m ks) i ∙ h.at in
    let y : n ≡ w.place = cc in rw (y, h.none) refl
is_first ks w q n j true false h e s l = first_alone ks w q n j (nat_eq w.place n) h e refl l
is_first ks w q n j false true h e s l =
    let i : j ≡ w.txn = grind (arith, nat_tests) in
    absurd (let z : None ≡ Some w.place = sym s ∙ ap (λ (m : ℕ). slot_at m ks) i ∙ h.at in cc)
is_first ks w q n j false false h e s l = refl

find_same : (p r : TxnInfo → Bool) (ks : List TxnInfo) → Each (λ (k : TxnInfo). p k ≡ r k) ks → find p ks ≡ find r ks
find_same p r [] e = refl
find_same p r (k ∷ ks) e = rw (e.0, find_same p r ks e.1) refl

find_nothing : (p : TxnInfo → Bool) (ks : List TxnInfo) → Each (λ (k : TxnInfo). p k ≡ false) ks → find p ks ≡ None
find_nothing p [] e = refl
find_nothing p (k ∷ ks) e = rw e.0 (find_nothing p ks e.1)

-- the load that is due is that of the first waiter
pub due_is : (ks : List TxnInfo) (w : Waiter) (q : List Waiter) (last : ℕ) → Ascending ks → IsQueue ks (w ∷ q) last → option_map seen (find (λ (k : TxnInfo). nat_eq k.id w.txn) ks) ≡ due (map seen ks)
due_is ks w q last a h =
    let head = head_of ks w q last h in
    let firsts = each_imp (λ (k : TxnInfo). (find (λ (x : TxnInfo). nat_eq x.id k.id) ks ≡ Some k) × IsListed (w ∷ q) k.id (slot k)) (λ (k : TxnInfo). (is_committed k.state && not (has_lower (map seen ks) (place_of (seen k)))) ≡ nat_eq k.id w.txn)
    (λ k b. is_first ks w q (place_of (seen k)) k.id (is_committed k.state) (nat_eq k.id w.txn) head refl (slot_found k.id ks k b.0) b.1) ks
    (each_both (λ (k : TxnInfo). find (λ (x : TxnInfo). nat_eq x.id k.id) ks ≡ Some k) (λ (k : TxnInfo). IsListed (w ∷ q) k.id (slot k)) ks (each_self ks a) h.listed) in
    sym (find_map seen (λ (t : Txn). is_committed t.state && not (has_lower (map seen ks) (place_of t))) ks ∙ ap (option_map seen) (find_same (λ (k : TxnInfo). is_committed k.state && not (has_lower (map seen ks) (place_of (seen k)))) (λ (k : TxnInfo). nat_eq k.id w.txn) ks firsts))

unlisted : (n j : ℕ) (c b : Bool) → IsListed [] j (cond c (Some n) None) → (c && b) ≡ false
unlisted n j true b l = absurd (cc)
unlisted n j false b l = refl

pub none_due : (ks : List TxnInfo) (last : ℕ) → IsQueue ks [] last → None ≡ due (map seen ks)
none_due ks last h = sym (find_map seen (λ (t : Txn). is_committed t.state && not (has_lower (map seen ks) (place_of t))) ks ∙ ap (option_map seen) (find_nothing (λ (k : TxnInfo). is_committed k.state && not (has_lower (map seen ks) (place_of (seen k)))) ks
    (each_imp (λ (k : TxnInfo). IsListed [] k.id (slot k)) (λ (k : TxnInfo). (is_committed k.state && not (has_lower (map seen ks) (place_of (seen k)))) ≡ false) (λ k l. unlisted (place_of (seen k)) k.id (is_committed k.state) (not (has_lower (map seen ks) (place_of (seen k)))) l) ks h.listed)))

-- ---- how many wait

pub sum_cons : {X : Type 0} (f : X → ℕ) (x : X) (xs : List X) → sum_by f (x ∷ xs) ≡ f x + sum_by f xs
sum_cons f x xs = sum_by-append f (x ∷ []) xs ∙ (let z : (0 + f x) + sum_by f xs ≡ f x + sum_by f xs = omega arith in z)

ahead_step : (q : List Waiter) (j n last : ℕ) (c : Bool) → Each (λ (v : Waiter). v.place ≤ last) q → IsListed q j (cond c (Some n) None) → (c && nat_lt n (last + 1)) ≡ c
ahead_step q j n last false l h = refl
ahead_step q j n last true l h = let le = is_low last n j q l h in grind (arith, nat_tests)

ahead_same : (q : List Waiter) (last : ℕ) (ks : List TxnInfo) → Each (λ (v : Waiter). v.place ≤ last) q → Each (λ (k : TxnInfo). IsListed q k.id (slot k)) ks → ahead_of (last + 1) (map seen ks) ≡ count_by (λ (k : TxnInfo). is_committed k.state) ks
ahead_same q last [] l e = refl
ahead_same q last (k ∷ ks) l e =
    sum_cons (λ (t : Txn). cond (is_committed t.state && nat_lt (place_of t) (last + 1)) 1 0) (seen k) (map seen ks)
    ∙ ap (λ (b : Bool). cond b 1 0 + ahead_of (last + 1) (map seen ks)) (ahead_step q k.id (place_of (seen k)) last (is_committed k.state) l e.0)
    ∙ ap (λ (n : ℕ). cond (is_committed k.state) 1 0 + n) (ahead_same q last ks l e.1)
    ∙ sym (sum_cons (λ (x : TxnInfo). cond (is_committed x.state) 1 0) k ks)

pub ahead_is : (ks : List TxnInfo) (q : List Waiter) (last : ℕ) → IsQueue ks q last → length q ≡ ahead_of (last + 1) (map seen ks)
ahead_is ks q last h = sym (ahead_same q last ks h.low h.listed ∙ h.count)

-- ---- an end of the first one

unfound_step : (b : Bool) (u : TxnInfo) (o : Option TxnInfo) (n s : Option ℕ) → cond b (Some u) o ≡ None → (o ≡ None → s ≡ None) → cond b n s ≡ None
unfound_step true u o n s e f = absurd (cc)
unfound_step false u o n s e f = f e

unfound : (id : ℕ) (ks : List TxnInfo) → find (λ (x : TxnInfo). nat_eq x.id id) ks ≡ None → slot_at id ks ≡ None
unfound id [] e = refl
unfound id (k ∷ ks) e = unfound_step (nat_eq k.id id) k (find (λ (x : TxnInfo). nat_eq x.id id) ks) (slot k) (slot_at id ks) e (unfound id ks)

id_step : (b : Bool) (id : ℕ) (u k : TxnInfo) (o : Option TxnInfo) → nat_eq u.id id ≡ b → cond b (Some u) o ≡ Some k → (o ≡ Some k → k.id ≡ id) → k.id ≡ id
id_step true id u k o h e f = let i : u ≡ k = cc in let j : k.id ≡ u.id = ap (λ (x : TxnInfo). x.id) (sym i) in grind (arith, nat_tests)
id_step false id u k o h e f = f e

found_number : (id : ℕ) (ks : List TxnInfo) (k : TxnInfo) → find (λ (x : TxnInfo). nat_eq x.id id) ks ≡ Some k → k.id ≡ id
found_number id [] k e = absurd (cc)
found_number id (u ∷ us) k e = id_step (nat_eq u.id id) id u k (find (λ (x : TxnInfo). nat_eq x.id id) us) refl e (found_number id us k)

published_step : (at : ℕ) (ks : List TxnInfo) (w : Waiter) (v : BookView) (r : Option TxnInfo) → find (λ (x : TxnInfo). nat_eq x.id w.txn) ks ≡ r → slot_at w.txn ks ≡ Some w.place → published_as (option_map seen r) at v ≡ ended w.txn state.Visible at v
published_step at ks w v None e s = absurd (let z = unfound w.txn ks e in cc)
published_step at ks w v (Some k) e s = ap (λ (n : ℕ). ended n state.Visible at v) (found_number w.txn ks k e)

-- what becomes visible is that of the first waiter
pub published_is : (at : ℕ) (ks : List TxnInfo) (w : Waiter) (q : List Waiter) (last : ℕ) (v : BookView) → v.kept ≡ ks → Ascending ks → IsQueue ks (w ∷ q) last → published at v ≡ ended w.txn state.Visible at v
published_is at ks w q last v e a h = ap (λ (o : Option Txn). published_as o at v) (ap (λ (xs : List TxnInfo). due (map seen xs)) e ∙ sym (due_is ks w q last a h)) ∙ published_step at ks w v (find (λ (x : TxnInfo). nat_eq x.id w.txn) ks) refl h.filled.0

pub nothing_published : (at : ℕ) (ks : List TxnInfo) (last : ℕ) (v : BookView) → v.kept ≡ ks → IsQueue ks [] last → published at v ≡ v
nothing_published at ks last v e h = ap (λ (o : Option Txn). published_as o at v) (ap (λ (xs : List TxnInfo). due (map seen xs)) e ∙ sym (none_due ks last h))

number_step : (ks : List TxnInfo) (w : Waiter) (r : Option TxnInfo) → find (λ (x : TxnInfo). nat_eq x.id w.txn) ks ≡ r → slot_at w.txn ks ≡ Some w.place → option_map (λ (t : Txn). t.id) (option_map seen r) ≡ Some w.txn
number_step ks w None e s = absurd (let z = unfound w.txn ks e in cc)
number_step ks w (Some k) e s = ap (λ (n : ℕ). Some n) (found_number w.txn ks k e)

pub due_number : (ks : List TxnInfo) (w : Waiter) (q : List Waiter) (last : ℕ) → Ascending ks → IsQueue ks (w ∷ q) last → option_map (λ (t : Txn). t.id) (due (map seen ks)) ≡ Some w.txn
due_number ks w q last a h = ap (option_map (λ (t : Txn). t.id)) (sym (due_is ks w q last a h)) ∙ number_step ks w (find (λ (x : TxnInfo). nat_eq x.id w.txn) ks) refl h.filled.0

-- ---- the ends of a list
pub first_is : (q : List Waiter) (w : Waiter) → 0 < length q → w ≡ slice_index_or q 0 w → q ≡ w ∷ drop 1 q
first_is [] w lt e = absurd (omega arith)
first_is (v ∷ q) w lt e = ap (λ (x : Waiter). x ∷ q) (sym e)

pub no_first : (q : List Waiter) → length q ≡ 0 → q ≡ []
no_first [] e = refl
no_first (v ∷ q) e = absurd (omega (arith, e))

-- what is found among those of which each is found under its number
same_step : (ks : List TxnInfo) (k : TxnInfo) (o : Option TxnInfo) (p : TxnInfo → Bool) (xs : List TxnInfo) → Each (λ (k : TxnInfo). find (λ (x : TxnInfo). nat_eq x.id k.id) ks ≡ Some k) xs → find p xs ≡ o → Some k ≡ o → find (λ (x : TxnInfo). nat_eq x.id k.id) ks ≡ Some k
same_step ks k None p xs e f h = absurd (cc)
same_step ks k (Some u) p xs e f h =
    let i : k ≡ u = cc in
    let own = each_found (λ (k : TxnInfo). find (λ (x : TxnInfo). nat_eq x.id k.id) ks ≡ Some k) p xs u e f in
    subst (λ (t : TxnInfo). find (λ (x : TxnInfo). nat_eq x.id t.id) ks ≡ Some t) (sym i) own

pub numbered : (ks : List TxnInfo) (p : TxnInfo → Bool) (r : Option (Bor TxnInfo)) → Ascending ks → option_copied r ≡ find p ks → IfSome r (λ k. find (λ (x : TxnInfo). nat_eq x.id k.now.id) ks ≡ Some k.now)
numbered ks p None a h = tt
numbered ks p (Some k) a h = same_step ks k.now (find p ks) p ks (each_self ks a) refl h
