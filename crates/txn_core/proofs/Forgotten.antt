-- What ended long ago is forgotten, with its label.
use Rattle.std.proofs.Common.{◌≡◌, ℕ, zero, suc, ◌+◌, ◌≤◌, ◌<◌, Bool, true, false, cond, not, List, [], ◌∷◌, ◌++◌, length, take, drop, get_or, map, Option, Some, None, refl, sym, ◌∙◌, ap, subst, arith, nat_eq}
use Rattle.std.proofs.lemmas.Bool.Decides.{nat_tests}
use Rattle.std.specs.Prelude.{count_by, filter}
use Rattle.labels.specs.declared.txn_state.TxnState.{TxnState}
use Rattle.labels.specs.declared.txn_state.TxnState.TheVariants as state
use Rattle.label_book.specs.declared.binding.Binding.{Binding}
use Rattle.label_book.specs.Labels.{cleaned}
use Rattle.front_defs.specs.Transactions.{is_committed, place_of}
use Rattle.front_laws.specs.Tidy.{Each}
use Rattle.front_laws.proofs.Lists.{each_filter, each_imp, pairs_filter}
use Rattle.txn_core.specs.declared.info.TxnInfo.{TxnInfo}
use Rattle.txn_core.specs.declared.waiter.Waiter.{Waiter}
use Rattle.txn_core.specs.Book.{is_old}
use Rattle.txn_core.specs.Queue.{IsIndexed, IsListed, IsQueue, binding, slot, slot_at}
use Rattle.txn_core.specs.Seen.{seen, Ascending}
use Rattle.txn_core.proofs.Due.{sum_cons}
use Rattle.txn_core.proofs.Queued.{slot_snoc_step}

-- ---- the labels

apart : (n m : ℕ) → n < m → nat_eq m n ≡ false
apart n m lt = grind (arith, nat_tests)

others_stay : (n : ℕ) (ks : List TxnInfo) → Each (λ (k : TxnInfo). n < k.id) ks → cleaned n (map binding ks) ≡ map binding ks
others_stay n [] e = refl
others_stay n (k ∷ ks) e = rw (apart n k.id e.0) (ap (λ (bs : List Binding). binding k ∷ bs) (others_stay n ks e.1))

clean_cons : (b : Bool) (n : ℕ) (z : Binding) (bs : List Binding) → nat_eq z.txn n ≡ false → cond b (cleaned n (z ∷ bs)) (z ∷ bs) ≡ z ∷ cond b (cleaned n bs) bs
clean_cons true n z bs e = rw e refl
clean_cons false n z bs e = refl

first_goes : (b : Bool) (x : TxnInfo) (ys : List TxnInfo) → Each (λ (k : TxnInfo). x.id < k.id) ys → cond b (cleaned x.id (map binding (x ∷ ys))) (map binding (x ∷ ys)) ≡ map binding (cond (not b) (x ∷ []) [] ++ ys)
first_goes true x ys e = let z : nat_eq x.id x.id ≡ true = grind (arith, nat_tests) in rw z (others_stay x.id ys e)
first_goes false x ys e = refl

earlier_stays : (b : Bool) (z : TxnInfo) (n : ℕ) (bs : List Binding) (ks ws : List TxnInfo) (c : Bool) → nat_eq z.id n ≡ false → cond c (cleaned n bs) bs ≡ map binding ws → bs ≡ map binding ks → cond c (cleaned n (map binding (cond b (z ∷ ks) ks))) (map binding (cond b (z ∷ ks) ks)) ≡ map binding (cond b (z ∷ ws) ws)
earlier_stays true z n bs ks ws c off e is = clean_cons c n (binding z) (map binding ks) off ∙ ap (λ (xs : List Binding). binding z ∷ xs) (ap (λ (xs : List Binding). cond c (cleaned n xs) xs) (sym is) ∙ e)
earlier_stays false z n bs ks ws c off e is = ap (λ (xs : List Binding). cond c (cleaned n xs) xs) (sym is) ∙ e

cond_append : (b : Bool) (z : TxnInfo) (xs ys : List TxnInfo) → cond b (z ∷ xs) xs ++ ys ≡ cond b (z ∷ (xs ++ ys)) (xs ++ ys)
cond_append true z xs ys = refl
cond_append false z xs ys = refl

each_middle : (P : TxnInfo → Type 0) (xs ys : List TxnInfo) (x : TxnInfo) → Each P (xs ++ x ∷ ys) → P x
each_middle P [] ys x e = e.0
each_middle P (z ∷ xs) ys x e = each_middle P xs ys x e.1

before : (n m : ℕ) → n < m → nat_eq n m ≡ false
before n m lt = grind (arith, nat_tests)

-- the labels of those before it that stay, and of it and those behind it
clean_step : (at : ℕ) (xs ys : List TxnInfo) (x : TxnInfo) → Ascending (xs ++ x ∷ ys) → cond (is_old at x) (cleaned x.id (map binding (filter (λ (k : TxnInfo). not (is_old at k)) xs ++ x ∷ ys))) (map binding (filter (λ (k : TxnInfo). not (is_old at k)) xs ++ x ∷ ys)) ≡ map binding (filter (λ (k : TxnInfo). not (is_old at k)) (xs ++ x ∷ []) ++ ys)
clean_step at [] ys x a = first_goes (is_old at x) x ys a.0
clean_step at (z ∷ xs) ys x a =
    let fs = filter (λ (k : TxnInfo). not (is_old at k)) xs in
    let gs = filter (λ (k : TxnInfo). not (is_old at k)) (xs ++ x ∷ []) in
    let off = before z.id x.id (each_middle (λ (k : TxnInfo). z.id < k.id) xs ys x a.0) in
    ap (λ (ks : List TxnInfo). cond (is_old at x) (cleaned x.id (map binding ks)) (map binding ks)) (cond_append (not (is_old at z)) z fs (x ∷ ys))
    ∙ earlier_stays (not (is_old at z)) z x.id (map binding (fs ++ x ∷ ys)) (fs ++ x ∷ ys) (gs ++ ys) (is_old at x) off (clean_step at xs ys x a.1) refl
    ∙ ap (map binding) (sym (cond_append (not (is_old at z)) z gs ys))

take_more : (ks : List TxnInfo) (i : ℕ) (x : TxnInfo) → i < length ks → x ≡ get_or ks i x → take (suc i) ks ≡ take i ks ++ x ∷ []
take_more [] i x lt e = absurd (omega arith)
take_more (k ∷ ks) zero x lt e = ap (λ (y : TxnInfo). y ∷ []) (sym e)
take_more (k ∷ ks) (suc i) x lt e = ap (λ (ys : List TxnInfo). k ∷ ys) (take_more ks i x (omega arith) e)

drop_first : (ks : List TxnInfo) (i : ℕ) (x : TxnInfo) → i < length ks → x ≡ get_or ks i x → drop i ks ≡ x ∷ drop (suc i) ks
drop_first [] i x lt e = absurd (omega arith)
drop_first (k ∷ ks) zero x lt e = ap (λ (y : TxnInfo). y ∷ ks) (sym e)
drop_first (k ∷ ks) (suc i) x lt e = drop_first ks i x (omega arith) e

all_parts : (ks : List TxnInfo) (i : ℕ) → take i ks ++ drop i ks ≡ ks
all_parts [] zero = refl
all_parts [] (suc i) = refl
all_parts (k ∷ ks) zero = refl
all_parts (k ∷ ks) (suc i) = ap (λ (ys : List TxnInfo). k ∷ ys) (all_parts ks i)

pub labels_on : (at : ℕ) (ks : List TxnInfo) (i : ℕ) (x : TxnInfo) (old new : List Binding) → Ascending ks → i < length ks → x ≡ get_or ks i x → old ≡ map binding (filter (λ (k : TxnInfo). not (is_old at k)) (take i ks) ++ drop i ks) → new ≡ cond (is_old at x) (cleaned x.id old) old → new ≡ map binding (filter (λ (k : TxnInfo). not (is_old at k)) (take (i + 1) ks) ++ drop (i + 1) ks)
labels_on at ks i x old new a lt e o n =
    let s : i + 1 ≡ suc i = omega arith in
    let d = drop_first ks i x lt e in
    let whole : take i ks ++ x ∷ drop (suc i) ks ≡ ks = ap (λ (ys : List TxnInfo). take i ks ++ ys) (sym d) ∙ all_parts ks i in
    n
    ∙ ap (λ (bs : List Binding). cond (is_old at x) (cleaned x.id bs) bs) (o ∙ ap (λ (ys : List TxnInfo). map binding (filter (λ (k : TxnInfo). not (is_old at k)) (take i ks) ++ ys)) d)
    ∙ clean_step at (take i ks) (drop (suc i) ks) x (subst Ascending (sym whole) a)
    ∙ ap (λ (ys : List TxnInfo). map binding (filter (λ (k : TxnInfo). not (is_old at k)) ys ++ drop (suc i) ks)) (sym (take_more ks i x lt e))
    ∙ ap (λ (m : ℕ). map binding (filter (λ (k : TxnInfo). not (is_old at k)) (take m ks) ++ drop m ks)) (sym s)

-- ---- the queue

committed_stays : (at : ℕ) (k : TxnInfo) (s : TxnState) → k.state ≡ s → is_committed k.state ≡ true → not (is_old at k) ≡ true
committed_stays at k state.Prepare e h = rw e refl
committed_stays at k state.Precommitted e h = rw e refl
committed_stays at k state.Committed e h = rw e refl
committed_stays at k state.Visible e h = absurd (let z : is_committed k.state ≡ false = rw e refl in cc)
committed_stays at k state.Aborted e h = absurd (let z : is_committed k.state ≡ false = rw e refl in cc)

skip_step : (b c : Bool) (m p : ℕ) (s r : Option ℕ) → (c ≡ true → false ≡ true) → cond b (cond c (Some m) None) s ≡ Some p → (s ≡ Some p → r ≡ Some p) → r ≡ Some p
skip_step true true m p s r h e f = absurd (let z = h refl in cc)
skip_step true false m p s r h e f = absurd (cc)
skip_step false c m p s r h e f = f e

kept_step : (b : Bool) (k : TxnInfo) (ks : List TxnInfo) (id p : ℕ) (s : Option ℕ) → (is_committed k.state ≡ true → b ≡ true) → cond (nat_eq k.id id) (slot k) s ≡ Some p → (s ≡ Some p → slot_at id ks ≡ Some p) → slot_at id (cond b (k ∷ ks) ks) ≡ Some p
kept_step true k ks id p s h e f = slot_snoc_step (nat_eq k.id id) (slot k) s (slot_at id ks) p e f
kept_step false k ks id p s h e f = skip_step (nat_eq k.id id) (is_committed k.state) (place_of (seen k)) p s (slot_at id ks) h e f

slot_kept : (at id p : ℕ) (ks : List TxnInfo) → slot_at id ks ≡ Some p → slot_at id (filter (λ (k : TxnInfo). not (is_old at k)) ks) ≡ Some p
slot_kept at id p [] e = e
slot_kept at id p (k ∷ ks) e = kept_step (not (is_old at k)) k (filter (λ (k : TxnInfo). not (is_old at k)) ks) id p (slot_at id ks) (committed_stays at k k.state refl) e (slot_kept at id p ks)

count_step : (b c : Bool) (k : TxnInfo) (ks : List TxnInfo) → is_committed k.state ≡ c → (c ≡ true → b ≡ true) → count_by (λ (x : TxnInfo). is_committed x.state) (cond b (k ∷ ks) ks) ≡ cond c 1 0 + count_by (λ (x : TxnInfo). is_committed x.state) ks
count_step true c k ks e h = sum_cons (λ (x : TxnInfo). cond (is_committed x.state) 1 0) k ks ∙ ap (λ (b : Bool). cond b 1 0 + count_by (λ (x : TxnInfo). is_committed x.state) ks) e
count_step false true k ks e h = absurd (let z = h refl in cc)
count_step false false k ks e h = omega arith

count_kept : (at : ℕ) (ks : List TxnInfo) → count_by (λ (x : TxnInfo). is_committed x.state) (filter (λ (k : TxnInfo). not (is_old at k)) ks) ≡ count_by (λ (x : TxnInfo). is_committed x.state) ks
count_kept at [] = refl
count_kept at (k ∷ ks) =
    count_step (not (is_old at k)) (is_committed k.state) k (filter (λ (k : TxnInfo). not (is_old at k)) ks) refl (committed_stays at k k.state refl)
    ∙ ap (λ (n : ℕ). cond (is_committed k.state) 1 0 + n) (count_kept at ks)
    ∙ sym (sum_cons (λ (x : TxnInfo). cond (is_committed x.state) 1 0) k ks)

queue_filter : (at : ℕ) (ks : List TxnInfo) (q : List Waiter) (last : ℕ) → IsQueue ks q last → IsQueue (filter (λ (k : TxnInfo). not (is_old at k)) ks) q last
queue_filter at ks q last h = record {
  rises = h.rises;
  low = h.low;
  listed = each_filter (λ (k : TxnInfo). IsListed q k.id (slot k)) (λ (k : TxnInfo). not (is_old at k)) ks h.listed;
  filled = each_imp (λ (w : Waiter). slot_at w.txn ks ≡ Some w.place) (λ (w : Waiter). slot_at w.txn (filter (λ (k : TxnInfo). not (is_old at k)) ks) ≡ Some w.place) (λ w s. slot_kept at w.txn w.place ks s) q h.filled;
  count = count_kept at ks ∙ h.count;
}

fewer_step : (b : Bool) (k : TxnInfo) (ks : List TxnInfo) (n : ℕ) → length ks ≤ n → length (cond b (k ∷ ks) ks) ≤ n + 1
fewer_step true k ks n h = let z : length (k ∷ ks) ≡ length ks + 1 = omega arith in omega (arith, h, z)
fewer_step false k ks n h = omega (arith, h)

fewer : (p : TxnInfo → Bool) (ks : List TxnInfo) → length (filter p ks) ≤ length ks
fewer p [] = omega arith
fewer p (k ∷ ks) = let z : length (k ∷ ks) ≡ length ks + 1 = omega arith in let h = fewer_step (p k) k (filter p ks) (length ks) (fewer p ks) in omega (arith, h, z)

pub indexed_filter : (at : ℕ) (ks : List TxnInfo) (old new : List Binding) (q : List Waiter) (room next places : ℕ) → new ≡ map binding (filter (λ (k : TxnInfo). not (is_old at k)) ks) → IsIndexed ks old q room next places → IsIndexed (filter (λ (k : TxnInfo). not (is_old at k)) ks) new q room next places
indexed_filter at ks old new q room next places is h = record {
  ascends = pairs_filter (λ (x y : TxnInfo). x.id < y.id) (λ (k : TxnInfo). not (is_old at k)) ks h.ascends;
  below = each_filter (λ (x : TxnInfo). x.id < next) (λ (k : TxnInfo). not (is_old at k)) ks h.below;
  labels = is;
  queued = queue_filter at ks q places h.queued;
  room = let z = fewer (λ (k : TxnInfo). not (is_old at k)) ks in let r = h.room in omega (arith, z, r);
}
