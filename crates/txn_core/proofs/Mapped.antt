-- A change of each kept transaction that leaves its number, its label and its place in the queue.
use Rattle.std.proofs.Common.{◌≡◌, ℕ, ◌+◌, ◌<◌, Bool, true, false, cond, List, [], ◌∷◌, length, map, refl, sym, ◌∙◌, ap, subst, arith, nat_eq}
use Rattle.std.proofs.lemmas.List.{length-map}
use Rattle.std.specs.Prelude.{count_by, Option, Some}
use Rattle.labels.specs.declared.txn_state.TxnState.{TxnState}
use Rattle.labels.specs.declared.txn_state.TxnState.TheVariants as state
use Rattle.label_book.specs.declared.binding.Binding.{Binding}
use Rattle.front_defs.specs.Transactions.{is_committed}
use Rattle.front_laws.proofs.Lists.{always, each_imp, each_map, pairs_map}
use Rattle.txn_core.specs.declared.info.TxnInfo.{TxnInfo}
use Rattle.txn_core.specs.declared.waiter.Waiter.{Waiter}
use Rattle.txn_core.specs.Book.{drop_as, dropped_in, end_as, is_stale, swept_as}
use Rattle.txn_core.specs.Queue.{IsIndexed, IsListed, IsQueue, binding, slot, slot_at}
use Rattle.txn_core.specs.Seen.{Ascending, Below}
use Rattle.txn_core.proofs.Due.{sum_cons}
use Rattle.txn_core.proofs.Queued.{slot_none}

pub record Keeps (f : TxnInfo → TxnInfo) : Type 0 where
  pub id : (k : TxnInfo) → (f k).id ≡ k.id
  pub slot : (k : TxnInfo) → slot (f k) ≡ slot k
  pub committed : (k : TxnInfo) → is_committed (f k).state ≡ is_committed k.state

pub ascending_map : (f : TxnInfo → TxnInfo) (ks : List TxnInfo) → Keeps f → Ascending ks → Ascending (map f ks)
ascending_map f ks s a = pairs_map (λ (x : TxnInfo). Unit {0}) (λ (x y : TxnInfo). x.id < y.id) f (λ x y g h lt. let p = s.id x in let q = s.id y in omega (arith, p, q, lt)) ks (always (λ (x : TxnInfo). Unit {0}) ks (λ x. tt)) a

pub below_map : (n : ℕ) (f : TxnInfo → TxnInfo) (ks : List TxnInfo) → Keeps f → Below n ks → Below n (map f ks)
below_map n f ks s b = each_map (λ (x : TxnInfo). x.id < n) (λ (x : TxnInfo). x.id < n) f (λ x lt. let p = s.id x in omega (arith, p, lt)) ks b

slot_at_map : (id : ℕ) (f : TxnInfo → TxnInfo) (ks : List TxnInfo) → Keeps f → slot_at id (map f ks) ≡ slot_at id ks
slot_at_map id f [] s = refl
slot_at_map id f (k ∷ ks) s =
    ap (λ (n : ℕ). cond (nat_eq n id) (slot (f k)) (slot_at id (map f ks))) (s.id k)
    ∙ ap (λ (o : Option ℕ). cond (nat_eq k.id id) o (slot_at id (map f ks))) (s.slot k)
    ∙ ap (λ (o : Option ℕ). cond (nat_eq k.id id) (slot k) o) (slot_at_map id f ks s)

count_map : (f : TxnInfo → TxnInfo) (ks : List TxnInfo) → Keeps f → count_by (λ (x : TxnInfo). is_committed x.state) (map f ks) ≡ count_by (λ (x : TxnInfo). is_committed x.state) ks
count_map f [] s = refl
count_map f (k ∷ ks) s =
    sum_cons (λ (x : TxnInfo). cond (is_committed x.state) 1 0) (f k) (map f ks)
    ∙ ap (λ (b : Bool). cond b 1 0 + count_by (λ (x : TxnInfo). is_committed x.state) (map f ks)) (s.committed k)
    ∙ ap (λ (n : ℕ). cond (is_committed k.state) 1 0 + n) (count_map f ks s)
    ∙ sym (sum_cons (λ (x : TxnInfo). cond (is_committed x.state) 1 0) k ks)

listed_same : (q : List Waiter) (f : TxnInfo → TxnInfo) (k : TxnInfo) → Keeps f → IsListed q k.id (slot k) → IsListed q (f k).id (slot (f k))
listed_same q f k s l = subst (λ (n : ℕ). IsListed q n (slot (f k))) (sym (s.id k)) (subst (λ (o : Option ℕ). IsListed q k.id o) (sym (s.slot k)) l)

pub queue_map : (f : TxnInfo → TxnInfo) (ks : List TxnInfo) (q : List Waiter) (last : ℕ) → Keeps f → IsQueue ks q last → IsQueue (map f ks) q last
queue_map f ks q last s h = record {
  rises = h.rises;
  low = h.low;
  listed = each_map (λ (x : TxnInfo). IsListed q x.id (slot x)) (λ (x : TxnInfo). IsListed q x.id (slot x)) f (λ k l. listed_same q f k s l) ks h.listed;
  filled = each_imp (λ (w : Waiter). slot_at w.txn ks ≡ Some w.place) (λ (w : Waiter). slot_at w.txn (map f ks) ≡ Some w.place) (λ w p. slot_at_map w.txn f ks s ∙ p) q h.filled;
  count = count_map f ks s ∙ h.count;
}

pub indexed_map : (f : TxnInfo → TxnInfo) (ks : List TxnInfo) (old new : List Binding) (q : List Waiter) (room next places : ℕ) → Keeps f → new ≡ map binding (map f ks) → IsIndexed ks old q room next places → IsIndexed (map f ks) new q room next places
indexed_map f ks old new q room next places s is h = record {
  ascends = ascending_map f ks s h.ascends;
  below = below_map next f ks s h.below;
  labels = is;
  queued = queue_map f ks q places s h.queued;
  room = let z : length (map f ks) ≡ length ks = length-map ks f in let r = h.room in omega (arith, z, r);
}

-- ---- what has expired is aborted

stale_open : (at : ℕ) (k : TxnInfo) (s : TxnState) → k.state ≡ s → is_stale at k ≡ true → is_committed k.state ≡ false
stale_open at k state.Prepare e h = rw e refl
stale_open at k state.Precommitted e h = rw e refl
stale_open at k state.Committed e h = absurd (let z : is_stale at k ≡ false = rw e refl in cc)
stale_open at k state.Visible e h = rw e refl
stale_open at k state.Aborted e h = rw e refl

swept_id : (at : ℕ) (k : TxnInfo) (b : Bool) → (cond b (end_as state.Aborted at k) k).id ≡ k.id
swept_id at k true = refl
swept_id at k false = refl

swept_slot : (at : ℕ) (k : TxnInfo) (b : Bool) → (b ≡ true → is_committed k.state ≡ false) → slot (cond b (end_as state.Aborted at k) k) ≡ slot k
swept_slot at k true h = sym (slot_none k (h refl))
swept_slot at k false h = refl

swept_committed : (at : ℕ) (k : TxnInfo) (b : Bool) → (b ≡ true → is_committed k.state ≡ false) → is_committed (cond b (end_as state.Aborted at k) k).state ≡ is_committed k.state
swept_committed at k true h = sym (h refl)
swept_committed at k false h = refl

pub sweep_keeps : (at : ℕ) → Keeps (swept_as at)
sweep_keeps at = record {
  id = λ k. swept_id at k (is_stale at k);
  slot = λ k. swept_slot at k (is_stale at k) (stale_open at k k.state refl);
  committed = λ k. swept_committed at k (is_stale at k) (stale_open at k k.state refl);
}

-- ---- the table of some is dropped

drop_slot : (at : ℕ) (k : TxnInfo) (s : TxnState) → k.state ≡ s → slot (drop_as at k) ≡ slot k
drop_slot at k state.Prepare e = rw e refl
drop_slot at k state.Precommitted e = rw e refl
drop_slot at k state.Committed e = rw e refl
drop_slot at k state.Visible e = rw e refl
drop_slot at k state.Aborted e = rw e refl

drop_committed : (at : ℕ) (k : TxnInfo) (s : TxnState) → k.state ≡ s → is_committed (drop_as at k).state ≡ is_committed k.state
drop_committed at k state.Prepare e = rw e refl
drop_committed at k state.Precommitted e = rw e refl
drop_committed at k state.Committed e = rw e refl
drop_committed at k state.Visible e = rw e refl
drop_committed at k state.Aborted e = rw e refl

dropped_id : (at : ℕ) (k : TxnInfo) (b : Bool) → (cond b (drop_as at k) k).id ≡ k.id
dropped_id at k true = refl
dropped_id at k false = refl

dropped_slot : (at : ℕ) (k : TxnInfo) (b : Bool) → slot (cond b (drop_as at k) k) ≡ slot k
dropped_slot at k true = drop_slot at k k.state refl
dropped_slot at k false = refl

dropped_committed : (at : ℕ) (k : TxnInfo) (b : Bool) → is_committed (cond b (drop_as at k) k).state ≡ is_committed k.state
dropped_committed at k true = drop_committed at k k.state refl
dropped_committed at k false = refl

pub drop_keeps : (table at : ℕ) → Keeps (dropped_in table at)
drop_keeps table at = record {
  id = λ k. dropped_id at k (nat_eq k.table table);
  slot = λ k. dropped_slot at k (nat_eq k.table table);
  committed = λ k. dropped_committed at k (nat_eq k.table table);
}
