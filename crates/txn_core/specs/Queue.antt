-- The committed loads that wait for their publish, by ascending places.
use Rattle.std.specs.Prelude.{◌≡◌, ℕ, ◌≤◌, ◌<◌, false, cond, not, List, [], ◌∷◌, ◌++◌, Option, Some, None, filter, length, nat_eq, nat_lt, count_by, find, map}
use Rattle.std.specs.Option.{option_map}
use Rattle.label_book.specs.declared.binding.Binding.{Binding}
use Rattle.front_defs.specs.Transactions.{is_committed, place_of}
use Rattle.front_laws.specs.Tidy.{Each, Pairs}
use Rattle.txn_core.specs.declared.info.TxnInfo.{TxnInfo}
use Rattle.txn_core.specs.declared.waiter.Waiter.{Waiter}
use Rattle.txn_core.specs.Seen.{seen, Ascending, Below}

-- the place at which a transaction waits
abbrev pub slot : TxnInfo → Option ℕ
slot k = cond (is_committed k.state) (Some (place_of (seen k))) None

-- and that of the transaction of a number
abbrev pub slot_at : ℕ → List TxnInfo → Option ℕ
slot_at id [] = None
slot_at id (k ∷ ks) = cond (nat_eq k.id id) (slot k) (slot_at id ks)

-- who waits at a place
abbrev pub waiter_at : ℕ → List Waiter → Option ℕ
waiter_at place [] = None
waiter_at place (w ∷ q) = cond (nat_eq w.place place) (Some w.txn) (waiter_at place q)

-- who waits at a place is in the queue, under it
abbrev pub IsListed : List Waiter → ℕ → Option ℕ → Type 0
IsListed q id None = Unit {0}
IsListed q id (Some place) = waiter_at place q ≡ Some id

-- The queue has the committed transactions and no other ones, by ascending places, of which none is above the last.
pub record IsQueue (ks : List TxnInfo) (q : List Waiter) (last : ℕ) : Type 0 where
  pub rises : Pairs (λ (v w : Waiter). v.place < w.place) q
  pub low : Each (λ (w : Waiter). w.place ≤ last) q
  pub listed : Each (λ (k : TxnInfo). IsListed q k.id (slot k)) ks
  pub filled : Each (λ (w : Waiter). slot_at w.txn ks ≡ Some w.place) q
  pub count : count_by (λ (k : TxnInfo). is_committed k.state) ks ≡ length q

-- a kept transaction that is not committed
abbrev pub IsOpen : ℕ → List TxnInfo → Type 0
IsOpen id ks = option_map (λ (k : TxnInfo). is_committed k.state) (find (λ (k : TxnInfo). nat_eq k.id id) ks) ≡ Some false

-- the one that a commit puts last, where it has a place
abbrev pub waiters_by : Option ℕ → ℕ → List Waiter
waiters_by None id = []
waiters_by (Some p) id = record { place = p; txn = id } ∷ []

-- one that is restored at this place, between those of lower and those of higher places
abbrev pub put_slot : Option ℕ → ℕ → List Waiter → List Waiter
put_slot None id q = q
put_slot (Some p) id q = filter (λ (w : Waiter). nat_lt w.place p) q ++ record { place = p; txn = id } ∷ filter (λ (w : Waiter). not (nat_lt w.place p)) q

-- a label and the transaction that holds it
abbrev pub binding : TxnInfo → Binding
binding k = record { db = k.db; label = k.label; txn = k.id; state = k.state }

-- The numbers ascend below the next one, the book has the labels, the queue the committed loads, and there is room in it for all.
pub record IsIndexed (ks : List TxnInfo) (book : List Binding) (q : List Waiter) (capacity next last : ℕ) : Type 0 where
  pub ascends : Ascending ks
  pub below : Below next ks
  pub labels : book ≡ map binding ks
  pub queued : IsQueue ks q last
  pub room : length ks ≤ capacity
