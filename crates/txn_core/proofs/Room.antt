-- There is room in the queue for each load that is not committed.
use Rattle.std.proofs.Common.{◌≡◌, ℕ, suc, ◌+◌, ◌≤◌, ◌<◌, Bool, true, false, cond, List, [], ◌∷◌, length, find, Option, Some, ap, ◌∙◌, arith, nat_eq}
use Rattle.std.specs.Prelude.{count_by}
use Rattle.std.specs.Option.{option_map}
use Rattle.front_defs.specs.Transactions.{is_committed}
use Rattle.txn_core.specs.declared.info.TxnInfo.{TxnInfo}
use Rattle.txn_core.specs.declared.waiter.Waiter.{Waiter}
use Rattle.txn_core.specs.Queue.{IsOpen, IsQueue}
use Rattle.txn_core.proofs.Due.{sum_cons}

at_most_one : (b : Bool) → cond b 1 0 ≤ 1
at_most_one true = omega arith
at_most_one false = omega arith

count_cons : (k : TxnInfo) (ks : List TxnInfo) → count_by (λ (x : TxnInfo). is_committed x.state) (k ∷ ks) ≡ cond (is_committed k.state) 1 0 + count_by (λ (x : TxnInfo). is_committed x.state) ks
count_cons k ks = sum_cons (λ (x : TxnInfo). cond (is_committed x.state) 1 0) k ks

pub count_within : (ks : List TxnInfo) → count_by (λ (x : TxnInfo). is_committed x.state) ks ≤ length ks
count_within [] = omega arith
count_within (k ∷ ks) = let s = count_cons k ks in let l = at_most_one (is_committed k.state) in let h = count_within ks in omega (arith, s, l, h)

open_step : (b : Bool) (k : TxnInfo) (ks : List TxnInfo) (o : Option TxnInfo) → option_map (λ (x : TxnInfo). is_committed x.state) (cond b (Some k) o) ≡ Some false → (option_map (λ (x : TxnInfo). is_committed x.state) o ≡ Some false → count_by (λ (x : TxnInfo). is_committed x.state) ks < length ks) → count_by (λ (x : TxnInfo). is_committed x.state) (k ∷ ks) < suc (length ks)
open_step true k ks o e f =
    let off : is_committed k.state ≡ false = cc in
    let s : count_by (λ (x : TxnInfo). is_committed x.state) (k ∷ ks) ≡ 0 + count_by (λ (x : TxnInfo). is_committed x.state) ks = count_cons k ks ∙ ap (λ (b : Bool). cond b 1 0 + count_by (λ (x : TxnInfo). is_committed x.state) ks) off in
    let h = count_within ks in omega (arith, s, h)
open_step false k ks o e f = let s = count_cons k ks in let l = at_most_one (is_committed k.state) in let h = f e in omega (arith, s, l, h)

open_counts : (id : ℕ) (ks : List TxnInfo) → IsOpen id ks → count_by (λ (x : TxnInfo). is_committed x.state) ks < length ks
open_counts id [] e = absurd (cc)
open_counts id (k ∷ ks) e = open_step (nat_eq k.id id) k ks (find (λ (x : TxnInfo). nat_eq x.id id) ks) e (open_counts id ks)

pub room_left : (id room last : ℕ) (ks : List TxnInfo) (q : List Waiter) → IsOpen id ks → IsQueue ks q last → length ks ≤ room → length q < room
room_left id room last ks q open_now h more = let c = open_counts id ks open_now in let n = h.count in omega (arith, c, n, more)
