-- The first transaction that has not ended has the lowest number of those.
use Rattle.std.proofs.Common.{◌≡◌, ℕ, ◌≤◌, ◌<◌, Bool, true, false, cond, ◌&&◌, ◌||◌, List, [], ◌∷◌, find, map, Option, Some, None, refl, sym, ◌∙◌, ap, arith}
use Rattle.std.proofs.lemmas.Bool.Decides.{nat_tests}
use Rattle.std.specs.Prelude.{nat_lt, unwrap_or}
use Rattle.std.specs.Option.{option_map}
use Rattle.front_defs.specs.declared.txn.Txn.{Txn}
use Rattle.front_defs.specs.Moves.{has_open_below, is_open}
use Rattle.front_laws.specs.Tidy.{Each}
use Rattle.txn_core.specs.declared.info.TxnInfo.{TxnInfo}
use Rattle.txn_core.specs.Book.{lowest_open}
use Rattle.txn_core.specs.Seen.{seen, Ascending}
use Rattle.txn_core.proofs.Views.{find_map}

number_step : (next : ℕ) (o : Option TxnInfo) → unwrap_or (option_map (λ (t : Txn). t.id) (option_map seen o)) next ≡ unwrap_or (option_map (λ (k : TxnInfo). k.id) o) next
number_step next None = refl
number_step next (Some k) = refl

-- as it is found among the kept ones
pub lowest_is : (next : ℕ) (ks : List TxnInfo) (o : Option TxnInfo) → o ≡ find (λ (k : TxnInfo). is_open k.state) ks → unwrap_or (option_map (λ (k : TxnInfo). k.id) o) next ≡ lowest_open next (map seen ks)
lowest_is next ks o e =
    sym (number_step next o)
    ∙ ap (λ (p : Option TxnInfo). unwrap_or (option_map (λ (t : Txn). t.id) (option_map seen p)) next) e
    ∙ ap (λ (p : Option Txn). unwrap_or (option_map (λ (t : Txn). t.id) p) next) (sym (find_map seen (λ (t : Txn). is_open t.state) ks))

none_step : (b : Bool) (n m id : ℕ) (r : Bool) → n ≤ m → m < id → r ≡ false → ((b && nat_lt id n) || r) ≡ false
none_step true n m id r le lt e = grind (arith, nat_tests)
none_step false n m id r le lt e = e

none_below : (n m : ℕ) (ks : List TxnInfo) → n ≤ m → Each (λ (k : TxnInfo). m < k.id) ks → has_open_below n (map seen ks) ≡ false
none_below n m [] le e = refl
none_below n m (k ∷ ks) le e = none_step (is_open k.state) n m k.id (has_open_below n (map seen ks)) le e.0 (none_below n m ks le e.1)

first_step : (b : Bool) (n id : ℕ) (r : Bool) → nat_lt id n ≡ b → (n ≤ id → r ≡ false) → (b || r) ≡ b
first_step true n id r e h = refl
first_step false n id r e h = h (grind (arith, nat_tests))

open_step : (b : Bool) (n next : ℕ) (k : TxnInfo) (ks : List TxnInfo) → Each (λ (u : TxnInfo). k.id < u.id) ks → has_open_below n (map seen ks) ≡ nat_lt (lowest_open next (map seen ks)) n → ((b && nat_lt k.id n) || has_open_below n (map seen ks)) ≡ nat_lt (unwrap_or (option_map (λ (t : Txn). t.id) (cond b (Some (seen k)) (find (λ (t : Txn). is_open t.state) (map seen ks)))) next) n
open_step true n next k ks e h = first_step (nat_lt k.id n) n k.id (has_open_below n (map seen ks)) refl (λ le. none_below n k.id ks le e)
open_step false n next k ks e h = h

not_below : (n next : ℕ) → n ≤ next → false ≡ nat_lt next n
not_below n next le = grind (arith, nat_tests)

pub below_lowest : (n next : ℕ) (ks : List TxnInfo) → n ≤ next → Ascending ks → has_open_below n (map seen ks) ≡ nat_lt (lowest_open next (map seen ks)) n
below_lowest n next [] le a = not_below n next le
below_lowest n next (k ∷ ks) le a = open_step (is_open k.state) n next k ks a.0 (below_lowest n next ks le a.1)
