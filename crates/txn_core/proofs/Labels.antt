-- The book of labels and the kept transactions.
use Rattle.std.proofs.Common.{◌≡◌, ℕ, ◌<◌, Bool, true, false, cond, ◌||◌, List, [], ◌∷◌, find, map, Option, Some, None, refl, sym, ◌∙◌, ap, arith, nat_eq}
use Rattle.std.proofs.lemmas.Bool.Decides.{nat_tests}
use Rattle.std.specs.Prelude.{reverse}
use Rattle.std.proofs.lemmas.Grind.{reverse_onto}
use Rattle.std.specs.List.{AllByRecursion}
use Rattle.std.specs.Option.{option_map}
use Rattle.label_book.specs.declared.binding.Binding.{Binding}
use Rattle.labels.specs.declared.txn_state.TxnState.{TxnState}
use Rattle.label_book.specs.Labels as labels
use Rattle.label_book.specs.Labels.{is_bound, state_of}
use Rattle.front_defs.specs.declared.txn.Txn.{Txn}
use Rattle.front_defs.specs.Transactions.{holds, is_committed, label_of, txn_at}
use Rattle.front_laws.specs.Tidy.{Each}
use Rattle.front_laws.proofs.Lists.{each_append, each_found}
use Rattle.txn_core.specs.declared.info.TxnInfo.{TxnInfo}
use Rattle.txn_core.specs.Seen.{seen, Ascending, Below}
use Rattle.txn_core.specs.Queue.{IsOpen, binding, slot, slot_at}
use Rattle.txn_core.proofs.Due.{each_self}
use Rattle.txn_core.proofs.Views.{find_map, reverse_map}

-- a number that comes next is not bound
pub unbound : (n : ℕ) (ks : List TxnInfo) → Below n ks → is_bound n (map binding ks) ≡ false
unbound n [] e = refl
unbound n (k ∷ ks) e = let h = e.0 in let off : nat_eq k.id n ≡ false = grind (arith, nat_tests) in rw off (unbound n ks e.1)

-- all that is bound has a lower one
pub bound_below : (n : ℕ) (ks : List TxnInfo) → Below n ks → AllByRecursion (λ (b : Binding). b.txn < n) (map binding ks)
bound_below n [] e = tt
bound_below n (k ∷ ks) e = (e.0, bound_below n ks e.1)

bound_step : (b r : Bool) (k : TxnInfo) (o : Option TxnInfo) → option_map (λ (k : TxnInfo). is_committed k.state) (cond b (Some k) o) ≡ Some false → (option_map (λ (k : TxnInfo). is_committed k.state) o ≡ Some false → r ≡ true) → (b || r) ≡ true
bound_step true true k o h f = refl
bound_step true false k o h f = refl
bound_step false true k o h f = refl
bound_step false false k o h f = f h

-- one that is open is
pub open_bound : (id : ℕ) (ks : List TxnInfo) → IsOpen id ks → is_bound id (map binding ks) ≡ true
open_bound id [] h = absurd (cc)
open_bound id (k ∷ ks) h = bound_step (nat_eq k.id id) (is_bound id (map binding ks)) k (find (λ (k : TxnInfo). nat_eq k.id id) ks) h (open_bound id ks)

-- the last of a label, in both
abbrev pub last_in : (db label : List ℕ) (ks : List TxnInfo) → Option TxnInfo
last_in db label ks = find (λ (k : TxnInfo). holds db label (seen k)) (reverse ks)

pub label_is : (db label : List ℕ) (ks : List TxnInfo) → label_of db label (map seen ks) ≡ option_map seen (last_in db label ks)
label_is db label ks = ap (find (holds db label)) (reverse_map seen ks) ∙ find_map seen (holds db label) (reverse ks)

state_is : (db label : List ℕ) (ks : List TxnInfo) → state_of db label (map binding ks) ≡ option_map {U = ℕ × TxnState} (λ (b : Binding). (b.txn, b.state)) (option_map binding (last_in db label ks))
state_is db label ks = ap (λ (o : Option Binding). option_map {U = ℕ × TxnState} (λ (b : Binding). (b.txn, b.state)) o) (ap (find (labels.holds db label)) (reverse_map binding ks) ∙ find_map binding (labels.holds db label) (reverse ks))

both_maps : (o : Option TxnInfo) → option_map {U = ℕ × TxnState} (λ (b : Binding). (b.txn, b.state)) (option_map binding o) ≡ option_map {U = ℕ × TxnState} (λ (t : Txn). (t.id, t.state)) (option_map seen o)
both_maps None = refl
both_maps (Some k) = refl

pub state_seen : (db label : List ℕ) (ks : List TxnInfo) → state_of db label (map binding ks) ≡ option_map {U = ℕ × TxnState} (λ (t : Txn). (t.id, t.state)) (label_of db label (map seen ks))
state_seen db label ks = state_is db label ks ∙ both_maps (last_in db label ks) ∙ ap (option_map {U = ℕ × TxnState} (λ (t : Txn). (t.id, t.state))) (sym (label_is db label ks))

-- it is found under its number
pub each_reverse : (P : TxnInfo → Type 0) (ks : List TxnInfo) → Each P ks → Each P (reverse ks)
each_reverse P [] e = tt
each_reverse P (k ∷ ks) e = rw (reverse_onto ks k []) (each_append P (reverse ks) (k ∷ []) (each_reverse P ks e.1) (e.0, tt))

some_pair : (m id : ℕ) (r s : TxnState) → ◌≡◌ {A = Option (ℕ × TxnState)} (Some (m, r)) (Some (id, s)) → m ≡ id
some_pair m id r s e = let p : ◌≡◌ {A = ℕ × TxnState} (m, r) (id, s) = cc in ap (λ (x : ℕ × TxnState). x.0) p

by_number : (id : ℕ) (s : TxnState) (ks : List TxnInfo) (p : TxnInfo → Bool) (o : Option TxnInfo) → Ascending ks → o ≡ find p (reverse ks) → option_map {U = ℕ × TxnState} (λ (b : Binding). (b.txn, b.state)) (option_map binding o) ≡ Some (id, s) → find (λ (x : TxnInfo). nat_eq x.id id) ks ≡ o
by_number id s ks p None a e h = absurd (cc)
by_number id s ks p (Some k) a e h =
    let i = some_pair k.id id k.state s h in
    ap (λ (n : ℕ). find (λ (x : TxnInfo). nat_eq x.id n) ks) (sym i) ∙ each_found (λ (k : TxnInfo). find (λ (x : TxnInfo). nat_eq x.id k.id) ks ≡ Some k) p (reverse ks) k (each_reverse (λ (k : TxnInfo). find (λ (x : TxnInfo). nat_eq x.id k.id) ks ≡ Some k) ks (each_self ks a)) (sym e)

pub last_numbered : (db label : List ℕ) (id : ℕ) (s : TxnState) (ks : List TxnInfo) → Ascending ks → state_of db label (map binding ks) ≡ Some (id, s) → option_map seen (find (λ (x : TxnInfo). nat_eq x.id id) ks) ≡ label_of db label (map seen ks)
last_numbered db label id s ks a h = ap (option_map seen) (by_number id s ks (λ (k : TxnInfo). holds db label (seen k)) (last_in db label ks) a refl (sym (state_is db label ks) ∙ h)) ∙ sym (label_is db label ks)

no_seen : (o : Option TxnInfo) → option_map {U = ℕ × TxnState} (λ (b : Binding). (b.txn, b.state)) (option_map binding o) ≡ None → None ≡ option_map seen o
no_seen None h = refl
no_seen (Some k) h = absurd (cc)

pub no_last : (db label : List ℕ) (ks : List TxnInfo) → state_of db label (map binding ks) ≡ None → None ≡ label_of db label (map seen ks)
no_last db label ks h = no_seen (last_in db label ks) (sym (state_is db label ks) ∙ h) ∙ sym (label_is db label ks)

-- as contracts say that it is open
open_step : (o : Option TxnInfo) → option_map (λ (t : Txn). is_committed t.state) (option_map seen o) ≡ option_map (λ (k : TxnInfo). is_committed k.state) o
open_step None = refl
open_step (Some k) = refl

pub open_seen : (id : ℕ) (ks : List TxnInfo) → option_map (λ (t : Txn). is_committed t.state) (txn_at id (map seen ks)) ≡ Some false → IsOpen id ks
open_seen id ks h = sym (open_step (find (λ (k : TxnInfo). nat_eq k.id id) ks)) ∙ ap (option_map (λ (t : Txn). is_committed t.state)) (sym (find_map seen (λ (t : Txn). nat_eq t.id id) ks)) ∙ h

slot_bound_step : (b r : Bool) (n s : Option ℕ) (p : ℕ) → cond b n s ≡ Some p → (s ≡ Some p → r ≡ true) → (b || r) ≡ true
slot_bound_step true true n s p e f = refl
slot_bound_step true false n s p e f = refl
slot_bound_step false true n s p e f = refl
slot_bound_step false false n s p e f = f e

pub slot_bound : (id p : ℕ) (ks : List TxnInfo) → slot_at id ks ≡ Some p → is_bound id (map binding ks) ≡ true
slot_bound id p [] e = absurd (cc)
slot_bound id p (k ∷ ks) e = slot_bound_step (nat_eq k.id id) (is_bound id (map binding ks)) (slot k) (slot_at id ks) p e (slot_bound id p ks)
