-- What is found among kept transactions, as contracts see them.
use Rattle.std.proofs.Common.{◌≡◌, ℕ, Bool, true, false, cond, ◌||◌, ◌<◌, arith, subst, List, [], ◌∷◌, ◌++◌, Option, Some, None, IfSome, Bor, map, find, refl, sym, ◌∙◌, ap}
use Rattle.std.proofs.lemmas.List.{map-append}
use Rattle.std.proofs.lemmas.Grind.{reverse_onto}
use Rattle.std.proofs.lemmas.Bool.Decides.{nat_tests}
use Rattle.std.specs.Prelude.{reverse, nat_eq}
use Rattle.std.specs.List.{list_any}
use Rattle.std.specs.Option.{option_map, option_copied}
use Rattle.front_defs.specs.declared.txn.Txn.{Txn}
use Rattle.txn_core.specs.declared.info.TxnInfo.{TxnInfo}
use Rattle.front_defs.specs.Stands.{WaitingRows, waiting_for}
use Rattle.front_laws.specs.Tidy.{Each}
use Rattle.front_laws.proofs.Lists.{each_found}
use Rattle.txn_core.specs.Seen.{seen, sets_in, Ascending}
use Rattle.txn_core.proofs.Views.{txn_seen}
use Rattle.front_defs.specs.Transactions.{txn_at}
use Rattle.front_state.specs.Waits.{waits}

-- The load that is found waits with its own rows.
waits_cons : (p : TxnInfo → Bool) (u k : TxnInfo) (us : List TxnInfo) (b : Bool) → Each (λ (v : TxnInfo). u.id < v.id) us → cond b (Some u) (find p us) ≡ Some k → (find p us ≡ Some k → waiting_for k.id 0 (map waits us) ≡ sets_in k.held) → waiting_for k.id 0 (map waits (u ∷ us)) ≡ sets_in k.held
waits_cons p u k us true e f more = let i : u ≡ k = cc in let same : nat_eq u.id k.id ≡ true = (let j : u.id ≡ k.id = ap (λ (x : TxnInfo). x.id) i in grind (arith, nat_tests)) in rw same (ap (λ (x : TxnInfo). sets_in x.held) i)
waits_cons p u k us false e f more = let lt = each_found (λ (v : TxnInfo). u.id < v.id) p us k e f in let other : nat_eq u.id k.id ≡ false = grind (arith, nat_tests) in rw other (more f)

pub found_waits : (p : TxnInfo → Bool) (ks : List TxnInfo) (k : TxnInfo) → Ascending ks → find p ks ≡ Some k → waiting_for k.id 0 (map waits ks) ≡ sets_in k.held
found_waits p [] k a f = absurd (cc)
found_waits p (u ∷ us) k a f = waits_cons p u k us (p u) a.0 f (λ g. found_waits p us k a.1 g)

-- what is found under its own number
pub self_waits : (ks : List TxnInfo) (r : Option (Bor TxnInfo)) → Ascending ks → IfSome r (λ k. find (λ (x : TxnInfo). nat_eq x.id k.now.id) ks ≡ Some k.now) → IfSome r (λ k. waiting_for k.now.id 0 (map waits ks) ≡ sets_in k.now.held)
self_waits ks None a h = tt
self_waits ks (Some k) a h = found_waits (λ (x : TxnInfo). nat_eq x.id k.now.id) ks k.now a h

pub self_seen : (ks : List TxnInfo) (r : Option (Bor TxnInfo)) → IfSome r (λ k. find (λ (x : TxnInfo). nat_eq x.id k.now.id) ks ≡ Some k.now) → IfSome r (λ k. txn_at k.now.id (map seen ks) ≡ Some (seen k.now))
self_seen ks None h = tt
self_seen ks (Some k) h = txn_seen k.now.id ks ∙ ap (option_map seen) h

number_step : (b : Bool) (id : ℕ) (u k : TxnInfo) (o : Option TxnInfo) → nat_eq u.id id ≡ b → cond b (Some u) o ≡ Some k → (o ≡ Some k → k.id ≡ id) → k.id ≡ id
number_step true id u k o h e f = let i : u ≡ k = cc in let j : k.id ≡ u.id = ap (λ (x : TxnInfo). x.id) (sym i) in grind (arith, nat_tests)
number_step false id u k o h e f = f e

found_number : (id : ℕ) (ks : List TxnInfo) (k : TxnInfo) → find (λ (x : TxnInfo). nat_eq x.id id) ks ≡ Some k → k.id ≡ id
found_number id [] k e = absurd (cc)
found_number id (u ∷ us) k e = number_step (nat_eq u.id id) id u k (find (λ (x : TxnInfo). nat_eq x.id id) us) refl e (found_number id us k)

-- and where it is of a database
pub of_db_seen : (id : ℕ) (ks : List TxnInfo) (k : TxnInfo) (b : Bool) (r : Option (Bor TxnInfo)) → find (λ (x : TxnInfo). nat_eq x.id id) ks ≡ Some k → option_copied r ≡ cond b (Some k) None → IfSome r (λ x. txn_at x.now.id (map seen ks) ≡ Some (seen x.now))
of_db_seen id ks k b None f e = tt
of_db_seen id ks k true (Some x) f e =
    let i : k ≡ x.now = cc in
    let n = found_number id ks k f in
    subst (λ (y : TxnInfo). txn_at y.id (map seen ks) ≡ Some (seen y)) i (txn_seen k.id ks ∙ ap (option_map seen) (ap (λ (m : ℕ). find (λ (x : TxnInfo). nat_eq x.id m) ks) n ∙ f))
of_db_seen id ks k false (Some x) f e = absurd (cc)

pub cond_seen : (b : Bool) (k : TxnInfo) → option_map seen (cond b (Some k) None) ≡ cond b (Some (seen k)) None
cond_seen true k = refl
cond_seen false k = refl

pub aligned : (ks : List TxnInfo) → map (λ (w : WaitingRows). w.txn) (map waits ks) ≡ map (λ (t : Txn). t.id) (map seen ks)
aligned [] = refl
aligned (k ∷ ks) = ap (λ (ids : List ℕ). k.id ∷ ids) (aligned ks)
