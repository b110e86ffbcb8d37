-- A transaction of a number, where it is of a database.
use Rattle.std.proofs.Common.{◌≡◌, ℕ, ◌<◌, Bool, true, false, cond, ◌&&◌, List, [], ◌∷◌, Option, Some, None, map, find, refl, ap, ◌∙◌, sym, arith, nat_eq}
use Rattle.std.proofs.lemmas.Bool.Decides.{nat_tests}
use Rattle.front_defs.specs.Names.{same}
use Rattle.front_defs.specs.declared.txn.Txn.{Txn}
use Rattle.front_laws.specs.Tidy.{Each}
use Rattle.front_laws.proofs.Lists.{each_imp, eq_is}
use Rattle.txn_core.specs.declared.info.TxnInfo.{TxnInfo}
use Rattle.txn_core.specs.Seen.{Ascending, seen}

db_none_step : (b h : Bool) (t : Txn) (u : TxnInfo) (a : Option TxnInfo) (q : Option Txn) → None ≡ cond b (Some u) a → (None ≡ a → None ≡ q) → None ≡ cond (b && h) (Some t) q
db_none_step true h t u a q e k = absurd (cc)
db_none_step false h t u a q e k = k e

pub db_none : (id : ℕ) (db : List ℕ) (ks : List TxnInfo) → None ≡ find (λ (k : TxnInfo). nat_eq k.id id) ks → None ≡ find (λ (t : Txn). nat_eq t.id id && same t.db db) (map seen ks)
db_none id db [] e = refl
db_none id db (k ∷ ks) e = db_none_step (nat_eq k.id id) (same k.db db) (seen k) k (find (λ (k : TxnInfo). nat_eq k.id id) ks) (find (λ (t : Txn). nat_eq t.id id && same t.db db) (map seen ks)) e (db_none id db ks)

later_none : (id : ℕ) (db : List ℕ) (ks : List TxnInfo) → Each (λ (k : TxnInfo). id < k.id) ks → None ≡ find (λ (t : Txn). nat_eq t.id id && same t.db db) (map seen ks)
later_none id db [] e = refl
later_none id db (k ∷ ks) e = let h = e.0 in let off : nat_eq k.id id ≡ false = grind (arith, nat_tests) in rw off (later_none id db ks e.1)

db_step : (id : ℕ) (db : List ℕ) (u k : TxnInfo) (ks : List TxnInfo) (b h : Bool) → nat_eq u.id id ≡ b → same k.db db ≡ h → Each (λ (x : TxnInfo). u.id < x.id) ks → Some k ≡ cond b (Some u) (find (λ (k : TxnInfo). nat_eq k.id id) ks) → (Some k ≡ find (λ (k : TxnInfo). nat_eq k.id id) ks → cond h (Some (seen k)) None ≡ find (λ (t : Txn). nat_eq t.id id && same t.db db) (map seen ks)) → cond h (Some (seen k)) None ≡ cond (b && same u.db db) (Some (seen u)) (find (λ (t : Txn). nat_eq t.id id && same t.db db) (map seen ks))
db_step id db u k ks true true e s a f more = let i : k ≡ u = cc in let t : same u.db db ≡ true = ap (λ (x : TxnInfo). same x.db db) (sym i) ∙ s in rw t (ap (λ (x : TxnInfo). Some (seen x)) i)
db_step id db u k ks true false e s a f more = let i : k ≡ u = cc in let t : same u.db db ≡ false = ap (λ (x : TxnInfo). same x.db db) (sym i) ∙ s in let z = eq_is u.id id e in rw t (later_none id db ks (each_imp (λ (x : TxnInfo). u.id < x.id) (λ (x : TxnInfo). id < x.id) (λ x h. omega (arith, z, h)) ks a))
db_step id db u k ks false h e s a f more = more f

pub db_some : (id : ℕ) (db : List ℕ) (ks : List TxnInfo) (k : TxnInfo) (h : Bool) → Ascending ks → Some k ≡ find (λ (k : TxnInfo). nat_eq k.id id) ks → same k.db db ≡ h → cond h (Some (seen k)) None ≡ find (λ (t : Txn). nat_eq t.id id && same t.db db) (map seen ks)
db_some id db [] k h a f s = absurd (cc)
db_some id db (u ∷ us) k h a f s = db_step id db u k us (nat_eq u.id id) h refl s a.0 f (λ g. db_some id db us k h a.1 g s)
