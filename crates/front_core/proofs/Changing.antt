-- A transaction that is put in its place is a change of that number.
use Rattle.std.proofs.Common.{◌≡◌, ℕ, ◌<◌, Bool, true, false, cond, List, [], ◌∷◌, Some, map, filter, refl, ◌∙◌, ap, arith, nat_eq}
use Rattle.std.proofs.lemmas.Bool.Decides.{nat_tests}
use Rattle.std.specs.Prelude.{nat_lt}
use Rattle.front_defs.specs.declared.txn.Txn.{Txn}
use Rattle.front_defs.specs.Transactions.{txn_at, changed, put_txn}
use Rattle.front_laws.specs.Tidy.{Each, Ascends}
use Rattle.front_laws.proofs.Lists.{each_imp, each_found, eq_is, found_id}

low_none : (t : Txn) (us : List Txn) → Each (λ u. t.id < u.id) us → filter (λ u. nat_lt u.id t.id) us ≡ []
low_none t [] e = refl
low_none t (u ∷ us) e = let h = e.0 in let low : nat_lt u.id t.id ≡ false = grind (arith, nat_tests) in rw low (low_none t us e.1)

high_all : (t : Txn) (us : List Txn) → Each (λ u. t.id < u.id) us → filter (λ u. nat_lt t.id u.id) us ≡ us
high_all t [] e = refl
high_all t (u ∷ us) e = let h = e.0 in let high : nat_lt t.id u.id ≡ true = grind (arith, nat_tests) in rw high (ap (λ (l : List Txn). u ∷ l) (high_all t us e.1))

untouched : (id : ℕ) (f : Txn → Txn) (us : List Txn) → Each (λ u. id < u.id) us → map (changed id f) us ≡ us
untouched id f [] e = refl
untouched id f (u ∷ us) e = let h = e.0 in let off : nat_eq u.id id ≡ false = grind (arith, nat_tests) in rw off (ap (λ (l : List Txn). u ∷ l) (untouched id f us e.1))

put_here : (id : ℕ) (f : Txn → Txn) (u y : Txn) (us : List Txn) → nat_eq u.id id ≡ true → y.id ≡ id → f u ≡ y → Each (λ x. u.id < x.id) us → put_txn y (u ∷ us) ≡ map (changed id f) (u ∷ us)
put_here id f u y us e n is a =
    let same : u.id ≡ id = eq_is u.id id e in
    let low : nat_lt u.id y.id ≡ false = grind (arith, nat_tests) in
    let high : nat_lt y.id u.id ≡ false = grind (arith, nat_tests) in
    let above : Each (λ x. y.id < x.id) us = each_imp (λ (x : Txn). u.id < x.id) (λ (x : Txn). y.id < x.id) (λ x h. omega (arith, h, n, same)) us a in
    let above_id : Each (λ x. id < x.id) us = each_imp (λ (x : Txn). u.id < x.id) (λ (x : Txn). id < x.id) (λ x h. omega (arith, h, same)) us a in
    rw (low, high, e, low_none y us above, high_all y us above, untouched id f us above_id, is) refl

put_later : (id : ℕ) (f : Txn → Txn) (u y : Txn) (us : List Txn) → nat_eq u.id id ≡ false → u.id < y.id → put_txn y us ≡ map (changed id f) us → put_txn y (u ∷ us) ≡ map (changed id f) (u ∷ us)
put_later id f u y us e lt k =
    let low : nat_lt u.id y.id ≡ true = grind (arith, nat_tests) in
    let high : nat_lt y.id u.id ≡ false = grind (arith, nat_tests) in
    rw (low, high, e) (ap (λ (l : List Txn). u ∷ l) k)

put_by : (id : ℕ) (f : Txn → Txn) (u t y : Txn) (us : List Txn) (b : Bool) → nat_eq u.id id ≡ b → Each (λ x. u.id < x.id) us → cond b (Some u) (txn_at id us) ≡ Some t → y.id ≡ id → f t ≡ y → (txn_at id us ≡ Some t → put_txn y us ≡ map (changed id f) us) → put_txn y (u ∷ us) ≡ map (changed id f) (u ∷ us)
put_by id f u t y us true e a g n is k = let i : u ≡ t = cc in put_here id f u y us e n (ap f i ∙ is) a
put_by id f u t y us false e a g n is k =
    let lt = each_found (λ (x : Txn). u.id < x.id) (λ (x : Txn). nat_eq x.id id) us t a g in
    let same = found_id id us t g in
    put_later id f u y us e (omega (arith, lt, same, n)) (k g)

pub put_changed : (id : ℕ) (f : Txn → Txn) (ts : List Txn) (t y : Txn) → Ascends ts → txn_at id ts ≡ Some t → y.id ≡ id → f t ≡ y → put_txn y ts ≡ map (changed id f) ts
put_changed id f [] t y a found n is = absurd (cc)
put_changed id f (u ∷ us) t y a found n is = put_by id f u t y us (nat_eq u.id id) refl a.0 found n is (λ g. put_changed id f us t y a.1 g n is)
