-- A book whose last begin is taken back.
use Rattle.std.proofs.Common.{◌≡◌, ℕ, zero, suc, ◌+◌, ◌-◌, ◌<◌, Bool, true, false, cond, List, [], ◌∷◌, ◌++◌, length, take, map, Option, Some, None, refl, sym, ◌∙◌, ap, subst, arith, nat_eq}
use Rattle.std.proofs.lemmas.Bool.Decides.{nat_tests}
use Rattle.std.specs.Prelude.{count_by}
use Rattle.label_book.specs.declared.binding.Binding.{Binding}
use Rattle.label_book.specs.Labels.{cleaned}
use Rattle.front_defs.specs.Transactions.{is_committed}
use Rattle.front_laws.specs.Tidy.{Each, Pairs}
use Rattle.front_laws.proofs.Lists.{each_imp}
use Rattle.txn_core.specs.declared.info.TxnInfo.{TxnInfo}
use Rattle.txn_core.specs.declared.start.TxnStart.{TxnStart}
use Rattle.txn_core.specs.declared.waiter.Waiter.{Waiter}
use Rattle.txn_core.specs.Book.{BookView, HasBegun, begun, info_of, unbegun}
use Rattle.txn_core.specs.Queue.{IsIndexed, IsListed, IsQueue, binding, slot, slot_at}
use Rattle.txn_core.specs.Seen.{Ascending, Below}
use Rattle.txn_core.proofs.Due.{sum_cons}

length_snoc : (xs : List TxnInfo) (x : TxnInfo) → length (xs ++ x ∷ []) ≡ length xs + 1
length_snoc [] x = refl
length_snoc (y ∷ xs) x = let h = length_snoc xs x in omega (arith, h)

take_front : (n : ℕ) (xs ys : List TxnInfo) → n ≡ length xs → take n (xs ++ ys) ≡ xs
take_front zero [] ys e = refl
take_front zero (x ∷ xs) ys e = absurd (omega (arith, e))
take_front (suc n) [] ys e = absurd (omega (arith, e))
take_front (suc n) (x ∷ xs) ys e = ap (λ (zs : List TxnInfo). x ∷ zs) (take_front n xs ys (omega (arith, e)))

without_last : (xs : List TxnInfo) (x : TxnInfo) → take (length (xs ++ x ∷ []) - 1) (xs ++ x ∷ []) ≡ xs
without_last xs x = let h = length_snoc xs x in take_front (length (xs ++ x ∷ []) - 1) xs (x ∷ []) (omega (arith, h))

-- two lists with a last one each
first_of_two : (x y : TxnInfo) (ys : List TxnInfo) → x ∷ [] ≡ y ∷ ys → x ≡ y
first_of_two x y ys e = cc

pub last_same : (xs ys : List TxnInfo) (x y : TxnInfo) → xs ++ x ∷ [] ≡ ys ++ y ∷ [] → x ≡ y
last_same [] [] x y e = cc
last_same [] (v ∷ []) x y e = absurd (cc)
last_same [] (v ∷ w ∷ ys) x y e = absurd (cc)
last_same (u ∷ []) [] x y e = absurd (cc)
last_same (u ∷ w ∷ xs) [] x y e = absurd (cc)
last_same (u ∷ xs) (v ∷ ys) x y e = last_same xs ys x y (let z : xs ++ x ∷ [] ≡ ys ++ y ∷ [] = cc in z)

pub others_same : (xs ys : List TxnInfo) (x y : TxnInfo) → xs ++ x ∷ [] ≡ ys ++ y ∷ [] → xs ≡ ys
others_same xs ys x y e = sym (without_last xs x) ∙ ap (λ (zs : List TxnInfo). take (length zs - 1) zs) e ∙ without_last ys y

-- what is left
pub unbegun_is : (b : BookView) (xs : List TxnInfo) (x : TxnInfo) → b.kept ≡ xs ++ x ∷ [] → HasBegun b → record b { kept = xs; next = x.id } ≡ unbegun b
unbegun_is b xs x e h =
    let same : xs ++ x ∷ [] ≡ h.others ++ h.last ∷ [] = sym e ∙ h.kept in
    let i : x ≡ h.last = last_same xs h.others x h.last same in
    let n : x.id ≡ b.next - 1 = (let z : x.id ≡ h.last.id = ap (λ (k : TxnInfo). k.id) i in let y = h.number in omega (arith, z, y)) in
    let k : xs ≡ take (length b.kept - 1) b.kept = sym (without_last xs x) ∙ ap (λ (zs : List TxnInfo). take (length zs - 1) zs) (sym e) in
    ap (λ (ks : List TxnInfo). record b { kept = ks; next = x.id }) k ∙ ap (λ (m : ℕ). record (unbegun b) { next = m }) n

pub begun_back : (b : BookView) (s : TxnStart) (now : BookView) → now ≡ begun s b → unbegun now ≡ b
begun_back b s now e =
    ap unbegun e
    ∙ ap (λ (ks : List TxnInfo). record b { kept = ks; next = (b.next + 1) - 1 }) (without_last b.kept (info_of s b.next))
    ∙ (let z : (b.next + 1) - 1 ≡ b.next = omega arith in ap (λ (n : ℕ). record b { next = n }) z)

-- ---- what stands without the last one

each_front : {X : Type 0} (P : X → Type 0) (xs : List X) (x : X) → Each P (xs ++ x ∷ []) → Each P xs
each_front P [] x e = tt
each_front P (y ∷ xs) x e = (e.0, each_front P xs x e.1)

each_last : {X : Type 0} (P : X → Type 0) (xs : List X) (x : X) → Each P (xs ++ x ∷ []) → P x
each_last P [] x e = e.0
each_last P (y ∷ xs) x e = each_last P xs x e.1

pairs_front : {X : Type 0} (R : X → X → Type 0) (xs : List X) (x : X) → Pairs R (xs ++ x ∷ []) → Pairs R xs
pairs_front R [] x a = tt
pairs_front R (y ∷ xs) x a = (each_front (R y) xs x a.0, pairs_front R xs x a.1)

below_last : (xs : List TxnInfo) (x : TxnInfo) → Ascending (xs ++ x ∷ []) → Below x.id xs
below_last [] x a = tt
below_last (y ∷ xs) x a = (each_last (λ (k : TxnInfo). y.id < k.id) xs x a.0, below_last xs x a.1)

apart : (n m : ℕ) → n < m → nat_eq n m ≡ false
apart n m lt = grind (arith, nat_tests)

last_cleaned : (xs : List TxnInfo) (x : TxnInfo) → Below x.id xs → cleaned x.id (map binding (xs ++ x ∷ [])) ≡ map binding xs
last_cleaned [] x b = let z : nat_eq x.id x.id ≡ true = grind (arith, nat_tests) in rw z refl
last_cleaned (y ∷ xs) x b = rw (apart y.id x.id b.0) (ap (λ (bs : List Binding). binding y ∷ bs) (last_cleaned xs x b.1))

front_step : (b c : Bool) (n p : ℕ) (s r : Option ℕ) → c ≡ false → cond b (cond c (Some n) None) s ≡ Some p → b ≡ false
front_step true true n p s r e h = absurd (cc)
front_step true false n p s r e h = absurd (cc)
front_step false c n p s r e h = refl

slot_front_step : (b : Bool) (here s r : Option ℕ) (p : ℕ) → cond b here s ≡ Some p → (s ≡ Some p → r ≡ Some p) → cond b here r ≡ Some p
slot_front_step true here s r p e f = e
slot_front_step false here s r p e f = f e

last_waits : (b : Bool) (o : Option ℕ) (p : ℕ) → o ≡ None → cond b o None ≡ Some p → ⊥
last_waits true o p n e = absurd (cc)
last_waits false o p n e = absurd (cc)

slot_front : (id p : ℕ) (xs : List TxnInfo) (x : TxnInfo) → slot x ≡ None → slot_at id (xs ++ x ∷ []) ≡ Some p → slot_at id xs ≡ Some p
slot_front id p [] x n e = absurd (last_waits (nat_eq x.id id) (slot x) p n e)
slot_front id p (y ∷ xs) x n e = slot_front_step (nat_eq y.id id) (slot y) (slot_at id (xs ++ x ∷ [])) (slot_at id xs) p e (slot_front id p xs x n)

count_front : (xs : List TxnInfo) (x : TxnInfo) → is_committed x.state ≡ false → count_by (λ (k : TxnInfo). is_committed k.state) (xs ++ x ∷ []) ≡ count_by (λ (k : TxnInfo). is_committed k.state) xs
count_front [] x e = sum_cons (λ (k : TxnInfo). cond (is_committed k.state) 1 0) x [] ∙ rw e refl
count_front (y ∷ xs) x e =
    sum_cons (λ (k : TxnInfo). cond (is_committed k.state) 1 0) y (xs ++ x ∷ [])
    ∙ ap (λ (n : ℕ). cond (is_committed y.state) 1 0 + n) (count_front xs x e)
    ∙ sym (sum_cons (λ (k : TxnInfo). cond (is_committed k.state) 1 0) y xs)

queue_front : (xs : List TxnInfo) (x : TxnInfo) (q : List Waiter) (last : ℕ) → is_committed x.state ≡ false → IsQueue (xs ++ x ∷ []) q last → IsQueue xs q last
queue_front xs x q last off h =
    let none : slot x ≡ None = rw off refl in
    record {
      rises = h.rises;
      low = h.low;
      listed = each_front (λ (k : TxnInfo). IsListed q k.id (slot k)) xs x h.listed;
      filled = each_imp (λ (w : Waiter). slot_at w.txn (xs ++ x ∷ []) ≡ Some w.place) (λ (w : Waiter). slot_at w.txn xs ≡ Some w.place) (λ w s. slot_front w.txn w.place xs x none s) q h.filled;
      count = sym (count_front xs x off) ∙ h.count;
    }

pub indexed_front : (b : BookView) (xs : List TxnInfo) (x : TxnInfo) (old new : List Binding) (q : List Waiter) (room : ℕ) → b.kept ≡ xs ++ x ∷ [] → HasBegun b → new ≡ cleaned x.id old → IsIndexed b.kept old q room b.next b.places → IsIndexed xs new q room x.id b.places
indexed_front b xs x old new q room e h is i =
    let j = subst (λ (ks : List TxnInfo). IsIndexed ks old q room b.next b.places) e i in
    let same : x ≡ h.last = last_same xs h.others x h.last (sym e ∙ h.kept) in
    let off : is_committed x.state ≡ false = ap (λ (k : TxnInfo). is_committed k.state) same ∙ ap is_committed h.begins in
    record {
      ascends = pairs_front (λ (u v : TxnInfo). u.id < v.id) xs x j.ascends;
      below = below_last xs x j.ascends;
      labels = is ∙ ap (cleaned x.id) j.labels ∙ last_cleaned xs x (below_last xs x j.ascends);
      queued = queue_front xs x q b.places off j.queued;
      room = let z = length_snoc xs x in let r = j.room in omega (arith, z, r);
    }
