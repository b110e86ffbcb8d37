-- A step of a loop that changes transactions and their labels.
use Rattle.std.proofs.Common.{◌≡◌, ℕ, zero, suc, ◌+◌, ◌<◌, Bool, true, false, cond, ◌||◌, List, [], ◌∷◌, ◌++◌, length, take, drop, get_or, map, refl, sym, ◌∙◌, ap, subst, arith, nat_eq, slice_set}
use Rattle.std.proofs.lemmas.Bool.Decides.{nat_tests}
use Rattle.labels.specs.declared.txn_state.TxnState.{TxnState}
use Rattle.labels.specs.declared.txn_state.TxnState.TheVariants as state
use Rattle.label_book.specs.declared.binding.Binding.{Binding}
use Rattle.label_book.specs.Labels.{finished, is_bound}
use Rattle.front_defs.specs.Transactions.{dropped_state}
use Rattle.txn_core.specs.declared.info.TxnInfo.{TxnInfo}
use Rattle.txn_core.specs.Book.{dropped_in, is_stale, swept_as}
use Rattle.txn_core.specs.Queue.{binding}
use Rattle.txn_core.specs.Seen.{Ascending}
use Rattle.txn_core.proofs.Puts.{ascending_set, binding_spares, hit_is, put_there}

-- what a loop has changed so far, of the transactions and of their labels
pub record IsPartway (f : TxnInfo → TxnInfo) (old now : List TxnInfo) (book : List Binding) (i : ℕ) : Type 0 where
  pub done : now ≡ map f (take i old) ++ drop i old
  pub labels : book ≡ map binding now
  pub ascends : Ascending now

at_place : (f : TxnInfo → TxnInfo) (old : List TxnInfo) (i : ℕ) (x : TxnInfo) → i < length old → x ≡ get_or (map f (take i old) ++ drop i old) i x → slice_set (map f (take i old) ++ drop i old) i (f x) ≡ map f (take (suc i) old) ++ drop (suc i) old
at_place f [] i x l e = absurd (omega arith)
at_place f (z ∷ zs) zero x l e = ap (λ (y : TxnInfo). f y ∷ zs) e
at_place f (z ∷ zs) (suc i) x l e = ap (λ (ys : List TxnInfo). f z ∷ ys) (at_place f zs i x (omega arith) e)

mapped_more : (f : TxnInfo → TxnInfo) (old now : List TxnInfo) (i : ℕ) (x y : TxnInfo) → now ≡ map f (take i old) ++ drop i old → i < length old → x ≡ get_or now i x → y ≡ f x → slice_set now i y ≡ map f (take (i + 1) old) ++ drop (i + 1) old
mapped_more f old now i x y e l r h =
    let s : i + 1 ≡ suc i = omega arith in
    ap (λ (z : TxnInfo). slice_set now i z) h
    ∙ (ap (λ (zs : List TxnInfo). slice_set zs i (f x)) e
    ∙ (at_place f old i x l (subst (λ (zs : List TxnInfo). x ≡ get_or zs i x) e r)
    ∙ ap (λ (n : ℕ). map f (take n old) ++ drop n old) (sym s)))

set_read : (ks : List TxnInfo) (i : ℕ) (x : TxnInfo) → x ≡ get_or ks i x → slice_set ks i x ≡ ks
set_read [] i x e = refl
set_read (k ∷ ks) zero x e = ap (λ (y : TxnInfo). y ∷ ks) e
set_read (k ∷ ks) (suc i) x e = ap (λ (ys : List TxnInfo). k ∷ ys) (set_read ks i x e)

own_number : (ks : List TxnInfo) (i : ℕ) (x : TxnInfo) → x ≡ get_or ks i x → nat_eq (get_or ks i x).id x.id ≡ true
own_number ks i x e = let z : x.id ≡ (get_or ks i x).id = ap (λ (k : TxnInfo). k.id) e in grind (arith, nat_tests)

-- the labels after one was changed, or was not
relabelled : (b : Bool) (s : TxnState) (ks : List TxnInfo) (i : ℕ) (x y : TxnInfo) (old new : List Binding) → Ascending ks → i < length ks → x ≡ get_or ks i x → (b ≡ true → binding y ≡ record (binding x) { state = s }) → (b ≡ false → y ≡ x) → old ≡ map binding ks → new ≡ cond b (map (finished x.id s) old) old → new ≡ map binding (slice_set ks i y)
relabelled true s ks i x y old new a lt e is same o n =
    let hit = own_number ks i x e in
    let g : binding y ≡ finished x.id s (binding (get_or ks i x)) = is refl ∙ ap (λ (k : TxnInfo). record (binding k) { state = s }) e ∙ sym (hit_is (nat_eq (get_or ks i x).id x.id) (record (binding (get_or ks i x)) { state = s }) (binding (get_or ks i x)) hit) in
    n ∙ ap (map (finished x.id s)) o ∙ sym (put_there x.id binding (finished x.id s) (binding_spares x.id s) ks i x y a lt hit g)
relabelled false s ks i x y old new a lt e is same o n =
    n ∙ o ∙ ap (map binding) (sym (ap (λ (k : TxnInfo). slice_set ks i k) (same refl) ∙ set_read ks i x e))

-- one step of the loop
pub step_on : (f : TxnInfo → TxnInfo) (b : TxnInfo → Bool) (s : TxnInfo → TxnState) (old now : List TxnInfo) (i : ℕ) (x y : TxnInfo) (before after : List Binding) → ((k : TxnInfo) → (f k).id ≡ k.id) → ((k : TxnInfo) → b k ≡ true → binding (f k) ≡ record (binding k) { state = s k }) → ((k : TxnInfo) → b k ≡ false → f k ≡ k) → IsPartway f old now before i → i < length old → i < length now → x ≡ get_or now i x → y ≡ f (get_or now i x) → after ≡ cond (b (get_or now i x)) (map (finished (get_or now i x).id (s (get_or now i x))) before) before → IsPartway f old (slice_set now i y) after (i + 1)
step_on f b s old now i x y before after same on off h lt in_now e is n =
    let made : y ≡ f x = is ∙ ap f (sym e) in
    let marked : after ≡ cond (b x) (map (finished x.id (s x)) before) before = n ∙ ap (λ (k : TxnInfo). cond (b k) (map (finished k.id (s k)) before) before) (sym e) in
    record {
      done = mapped_more f old now i x y h.done lt e made;
      labels = relabelled (b x) (s x) now i x y before after h.ascends in_now e (λ t. ap binding made ∙ on x t) (λ t. made ∙ off x t) h.labels marked;
      ascends = ascending_set now i x y in_now (ap (λ (k : TxnInfo). k.id) is ∙ same (get_or now i x)) h.ascends;
    }

-- each one that is kept is bound
or_true : (b : Bool) → (b || true) ≡ true
or_true true = refl
or_true false = refl

pub bound_at : (ks : List TxnInfo) (i : ℕ) (d : TxnInfo) → i < length ks → is_bound (get_or ks i d).id (map binding ks) ≡ true
bound_at [] i d lt = absurd (omega arith)
bound_at (k ∷ ks) zero d lt = let h : nat_eq k.id k.id ≡ true = grind (arith, nat_tests) in rw h refl
bound_at (k ∷ ks) (suc i) d lt = let h = bound_at ks i d (omega arith) in rw h (or_true (nat_eq k.id (get_or ks i d).id))

-- what an abort and a drop make of the labels
pub swept_label : (at : ℕ) (k : TxnInfo) → is_stale at k ≡ true → binding (swept_as at k) ≡ record (binding k) { state = state.Aborted }
swept_label at k h = rw h refl

pub swept_same : (at : ℕ) (k : TxnInfo) → is_stale at k ≡ false → swept_as at k ≡ k
swept_same at k h = rw h refl

pub dropped_label : (table at : ℕ) (k : TxnInfo) → nat_eq k.table table ≡ true → binding (dropped_in table at k) ≡ record (binding k) { state = dropped_state k.state }
dropped_label table at k h = rw h refl

pub dropped_same : (table at : ℕ) (k : TxnInfo) → nat_eq k.table table ≡ false → dropped_in table at k ≡ k
dropped_same table at k h = rw h refl
