-- What a sweep would change, as the definitions of the service count it.
use Rattle.std.proofs.Common.{◌≡◌, ℕ, ◌+◌, Bool, true, false, cond, not, ◌||◌, List, [], ◌∷◌, map, refl, sym, ◌∙◌, ap, arith, nat_eq}
use Rattle.std.proofs.lemmas.Bool.Decides.{nat_tests}
use Rattle.std.specs.Prelude.{count_by}
use Rattle.std.specs.List.{list_any}
use Rattle.front_defs.specs.declared.txn.Txn.{Txn}
use Rattle.front_defs.specs.Transactions.{is_expired, is_over, sweeps, sweeps_told}
use Rattle.txn_core.specs.declared.info.TxnInfo.{TxnInfo}
use Rattle.txn_core.specs.Book.{is_old, is_stale, is_told_change}
use Rattle.txn_core.specs.Seen.{seen}
use Rattle.txn_core.proofs.Due.{sum_cons}
use Rattle.txn_core.proofs.Views.{any_map}

count_seen : (p : Txn → Bool) (ks : List TxnInfo) → count_by (λ (k : TxnInfo). p (seen k)) ks ≡ count_by p (map seen ks)
count_seen p [] = refl
count_seen p (k ∷ ks) =
    sum_cons (λ (x : TxnInfo). cond (p (seen x)) 1 0) k ks
    ∙ ap (λ (n : ℕ). cond (p (seen k)) 1 0 + n) (count_seen p ks)
    ∙ sym (sum_cons (λ (t : Txn). cond (p t) 1 0) (seen k) (map seen ks))

pub stale_seen : (at : ℕ) (ks : List TxnInfo) → count_by (is_stale at) ks ≡ count_by (is_expired at) (map seen ks)
stale_seen at ks = count_seen (is_expired at) ks

pub old_seen : (at : ℕ) (ks : List TxnInfo) → count_by (is_old at) ks ≡ count_by (is_over at) (map seen ks)
old_seen at ks = count_seen (is_over at) ks

pub told_seen : (at : ℕ) (ks : List TxnInfo) → list_any (is_told_change at) ks ≡ list_any (sweeps_told at) (map seen ks)
told_seen at ks = sym (any_map seen (sweeps_told at) ks)

-- one changes exactly where one of the counts is not 0
any_step : (b c r : Bool) (n m : ℕ) → r ≡ not (nat_eq (n + m) 0) → ((b || c) || r) ≡ not (nat_eq ((cond b 1 0 + n) + (cond c 1 0 + m)) 0)
any_step true c r n m h = grind (arith, nat_tests)
any_step false true r n m h = grind (arith, nat_tests)
any_step false false r n m h = let z : (0 + n) + (0 + m) ≡ n + m = omega arith in h ∙ ap (λ (x : ℕ). not (nat_eq x 0)) (sym z)

any_counts : (p q : Txn → Bool) (ts : List Txn) → list_any (λ (t : Txn). p t || q t) ts ≡ not (nat_eq (count_by p ts + count_by q ts) 0)
any_counts p q [] = refl
any_counts p q (t ∷ ts) =
    any_step (p t) (q t) (list_any (λ (u : Txn). p u || q u) ts) (count_by p ts) (count_by q ts) (any_counts p q ts)
    ∙ ap (λ (n : ℕ). not (nat_eq (n + (cond (q t) 1 0 + count_by q ts)) 0)) (sym (sum_cons (λ (u : Txn). cond (p u) 1 0) t ts))
    ∙ ap (λ (n : ℕ). not (nat_eq (count_by p (t ∷ ts) + n) 0)) (sym (sum_cons (λ (u : Txn). cond (q u) 1 0) t ts))

pub sweeps_counts : (at : ℕ) (ts : List Txn) → list_any (sweeps at) ts ≡ not (nat_eq (count_by (is_expired at) ts + count_by (is_over at) ts) 0)
sweeps_counts at ts = any_counts (is_expired at) (is_over at) ts
