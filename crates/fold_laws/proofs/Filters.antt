-- Folding and picking rows by their keys may change places.
use Rattle.std.proofs.Common.{◌≡◌, List, [], ◌∷◌, Bool, true, false, sym, ap, ◌∙◌, subst, filter, refl}
use Rattle.std.specs.Cmp.{IsTotalOrder}
use Rattle.std.specs.FinMap.{IsAntisymmetric}
use Rattle.std.specs.List.{AllByRecursion}
use Rattle.std.specs.Ordering.{is_gt}
use Rattle.std.specs.declared.cmp.Ordering.{Ordering}
use Rattle.fold_laws.specs.Fold.{has_key, folded, Ascends, AllOf, IsGathering}
use Rattle.fold_laws.proofs.Unique.{all_weaker, filter_none, filter_all, filter_yes, filter_no}
use Rattle.fold_laws.proofs.Folds.{all_of, of_fold, ascends_fold, fold_is}

-- two tests change places
filter_swap : {X : Type 0} (p q : X → Bool) (xs : List X) → filter p (filter q xs) ≡ filter q (filter p xs)
filter_swap p q [] = refl
filter_swap p q (x ∷ xs) = go (filter_swap p q xs) (p x) (q x) refl refl
  where
    go : filter p (filter q xs) ≡ filter q (filter p xs) → (b c : Bool) → p x ≡ b → q x ≡ c → filter p (filter q (x ∷ xs)) ≡ filter q (filter p (x ∷ xs))
    go rest true true f g = ap (filter p) (filter_yes q x xs g) ∙ filter_yes p x (filter q xs) f ∙ ap (λ l. x ∷ l) rest ∙ sym (ap (filter q) (filter_yes p x xs f) ∙ filter_yes q x (filter p xs) g)
    go rest true false f g = ap (filter p) (filter_no q x xs g) ∙ rest ∙ sym (ap (filter q) (filter_yes p x xs f) ∙ filter_no q x (filter p xs) g)
    go rest false true f g = ap (filter p) (filter_yes q x xs g) ∙ filter_no p x (filter q xs) f ∙ rest ∙ sym (ap (filter q) (filter_no p x xs f))
    go rest false false f g = ap (filter p) (filter_no q x xs g) ∙ rest ∙ sym (ap (filter q) (filter_no p x xs f))

-- what all rows keep, those that pass keep
pub filter_keeps : {X : Type 0} (P : X → Type 0) (p : X → Bool) (xs : List X) → AllByRecursion P xs → AllByRecursion P (filter p xs)
filter_keeps P p [] a = tt
filter_keeps P p (x ∷ xs) a = go (filter_keeps P p xs a.1) (p x) refl
  where
    go : AllByRecursion P (filter p xs) → (b : Bool) → p x ≡ b → AllByRecursion P (filter p (x ∷ xs))
    go rest true e = subst (AllByRecursion P) (sym (filter_yes p x xs e)) (a.0, rest)
    go rest false e = subst (AllByRecursion P) (sym (filter_no p x xs e)) rest

module _ {K : Type 0} {cmp : K → K → Ordering} (o : IsTotalOrder cmp) {R : Type 0} (key : R → K) where
  filter_ascends : (p : R → Bool) (xs : List R) → Ascends cmp key xs → Ascends cmp key (filter p xs)
  filter_ascends p [] a = tt
  filter_ascends p (x ∷ xs) a = go (filter_ascends p xs a.1) (p x) refl
    where
      go : Ascends cmp key (filter p xs) → (b : Bool) → p x ≡ b → Ascends cmp key (filter p (x ∷ xs))
      go rest true e = subst (Ascends cmp key) (sym (filter_yes p x xs e)) (filter_keeps (λ r. is_gt (cmp (key x) (key r)) ≡ false) p xs a.0, rest)
      go rest false e = subst (Ascends cmp key) (sym (filter_no p x xs e)) rest

  module _ (same : IsAntisymmetric cmp) {all : List R → List R} (g : IsGathering cmp key all) (test : K → Bool) where
    abbrev of : K → List R → List R
    of k rows = filter (has_key cmp key k) rows

    abbrev pick : List R → List R
    pick rows = filter (λ r. test (key r)) rows

    -- the test answers for rows of one key what it answers for the key
    tested : (b : Bool) (k : K) (rows : List R) → test k ≡ b → AllOf cmp key k rows → AllByRecursion (λ r. test (key r) ≡ b) rows
    tested b k rows e a = all_weaker _ _ (λ r f. ap test (sym (same k (key r) f)) ∙ e) rows a

    picked : (k : K) (rows : List R) → pick (all (of k rows)) ≡ all (pick (of k rows))
    picked k rows = go (test k) refl
      where
        own : AllOf cmp key k (of k rows)
        own = all_of o key k rows

        kept : AllOf cmp key k (all (of k rows))
        kept = g.kept k (of k rows) own

        go : (b : Bool) → test k ≡ b → pick (all (of k rows)) ≡ all (pick (of k rows))
        go true e = filter_all (λ r. test (key r)) (all (of k rows)) (tested true k (all (of k rows)) e kept) ∙ ap all (sym (filter_all (λ r. test (key r)) (of k rows) (tested true k (of k rows) e own)))
        go false e = filter_none (λ r. test (key r)) (all (of k rows)) (tested false k (all (of k rows)) e kept) ∙ sym (ap all (filter_none (λ r. test (key r)) (of k rows) (tested false k (of k rows) e own)) ∙ g.none)

    -- the fold of the rows whose keys pass a test is what passes of the fold
    pub fold_filter : (rows : List R) → folded cmp key all (pick rows) ≡ pick (folded cmp key all rows)
    fold_filter rows = sym (fold_is o key same g (pick (folded cmp key all rows)) (pick rows) (filter_ascends (λ r. test (key r)) (folded cmp key all rows) (ascends_fold o key same g rows))
        (λ k. filter_swap (has_key cmp key k) (λ r. test (key r)) (folded cmp key all rows) ∙ ap pick (of_fold o key same g k rows) ∙ picked k rows ∙ ap all (filter_swap (λ r. test (key r)) (has_key cmp key k) rows)))
