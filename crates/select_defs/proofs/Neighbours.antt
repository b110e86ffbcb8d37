-- Neighbouring rows may change places.
use Rattle.std.proofs.Common.{◌≡◌, List, [], ◌∷◌, ◌++◌, refl, sym, ap, ◌∙◌, subst}
use Rattle.std.specs.BTreeSet.{insert_key}
use Rattle.std.specs.Cmp.{IsTotalOrder}
use Rattle.std.specs.FinMap.{IsAntisymmetric}
use Rattle.std.specs.Ordering.{match_ordering, ordering_reverse}
use Rattle.std.specs.declared.cmp.Ordering.{Ordering}
use Rattle.std.specs.declared.cmp.Ordering.TheVariants.{Less, Equal, Greater}
use Rattle.std.proofs.lemmas.Cmp.{tied_itself}
use Rattle.fold_laws.specs.Fold.{distinct}

module _ {K : Type 0} {cmp : K → K → Ordering} (o : IsTotalOrder cmp) (same : IsAntisymmetric cmp) where
  abbrev into : List K → K → List K
  into ks k = insert_key cmp ks k

  turned : (a b : K) (c : Ordering) → cmp a b ≡ c → cmp b a ≡ ordering_reverse c
  turned a b c e = o.antisymm b a ∙ ap ordering_reverse e

  -- where a key goes, by how it stands to the first
  below : (k x : K) (xs : List K) → cmp k x ≡ Less → into (x ∷ xs) k ≡ k ∷ x ∷ xs
  below k x xs e = ap (λ (c : Ordering). match_ordering c (k ∷ x ∷ xs) (x ∷ xs) (x ∷ into xs k)) e

  at : (k x : K) (xs : List K) → cmp k x ≡ Equal → into (x ∷ xs) k ≡ x ∷ xs
  at k x xs e = ap (λ (c : Ordering). match_ordering c (k ∷ x ∷ xs) (x ∷ xs) (x ∷ into xs k)) e

  above : (k x : K) (xs : List K) → cmp k x ≡ Greater → into (x ∷ xs) k ≡ x ∷ into xs k
  above k x xs e = ap (λ (c : Ordering). match_ordering c (k ∷ x ∷ xs) (x ∷ xs) (x ∷ into xs k)) e

  -- a key that is below another one, which goes behind it
  behind : (j k : K) (ks : List K) → cmp k j ≡ Greater → into (j ∷ ks) k ≡ j ∷ into ks k
  behind j k ks e = above k j ks e

  abbrev Changes : List K → K → K → Type 0
  Changes ks j k = into (into ks j) k ≡ into (into ks k) j

  -- j is below all of ks: k goes anywhere
  low_first : (j k x : K) (xs : List K) (c : Ordering) → cmp k x ≡ c → cmp j x ≡ Less → Changes (x ∷ xs) j k
  low_first j k x xs Less e h = go (cmp k j) refl
    where
      go : (d : Ordering) → cmp k j ≡ d → Changes (x ∷ xs) j k
      go Less f = ap (λ l. into l k) (below j x xs h) ∙ below k j (x ∷ xs) f ∙ sym (ap (λ l. into l j) (below k x xs e) ∙ above j k (x ∷ xs) (turned k j Less f) ∙ ap (λ l. k ∷ l) (below j x xs h))
      go Equal f = let p : k ≡ j = same k j f in subst (λ z. Changes (x ∷ xs) j z) (sym p) refl
      go Greater f = ap (λ l. into l k) (below j x xs h) ∙ above k j (x ∷ xs) f ∙ ap (λ l. j ∷ l) (below k x xs e) ∙ sym (ap (λ l. into l j) (below k x xs e) ∙ below j k (x ∷ xs) (turned k j Greater f))
  low_first j k x xs Equal e h =
      let f : cmp k j ≡ Greater = o.congr k x j e ∙ turned j x Less h in
      ap (λ l. into l k) (below j x xs h) ∙ above k j (x ∷ xs) f ∙ ap (λ l. j ∷ l) (at k x xs e) ∙ sym (ap (λ l. into l j) (at k x xs e) ∙ below j x xs h)
  low_first j k x xs Greater e h =
      let f : cmp j k ≡ Less = o.trans j x k h (turned k x Greater e) in
      ap (λ l. into l k) (below j x xs h) ∙ above k j (x ∷ xs) (turned j k Less f) ∙ ap (λ l. j ∷ l) (above k x xs e) ∙ sym (ap (λ l. into l j) (above k x xs e) ∙ below j x (into xs k) h)

  pub changes : (ks : List K) (j k : K) → Changes ks j k
  changes [] j k = go (cmp k j) refl
    where
      go : (d : Ordering) → cmp k j ≡ d → Changes [] j k
      go Less f = below k j [] f ∙ sym (above j k [] (turned k j Less f))
      go Equal f = let p : k ≡ j = same k j f in subst (λ z. Changes [] j z) (sym p) refl
      go Greater f = above k j [] f ∙ sym (below j k [] (turned k j Greater f))
  changes (x ∷ xs) j k = go (changes xs j k) (cmp j x) (cmp k x) refl refl
    where
      go : Changes xs j k → (c d : Ordering) → cmp j x ≡ c → cmp k x ≡ d → Changes (x ∷ xs) j k
      go rest Less d h e = low_first j k x xs d e h
      go rest Equal Less h e = sym (low_first k j x xs Equal h e)
      go rest Greater Less h e = sym (low_first k j x xs Greater h e)
      go rest Equal Equal h e = ap (λ l. into l k) (at j x xs h) ∙ at k x xs e ∙ sym (ap (λ l. into l j) (at k x xs e) ∙ at j x xs h)
      go rest Equal Greater h e = ap (λ l. into l k) (at j x xs h) ∙ above k x xs e ∙ sym (ap (λ l. into l j) (above k x xs e) ∙ at j x (into xs k) h)
      go rest Greater Equal h e = ap (λ l. into l k) (above j x xs h) ∙ at k x (into xs j) e ∙ sym (ap (λ l. into l j) (at k x xs e) ∙ above j x xs h)
      go rest Greater Greater h e = ap (λ l. into l k) (above j x xs h) ∙ above k x (into xs j) e ∙ ap (λ l. x ∷ l) rest ∙ sym (ap (λ l. into l j) (above k x xs e) ∙ above j x (into xs k) h)

  pub distinct_near : {R : Type 0} (key : R → K) (front back : List R) (a b : R) → distinct cmp key (front ++ a ∷ b ∷ back) ≡ distinct cmp key (front ++ b ∷ a ∷ back)
  distinct_near key [] back a b = changes (distinct cmp key back) (key b) (key a)
  distinct_near key (r ∷ front) back a b = ap (λ l. into l (key r)) (distinct_near key front back a b)

  -- a key once more changes nothing
  pub twice : (ks : List K) (k : K) → into (into ks k) k ≡ into ks k
  twice [] k = at k k [] (tied_itself o k)
  twice (x ∷ xs) k = go (twice xs k) (cmp k x) refl
    where
      go : into (into xs k) k ≡ into xs k → (c : Ordering) → cmp k x ≡ c → into (into (x ∷ xs) k) k ≡ into (x ∷ xs) k
      go rest Less e = ap (λ l. into l k) (below k x xs e) ∙ at k k (x ∷ xs) (tied_itself o k) ∙ sym (below k x xs e)
      go rest Equal e = ap (λ l. into l k) (at k x xs e)
      go rest Greater e = ap (λ l. into l k) (above k x xs e) ∙ above k x (into xs k) e ∙ ap (λ l. x ∷ l) rest ∙ sym (above k x xs e)
