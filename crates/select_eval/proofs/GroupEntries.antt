-- Entries by ascending key, of which one comes or changes.
use Rattle.std.proofs.Common.{◌≡◌, List, [], ◌∷◌, ◌++◌, Bool, true, false, cond, ◌||◌, map, Some, None, refl, sym, ap, ap₂, ◌∙◌, filter}
use Rattle.std.proofs.lemmas.Bool.{or_from, or_parts}
use Rattle.std.proofs.lemmas.Cmp.{alike_right}
use Rattle.std.specs.BTreeMap.{insert_entry, is_at}
use Rattle.std.specs.BTreeSet.{insert_key}
use Rattle.std.specs.Cmp.{IsTotalOrder}
use Rattle.std.specs.FinMap.{IsAntisymmetric}
use Rattle.std.specs.List.{AllByRecursion, list_any}
use Rattle.std.specs.List.Sorted.{IsStrictlySortedBy}
use Rattle.std.specs.Map.{lookup, set_value}
use Rattle.std.specs.Ordering.{is_eq, match_ordering}
use Rattle.std.specs.declared.cmp.Ordering.{Ordering}
use Rattle.std.specs.declared.cmp.Ordering.TheVariants.{Less, Equal, Greater}
use Rattle.fold_laws.specs.Fold.{distinct, has_key}
use Rattle.fold_laws.proofs.Unique.{all_weaker, filter_no}
use Rattle.select_defs.proofs.Neighbours.{changes}

-- ---- the distinct keys of rows

-- of a row more at the end
pub distinct_grows : {R K : Type 0} {cmp : K → K → Ordering} → IsTotalOrder cmp → IsAntisymmetric cmp → (key : R → K) (xs : List R) (x : R) → distinct cmp key (xs ++ x ∷ []) ≡ insert_key cmp (distinct cmp key xs) (key x)
distinct_grows o same key [] x = refl
distinct_grows {R} {K} {cmp} o same key (y ∷ ys) x = ap (λ l. insert_key cmp l (key y)) (distinct_grows o same key ys x) ∙ changes o same (distinct cmp key ys) (key x) (key y)

module _ {K : Type 0} {cmp : K → K → Ordering} (o : IsTotalOrder cmp) where
  abbrev among : K → List K → Bool
  among k ks = list_any (is_at (cmp k)) ks

  not_there : (k j : K) (ks : List K) → among k (insert_key cmp ks j) ≡ false → (is_eq (cmp k j) ≡ false) × (among k ks ≡ false)
  not_there k j [] h = ((or_parts (is_eq (cmp k j)) false h).0, refl)
  not_there k j (x ∷ xs) h = go (not_there k j xs) (cmp j x) refl h
    where
      go : (among k (insert_key cmp xs j) ≡ false → (is_eq (cmp k j) ≡ false) × (among k xs ≡ false)) → (c : Ordering) → cmp j x ≡ c
          → among k (match_ordering c (j ∷ x ∷ xs) (x ∷ xs) (x ∷ insert_key cmp xs j)) ≡ false → (is_eq (cmp k j) ≡ false) × (among k (x ∷ xs) ≡ false)
      go rest Less e h = or_parts (is_eq (cmp k j)) (among k (x ∷ xs)) h
      go rest Equal e h = (ap is_eq (alike_right o j x k e) ∙ (or_parts (is_eq (cmp k x)) (among k xs) h).0, h)
      go rest Greater e h =
          let r = or_parts (is_eq (cmp k x)) (among k (insert_key cmp xs j)) h in
          let s = rest r.1 in
          (s.0, or_from (is_eq (cmp k x)) (among k xs) r.0 s.1)

  -- no row has a key that is not among them
  pub none_has : {R : Type 0} (key : R → K) (k : K) (rows : List R) → among k (distinct cmp key rows) ≡ false → filter (has_key cmp key k) rows ≡ []
  none_has key k [] h = refl
  none_has key k (r ∷ rs) h =
      let s = not_there k (key r) (distinct cmp key rs) h in
      filter_no (has_key cmp key k) r rs s.0 ∙ none_has key k rs s.1

-- ---- entries of keys

module _ {K X : Type 0} where
  abbrev entry : (K → X) → K → K × X
  entry of k = (k, of k)

  abbrev pub entries : (K → X) → List K → List (K × X)
  entries of ks = map (entry of) ks

  pub looked_up : (test : K → Bool) (of : K → X) (ks : List K) → lookup test (entries of ks) ≡ None → list_any test ks ≡ false
  looked_up test of [] h = refl
  looked_up test of (k ∷ ks) h = go (looked_up test of ks) (test k) refl h
    where
      go : (lookup test (entries of ks) ≡ None → list_any test ks ≡ false) → (b : Bool) → test k ≡ b → cond b (Some (of k)) (lookup test (entries of ks)) ≡ None → (b || list_any test ks) ≡ false
      go rest true e h = cc
      go rest false e h = rest h

-- the entries before and after a row of the key is put among them
module _ {K X : Type 0} {cmp : K → K → Ordering} (o : IsTotalOrder cmp) (same : IsAntisymmetric cmp) (key : K) (old new : K → X) (grown : X → X)
    (others : (k : K) → is_eq (cmp key k) ≡ false → new k ≡ old k) (its : new key ≡ grown (old key)) where
  abbrev test : K → Bool
  test = is_at (cmp key)

  abbrev Above : List K → Type 0
  Above ks = AllByRecursion (λ k. cmp key k ≡ Less) ks

  above : (k : K) (ks : List K) → cmp key k ≡ Less → AllByRecursion (λ j. cmp k j ≡ Less) ks → Above ks
  above k ks e a = all_weaker (λ j. cmp k j ≡ Less) (λ j. cmp key j ≡ Less) (λ j f. o.trans key k j e f) ks a

  above_same : (k : K) (ks : List K) → cmp key k ≡ Equal → AllByRecursion (λ j. cmp k j ≡ Less) ks → Above ks
  above_same k ks e a = all_weaker (λ j. cmp k j ≡ Less) (λ j. cmp key j ≡ Less) (λ j f. o.congr key k j e ∙ f) ks a

  unchanged : (ks : List K) → Above ks → entries old ks ≡ entries new ks
  unchanged [] a = refl
  unchanged (k ∷ ks) a = ap₂ (λ (y : X) l. (k, y) ∷ l) (sym (others k (ap is_eq a.0))) (unchanged ks a.1)

  not_found : (ks : List K) → Above ks → lookup test (entries old ks) ≡ None
  not_found [] a = refl
  not_found (k ∷ ks) a = rw a.0 (not_found ks a.1)

  grown_there : (k : K) → cmp key k ≡ Equal → grown (old k) ≡ new k
  grown_there k e = ap (λ j. grown (old j)) (sym (same key k e)) ∙ sym its ∙ ap new (same key k e)

  -- where it is there
  pub found : (ks : List K) (x : X) → IsStrictlySortedBy cmp ks → lookup test (entries old ks) ≡ Some x → set_value test (entries old ks) (grown x) ≡ entries new (insert_key cmp ks key)
  unfolding IsStrictlySortedBy
  found [] x s h = cc
  found (k ∷ ks) x s h = go (found ks x s.1) (cmp key k) refl h
    where
      go : (lookup test (entries old ks) ≡ Some x → set_value test (entries old ks) (grown x) ≡ entries new (insert_key cmp ks key)) → (c : Ordering) → cmp key k ≡ c
          → cond (is_eq c) (Some (old k)) (lookup test (entries old ks)) ≡ Some x
          → cond (is_eq c) ((k, grown x) ∷ entries old ks) ((k, old k) ∷ set_value test (entries old ks) (grown x)) ≡ entries new (match_ordering c (key ∷ k ∷ ks) (k ∷ ks) (k ∷ insert_key cmp ks key))
      go rest Less e h = let n = not_found ks (above k ks e s.0) in cc
      go rest Equal e h =
          let y : old k ≡ x = cc in
          ap₂ (λ (z : X) l. (k, z) ∷ l) (ap grown (sym y) ∙ grown_there k e) (unchanged ks (above_same k ks e s.0))
      go rest Greater e h = ap₂ (λ (z : X) l. (k, z) ∷ l) (sym (others k (ap is_eq e))) (rest h)

  -- where it is not there
  pub not_there_yet : (ks : List K) → IsStrictlySortedBy cmp ks → lookup test (entries old ks) ≡ None → insert_entry cmp (entries old ks) key (grown (old key)) ≡ entries new (insert_key cmp ks key)
  unfolding IsStrictlySortedBy
  not_there_yet [] s h = ap (λ (z : X). (key, z) ∷ []) (sym its)
  not_there_yet (k ∷ ks) s h = go (not_there_yet ks s.1) (cmp key k) refl h
    where
      go : (lookup test (entries old ks) ≡ None → insert_entry cmp (entries old ks) key (grown (old key)) ≡ entries new (insert_key cmp ks key)) → (c : Ordering) → cmp key k ≡ c
          → cond (is_eq c) (Some (old k)) (lookup test (entries old ks)) ≡ None
          → match_ordering c ((key, grown (old key)) ∷ (k, old k) ∷ entries old ks) ((k, grown (old key)) ∷ entries old ks) ((k, old k) ∷ insert_entry cmp (entries old ks) key (grown (old key))) ≡ entries new (match_ordering c (key ∷ k ∷ ks) (k ∷ ks) (k ∷ insert_key cmp ks key))
      go rest Less e h = ap₂ (λ (z : X) l. (key, z) ∷ l) (sym its) (ap₂ (λ (z : X) l. (k, z) ∷ l) (sym (others k (ap is_eq e))) (unchanged ks (above k ks e s.0)))
      go rest Equal e h = cc
      go rest Greater e h = ap₂ (λ (z : X) l. (k, z) ∷ l) (sym (others k (ap is_eq e))) (rest h)
