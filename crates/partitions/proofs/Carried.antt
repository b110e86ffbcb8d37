-- Rows that only change places with rows of other keys convert to the same fold, where rows of different keys may change places there.
use Rattle.std.proofs.Common.{◌≡◌, Bool, true, false, cond, List, [], ◌∷◌, ◌++◌, map, filter, refl, sym, ap, ◌∙◌, subst}
use Rattle.std.specs.Cmp.{IsTotalOrder}
use Rattle.std.specs.FinMap.{IsAntisymmetric}
use Rattle.std.specs.List.{AllByRecursion}
use Rattle.std.specs.Ordering.{is_eq}
use Rattle.std.specs.declared.cmp.Ordering.{Ordering}
use Rattle.std.specs.declared.cmp.Ordering.TheVariants.{Less, Equal, Greater}
use Rattle.std.proofs.lemmas.List.Elements.{filter-append}
use Rattle.dl_values.specs.declared.cell.Cell.{Cell}
use Rattle.dl_values.specs.Order.{row_cmp}
use Rattle.fold_laws.specs.Fold.{has_key}
use Rattle.fold_laws.proofs.Unique.{filter_yes, filter_no}
use Rattle.std.proofs.lemmas.Cmp.{tied_itself}
use Rattle.schema_models.specs.Folds.{key_of}
use Rattle.schema_models.specs.ShapeView.{ShapeView}
use Rattle.schema_models.proofs.RowMerges.{shape_folding}
use Rattle.partitions.specs.LayoutView.{LayoutView}
use Rattle.partitions.specs.LayoutRules.{IsLayout}
use Rattle.partitions.specs.Places.{AreInside, spread}
use Rattle.partitions.proofs.Places.{spread_by_key}

module _ {K : Type 0} {cmp : K → K → Ordering} (o : IsTotalOrder cmp) (same : IsAntisymmetric cmp) {R S : Type 0} (key : R → K) (h : R → S) (F : List S → List S) (Converts : R → Type 0) where
  abbrev of : K → List R → List R
  of k rows = filter (has_key cmp key k) rows

  abbrev Alike : List R → List R → Type 0
  Alike xs ys = (k : K) → of k xs ≡ of k ys

  abbrev Swaps : Type 0
  Swaps = (x y : R) → is_eq (cmp (key x) (key y)) ≡ false → Converts x → Converts y → (zs : List S) → F (h y ∷ h x ∷ zs) ≡ F (h x ∷ h y ∷ zs)

  abbrev Joins : Type 0
  Joins = (xs ys : List S) → F (xs ++ F ys) ≡ F (xs ++ ys)

  has_own : (x : R) → has_key cmp key (key x) x ≡ true
  has_own x = ap is_eq (tied_itself o (key x))

  none_head : (k : K) (y : R) (a : List R) (b : Bool) → has_key cmp key k y ≡ b → cond b (y ∷ of k a) (of k a) ≡ [] → (b ≡ false) × (of k a ≡ [])
  none_head k y a true e n = absurd (cc)
  none_head k y a false e n = (refl, n)

  all_back : (x : R) (a b : List R) → AllByRecursion Converts (a ++ x ∷ b) → Converts x × AllByRecursion Converts (a ++ b)
  all_back x [] b c = c
  all_back x (y ∷ a) b c = let k = all_back x a b c.1 in (k.0, (c.0, k.1))

  -- a row goes past rows of other keys
  moves : Swaps → Joins → (x : R) (a b : List R) → of (key x) a ≡ [] → AllByRecursion Converts (a ++ x ∷ b) → F (map h (a ++ x ∷ b)) ≡ F (h x ∷ map h (a ++ b))
  moves swaps joins x [] b n c = refl
  moves swaps joins x (y ∷ a) b n c =
      let m = none_head (key x) y a (has_key cmp key (key x) y) refl n in
      let k = all_back x a b c.1 in
      sym (joins (h y ∷ []) (map h (a ++ x ∷ b))) ∙ ap (λ (l : List S). F (h y ∷ l)) (moves swaps joins x a b m.1 c.1) ∙ joins (h y ∷ []) (h x ∷ map h (a ++ b)) ∙ swaps x y m.0 k.0 c.0 (map h (a ++ b))

  -- the first row of a key, with what stands before it
  pub record Split (k : K) (x : R) (ys : List R) : Type 0 where
    pub front : List R
    pub back : List R
    pub is : ys ≡ front ++ x ∷ back
    pub none : of k front ≡ []

  splits : (k : K) (x : R) (rest ys : List R) → of k ys ≡ x ∷ rest → Split k x ys
  splits k x rest [] e = absurd (cc)
  splits k x rest (y ∷ ys) e = go (has_key cmp key k y) refl e (λ f. splits k x rest ys f)
    where
      go : (b : Bool) → has_key cmp key k y ≡ b → cond b (y ∷ of k ys) (of k ys) ≡ x ∷ rest → (of k ys ≡ x ∷ rest → Split k x ys) → Split k x (y ∷ ys)
      go true f g r = let i : y ≡ x = cc in record { front = []; back = ys; is = ap (λ (z : R). z ∷ ys) i; none = refl }
      go false f g r = let s = r g in record { front = y ∷ s.front; back = s.back; is = ap (λ (l : List R). y ∷ l) s.is; none = filter_no (has_key cmp key k) y s.front f ∙ s.none }

  cons_tail : (x : R) (xs ys : List R) → x ∷ xs ≡ x ∷ ys → xs ≡ ys
  cons_tail x xs ys e = cc

  eq_is_equal : (c : Ordering) → is_eq c ≡ true → c ≡ Equal
  eq_is_equal Equal e = refl
  eq_is_equal Less e = absurd (cc)
  eq_is_equal Greater e = absurd (cc)

  alike_rest : (x : R) (xs a b : List R) → of (key x) a ≡ [] → Alike (x ∷ xs) (a ++ x ∷ b) → Alike xs (a ++ b)
  alike_rest x xs a b n e k = go (has_key cmp key k x) refl
    where
      go : (c : Bool) → has_key cmp key k x ≡ c → of k xs ≡ of k (a ++ b)
      go true f =
          let i = same k (key x) (eq_is_equal (cmp k (key x)) f) in
          let none : of k a ≡ [] = ap (λ (j : K). of j a) i ∙ n in
          cons_tail x (of k xs) (of k (a ++ b)) (
          sym (filter_yes (has_key cmp key k) x xs f) ∙ e k ∙ filter-append (has_key cmp key k) a (x ∷ b) ∙ ap (λ (l : List R). l ++ of k (x ∷ b)) none ∙ filter_yes (has_key cmp key k) x b f
          ∙ ap (λ (l : List R). x ∷ l) (sym (filter-append (has_key cmp key k) a b ∙ ap (λ (l : List R). l ++ of k b) none))
          )
      go false f =
          sym (filter_no (has_key cmp key k) x xs f) ∙ e k ∙ filter-append (has_key cmp key k) a (x ∷ b) ∙ ap (λ (l : List R). of k a ++ l) (filter_no (has_key cmp key k) x b f) ∙ sym (filter-append (has_key cmp key k) a b)

  pub carried_alike : Swaps → Joins → (xs ys : List R) → Alike xs ys → AllByRecursion Converts ys → F (map h xs) ≡ F (map h ys)
  carried_alike swaps joins [] [] e c = refl
  carried_alike swaps joins [] (y ∷ ys) e c = absurd (let k : [] ≡ y ∷ of (key y) ys = e (key y) ∙ filter_yes (has_key cmp key (key y)) y ys (has_own y) in cc (k))
  carried_alike swaps joins (x ∷ xs) ys e c =
      let s = splits (key x) x (of (key x) xs) ys (sym (e (key x)) ∙ filter_yes (has_key cmp key (key x)) x xs (has_own x)) in
      let c2 = subst (AllByRecursion Converts) s.is c in
      let e2 : Alike (x ∷ xs) (s.front ++ x ∷ s.back) = λ k. e k ∙ ap (of k) s.is in
      let k = all_back x s.front s.back c2 in
      sym (joins (h x ∷ []) (map h xs)) ∙ ap (λ (l : List S). F (h x ∷ l)) (carried_alike swaps joins xs (s.front ++ s.back) (alike_rest x xs s.front s.back s.none e2) k.1) ∙ joins (h x ∷ []) (map h (s.front ++ s.back))
      ∙ sym (moves swaps joins x s.front s.back s.none c2) ∙ ap (λ (l : List R). F (map h l)) (sym s.is)

-- Rows tablet by tablet convert to the same fold of an index.
pub carried_spread : {S : Type 0} (s : ShapeView) (l : LayoutView) → IsLayout s l → (h : List Cell → S) (F : List S → List S) (converts : List Cell → Bool)
    → ((x y : List Cell) → is_eq (row_cmp (key_of s x) (key_of s y)) ≡ false → converts x ≡ true → converts y ≡ true → (zs : List S) → F (h y ∷ h x ∷ zs) ≡ F (h x ∷ h y ∷ zs))
    → ((xs ys : List S) → F (xs ++ F ys) ≡ F (xs ++ ys)) → (rows : List (List Cell)) → AreInside l rows → AllByRecursion (λ r. converts r ≡ true) rows → F (map h (spread l rows)) ≡ F (map h rows)
carried_spread s l v h F converts swaps joins rows a c =
    carried_alike (shape_folding s).order (shape_folding s).apart (key_of s) h F (λ r. converts r ≡ true) swaps joins (spread l rows) rows (spread_by_key s l v rows a) c
