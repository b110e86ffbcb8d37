-- What is made of rows one by one, whatever their order, is made of their fold as well, where a merged row counts as both.
use Rattle.std.proofs.Common.{◌≡◌, List, [], ◌∷◌, ◌++◌, length, take, refl, sym, ap, ◌∙◌, subst, arith}
use Rattle.std.specs.List.{AllByRecursion}
use Rattle.std.specs.Ordering.{match_ordering}
use Rattle.std.specs.declared.cmp.Ordering.{Ordering}
use Rattle.std.specs.declared.cmp.Ordering.TheVariants.{Less, Equal, Greater}
use Rattle.dl_values.specs.Order.{row_cmp}
use Rattle.dl_values.specs.OrderLemmas.{rows_same, rows_total}
use Rattle.dl_values.specs.declared.cell.Cell.{Cell}
use Rattle.fold_laws.proofs.Merges.{put_is}
use Rattle.fold_laws.proofs.Streams.{sorted_put}
use Rattle.fold_laws.proofs.Unique.{all_append}
use Rattle.fold_laws.specs.Fold.{folded, put, put_by}
use Rattle.schema_models.proofs.RowMerges.{rows_merge}
use Rattle.schema_models.specs.Folds.{fold_of, gathered_in, key_in, merged_row}
use Rattle.schema_models.specs.ShapeView.{ShapeView, key_count}
use Rattle.schema_models.specs.declared.column_def.ColumnDef.{ColumnDef}
use Rattle.schema_models.specs.declared.model.Model.{Model}
use Rattle.schema_models.specs.declared.model.Model.TheVariants as model
use Rattle.select_defs.specs.Laws.{IsWide}

-- ---- of any rows

module _ {R K M : Type 0} (cmp : K → K → Ordering) (key : R → K) (tie : R → R → List R) (Good : R → Type 0) (act : R → M → M) (made : List R → M)
    (more : (x : R) (xs : List R) → made (x ∷ xs) ≡ act x (made xs))
    (swaps : (x y : R) (z : M) → act x (act y z) ≡ act y (act x z))
    (joins : (x y : R) → cmp (key x) (key y) ≡ Equal → Good x → Good y → (zs : List R) → made (tie x y ++ zs) ≡ act x (act y (made zs)))
    (kept : (x y : R) → Good x → Good y → AllByRecursion Good (tie x y)) where
  put_good : (x : R) (zs : List R) → Good x → AllByRecursion Good zs → AllByRecursion Good (put_by cmp key tie x zs)
  put_good x [] a b = (a, tt)
  put_good x (z ∷ zs) a b = go (put_good x zs a b.1) (cmp (key x) (key z))
    where
      go : AllByRecursion Good (put_by cmp key tie x zs) → (c : Ordering) → AllByRecursion Good (match_ordering c (x ∷ z ∷ zs) (tie x z ++ zs) (z ∷ put_by cmp key tie x zs))
      go rest Less = (a, b)
      go rest Equal = all_append Good (tie x z) zs (kept x z a b.0) b.1
      go rest Greater = (b.0, rest)

  put_made : (x : R) (zs : List R) → Good x → AllByRecursion Good zs → made (put_by cmp key tie x zs) ≡ act x (made zs)
  put_made x [] a b = more x []
  put_made x (z ∷ zs) a b = go (put_made x zs a b.1) (cmp (key x) (key z)) refl
    where
      go : made (put_by cmp key tie x zs) ≡ act x (made zs) → (c : Ordering) → cmp (key x) (key z) ≡ c → made (match_ordering c (x ∷ z ∷ zs) (tie x z ++ zs) (z ∷ put_by cmp key tie x zs)) ≡ act x (made (z ∷ zs))
      go rest Less e = more x (z ∷ zs)
      go rest Equal e = joins x z e a b.0 zs ∙ ap (act x) (sym (more z zs))
      go rest Greater e = more z (put_by cmp key tie x zs) ∙ ap (act z) rest ∙ swaps z x (made zs) ∙ ap (act x) (sym (more z zs))

  module _ (Fold : List R → List R) (none : Fold [] ≡ []) (grows : (x : R) (xs : List R) → Fold (x ∷ xs) ≡ put_by cmp key tie x (Fold xs)) where
    fold_good : (xs : List R) → AllByRecursion Good xs → AllByRecursion Good (Fold xs)
    fold_good [] a = subst (AllByRecursion Good) (sym none) tt
    fold_good (x ∷ xs) a = subst (AllByRecursion Good) (sym (grows x xs)) (put_good x (Fold xs) a.0 (fold_good xs a.1))

    fold_made : (xs : List R) → AllByRecursion Good xs → made (Fold xs) ≡ made xs
    fold_made [] a = ap made none
    fold_made (x ∷ xs) a = ap made (grows x xs) ∙ put_made x (Fold xs) a.0 (fold_good xs a.1) ∙ ap (act x) (fold_made xs a.1) ∙ sym (more x xs)

-- ---- of rows of a shape, by its model

-- what an old row and a newer one of the same key come to
abbrev pub tie_in : Model → List ColumnDef → List Cell → List Cell → List (List Cell)
tie_in model.Duplicate cs x y = x ∷ y ∷ []
tie_in model.Unique cs x y = merged_row cs x y ∷ []
tie_in model.Aggregate cs x y = merged_row cs x y ∷ []

abbrev pub fold_in : Model → List ColumnDef → List (List Cell) → List (List Cell)
fold_in m cs rows = folded row_cmp (key_in m (key_count cs)) (gathered_in m cs) rows

pub none_in : (m : Model) (cs : List ColumnDef) → fold_in m cs [] ≡ []
unfolding folded
none_in m cs = refl

put_same : {R K : Type 0} (cmp : K → K → Ordering) (key : R → K) (op : R → R → R) (x : R) (zs : List R) → put cmp key op x zs ≡ put_by cmp key (λ a b. op a b ∷ []) x zs
put_same cmp key op x [] = refl
put_same cmp key op x (z ∷ zs) = ap (λ l. match_ordering (cmp (key x) (key z)) (x ∷ z ∷ zs) (op x z ∷ zs) (z ∷ l)) (put_same cmp key op x zs)

merging_grows : (cs : List ColumnDef) (x : List Cell) (xs : List (List Cell)) → fold_in model.Aggregate cs (x ∷ xs) ≡ put_by row_cmp (λ r. take (key_count cs) r) (λ a b. merged_row cs a b ∷ []) x (fold_in model.Aggregate cs xs)
merging_grows cs x xs = sym (put_is rows_total (rows_merge cs) rows_same x xs) ∙ put_same row_cmp (λ r. take (key_count cs) r) (merged_row cs) x (fold_in model.Aggregate cs xs)

pub grows_in : (m : Model) (cs : List ColumnDef) (x : List Cell) (xs : List (List Cell)) → fold_in m cs (x ∷ xs) ≡ put_by row_cmp (key_in m (key_count cs)) (tie_in m cs) x (fold_in m cs xs)
grows_in model.Duplicate cs x xs = sorted_put rows_total (λ r. r) rows_same x xs
grows_in model.Unique cs x xs = merging_grows cs x xs
grows_in model.Aggregate cs x xs = merging_grows cs x xs

wide_merged : (cs : List ColumnDef) (x y : List Cell) → length x ≡ length cs → length y ≡ length cs → length (merged_row cs x y) ≡ length cs
wide_merged [] x y a b = refl
wide_merged (c ∷ cs) [] y a b = a
wide_merged (c ∷ cs) (x ∷ xs) [] a b = b
wide_merged (c ∷ cs) (x ∷ xs) (y ∷ ys) a b =
    let rest : length (merged_row cs xs ys) ≡ length cs = wide_merged cs xs ys (omega arith) (omega arith) in
    omega arith

module _ {M : Type 0} (s : ShapeView) (act : List Cell → M → M) (made : List (List Cell) → M)
    (more : (x : List Cell) (xs : List (List Cell)) → made (x ∷ xs) ≡ act x (made xs))
    (swaps : (x y : List Cell) (z : M) → act x (act y z) ≡ act y (act x z))
    (merges : (x y : List Cell) → row_cmp (take (key_count s.columns) x) (take (key_count s.columns) y) ≡ Equal → IsWide s x → IsWide s y → (z : M) → act (merged_row s.columns x y) z ≡ act x (act y z)) where
  joins_in : (m : Model) (x y : List Cell) → row_cmp (key_in m (key_count s.columns) x) (key_in m (key_count s.columns) y) ≡ Equal → IsWide s x → IsWide s y → (zs : List (List Cell)) → made (tie_in m s.columns x y ++ zs) ≡ act x (act y (made zs))
  joins_in model.Duplicate x y e a b zs = more x (y ∷ zs) ∙ ap (act x) (more y zs)
  joins_in model.Unique x y e a b zs = more (merged_row s.columns x y) zs ∙ merges x y e a b (made zs)
  joins_in model.Aggregate x y e a b zs = more (merged_row s.columns x y) zs ∙ merges x y e a b (made zs)

  wide_in : (m : Model) (x y : List Cell) → IsWide s x → IsWide s y → AllByRecursion (IsWide s) (tie_in m s.columns x y)
  wide_in model.Duplicate x y a b = (a, (b, tt))
  wide_in model.Unique x y a b = (wide_merged s.columns x y a b, tt)
  wide_in model.Aggregate x y a b = (wide_merged s.columns x y a b, tt)

  made_in : (m : Model) (rows : List (List Cell)) → AllByRecursion (IsWide s) rows → made (fold_in m s.columns rows) ≡ made rows
  made_in m rows a = fold_made row_cmp (key_in m (key_count s.columns)) (tie_in m s.columns) (IsWide s) act made more swaps (joins_in m) (wide_in m) (fold_in m s.columns) (none_in m s.columns) (grows_in m s.columns) rows a

  pub fold_counts : (rows : List (List Cell)) → AllByRecursion (IsWide s) rows → made (fold_of s rows) ≡ made rows
  fold_counts rows a = made_in s.model rows a
