-- Models that merge the rows of a key: a rollup that has each key column, or whose values merge the same way in either order, may
-- convert rows before they are folded, or after.
use Rattle.std.proofs.Common.{◌≡◌, ℕ, true, false, List, [], ◌∷◌, ◌++◌, Option, Some, None, ◌⊎◌, inl, inr, is_some, map, take, unwrap_or, refl, sym, ap, ap₂, ◌∙◌}
use Rattle.std.specs.List.{AllByRecursion}
use Rattle.std.specs.Ordering.{is_eq, match_ordering}
use Rattle.std.specs.declared.cmp.Ordering.{Ordering}
use Rattle.std.specs.declared.cmp.Ordering.TheVariants.{Less, Equal, Greater}
use Rattle.std.proofs.lemmas.Cmp.{tied_back, tied_itself}
use Rattle.dl_values.specs.Order.{row_cmp}
use Rattle.dl_values.specs.OrderLemmas.{rows_same, rows_total}
use Rattle.dl_values.specs.declared.cell.Cell.{Cell}
use Rattle.fold_laws.proofs.Folds.{fold_left, fold_pull, fold_right}
use Rattle.fold_laws.proofs.Maps.{joined, joined_converts}
use Rattle.fold_laws.proofs.Merges.{fold_step, gathers, put_is}
use Rattle.fold_laws.proofs.Unique.{filter_no}
use Rattle.fold_laws.specs.Fold.{IsCarried, folded, has_key, merged, put, put_by}
use Rattle.schema_models.proofs.RowMerges.{rows_merge}
use Rattle.schema_models.specs.Folds.{merged_row}
use Rattle.schema_models.specs.ShapeView.{key_count}
use Rattle.schema_models.specs.declared.column_def.ColumnDef.{ColumnDef}
use Rattle.row_map.specs.Maps.{by_names, cells_by}
use Rattle.row_map.proofs.Commuting.{Commutes, rows_commute}
use Rattle.row_map.proofs.PickedRows.{HasKeys, Picks, keys_apart, one_key, rows_merge_picked}
use Rattle.row_map.proofs.ShapeColumns.{Ordered}

some_of : (o : Option (List Cell)) → is_some o ≡ true → (a : List Cell) × (o ≡ Some a)
some_of None h = absurd (cc)
some_of (Some a) h = (a, refl)

is_some_at : (o : Option (List Cell)) (a : List Cell) → o ≡ Some a → is_some o ≡ true
is_some_at o a e = ap (λ (p : Option (List Cell)). is_some p) e

-- the fold of rows of these columns
abbrev fold_rows : List ColumnDef → List (List Cell) → List (List Cell)
fold_rows cs rows = folded row_cmp (λ r. take (key_count cs) r) (merged (merged_row cs)) rows

module _ (cs : List ColumnDef) (names : List (List ℕ)) (ds : List ColumnDef) (p : Picks cs names ds) (o : Ordered cs) (q : Ordered ds) (apart : HasKeys names cs ⊎ AllByRecursion Commutes ds) where
  abbrev key : List Cell → List Cell
  key r = take (key_count cs) r

  abbrev key_to : List Cell → List Cell
  key_to r = take (key_count ds) r

  abbrev target : List Cell → Option (List Cell)
  target r = cells_by cs ds (by_names names) r

  abbrev HasImage : List Cell → Type 0
  HasImage r = is_some (target r) ≡ true

  abbrev image : List Cell → List Cell
  image r = unwrap_or (target r) []

  abbrev F : List (List Cell) → List (List Cell)
  F rows = fold_rows ds rows

  image_is : (r a : List Cell) → target r ≡ Some a → image r ≡ a
  image_is r a e = ap (λ (t : Option (List Cell)). unwrap_or t []) e

  merged_target : (x y : List Cell) (s : HasImage x) (t : HasImage y) → target (merged_row cs x y) ≡ Some (merged_row ds (some_of (target x) s).0 (some_of (target y) t).0)
  merged_target x y s t = rows_merge_picked cs names ds p x y (some_of (target x) s).0 (some_of (target y) t).0 (some_of (target x) s).1 (some_of (target y) t).1

  converts : (x y : List Cell) → row_cmp (key x) (key y) ≡ Equal → HasImage x → HasImage y → AllByRecursion HasImage (merged_row cs x y ∷ [])
  converts x y e s t = (is_some_at (target (merged_row cs x y)) _ (merged_target x y s t), tt)

  joins : (x y : List Cell) → row_cmp (key x) (key y) ≡ Equal → HasImage x → HasImage y → (zs : List (List Cell)) → F (image (merged_row cs x y) ∷ zs) ≡ F (image x ∷ image y ∷ zs)
  joins x y e s t zs =
      let a = some_of (target x) s in
      let b = some_of (target y) t in
      let same : key_to a.0 ≡ key_to b.0 = one_key cs o names ds p x y a.0 b.0 (rows_same (key x) (key y) e) a.1 b.1 in
      let tied : row_cmp (key_to a.0) (key_to b.0) ≡ Equal = ap (row_cmp (key_to a.0)) (sym same) ∙ tied_itself rows_total (key_to a.0) in
      ap (λ (r : List Cell). F (r ∷ zs)) (image_is (merged_row cs x y) (merged_row ds a.0 b.0) (merged_target x y s t))
      ∙ sym (fold_step rows_total (rows_merge ds) rows_same [] a.0 b.0 zs tied)
      ∙ ap₂ (λ (u v : List Cell). F (u ∷ v ∷ zs)) (sym (image_is x a.0 a.1)) (sym (image_is y b.0 b.1))

  pub swaps : (x y : List Cell) → is_eq (row_cmp (key x) (key y)) ≡ false → HasImage x → HasImage y → (zs : List (List Cell)) → F (image y ∷ image x ∷ zs) ≡ F (image x ∷ image y ∷ zs)
  swaps x y e s t zs =
      let a = some_of (target x) s in
      let b = some_of (target y) t in
      ap₂ (λ (u v : List Cell). F (u ∷ v ∷ zs)) (image_is y b.0 b.1) (image_is x a.0 a.1)
      ∙ go a.0 b.0 a.1 b.1 (row_cmp (key_to a.0) (key_to b.0)) refl
      ∙ ap₂ (λ (u v : List Cell). F (u ∷ v ∷ zs)) (sym (image_is x a.0 a.1)) (sym (image_is y b.0 b.1))
    where
      pull : (a b : List Cell) → is_eq (row_cmp (key_to a) (key_to b)) ≡ false → F (b ∷ a ∷ zs) ≡ F (a ∷ b ∷ zs)
      pull a b d = fold_pull rows_total (λ r. take (key_count ds) r) rows_same (gathers rows_total (rows_merge ds)) (b ∷ []) a zs (filter_no (has_key row_cmp (λ r. take (key_count ds) r) (key_to a)) b [] d)

      beside : (a b : List Cell) → row_cmp (key_to a) (key_to b) ≡ Equal → F (a ∷ b ∷ zs) ≡ F (merged_row ds a b ∷ zs)
      beside a b d = fold_step rows_total (rows_merge ds) rows_same [] a b zs d

      differ : is_eq (row_cmp (key x) (key y)) ≡ true → ⊥
      differ i = cc

      together : (a b : List Cell) → target x ≡ Some a → target y ≡ Some b → row_cmp (key_to a) (key_to b) ≡ Equal → HasKeys names cs ⊎ AllByRecursion Commutes ds → F (b ∷ a ∷ zs) ≡ F (a ∷ b ∷ zs)
      together a b f g d (inl keys) = absurd (differ (ap is_eq (ap (row_cmp (key x)) (sym (keys_apart cs o names ds p q keys x y a b f g (rows_same (key_to a) (key_to b) d))) ∙ tied_itself rows_total (key x))))
      together a b f g d (inr v) = beside b a (tied_back rows_total (key_to a) (key_to b) d) ∙ ap (λ (r : List Cell). F (r ∷ zs)) (sym (rows_commute ds q v a b (rows_same (key_to a) (key_to b) d))) ∙ sym (beside a b d)

      go : (a b : List Cell) → target x ≡ Some a → target y ≡ Some b → (c : Ordering) → row_cmp (key_to a) (key_to b) ≡ c → F (b ∷ a ∷ zs) ≡ F (a ∷ b ∷ zs)
      go a b f g Less d = pull a b (ap is_eq d)
      go a b f g Greater d = pull a b (ap is_eq d)
      go a b f g Equal d = together a b f g d apart

  abbrev tie : List Cell → List Cell → List (List Cell)
  tie x y = merged_row cs x y ∷ []

  carried_map : IsCarried row_cmp (λ r. take (key_count cs) r) tie F HasImage image
  carried_map = record { converts = converts; joins = joins; swaps = swaps }

  put_same : (x : List Cell) (zs : List (List Cell)) → put row_cmp (λ r. take (key_count cs) r) (merged_row cs) x zs ≡ put_by row_cmp (λ r. take (key_count cs) r) tie x zs
  put_same x [] = refl
  put_same x (z ∷ zs) = ap (λ (l : List (List Cell)). match_ordering (row_cmp (key x) (key z)) (x ∷ z ∷ zs) (merged_row cs x z ∷ zs) (z ∷ l)) (put_same x zs)

  target_right : (xs ys : List (List Cell)) → F (xs ++ F ys) ≡ F (xs ++ ys)
  target_right xs ys = fold_right rows_total (λ r. take (key_count ds) r) rows_same (gathers rows_total (rows_merge ds)) xs ys

  source_more : (x : List Cell) (xs : List (List Cell)) → fold_rows cs (x ∷ xs) ≡ put_by row_cmp (λ r. take (key_count cs) r) tie x (fold_rows cs xs)
  source_more x xs = sym (put_is rows_total (rows_merge cs) rows_same x xs) ∙ put_same x (fold_rows cs xs)

  source_left : (xs ys : List (List Cell)) → fold_rows cs (fold_rows cs xs ++ ys) ≡ fold_rows cs (xs ++ ys)
  source_left xs ys = fold_left rows_total (λ r. take (key_count cs) r) rows_same (gathers rows_total (rows_merge cs)) xs ys

  source_none : fold_rows cs [] ≡ []
  unfolding folded
  source_none = refl

  pub longer : (xs ys : List (List Cell)) → AllByRecursion HasImage (fold_rows cs xs) → AllByRecursion HasImage ys → AllByRecursion HasImage (fold_rows cs (xs ++ ys))
  longer xs ys a b = joined_converts carried_map target_right (λ l. fold_rows cs l) source_none source_more source_left xs ys a b

  pub joins_longer : (xs ys : List (List Cell)) → AllByRecursion HasImage (fold_rows cs xs) → AllByRecursion HasImage ys → F (map image (fold_rows cs (xs ++ ys))) ≡ F (map image (fold_rows cs xs) ++ map image ys)
  joins_longer xs ys a b = joined carried_map target_right (λ l. fold_rows cs l) source_none source_more source_left xs ys a b
