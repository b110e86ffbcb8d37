-- The Duplicate model sorts rows and keeps all, so that any two rows of a rollup may change places.
use Rattle.std.proofs.Common.{◌≡◌, ℕ, true, false, List, [], ◌∷◌, ◌++◌, is_some, map, unwrap_or, refl, sym, ap, ap₂}
use Rattle.std.specs.List.{AllByRecursion}
use Rattle.std.specs.Ordering.{is_eq}
use Rattle.std.specs.declared.cmp.Ordering.{Ordering}
use Rattle.std.specs.declared.cmp.Ordering.TheVariants.{Less, Equal, Greater}
use Rattle.dl_values.specs.Order.{row_cmp}
use Rattle.dl_values.specs.OrderLemmas.{rows_same, rows_total}
use Rattle.dl_values.specs.declared.cell.Cell.{Cell}
use Rattle.fold_laws.proofs.Folds.{fold_left, fold_pull, fold_right}
use Rattle.fold_laws.proofs.Maps.{joined, joined_converts}
use Rattle.fold_laws.proofs.Streams.{gathers_all, sorted_put}
use Rattle.fold_laws.proofs.Unique.{filter_no}
use Rattle.fold_laws.specs.Fold.{IsCarried, folded, has_key, put_by}
use Rattle.schema_models.specs.declared.column_def.ColumnDef.{ColumnDef}
use Rattle.row_map.specs.Maps.{by_names, cells_by}

abbrev all_rows : List (List Cell) → List (List Cell)
all_rows rows = folded row_cmp (λ r. r) (λ l. l) rows

module _ (cs : List ColumnDef) (names : List (List ℕ)) (ds : List ColumnDef) where
  abbrev HasImage : List Cell → Type 0
  HasImage r = is_some (cells_by cs ds (by_names names) r) ≡ true

  abbrev image : List Cell → List Cell
  image r = unwrap_or (cells_by cs ds (by_names names) r) []

  swap : (a b : List Cell) (zs : List (List Cell)) → all_rows (b ∷ a ∷ zs) ≡ all_rows (a ∷ b ∷ zs)
  swap a b zs = go (row_cmp a b) refl
    where
      pull : is_eq (row_cmp a b) ≡ false → all_rows (b ∷ a ∷ zs) ≡ all_rows (a ∷ b ∷ zs)
      pull d = fold_pull rows_total (λ r. r) rows_same (gathers_all rows_total (λ r. r)) (b ∷ []) a zs (filter_no (has_key row_cmp (λ r. r) a) b [] d)

      go : (c : Ordering) → row_cmp a b ≡ c → all_rows (b ∷ a ∷ zs) ≡ all_rows (a ∷ b ∷ zs)
      go Less d = pull (ap is_eq d)
      go Greater d = pull (ap is_eq d)
      go Equal d = ap₂ (λ (u v : List Cell). all_rows (u ∷ v ∷ zs)) (sym (rows_same a b d)) (rows_same a b d)

  pub swaps : (x y : List Cell) (zs : List (List Cell)) → all_rows (image y ∷ image x ∷ zs) ≡ all_rows (image x ∷ image y ∷ zs)
  swaps x y zs = swap (image x) (image y) zs

  carried_map : IsCarried row_cmp (λ r. r) (λ a b. a ∷ b ∷ []) (λ l. all_rows l) HasImage image
  carried_map = record { converts = λ x y e s t. (s, (t, tt)); joins = λ x y e s t zs. refl; swaps = λ x y e s t zs. swaps x y zs }

  right : (xs ys : List (List Cell)) → all_rows (xs ++ all_rows ys) ≡ all_rows (xs ++ ys)
  right xs ys = fold_right rows_total (λ r. r) rows_same (gathers_all rows_total (λ r. r)) xs ys

  left : (xs ys : List (List Cell)) → all_rows (all_rows xs ++ ys) ≡ all_rows (xs ++ ys)
  left xs ys = fold_left rows_total (λ r. r) rows_same (gathers_all rows_total (λ r. r)) xs ys

  none : all_rows [] ≡ []
  unfolding folded
  none = refl

  more : (x : List Cell) (xs : List (List Cell)) → all_rows (x ∷ xs) ≡ put_by row_cmp (λ r. r) (λ a b. a ∷ b ∷ []) x (all_rows xs)
  more x xs = sorted_put rows_total (λ r. r) rows_same x xs

  pub longer : (xs ys : List (List Cell)) → AllByRecursion HasImage (all_rows xs) → AllByRecursion HasImage ys → AllByRecursion HasImage (all_rows (xs ++ ys))
  longer xs ys a b = joined_converts carried_map right (λ l. all_rows l) none more left xs ys a b

  pub joins : (xs ys : List (List Cell)) → AllByRecursion HasImage (all_rows xs) → AllByRecursion HasImage ys → all_rows (map image (all_rows (xs ++ ys))) ≡ all_rows (map image (all_rows xs) ++ map image ys)
  joins xs ys a b = joined carried_map right (λ l. all_rows l) none more left xs ys a b
