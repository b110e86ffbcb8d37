-- The steps of a merge: the first of all heads begins the next row of the fold, and rows of its key merge into it.
use Rattle.std.proofs.Common.{◌≡◌, ℕ, ◌<◌, List, [], ◌∷◌, length, take, drop, get_or, refl, subst}
use Rattle.std.specs.List.{AllByRecursion}
use Rattle.std.specs.declared.cmp.Ordering.TheVariants.{Equal}
use Rattle.dl_values.specs.Order.{row_cmp}
use Rattle.dl_values.specs.OrderLemmas.{rows_total, rows_same}
use Rattle.dl_values.specs.declared.cell.Cell.{Cell}
use Rattle.fold_laws.proofs.Lists.{next_starts, next_takes, next_ends, next_sorted}
use Rattle.fold_laws.proofs.Streams.{from_heads}
use Rattle.fold_laws.specs.Fold.{Ascends, HeadAbove, HeadFrom, folded, merged}
use Rattle.schema_models.proofs.RowMerges.{rows_merge}
use Rattle.schema_models.specs.Folds.{fold_of, gathered, gathered_in, key_in, key_of, merged_row}
use Rattle.schema_models.specs.ShapeView.{ShapeView, key_count}
use Rattle.schema_models.specs.declared.model.Model.{Model}
use Rattle.schema_models.specs.declared.model.Model.TheVariants as model
use Rattle.merge_read.proofs.Each.{all_below, all_get, all_places, all_set}
use Rattle.merge_read.specs.Lists.{AreSortedLists, IsSortedList, joined}
use Rattle.merge_read.specs.Rests.{IsLeast, RowList, without}
use Rattle.merge_read.specs.declared.head.Head.{Head}

-- lists that ascend, whose heads have this
abbrev Heading : ShapeView → (RowList → Type 0) → List RowList → Type 0
Heading s H rests = AllByRecursion (λ (z : RowList). Ascends row_cmp (key_of s) z × H z) rests

rising : (s : ShapeView) (rests : List RowList) (i : ℕ) → AreSortedLists s rests → i < length rests → Ascends row_cmp (key_of s) (get_or rests i [])
rising s rests i a l = (all_get (IsSortedList s) i rests [] l a).rising

-- the lists before that of the first head
earlier : (s : ShapeView) (rests : List RowList) (h : Head) → AreSortedLists s rests → IsLeast s rests h → Heading s (λ z. HeadAbove row_cmp (key_of s) (key_of s h.row) z) (take h.list rests)
earlier s rests h a m = all_below (λ (z : RowList). Ascends row_cmp (key_of s) z × HeadAbove row_cmp (key_of s) (key_of s h.row) z) h.list rests [] (λ i l k. (rising s rests i a k, m.before i l))

-- what is left of a list that ascends
rest_sorted : (s : ShapeView) (list : RowList) → IsSortedList s list → IsSortedList s (drop 1 list)
rest_sorted s [] a = a
rest_sorted s (x ∷ xs) a = record { rows = a.rows.1; rising = a.rising.1 }

pub without_sorted : (s : ShapeView) (rests : List RowList) (h : Head) → h.list < length rests → AreSortedLists s rests → AreSortedLists s (without h rests)
without_sorted s rests h l a = all_set (IsSortedList s) h.list rests (drop 1 (get_or rests h.list [])) (rest_sorted s (get_or rests h.list []) (all_get (IsSortedList s) h.list rests [] l a)) a

-- what is left begins at the key of the head or above it
behind : (s : ShapeView) (x : List Cell) (l : RowList) → Ascends row_cmp (key_of s) (x ∷ l) → HeadFrom row_cmp (key_of s) (key_of s x) l
behind s x [] a = tt
behind s x (y ∷ ys) a = a.0.0

pub left : (s : ShapeView) (rests : List RowList) (h : Head) → AreSortedLists s rests → IsLeast s rests h → Heading s (λ z. HeadFrom row_cmp (key_of s) (key_of s h.row) z) (without h rests)
left s rests h a m =
    let whole : Ascends row_cmp (key_of s) (h.row ∷ drop 1 (get_or rests h.list [])) = subst (λ (z : RowList). Ascends row_cmp (key_of s) z) m.head.is (rising s rests h.list a m.head.within) in
    all_set (λ (z : RowList). Ascends row_cmp (key_of s) z × HeadFrom row_cmp (key_of s) (key_of s h.row) z) h.list rests (drop 1 (get_or rests h.list [])) (whole.1, behind s h.row (drop 1 (get_or rests h.list [])) whole)
    (all_places (λ (z : RowList). Ascends row_cmp (key_of s) z × HeadFrom row_cmp (key_of s) (key_of s h.row) z) rests [] (λ i l. (rising s rests i a l, m.from i l)))

-- ---- Unique and Aggregate

module _ (s : ShapeView) (n : s.model ≡ model.Duplicate → ⊥) where
  as_merge : (P : (List Cell → List Cell) → (RowList → RowList) → Type 0) → P (λ r. take (key_count s.columns) r) (merged (merged_row s.columns)) → P (key_of s) (gathered s)
  as_merge P p = go s.model n
    where
      go : (m : Model) → (m ≡ model.Duplicate → ⊥) → P (key_in m (key_count s.columns)) (gathered_in m s.columns)
      go model.Duplicate h = absurd (h refl)
      go model.Unique h = p
      go model.Aggregate h = p

  -- the first head begins the next row
  pub begins : (rests : List RowList) (h : Head) → AreSortedLists s rests → IsLeast s rests h → fold_of s (joined rests) ≡ fold_of s (h.row ∷ joined (without h rests))
  begins rests h a m =
      as_merge (λ key all. AllByRecursion (λ (z : RowList). Ascends row_cmp key z × HeadAbove row_cmp key (key h.row) z) (take h.list rests) → folded row_cmp key all (joined rests) ≡ folded row_cmp key all (h.row ∷ joined (without h rests)))
      (λ e. next_starts rows_total (λ r. take (key_count s.columns) r) (rows_merge s.columns) rows_same rests h.list h.row (drop 1 (get_or rests h.list [])) m.head.within m.head.is e)
      (earlier s rests h a m)

  -- one of the same key merges into it
  pub takes : (made : List Cell) (rests : List RowList) (h : Head) → AreSortedLists s rests → IsLeast s rests h → row_cmp (key_of s made) (key_of s h.row) ≡ Equal
      → fold_of s (made ∷ joined rests) ≡ fold_of s (merged_row s.columns made h.row ∷ joined (without h rests))
  takes made rests h a m t =
      as_merge (λ key all. row_cmp (key made) (key h.row) ≡ Equal → AllByRecursion (λ (z : RowList). Ascends row_cmp key z × HeadAbove row_cmp key (key h.row) z) (take h.list rests) → folded row_cmp key all (made ∷ joined rests) ≡ folded row_cmp key all (merged_row s.columns made h.row ∷ joined (without h rests)))
      (λ u e. next_takes rows_total (λ r. take (key_count s.columns) r) (rows_merge s.columns) rows_same made rests h.list h.row (drop 1 (get_or rests h.list [])) m.head.within m.head.is u e)
      t (earlier s rests h a m)

  -- where all heads are above it, it is done
  pub ends : (made : List Cell) (rests : List RowList) → Heading s (λ z. HeadAbove row_cmp (key_of s) (key_of s made) z) rests → fold_of s (made ∷ joined rests) ≡ made ∷ fold_of s (joined rests)
  ends made rests e =
      as_merge (λ key all. AllByRecursion (λ (z : RowList). Ascends row_cmp key z × HeadAbove row_cmp key (key made) z) rests → folded row_cmp key all (made ∷ joined rests) ≡ made ∷ folded row_cmp key all (joined rests))
      (λ f. next_ends rows_total (λ r. take (key_count s.columns) r) (rows_merge s.columns) rows_same made rests f)
      e

  -- a merged row has the key of the older one
  pub key_stays : (made row : List Cell) → row_cmp (key_of s made) (key_of s row) ≡ Equal → key_of s (merged_row s.columns made row) ≡ key_of s made
  key_stays made row = as_merge (λ key all. row_cmp (key made) (key row) ≡ Equal → key (merged_row s.columns made row) ≡ key made) (λ e. (rows_merge s.columns).kept made row e)

-- ---- Duplicate

module _ (s : ShapeView) (d : s.model ≡ model.Duplicate) where
  as_all : (P : (List Cell → List Cell) → (RowList → RowList) → Type 0) → P (λ r. r) (λ rows. rows) → P (key_of s) (gathered s)
  as_all P p = go s.model d
    where
      go : (m : Model) → m ≡ model.Duplicate → P (key_in m (key_count s.columns)) (gathered_in m s.columns)
      go model.Duplicate h = p
      go model.Unique h = cc
      go model.Aggregate h = cc

  -- the first head is the next row
  pub keeps : (rests : List RowList) (h : Head) → AreSortedLists s rests → IsLeast s rests h → fold_of s (joined rests) ≡ h.row ∷ fold_of s (joined (without h rests))
  keeps rests h a m =
      as_all (λ key all. AllByRecursion (λ (z : RowList). Ascends row_cmp key z × HeadAbove row_cmp key (key h.row) z) (take h.list rests) → AllByRecursion (λ (z : RowList). Ascends row_cmp key z × HeadFrom row_cmp key (key h.row) z) (without h rests) → folded row_cmp key all (joined rests) ≡ h.row ∷ folded row_cmp key all (joined (without h rests)))
      (λ e f. next_sorted rows_total (λ r. r) rows_same rests h.list h.row (drop 1 (get_or rests h.list [])) m.head.within m.head.is e (from_heads rows_total (λ r. r) h.row (without h rests) f))
      (earlier s rests h a m) (left s rests h a m)
