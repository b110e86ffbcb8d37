-- Rows of one key that come next.
use Rattle.std.specs.Prelude.{◌≡◌, Bool, true, false, List, [], ◌∷◌, Option, Some, None}
use Rattle.std.specs.List.{AllByRecursion}
use Rattle.std.specs.declared.cmp.Ordering.TheVariants.{Equal}
use Rattle.dl_values.specs.Order.{row_cmp}
use Rattle.dl_values.specs.declared.cell.Cell.{Cell}
use Rattle.fold_laws.specs.Fold.{Ascends, HeadAbove, HeadFrom}
use Rattle.schema_models.specs.Folds.{fold_of, key_of}
use Rattle.schema_models.specs.ShapeView.{ShapeView}
use Rattle.merge_read.specs.HeadOrder.{head_key}
use Rattle.merge_read.specs.Lists.{joined}
use Rattle.merge_read.specs.Rests.{IsPassed, RowList, StreamView, unread_in}
use Rattle.merge_read.specs.declared.head.Head.{Head}

-- lists that ascend, none of which begins below a key
abbrev pub AreFrom : ShapeView → List Cell → List RowList → Type 0
AreFrom s k rests = AllByRecursion (λ z. Ascends row_cmp (key_of s) z × HeadFrom row_cmp (key_of s) k z) rests

-- lists that ascend, all of which begin above a key
abbrev pub AreAbove : ShapeView → List Cell → List RowList → Type 0
AreAbove s k rests = AllByRecursion (λ z. Ascends row_cmp (key_of s) z × HeadAbove row_cmp (key_of s) k z) rests

-- a head of a key is taken
pub record IsSamePassed (s : ShapeView) (k : List Cell) (old : List RowList) (h : Head) (new : List RowList) : Type 0 where
  pub passed : IsPassed s old h new
  pub same : row_cmp k (head_key h) ≡ Equal

-- the next head of this key is taken; without one all lists begin above it, where none begins below it
abbrev pub IsSameTaken : List Cell → StreamView → Option Head → StreamView → Type 0
IsSameTaken k old None new = (new ≡ old) × (AreFrom old.shape k old.rests → AreAbove old.shape k old.rests)
IsSameTaken k old (Some h) new = IsSamePassed old.shape k old.rests h new.rests

-- there is a next head, and it has this key
abbrev pub IsSameFirst : List Cell → Option Head → Type 0
IsSameFirst k None = ⊥
IsSameFirst k (Some h) = row_cmp k (head_key h) ≡ Equal

-- The next row of the fold was made, or there was none, and all rows were looked at.
abbrev pub IsMade : Bool → ShapeView → StreamView → List Cell → StreamView → Type 0
IsMade true s old row new = fold_of s (joined old.rests) ≡ row ∷ fold_of s (joined new.rests)
IsMade false s old row new = (fold_of s (joined old.rests) ≡ []) × (fold_of s (joined new.rests) ≡ []) × (unread_in new ≡ 0)
