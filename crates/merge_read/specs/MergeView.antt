-- A reading of lists that are merged.
use Rattle.std.specs.Prelude.{◌≡◌, ℕ, Bool, true, false, List, [], ◌∷◌}
use Rattle.dl_values.specs.declared.cell.Cell.{Cell}

-- the rows of the fold that are still to come, the present row, and how many stored rows were not looked at yet
pub record MergeView : Type 0 where
  pub left : List (List Cell)
  pub present : List Cell
  pub unread : ℕ

-- The next row of the fold becomes the present one, and there was none only at the end, when all rows were looked at.
abbrev pub IsNextRow : Bool → MergeView → MergeView → Type 0
IsNextRow true old new = old.left ≡ new.present ∷ new.left
IsNextRow false old new = (old.left ≡ []) × (new.left ≡ []) × (new.unread ≡ 0)
