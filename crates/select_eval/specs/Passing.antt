-- The next row of a reading that passes (this project's own).
use Rattle.std.specs.Prelude.{◌≡◌, Bool, true, false, List, [], ◌∷◌}
use Rattle.std.specs.List.{filter}
use Rattle.dl_values.specs.declared.cell.Cell.{Cell}
use Rattle.merge_read.specs.MergeView.{MergeView}
use Rattle.select_eval.specs.Conditions.{all_hold}
use Rattle.select_eval.specs.declared.condition.Condition.{Condition}

-- the rows still to come that pass
abbrev pub still_passing : List Condition → MergeView → List (List Cell)
still_passing list m = filter (all_hold list) m.left

-- The next row that passes becomes the present one, and there was none only at the end, when all rows were looked at.
abbrev pub IsNextPassing : List Condition → Bool → MergeView → MergeView → Type 0
IsNextPassing list true old new = still_passing list old ≡ new.present ∷ still_passing list new
IsNextPassing list false old new = (still_passing list old ≡ []) × (new.left ≡ []) × (new.unread ≡ 0)
