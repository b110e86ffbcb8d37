use Rattle.std.proofs.Common.{◌≡◌, ◌∙◌, List, subst, sym}
use Rattle.std.specs.List.{AllByRecursion}
use Rattle.dl_values.specs.Order.{row_cmp}
use Rattle.dl_values.specs.declared.cell.Cell.{Cell}
use Rattle.fold_laws.specs.Fold.{Ascends}
use Rattle.schema_models.specs.Folds.{fold_of, key_of}
use Rattle.schema_models.specs.RowRules.{IsOfShape}
use Rattle.rowsets.proofs.SameMarks.{sound_fold}
use Rattle.rowsets.proofs.rowset.Rowset.build.Goals as goal

pub from_rows-requires : goal.from_rows-requires
from_rows-requires c =
    let s = c.args.shape.now in
    subst (λ (l : List (List Cell)). AllByRecursion (IsOfShape s) l) (sym c.in_ok-folded.ensures) (c.rows_of_a_shape_stay_so.ensures.folded s c.vouch.ensures.valid c.args.rows c.requires)

pub invariant_of-new : goal.invariant_of-new
invariant_of-new c =
    let s = c.args.shape.now in
    let is : c.in_ok-blocks.blocks.rows ≡ fold_of s c.args.rows = c.in_ok-blocks.ensures.rows_are ∙ c.in_ok-folded.ensures in
    sound_fold s c.in_ok-blocks.blocks.marks c.in_ok-blocks.blocks.rows c.in_ok-blocks.ensures.marks
    (subst (λ (l : List (List Cell)). AllByRecursion (IsOfShape s) l) (sym is) (c.rows_of_a_shape_stay_so.ensures.folded s c.vouch.ensures.valid c.args.rows c.requires))
    (subst (λ (l : List (List Cell)). Ascends row_cmp (key_of s) l) (sym is) (c.folds_are_determined.ensures.ascends s c.args.rows))
