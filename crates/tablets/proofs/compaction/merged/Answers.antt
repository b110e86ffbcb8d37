use Rattle.std.proofs.Common.{List, map, subst, sym}
use Rattle.std.specs.List.{AllByRecursion}
use Rattle.dl_values.specs.declared.cell.Cell.{Cell}
use Rattle.merge_read.specs.Lists.{joined}
use Rattle.rowsets.specs.RowsetView.{rowset_rows}
use Rattle.schema_models.specs.RowRules.{IsOfShape}
use Rattle.tablets.proofs.Merging.{joined_of_shape}
use Rattle.tablets.proofs.compaction.merged.Goals as goal

pub build-requires : goal.build-requires
build-requires g c =
    let shape = c.args.shape.now in
    let lists = map (λ l. rowset_rows l.value) c.args.lists.now in
    subst (λ (rows : List (List Cell)). AllByRecursion (IsOfShape shape) rows) (sym c.in_ok-rows.ensures.read)
    (c.rows_of_a_shape_stay_so.ensures.folded shape c.vouch.ensures.valid (joined lists) (joined_of_shape shape lists c.requires))
