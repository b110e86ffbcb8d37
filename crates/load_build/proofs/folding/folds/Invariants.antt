-- The folds so far and those of the partitions that are left are all of them.
use Rattle.std.proofs.Common.{◌≡◌, ◌++◌, flat_map, length, map}
use Rattle.std.specs.List.{AllByRecursion}
use Rattle.std.specs.Vec.Iter.{into_iter_items, into_iter_len}
use Rattle.rowsets.specs.RowsetView.{IsMadeFor}
use Rattle.shadow_writes.specs.declared.built.TabletRows.{TabletRows}
use Rattle.front_defs.specs.May.{seen_set}
use Rattle.load_build.specs.Folding.{part_folds}
use Rattle.load_build.specs.PartLists.{AreShaped}
use Rattle.load_build.proofs.folding.folds.Given as goal

abbrev pub invariant-loop-rows : goal.invariant-loop-rows
invariant-loop-rows l = record {
  many : into_iter_len l.rows-iterator ≡ length (into_iter_items l.rows-iterator);
  shaped : AreShaped l.base (into_iter_items l.rows-iterator);
  made : AllByRecursion (λ (t : TabletRows). IsMadeFor l.base t.rows.value) l.sets;
  seen : map seen_set l.sets ++ flat_map (part_folds l.base) (into_iter_items l.rows-iterator) ≡ flat_map (part_folds l.base) (into_iter_items l.initial.rows-iterator);
}
