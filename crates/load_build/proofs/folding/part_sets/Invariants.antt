-- The folds so far and those of the lists that are left are the folds of the partition.
use Rattle.std.proofs.Common.{◌≡◌, ◌++◌, length, map}
use Rattle.std.specs.List.{AllByRecursion}
use Rattle.std.specs.Vec.Iter.{into_iter_items, into_iter_len}
use Rattle.rowsets.specs.RowsetView.{IsMadeFor}
use Rattle.schema_models.specs.RowRules.{IsOfShape}
use Rattle.shadow_writes.specs.declared.built.TabletRows.{TabletRows}
use Rattle.front_defs.specs.May.{seen_set}
use Rattle.load_build.specs.Folding.{folds_from}
use Rattle.load_build.proofs.folding.part_sets.Given as goal

abbrev pub invariant-loop-list : goal.invariant-loop-list
invariant-loop-list l = record {
  many : into_iter_len l.list-iterator ≡ length (into_iter_items l.list-iterator);
  shaped : AllByRecursion (AllByRecursion (IsOfShape l.base)) (into_iter_items l.list-iterator);
  made : AllByRecursion (λ (t : TabletRows). IsMadeFor l.base t.rows.value) l.sets;
  seen : map seen_set l.sets ++ folds_from l.base l.part (length l.sets) (into_iter_items l.list-iterator) ≡ folds_from l.base l.part 0 (into_iter_items l.initial.list-iterator);
}
