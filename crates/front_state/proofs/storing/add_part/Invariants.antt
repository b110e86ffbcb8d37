-- Those of the first buckets are there.
use Rattle.std.proofs.Common.{◌≡◌, ◌++◌, Some, map}
use Rattle.std.specs.List.{flat_map}
use Rattle.front_defs.specs.Stands.{lists_for}
use Rattle.front_defs.specs.Stored.{rows_in}
use Rattle.partitions.specs.Places.{Place, buckets_at}
use Rattle.rowsets.specs.RowsetView.{rowset_rows}
use Rattle.front_state.specs.Tablets.{table_seen}
use Rattle.front_state.proofs.storing.add_part.Given as goal

abbrev pub invariant-loop-bucket : goal.invariant-loop-bucket
invariant-loop-bucket l = map (λ x. rowset_rows x.value) l.all ≡ map (λ x. rowset_rows x.value) l.initial.all ++ flat_map (λ (w : Place). rows_in (lists_for 0 w (Some (table_seen l.stored)))) (buckets_at l.bucket l.part)
