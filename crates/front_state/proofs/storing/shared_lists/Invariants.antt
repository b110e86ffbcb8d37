-- Those of the first partitions are there.
use Rattle.std.proofs.Common.{◌≡◌, Some, map}
use Rattle.std.specs.List.{flat_map, range_with_len}
use Rattle.front_defs.specs.Stands.{lists_for}
use Rattle.front_defs.specs.Stored.{rows_in}
use Rattle.partitions.specs.Places.{Place, buckets_at}
use Rattle.rowsets.specs.RowsetView.{rowset_rows}
use Rattle.front_state.specs.Tablets.{table_seen}
use Rattle.front_state.proofs.storing.shared_lists.Given as goal

abbrev pub invariant-loop-part : goal.invariant-loop-part
invariant-loop-part l = map (λ x. rowset_rows x.value) l.all ≡ flat_map (λ (w : Place). rows_in (lists_for 0 w (Some (table_seen l.stored)))) (flat_map (buckets_at l.buckets) (range_with_len 0 l.part))
