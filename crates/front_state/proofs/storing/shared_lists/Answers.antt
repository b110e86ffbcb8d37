use Rattle.std.proofs.Common.{Some, map}
use Rattle.front_defs.specs.Stands.{lists_for}
use Rattle.front_defs.specs.Stored.{rows_in}
use Rattle.partitions.specs.Places.{Place}
use Rattle.rowsets.specs.RowsetView.{rowset_rows}
use Rattle.front_state.specs.Tablets.{table_seen}
use Rattle.front_state.proofs.Gathered.{part_more}
use Rattle.front_state.proofs.storing.shared_lists.Goals as goal

pub loop-part-preserved : goal.loop-part-preserved
loop-part-preserved c =
    part_more (λ (w : Place). rows_in (lists_for 0 w (Some (table_seen c.args.stored.now)))) c.buckets-buckets.result c.loop-part.part
    (map (λ x. rowset_rows x.value) c.loop-part.all) (map (λ x. rowset_rows x.value) c.add_part.new.all) c.loop-part.invariant c.in_ok-add_part.ensures
