use Rattle.std.proofs.Common.{Some, map}
use Rattle.front_defs.specs.Stands.{lists_for}
use Rattle.front_defs.specs.Stored.{rows_in}
use Rattle.partitions.specs.Places.{Place}
use Rattle.rowsets.specs.RowsetView.{rowset_rows}
use Rattle.front_state.specs.Tablets.{table_seen}
use Rattle.front_state.proofs.Gathered.{bucket_more}
use Rattle.front_state.proofs.storing.add_part.Goals as goal

pub loop-bucket-preserved : goal.loop-bucket-preserved
loop-bucket-preserved c =
    bucket_more (λ x. rowset_rows x.value) (λ (w : Place). rows_in (lists_for 0 w (Some (table_seen c.args.stored.now)))) c.args.part c.loop-bucket.bucket
    c.loop-bucket.all c.append.new.self c.in_ok-tablet_lists.field-0 (map (λ x. rowset_rows x.value) c.args.all.now) c.loop-bucket.invariant c.in_ok-append.ensures c.in_ok-tablet_lists.ensures
