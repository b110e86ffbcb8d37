use Rattle.std.proofs.Common.{◌≡◌, drop}
use Rattle.std.specs.List.{list_any}
use Rattle.select_defs.specs.Items.{is_aggregate}
use Rattle.select_defs.proofs.refusals.has_aggregate.Given as goal

abbrev pub invariant-loop-item : goal.invariant-loop-item
invariant-loop-item l = list_any is_aggregate (drop l.item-index l.list) ≡ list_any is_aggregate l.list
