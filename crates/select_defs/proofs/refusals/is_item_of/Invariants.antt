use Rattle.std.proofs.Common.{◌≡◌, drop}
use Rattle.std.specs.List.{list_any}
use Rattle.select_defs.specs.Items.{same_item}
use Rattle.select_defs.proofs.refusals.is_item_of.Given as goal

abbrev pub invariant-loop-other : goal.invariant-loop-other
invariant-loop-other l = list_any (same_item l.item) (drop l.other-index l.list) ≡ list_any (same_item l.item) l.list
