use Rattle.std.proofs.Common.{◌≡◌, take, map}
use Rattle.serde_json.specs.View.{view}
use Rattle.reply_json.specs.Results.{cell_json}
use Rattle.reply_json.proofs.cells.row_value.Given as goal

abbrev pub invariant-loop-cell : goal.invariant-loop-cell
invariant-loop-cell l = map view l.items.items ≡ map cell_json (take l.cell-index l.cells)
