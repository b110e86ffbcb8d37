use Rattle.std.proofs.Common.{◌≡◌, take, map}
use Rattle.serde_json.specs.View.{view}
use Rattle.reply_json.specs.Results.{row_json}
use Rattle.reply_json.proofs.cells.rows_value.Given as goal

abbrev pub invariant-loop-place : goal.invariant-loop-place
invariant-loop-place l = map view l.items.items ≡ map row_json (take l.place l.rows)
