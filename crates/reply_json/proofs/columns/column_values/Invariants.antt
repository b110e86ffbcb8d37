use Rattle.std.proofs.Common.{◌≡◌, take, map}
use Rattle.std.specs.List.{zip}
use Rattle.serde_json.specs.View.{view}
use Rattle.reply_json.specs.Results.{column_json}
use Rattle.reply_json.proofs.columns.column_values.Given as goal

abbrev pub invariant-loop-place : goal.invariant-loop-place
invariant-loop-place l = map view l.items.items ≡ map column_json (take l.place (zip l.names l.types))
