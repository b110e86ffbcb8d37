use Rattle.std.proofs.Common.{◌≡◌, drop}
use Rattle.load_requests.specs.Loads.{first_value}
use Rattle.load_requests.proofs.values.first_value.Given as goal

abbrev pub invariant-loop-place : goal.invariant-loop-place
invariant-loop-place l = first_value l.name (drop l.place l.fields) ≡ first_value l.name l.fields
