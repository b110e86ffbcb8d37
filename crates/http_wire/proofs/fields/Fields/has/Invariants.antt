use Rattle.std.proofs.Common.{◌≡◌, take, false}
use Rattle.http_wire.specs.Fields.{has_field}
use Rattle.http_wire.proofs.fields.Fields.has.Given as goal

abbrev pub invariant-loop-place : goal.invariant-loop-place
invariant-loop-place l = has_field l.name l.value (take l.place l.self) ≡ false
