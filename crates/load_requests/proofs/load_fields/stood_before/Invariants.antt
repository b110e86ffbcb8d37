use Rattle.std.proofs.Common.{◌≡◌, take, false}
use Rattle.std.specs.List.{list_any}
use Rattle.http_wire.specs.Fields.{is_named}
use Rattle.load_requests.proofs.load_fields.stood_before.Given as goal

abbrev pub invariant-loop-earlier : goal.invariant-loop-earlier
invariant-loop-earlier l = list_any (is_named l.name) (take l.earlier l.fields) ≡ false
