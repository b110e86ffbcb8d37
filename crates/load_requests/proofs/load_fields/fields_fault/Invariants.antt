use Rattle.std.proofs.Common.{◌≡◌, drop, take, []}
use Rattle.load_requests.specs.LoadFields.{fault_behind}
use Rattle.load_requests.proofs.load_fields.fields_fault.Given as goal

abbrev pub invariant-loop-place : goal.invariant-loop-place
invariant-loop-place l = fault_behind (take l.place l.fields) (drop l.place l.fields) ≡ fault_behind [] l.fields
