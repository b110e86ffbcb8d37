use Rattle.std.proofs.Common.{take}
use Rattle.http_wire.specs.Lengths.{HasFound}
use Rattle.http_wire.proofs.length.body_length.Given as goal

abbrev pub invariant-loop-place : goal.invariant-loop-place
invariant-loop-place l = HasFound (take l.place l.fields) l.found
