use Rattle.std.proofs.Common.{◌≡◌, take}
use Rattle.service.specs.Dryrun.{rows_text}
use Rattle.service.proofs.rows_text.rows_text.Given as goal

abbrev pub invariant-loop-place : goal.invariant-loop-place
invariant-loop-place l = l.out.items ≡ rows_text (take l.place l.rows)
