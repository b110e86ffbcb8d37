use Rattle.std.proofs.Common.{◌≡◌, ◌++◌, drop}
use Rattle.schema_models.proofs.folds.append.Given as goal

abbrev pub invariant-loop-place : goal.invariant-loop-place
invariant-loop-place l = l.out ++ drop l.place l.more ≡ l.fn.out ++ l.more
