-- The last version so far, so the others decide.
use Rattle.std.proofs.Common.{◌≡◌, drop}
use Rattle.tablets.specs.Compactions as compactions
use Rattle.tablets.proofs.named.last_version.Given as goal

abbrev pub invariant-loop-version : goal.invariant-loop-version
invariant-loop-version l = compactions.last_from l.last (drop l.version-index l.versions) ≡ compactions.last_version l.versions
