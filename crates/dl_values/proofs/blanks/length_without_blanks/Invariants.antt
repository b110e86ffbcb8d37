use Rattle.std.proofs.Common.{◌≡◌, ◌≤◌, length, take}
use Rattle.dl_values.specs.Read.{strip_back}
use Rattle.dl_values.proofs.blanks.length_without_blanks.Given as goal

abbrev pub invariant-loop-end : goal.invariant-loop-end
invariant-loop-end l = (l.end ≤ length l.text) × (strip_back (take l.end l.text) ≡ strip_back l.text)

abbrev pub decreases-loop-end : goal.decreases-loop-end
decreases-loop-end l = l.end
