use Rattle.std.proofs.Common.{◌≡◌, drop}
use Rattle.dl_values.specs.Read.{strip_front}
use Rattle.dl_values.proofs.blanks.blanks_in_front.Given as goal

abbrev pub invariant-loop-i : goal.invariant-loop-i
invariant-loop-i l = strip_front (drop l.i l.text) ≡ strip_front l.text
