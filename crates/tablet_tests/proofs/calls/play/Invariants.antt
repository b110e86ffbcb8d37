-- The ledger is that of the blank.
use Rattle.tablet_tests.proofs.calls.play.Given as goal

abbrev pub ghosts-compare : goal.ghosts-compare
ghosts-compare g a = record { name = a.blank.name; parts = a.blank.parts }
