use Rattle.columnar.proofs.tests.are_kept.Given as goal

abbrev pub ghosts-are_same : goal.ghosts-are_same
ghosts-are_same a = record { name = a.blank.name; parts = a.blank.parts }
