use Rattle.rowsets.proofs.tests.is_whole.Given as goal

abbrev pub ghosts-are_numbered : goal.ghosts-are_numbered
ghosts-are_numbered a = record { name = a.blank.name; parts = a.blank.parts }
