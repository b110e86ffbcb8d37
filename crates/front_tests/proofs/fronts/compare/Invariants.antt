use Rattle.front_tests.proofs.fronts.compare.Given as goal

abbrev pub ghosts-replies : goal.ghosts-replies
ghosts-replies g a = record { name = a.blank.name; parts = a.blank.parts }
