use Rattle.stored_tests.proofs.queries.answers_of.Given as goal

abbrev pub ghosts-selected : goal.ghosts-selected
ghosts-selected a = record { name = a.blank.name; parts = a.blank.parts }
