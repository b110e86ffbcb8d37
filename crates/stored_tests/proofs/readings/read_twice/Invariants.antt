use Rattle.stored_tests.proofs.readings.read_twice.Given as goal

abbrev pub ghosts-at_once : goal.ghosts-at_once
ghosts-at_once a = record { name = a.blank.name; parts = a.blank.parts }

abbrev pub ghosts-one_by_one : goal.ghosts-one_by_one
ghosts-one_by_one a = record { name = a.blank.name; parts = a.blank.parts }
