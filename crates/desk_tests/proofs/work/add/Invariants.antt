use Rattle.desk_tests.proofs.work.add.Given as goal

abbrev pub ghosts-adds : goal.ghosts-adds
ghosts-adds g a = record { name = a.blank.name; parts = a.blank.parts }
