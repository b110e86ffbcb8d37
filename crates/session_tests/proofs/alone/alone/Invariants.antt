use Rattle.session_tests.proofs.alone.alone.Given as goal

abbrev pub ghosts-session_alone : goal.ghosts-session_alone
ghosts-session_alone a = record { name = a.blank.name; parts = a.blank.parts }
