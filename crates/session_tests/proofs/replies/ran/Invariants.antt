use Rattle.session_tests.proofs.replies.ran.Given as goal

abbrev pub ghosts-session_over : goal.ghosts-session_over
ghosts-session_over a = record { name = a.blank.name; parts = a.blank.parts }
