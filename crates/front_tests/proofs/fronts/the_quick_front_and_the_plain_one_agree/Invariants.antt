use Rattle.front_tests.proofs.fronts.the_quick_front_and_the_plain_one_agree.Given as goal

abbrev pub ghosts-replies : goal.ghosts-replies
ghosts-replies g a = record { name = a.blank.name; parts = a.blank.parts }
