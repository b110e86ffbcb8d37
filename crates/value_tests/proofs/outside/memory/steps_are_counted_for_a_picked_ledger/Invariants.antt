use Rattle.value_tests.proofs.outside.memory.steps_are_counted_for_a_picked_ledger.Given as goal

abbrev pub ghosts-takes_two_steps : goal.ghosts-takes_two_steps
ghosts-takes_two_steps a = record { name = a.blank.name; parts = a.blank.parts }
