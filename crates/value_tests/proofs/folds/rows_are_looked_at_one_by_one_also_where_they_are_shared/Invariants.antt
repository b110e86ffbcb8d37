use Rattle.value_tests.proofs.folds.rows_are_looked_at_one_by_one_also_where_they_are_shared.Given as goal

abbrev pub ghosts-told : goal.ghosts-told
ghosts-told g a = record { name = a.blank.name; parts = a.blank.parts }

abbrev pub ghosts-told-2 : goal.ghosts-told-2
ghosts-told-2 g a = record { name = a.blank.name; parts = a.blank.parts }
