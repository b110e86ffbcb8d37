use Rattle.rowsets.proofs.tests.a_rowset_has_the_fold_of_its_rows.Given as goal

abbrev pub ghosts-told : goal.ghosts-told
ghosts-told g a = record { name = a.blank.name; parts = a.blank.parts }
