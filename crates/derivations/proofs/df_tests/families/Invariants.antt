use Rattle.derivations.proofs.df_tests.families.Given as goal

abbrev pub ghosts-assert_families : goal.ghosts-assert_families
ghosts-assert_families g a = record { name = a.blank.name; parts = a.blank.parts }
