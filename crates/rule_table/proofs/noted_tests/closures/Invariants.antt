use Rattle.rule_table.proofs.noted_tests.closures.Given as goal

abbrev pub ghosts-assert_closures : goal.ghosts-assert_closures
ghosts-assert_closures g a = record { name = a.blank.name; parts = a.blank.parts }
