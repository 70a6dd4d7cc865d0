use Rattle.rule_table.proofs.noted_tests.remembers.Given as goal

abbrev pub ghosts-assert_remembered : goal.ghosts-assert_remembered
ghosts-assert_remembered g a = record { name = a.blank.name; parts = a.blank.parts }
