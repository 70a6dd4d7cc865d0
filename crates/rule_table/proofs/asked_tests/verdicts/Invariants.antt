use Rattle.rule_table.proofs.asked_tests.verdicts.Given as goal

abbrev pub ghosts-assert_verdicts : goal.ghosts-assert_verdicts
ghosts-assert_verdicts g a = record { name = a.blank.name; parts = a.blank.parts }
