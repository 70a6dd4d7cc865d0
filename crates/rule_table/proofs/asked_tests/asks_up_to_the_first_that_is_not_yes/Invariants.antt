use Rattle.rule_table.proofs.asked_tests.asks_up_to_the_first_that_is_not_yes.Given as goal

abbrev pub ghosts-assert_asks_twelve : goal.ghosts-assert_asks_twelve
ghosts-assert_asks_twelve g a = record { name = a.blank.name; parts = a.blank.parts }
