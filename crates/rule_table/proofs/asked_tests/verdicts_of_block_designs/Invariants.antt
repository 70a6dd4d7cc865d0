use Rattle.rule_table.proofs.asked_tests.verdicts_of_block_designs.Given as goal

abbrev pub ghosts-assert_block_designs : goal.ghosts-assert_block_designs
ghosts-assert_block_designs g a = record { name = a.blank.name; parts = a.blank.parts }
