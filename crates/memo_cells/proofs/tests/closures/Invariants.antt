use Rattle.memo_cells.proofs.tests.closures.Given as goal

abbrev pub ghosts-assert_closure : goal.ghosts-assert_closure
ghosts-assert_closure g a = record { name = a.blank.name; parts = a.blank.parts }
