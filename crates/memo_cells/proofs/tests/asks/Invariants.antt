use Rattle.memo_cells.proofs.tests.asks.Given as goal

abbrev pub ghosts-assert_asked : goal.ghosts-assert_asked
ghosts-assert_asked g a = record { name = a.blank.name; parts = a.blank.parts }
