use Rattle.memo_cells.proofs.tests.decides.Given as goal

abbrev pub ghosts-assert_decided : goal.ghosts-assert_decided
ghosts-assert_decided g a = record { name = a.blank.name; parts = a.blank.parts }
