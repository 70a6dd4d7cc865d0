use Rattle.memo_cells.proofs.tests.two_decide_at_once.Given as goal

abbrev pub ghosts-afresh : goal.ghosts-afresh
ghosts-afresh g a = record { name = a.blank.name; parts = a.blank.parts }
