use Rattle.memo_cells.proofs.tests.caller.Given as goal

abbrev pub ghosts-in_turn : goal.ghosts-in_turn
ghosts-in_turn a = record { name = a.blank.name; parts = a.blank.parts }
