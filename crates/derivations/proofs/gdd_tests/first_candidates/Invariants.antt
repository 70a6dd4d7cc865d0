use Rattle.derivations.proofs.gdd_tests.first_candidates.Given as goal

abbrev pub ghosts-assert_verdicts : goal.ghosts-assert_verdicts
ghosts-assert_verdicts g a = record { name = a.blank.name; parts = a.blank.parts }
