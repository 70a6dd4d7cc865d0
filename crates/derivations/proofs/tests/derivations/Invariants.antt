use Rattle.derivations.proofs.tests.derivations.Given as goal

abbrev pub ghosts-assert_derivations : goal.ghosts-assert_derivations
ghosts-assert_derivations g a = record { name = a.blank.name; parts = a.blank.parts }
