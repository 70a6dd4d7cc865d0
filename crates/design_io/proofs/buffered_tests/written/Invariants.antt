-- The sink that is made is empty.
use Rattle.std.proofs.Common.{[], Some}
use Rattle.design_io.proofs.buffered_tests.written.Given as goal

abbrev pub ghosts-collected : goal.ghosts-collected
ghosts-collected a = record { start = Some [] }
