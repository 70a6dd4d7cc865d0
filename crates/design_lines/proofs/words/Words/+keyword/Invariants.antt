use Rattle.std.specs.Prelude.{length}
use Rattle.design_lines.proofs.words.Words.+keyword.Given as goal

abbrev pub decreases-keyword : goal.decreases-keyword
decreases-keyword l = length l.rows.now
