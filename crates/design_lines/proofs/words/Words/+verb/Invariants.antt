use Rattle.std.specs.Prelude.{length}
use Rattle.design_lines.proofs.words.Words.+verb.Given as goal

abbrev pub decreases-verb : goal.decreases-verb
decreases-verb l = length l.rows.now
