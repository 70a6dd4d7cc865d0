use Rattle.std.proofs.Common.{[]}
use Rattle.design_io.specs.InputLines.{lines_of}
use Rattle.derivation_text.specs.Grammar.{parse_behind}
use Rattle.derivation_text.proofs.input.read_behind.Goals as goal

pub returns-in-Err-clause-end : goal.returns-in-Err-clause-end
returns-in-Err-clause-end c = c.end_behind.ensures (parse_behind [] (lines_of c.args.text.now)) c.in-Err.ensures.end
