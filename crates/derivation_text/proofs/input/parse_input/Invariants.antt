use Rattle.std.proofs.Common.{◌≡◌, ◌≤◌, ◌+◌, length}
use Rattle.design_io.specs.InputLines.{lines_of}
use Rattle.derivation_text.specs.Grammar.{input_lines, parse_input}
use Rattle.derivation_text.proofs.input.parse_input.Given as goal

abbrev pub invariant-loop-line : goal.invariant-loop-line
invariant-loop-line l = record {
  lines : parse_input l.text ≡ input_lines l.skipped (lines_of l.rest);
  few : l.skipped + length l.rest ≤ length l.text;
}

abbrev pub decreases-loop-line : goal.decreases-loop-line
decreases-loop-line l = length l.rest
