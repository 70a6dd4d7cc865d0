use Rattle.std.proofs.Common.{◌≡◌, ◌≤◌, length, []}
use Rattle.design_base.specs.declared.limits.TheConstants.{DERIVATION_MAX}
use Rattle.design_io.specs.InputLines.{lines_of}
use Rattle.derivation_text.specs.Grammar.{parse_behind}
use Rattle.derivation_text.proofs.parsing.read_lines.Given as goal

abbrev pub invariant-loop-line : goal.invariant-loop-line
invariant-loop-line l = record {
  lines : parse_behind [] (lines_of l.text) ≡ parse_behind l.lines (lines_of l.rest);
  few : length l.lines ≤ DERIVATION_MAX;
}

abbrev pub decreases-loop-line : goal.decreases-loop-line
decreases-loop-line l = length l.rest
