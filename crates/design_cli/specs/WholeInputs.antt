-- The answer to a command that reads its whole input before it looks at it.
use Rattle.std.specs.Prelude.{ℕ, nat_le, List, length, if◌then◌else◌}
use Rattle.design_base.specs.declared.limits.TheConstants.{INPUT_MAX}
use Rattle.design_io.specs.Inputs.{line_at}
use Rattle.design_reports.specs.Reports.{Report, silent}
use Rattle.design_reports.specs.declared.ending.Ending.TheVariants.{BadInput}

-- an input that is too long is bad at the line of the first byte too many, whatever it holds
abbrev pub whole_report : (List ℕ → Report) → List ℕ → Report
whole_report report input = if nat_le (length input) INPUT_MAX then report input else silent (BadInput (line_at input INPUT_MAX))
