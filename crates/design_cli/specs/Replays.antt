-- The answer to `replay`: what the derivation that an input holds leads to.
use Rattle.std.specs.Prelude.{ℕ, List, [], ◌∷◌, Option, Some, None, Result, Ok, Err}
use Rattle.derivation_text.specs.Grammar.{parse_input}
use Rattle.derivations.specs.Derivations.{fault, last_question, replayed}
use Rattle.derivations.specs.declared.line.Fault.{Fault}
use Rattle.derivations.specs.declared.line.Line.{Line}
use Rattle.design_base.specs.declared.query.Query.{Query}
use Rattle.design_checks.specs.declared.finding.Finding.TheVariants.{Valid}
use Rattle.design_reports.specs.Parts.{part_lines}
use Rattle.design_reports.specs.Reports.{Report, silent}
use Rattle.design_reports.specs.Texts.{fault_line, finding_line}
use Rattle.design_reports.specs.declared.ending.Ending.TheVariants.{Yes, No, BadInput}
use Rattle.design_reports.specs.declared.parts.Part.TheVariants.{Blocks}
use Rattle.design_cli.specs.WholeInputs.{whole_report}

-- the first fault
abbrev pub fault_report : Fault → Report
fault_report f = record { lines = fault_line f ∷ []; ending = No }

-- the question has a design, with these blocks
abbrev pub design_report : Query → List (List ℕ) → Report
design_report q B = record { lines = finding_line q Valid ∷ part_lines (Blocks B); ending = Yes }

-- the design of the last line's question; what is read has a line
abbrev pub sound_report : List Line → Option Query → Report
sound_report D (Some q) = design_report q (replayed D)
sound_report D None = silent No

-- the first fault of a derivation, or the design that it leads to
abbrev pub derivation_report : List Line → Option Fault → Report
derivation_report D (Some f) = fault_report f
derivation_report D None = sound_report D (last_question D)

-- what was read of an input
abbrev pub read_report : Result (List Line) ℕ → Report
read_report (Ok D) = derivation_report D (fault D)
read_report (Err place) = silent (BadInput place)

-- the answer to `replay`
abbrev pub replay_report : List ℕ → Report
replay_report input = whole_report (λ text. read_report (parse_input text)) input
