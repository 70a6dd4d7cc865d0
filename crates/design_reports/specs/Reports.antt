-- A report: the lines on the output, and how the answer ends.
use Rattle.std.specs.Prelude.{ℕ, List, [], ◌∷◌}
use Rattle.std.specs.List.{flat_map}
use Rattle.design_base.specs.declared.query.Query.{Query}
use Rattle.design_base.specs.declared.verdict.Verdict.{Verdict}
use Rattle.design_base.specs.declared.verdict.Verdict.TheVariants.{Yes as YesVerdict, No as NoVerdict, Unknown as UnknownVerdict}
use Rattle.design_checks.specs.declared.finding.Finding.{Finding}
use Rattle.design_checks.specs.declared.finding.Finding.TheVariants.{Valid, BadBlock, BadPair}
use Rattle.design_reports.specs.declared.ending.Ending.{Ending}
use Rattle.design_reports.specs.declared.ending.Ending.TheVariants.{Yes, No, Unknown}
use Rattle.design_reports.specs.Texts.{finding_line, verdict_line}

pub record Report : Type 0 where
  pub lines : List (List ℕ)
  pub ending : Ending

-- the bytes on the output
abbrev pub output : Report → List ℕ
output report = flat_map (λ line. line) report.lines

-- nothing is written
abbrev pub silent : Ending → Report
silent ending = record { lines = []; ending = ending }

-- how an answer ends that says the verdict
abbrev pub ending_with : Verdict → Ending
ending_with (YesVerdict step) = Yes
ending_with (NoVerdict criterion) = No
ending_with UnknownVerdict = Unknown

-- the verdict, and what is said of it
abbrev pub verdict_report : Query → Verdict → List (List ℕ) → Report
verdict_report q verdict lines = record { lines = verdict_line q verdict ∷ lines; ending = ending_with verdict }

-- how an answer ends that says a finding: the blocks are such a design, or not
abbrev pub ending_of : Finding → Ending
ending_of Valid = Yes
ending_of (BadBlock index) = No
ending_of (BadPair x y count) = No

-- what the check of the blocks found
abbrev pub found_report : Query → Finding → Report
found_report q found = record { lines = finding_line q found ∷ []; ending = ending_of found }
