-- How an answer ends, against its report.
use Rattle.std.specs.Prelude.{◌≡◌, ◌≢◌, ◌≤◌, ℕ, ◌⊎◌, List, Option}
use Rattle.std.specs.Io.KnownBytes.{Appends, Keeps}
use Rattle.design_io.specs.Faults.{Rose}
use Rattle.design_io.specs.Pieces.{AppendsPart}
use Rattle.design_reports.specs.declared.ending.Ending.{Ending}
use Rattle.design_reports.specs.declared.ending.Ending.TheVariants.{CatalogueFault as FailedOffer, NoMemory as WantOfMemory, ReadFault as FailedRead, WriteFault as FailedWrite}
use Rattle.design_reports.specs.declared.status.Status.TheVariants.{Usage}
use Rattle.design_reports.specs.Endings.{status_of}
use Rattle.design_reports.specs.Reports.{Report, output}

-- An answer ends with a part of its report, by `Cut`, for want of memory, after a read that failed and after an offer that failed,
-- with a proper prefix of the report after a write that failed, and else with the whole report and its ending.
abbrev pub EndsCut : (Option (List ℕ) → Option (List ℕ) → Type 0) → Report → Ending → Option (List ℕ) → Option (List ℕ) → Type 0
EndsCut Cut report WantOfMemory old new = Cut old new
EndsCut Cut report FailedRead old new = Cut old new
EndsCut Cut report (FailedOffer number) old new = Cut old new
EndsCut Cut report FailedWrite old new = AppendsPart old new (output report)
EndsCut Cut report ending old new = (ending ≡ report.ending) × Appends old new (output report)

-- The same, where an answer that is cut leaves nothing on the output.
abbrev pub EndsWith : Report → Ending → Option (List ℕ) → Option (List ℕ) → Type 0
EndsWith report ending old new = EndsCut Keeps report ending old new

-- an answer to words that are answered
abbrev pub IsAnswer : Ending → Type 0
IsAnswer ending = status_of ending ≢ Usage

-- The count of the output's faults never falls, the output failed where the answer says so, and else the count stays.
pub record HasFault (ending : Ending) (before now : ℕ) : Type 0 where
  pub later : before ≤ now
  pub failed : ending ≡ FailedWrite → Rose before now
  pub kept : ending ≢ FailedWrite → now ≡ before

-- The same of the input's faults, where the answer says that a read failed.
pub record HasReadFault (ending : Ending) (before now : ℕ) : Type 0 where
  pub later : before ≤ now
  pub failed : ending ≡ FailedRead → Rose before now
  pub kept : ending ≢ FailedRead → now ≡ before

-- A text was appended, or its sink failed after a part of it.
abbrev pub Says : List ℕ → Option (List ℕ) → Option (List ℕ) → ℕ → ℕ → Type 0
Says text old new before now = Appends old new text ⊎ (AppendsPart old new text × Rose before now)
