-- How an answer ends that reads the input, and how a run ends.
use Rattle.std.proofs.Common.{◌≡◌, ◌≢◌, ℕ, ◌≤◌, Bool, List, [], Option, Some, None, Err, true, false, length, refl, arith}
use Rattle.std.specs.Prelude.{if◌then◌else◌, nat_le}
use Rattle.design_base.specs.declared.limits.TheConstants.{INPUT_MAX}
use Rattle.design_base.specs.declared.query.Query.{Query}
use Rattle.design_checks.specs.declared.finding.Finding.{Finding}
use Rattle.design_checks.specs.declared.finding.Finding.TheVariants.{Valid, BadBlock, BadPair}
use Rattle.block_texts.specs.BlockText.{BlockText, bad_line, block_text, blocks}
use Rattle.design_cli.specs.LineFindings.{lines_finding}
use Rattle.design_cli.specs.Report.{check_report, text_report}
use Rattle.design_io.specs.Faults.{Rose}
use Rattle.design_io.specs.Inputs.{IsInput, faults_after, line_at}
use Rattle.design_io.specs.declared.reading.ReadEnd.{ReadEnd}
use Rattle.design_io.specs.declared.reading.ReadEnd.TheVariants.{Failed, TooLong, Memory}
use Rattle.design_lines.specs.declared.command.Shape.{Shape}
use Rattle.design_reports.specs.Answers.{HasFault, HasReadFault, IsAnswer}
use Rattle.design_reports.specs.Endings.{ending_at, status_of}
use Rattle.design_reports.specs.Reports.{found_report, silent}
use Rattle.design_reports.specs.declared.ending.Ending.TheVariants.{BadInput, CatalogueFault, ReadFault}
use Rattle.design_reports.specs.declared.status.Status.TheVariants.{Usage}

-- some text is what an input has left
pub some_input : (left : Option (List ℕ)) → (text : List ℕ) × IsInput left text
some_input None = ([], tt)
some_input (Some bytes) = (bytes, refl)

pub unread_answers : (end : ReadEnd) → IsAnswer (ending_at end)
unread_answers Failed e = cc
unread_answers (TooLong line) e = cc
unread_answers Memory e = cc

pub unread_offers : (end : ReadEnd) (number : ℕ) → ending_at end ≢ CatalogueFault number
unread_offers Failed number e = cc
unread_offers (TooLong line) number e = cc
unread_offers Memory number e = cc

pub unread_writes : (end : ReadEnd) (faults : ℕ) → HasFault (ending_at end) faults faults
unread_writes Failed faults = record { later = omega arith; failed = λ e. cc; kept = λ e. refl }
unread_writes (TooLong line) faults = record { later = omega arith; failed = λ e. cc; kept = λ e. refl }
unread_writes Memory faults = record { later = omega arith; failed = λ e. cc; kept = λ e. refl }

unread_cause : (end : ReadEnd) → ending_at end ≡ ReadFault → end ≡ Failed
unread_cause Failed e = refl
unread_cause (TooLong line) e = cc
unread_cause Memory e = cc

pub unread_reads : (end : ReadEnd) (before now : ℕ) → (end ≡ Failed → Rose before now) → before ≤ now → now ≡ faults_after {Z = ℕ} before (Err end) → HasReadFault (ending_at end) before now
unread_reads end before now rose later is = record { later = later; failed = λ e. rose (unread_cause end e); kept = of end is }
  where
    of : (end : ReadEnd) → now ≡ faults_after {Z = ℕ} before (Err end) → ending_at end ≢ ReadFault → now ≡ before
    of Failed is other = absurd (other refl)
    of (TooLong line) is other = is
    of Memory is other = is

-- a check is never refused
found_answers : (q : Query) (found : Finding) → status_of (found_report q found).ending ≢ Usage
found_answers q Valid e = cc
found_answers q (BadBlock index) e = cc
found_answers q (BadPair x y count) e = cc

text_answers : (q : Query) (shape : Shape) (text : BlockText) → status_of (text_report q shape text).ending ≢ Usage
text_answers q shape (bad_line place) e = cc
text_answers q shape (blocks lines) e = found_answers q (lines_finding q shape lines) e

pub check_answers : (q : Query) (shape : Shape) (text : List ℕ) → status_of (check_report q shape text).ending ≢ Usage
check_answers q shape text = of (nat_le (length text) INPUT_MAX)
  where
    of : (short : Bool) → status_of (if short then text_report q shape (block_text text) else silent (BadInput (line_at text INPUT_MAX))).ending ≢ Usage
    of true e = text_answers q shape (block_text text) e
    of false e = cc
