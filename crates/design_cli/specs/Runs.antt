-- How a run ends, against the report on its input.
use Rattle.std.specs.Prelude.{◌≡◌, ◌≢◌, ◌↔◌, ℕ, ◌+◌, Bool, true, false, List, [], ◌∷◌, drop, get_or, if◌then◌else◌, length, take, None, Option, Result, ⊤}
use Rattle.std.specs.Io.KnownBytes.{Keeps}
use Rattle.catalogues.specs.Consulted.{AreHeld, AreTold}
use Rattle.catalogues.specs.Entries.{Seen}
use Rattle.catalogues.specs.Left.{AreLeft}
use Rattle.catalogues.specs.declared.catalogue.Entry.{Entry}
use Rattle.design_io.specs.Inputs.{IsInput}
use Rattle.design_io.specs.Pieces.{AppendsPart}
use Rattle.design_lines.specs.declared.command.Command.{Command}
use Rattle.design_lines.specs.declared.command.Reason.{Reason}
use Rattle.design_reports.specs.Answers.{EndsCut, EndsWith}
use Rattle.design_reports.specs.Endings.{message_of, status_of}
use Rattle.design_reports.specs.Reports.{Report}
use Rattle.design_reports.specs.declared.ending.Ending.{Ending}
use Rattle.design_reports.specs.declared.ending.Ending.TheVariants.{CatalogueFault, NoMemory, ReadFault, WriteFault}
use Rattle.design_reports.specs.declared.status.Status.{Status}
use Rattle.design_reports.specs.declared.status.Status.TheVariants.{Usage}
use Rattle.design_answers.specs.Requests.{IsRefused}
use Rattle.design_answers.specs.Answered.{AsksBy, LeavesTold}
use Rattle.design_io.specs.InputLines.{InputLine, content_of, lines_of}
use Rattle.design_cli.specs.Batches.{AppendsFirst, AreTaken, AsksEach, line_asked}
use Rattle.design_cli.specs.Report.{OfBatch, asked_alone, asks_offers, command_lists, command_report, is_batch}

-- What stands of a report where the answer to the command was cut, for want of memory, by a read or by an offer that failed: of a batch the
-- answers to its first lines. Of any other nothing, since all memory is taken, all input is read and all catalogues are asked before the first byte.
abbrev pub Stands : Result Command Reason → ℕ → Report → Option (List ℕ) → Option (List ℕ) → Type 0
Stands command count report old new = OfBatch (is_batch command) (AppendsFirst count old new report.lines) (Keeps old new)

-- How many lines of a batch were answered: after a read that failed those that were read whole, where `after` is what the input still has, and
-- else all of the report, unless it was cut. Any other command counts as one line.
abbrev pub IsLineCount : List ℕ → Option (List ℕ) → Report → Ending → ℕ → Type 0
IsLineCount text after report NoMemory count = ⊤
IsLineCount text after report (CatalogueFault number) count = ⊤
IsLineCount text after report WriteFault count = ⊤
IsLineCount text after report ReadFault count = AreTaken text after count
IsLineCount text after report ending count = count ≡ length report.lines

abbrev pub IsCount : Result Command Reason → List ℕ → Option (List ℕ) → Report → Ending → ℕ → Type 0
IsCount command text after report ending count = OfBatch (is_batch command) (IsLineCount text after report ending count) (count ≡ 1)

-- how the answer to a command ends
abbrev pub AnswerEnds : Result Command Reason → ℕ → Report → Ending → Option (List ℕ) → Option (List ℕ) → Type 0
AnswerEnds command count report ending old new = EndsCut (Stands command count report) report ending old new

-- There is a text, what the input has left where that is told, and the answer ends as the report on it says.
pub record EndsOn (left : Option (List ℕ)) (report : List ℕ → Report) (ending : Ending) (old new : Option (List ℕ)) : Type 0 where
  pub text : List ℕ
  pub is_input : IsInput left text
  pub ends : EndsWith (report text) ending old new

-- Where the output failed at a line of a batch, the answers to the lines before it stand whole, and of its own a proper prefix.
pub record BreaksAt (count : ℕ) (answers : List (List ℕ)) (held now : Option (List ℕ)) : Type 0 where
  pub before : ℕ
  pub next : count ≡ before + 1
  pub whole : Option (List ℕ)
  pub first : AppendsFirst before held whole answers
  pub part : AppendsPart whole now (get_or answers before [])

abbrev pub Breaks : Result Command Reason → ℕ → Report → Option (List ℕ) → Option (List ℕ) → Type 0
Breaks command count report held now = OfBatch (is_batch command) (BreaksAt count report.lines held now) (count ≡ 1)

-- whether a batch that ends so stopped at a line
abbrev pub stops : Ending → Bool
stops NoMemory = true
stops (CatalogueFault number) = true
stops WriteFault = true
stops ending = false

-- how many catalogues the answer to the first of these lines asks
abbrev pub next_asked : List InputLine → List (List Entry) → Option ℕ
next_asked [] lists = None
next_asked (line ∷ lines) lists = line_asked (content_of line) lists

-- how many lines of a batch were begun, of which so many were answered
abbrev pub begun_lines : Ending → ℕ → ℕ
begun_lines WriteFault answered = answered + 1
begun_lines ending answered = answered

-- How the catalogues were asked for the lines of a batch: for each of those that were answered, and then for the one at which it stopped.
pub record AsksLines (lines : List InputLine) (lists : List (List (List Entry))) (ending : Ending) (count : ℕ) (old new : List Seen) : Type 0 where
  pub answered : ℕ
  pub counts : count ≡ begun_lines ending answered
  pub between : List Seen
  pub each : AsksEach (take answered lines) lists old between
  pub last : AsksBy ending (if stops ending then next_asked (drop answered lines) (get_or lists answered []) else None) between new

-- There are a text, what the input has left where that is told, and entries, those that the catalogues tell where they do, and the answer ends as the report on
-- them says. Where all catalogues tell, the entries are those that each line hands on, and so they are afterwards. The catalogues were asked where the report says so
-- and as it says, told or not. So the answer `ended`, and so it ends, unless its last bytes could not be handed on; where it is written directly, a line stands
-- in part where the output failed.
pub record Answers (direct : Bool) (command : Result Command Reason) (left after : Option (List ℕ)) (old new : List Seen) (ending : Ending) (held now : Option (List ℕ)) : Type 0 where
  pub text : List ℕ
  pub is_input : IsInput left text
  pub lists : List (List (List Entry))
  pub are_held : AreHeld old (get_or lists 0 [])
  pub are_told : (told : List (List Entry)) → AreTold old told → lists ≡ command_lists command text told
  pub count : ℕ
  pub ends : AnswerEnds command count (command_report command text lists) ending held now
  pub is_count : IsCount command text after (command_report command text lists) ending count
  pub usage : (status_of ending ≡ Usage) ↔ IsRefused (command_report command text lists)
  pub ended : Ending
  pub is_ended : ending ≢ WriteFault → ended ≡ ending
  pub breaks : direct ≡ true → (ended ≡ ending) × (ending ≡ WriteFault → Breaks command count (command_report command text lists) held now)
  pub leaves : (told : List (List Entry)) → AreTold old told → LeavesTold ended new (get_or lists count [])
  pub asked : OfBatch (is_batch command) (AsksLines (lines_of text) lists ended count old new) (AsksBy ended (asked_alone command (get_or lists 0 [])) old new)
  pub failed : (number : ℕ) → ended ≡ CatalogueFault number → asks_offers command text count ≡ true
  pub are_left : AreLeft old new

-- the same of the status of a run, and of the line on the error output
pub record RunsOn (direct : Bool) (command : Result Command Reason) (left after : Option (List ℕ)) (old new : List Seen) (status : Status) (held now : Option (List ℕ)) (IsSaid : List ℕ → Type 0) : Type 0 where
  pub ending : Ending
  pub is_status : status ≡ status_of ending
  pub answers : Answers direct command left after old new ending held now
  pub message : IsSaid (message_of ending)
