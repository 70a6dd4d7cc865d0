-- The answer to `batch`: the answers to the lines of the input, one after another. Before each line the catalogues hold one of `lists`.
use Rattle.std.specs.Prelude.{◌≡◌, ◌≢◌, ◌≤◌, ℕ, ◌+◌, ◌-◌, Bool, false, List, [], ◌∷◌, ◌++◌, drop, get_or, take, Option, Some, None, Result, Ok, Err, if◌then◌else◌, ⊤}
use Rattle.std.specs.List.{flat_map}
use Rattle.std.specs.Io.KnownBytes.{Appends, Keeps}
use Rattle.catalogues.specs.Consulted.{AreHeld, AreTold}
use Rattle.catalogues.specs.Entries.{Seen}
use Rattle.design_answers.specs.Answered.{AsksBy}
use Rattle.catalogues.specs.declared.catalogue.Entry.{Entry}
use Rattle.design_answers.specs.Requests.{asked_for, asks_catalogues, lists_after, request_report}
use Rattle.design_base.specs.declared.limits.TheConstants.{INPUT_MAX}
use Rattle.design_io.specs.Faults.{Rose}
use Rattle.design_io.specs.Inputs.{IsInput}
use Rattle.design_io.specs.InputLines.{InputLine, content_of, feeds_in, fits, lines_of, size_of}
use Rattle.design_io.specs.Pieces.{AppendsPart}
use Rattle.design_lines.specs.CommandLines.{parse_in_batch}
use Rattle.design_lines.specs.declared.command.Request.{Request}
use Rattle.design_lines.specs.declared.command.Reason.{Reason}
use Rattle.design_reports.specs.Endings.{message_of}
use Rattle.design_reports.specs.Reports.{Report, output, silent}
use Rattle.design_reports.specs.declared.ending.Ending.{Ending}
use Rattle.design_reports.specs.declared.ending.Ending.TheVariants.{Yes, Refused, BadInput, CatalogueFault, NoMemory, WriteFault}
use Rattle.design_cli.specs.declared.batching.Stop.{Stop}
use Rattle.design_cli.specs.declared.batching.Stop.TheVariants.{Catalogue, Memory, Write}

-- the report on a line, by what is read of it; a line without a word has nothing to answer
abbrev pub line_report : Result (Option Request) Reason → List (List Entry) → Report
line_report (Err reason) lists = silent (Refused reason)
line_report (Ok None) lists = silent Yes
line_report (Ok (Some request)) lists = request_report request lists

-- what is written of a report in a batch: why a line is refused stands on the output
abbrev pub written : Report → List ℕ
written report = output report ++ message_of report.ending

-- the answer to a line
unfoldable pub line_answer : List (List Entry) → List ℕ → List ℕ
line_answer lists line = written (line_report (parse_in_batch line) lists)

-- what the catalogues hold behind a line, by what is read of it
abbrev pub left_after : Result (Option Request) Reason → List (List Entry) → List (List Entry)
left_after (Err reason) lists = lists
left_after (Ok None) lists = lists
left_after (Ok (Some request)) lists = lists_after request lists

unfoldable pub lists_behind : List ℕ → List (List Entry) → List (List Entry)
lists_behind line lists = left_after (parse_in_batch line) lists

-- whether a line asks the catalogues
abbrev pub line_asks : Result (Option Request) Reason → Bool
line_asks (Err reason) = false
line_asks (Ok None) = false
line_asks (Ok (Some request)) = asks_catalogues request

-- how many catalogues the answer to a line asks, where it asks some, by what is read of it
abbrev pub asked_by_line : Result (Option Request) Reason → List (List Entry) → Option ℕ
asked_by_line (Err reason) lists = None
asked_by_line (Ok None) lists = None
asked_by_line (Ok (Some request)) lists = asked_for request lists

unfoldable pub line_asked : List ℕ → List (List Entry) → Option ℕ
line_asked line lists = asked_by_line (parse_in_batch line) lists

-- an answer in front of those of a report
abbrev pub in_front : List ℕ → Report → Report
in_front answer report = record { lines = answer ∷ report.lines; ending = report.ending }

-- The answers to the lines from this place on, where the input may have so many bytes more. A line that is too long ends them.
unfoldable pub batch_from : ℕ → ℕ → List (List (List Entry)) → List InputLine → Report
batch_from place room lists [] = silent Yes
batch_from place room lists (line ∷ lines) =
    if fits room line then in_front (line_answer (get_or lists 0 []) (content_of line)) (batch_from (place + 1) (room - size_of line) (drop 1 lists) lines) else silent (BadInput place)

-- the answer to `batch`: an answer for each line of the input
unfoldable pub batch_report : List ℕ → List (List (List Entry)) → Report
batch_report input lists = batch_from 1 INPUT_MAX lists (lines_of input)

-- what the catalogues hold before each of the lines and behind the last, where they are handed from line to line
unfoldable pub handed_on : List (List Entry) → List InputLine → List (List (List Entry))
handed_on lists [] = lists ∷ []
handed_on lists (line ∷ lines) = lists ∷ handed_on (lists_behind (content_of line) lists) lines

-- the catalogues were asked for each of these lines in turn, and hold the lists before them
unfoldable pub AsksEach : List InputLine → List (List (List Entry)) → List Seen → List Seen → Type 0
AsksEach [] lists old new = new ≡ old
AsksEach (line ∷ lines) lists old new = (mid : List Seen) × AsksBy Yes (line_asked (content_of line) (get_or lists 0 [])) old mid × AsksEach lines (drop 1 lists) mid new

-- The answers to the first lines stand, and nothing of those behind them.
abbrev pub AppendsFirst : ℕ → Option (List ℕ) → Option (List ℕ) → List (List ℕ) → Type 0
AppendsFirst count old new answers = Appends old new (flat_map (λ answer. answer) (take count answers))

-- These are the answers to the whole lines among the bytes that were taken of a text, where `after` is what the input still has.
pub record AreTaken (text : List ℕ) (after : Option (List ℕ)) (count : ℕ) : Type 0 where
  pub taken : List ℕ
  pub rest : List ℕ
  pub is_text : text ≡ taken ++ rest
  pub is_left : IsInput after rest
  pub lines : count ≡ feeds_in taken

-- what a line of a batch left on the output
abbrev pub EndsLine : List ℕ → Result (Unit {0}) Stop → Option (List ℕ) → Option (List ℕ) → Type 0
EndsLine answer (Ok done) old new = Appends old new answer
EndsLine answer (Err Memory) old new = Keeps old new
EndsLine answer (Err (Catalogue number)) old new = Keeps old new
EndsLine answer (Err Write) old new = AppendsPart old new answer

-- how the answer to it ended
abbrev pub ending_at : Result (Unit {0}) Stop → Ending
ending_at (Ok done) = Yes
ending_at (Err Memory) = NoMemory
ending_at (Err (Catalogue number)) = CatalogueFault number
ending_at (Err Write) = WriteFault

-- and what it left of the catalogues
abbrev pub LeavesLine : Result (Unit {0}) Stop → List Seen → List (List Entry) → Type 0
LeavesLine (Ok done) new lists = AreTold new lists
LeavesLine (Err Memory) new lists = ⊤
LeavesLine (Err (Catalogue number)) new lists = ⊤
LeavesLine (Err Write) new lists = AreTold new lists

-- There are entries, those that the catalogues tell where they do, and the answer to the line on them stands. Where all of them tell, so they do behind it.
pub record AnswersLine (line : List ℕ) (old new : List Seen) (result : Result (Unit {0}) Stop) (held now : Option (List ℕ)) : Type 0 where
  pub lists : List (List Entry)
  pub are_held : AreHeld old lists
  pub ends : EndsLine (line_answer lists line) result held now
  pub leaves : AreTold old lists → LeavesLine result new (lists_behind line lists)
  pub asked : AsksBy (ending_at result) (line_asked line lists) old new

-- The count of the output's faults never falls, the output failed where the batch stops for it, and else the count stays.
pub record StopsWith (result : Result (Unit {0}) Stop) (before now : ℕ) : Type 0 where
  pub later : before ≤ now
  pub failed : result ≡ Err Write → Rose before now
  pub kept : result ≢ Err Write → now ≡ before
