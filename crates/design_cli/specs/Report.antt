-- What the program answers: the lines on the output, and how the run ends.
use Rattle.std.specs.Prelude.{ℕ, Bool, true, false, ◌||◌, List, [], ◌∷◌, drop, get_or, if◌then◌else◌, map, None, Option, Result, Ok, Err, String, string_bytes}
use Rattle.block_texts.specs.BlockText.{BlockText, blocks, bad_line, block_text}
use Rattle.catalogues.specs.declared.catalogue.Entry.{Entry}
use Rattle.design_answers.specs.Requests.{asked_for, asks_catalogues, lists_after, request_report, workload_report}
use Rattle.design_base.specs.declared.query.Query.{Query}
use Rattle.design_io.specs.InputLines.{InputLine, content_of, lines_of}
use Rattle.design_lines.specs.CommandLines.{parse, parse_in_batch}
use Rattle.design_lines.specs.declared.command.Command.{Command}
use Rattle.design_lines.specs.declared.command.Command.TheVariants.{Batch, Check, On, Replay, Table, Workload}
use Rattle.design_lines.specs.declared.command.Reason.{Reason}
use Rattle.design_lines.specs.declared.command.Shape.{Shape}
use Rattle.design_reports.specs.Reports.{Report, found_report, silent}
use Rattle.design_reports.specs.declared.ending.Ending.TheVariants.{Refused, BadInput, NotBuilt}
use Rattle.design_cli.specs.Batches.{batch_report, handed_on, line_asks}
use Rattle.design_cli.specs.LineFindings.{lines_finding}
use Rattle.design_cli.specs.Replays.{replay_report}
use Rattle.design_cli.specs.WholeInputs.{whole_report}

-- the lines of a text checked in the shape that is asked for
abbrev pub text_report : Query → Shape → BlockText → Report
text_report q shape (blocks lines) = found_report q (lines_finding q shape lines)
text_report q shape (bad_line place) = silent (BadInput place)

-- the answer to `check`
abbrev pub check_report : Query → Shape → List ℕ → Report
check_report q shape input = whole_report (λ text. text_report q shape (block_text text)) input

-- the answer to a command, where the input is this text, and the catalogues hold the first of `lists` before it, or before each line of a batch one of them
abbrev pub command_report : Result Command Reason → List ℕ → List (List (List Entry)) → Report
command_report (Err reason) input lists = silent (Refused reason)
command_report (Ok (On request)) input lists = request_report request (get_or lists 0 [])
command_report (Ok (Check asked)) input lists = check_report asked.query asked.shape input
command_report (Ok Replay) input lists = replay_report input
command_report (Ok Batch) input lists = batch_report input lists
command_report (Ok (Workload n)) input lists = workload_report n
command_report (Ok (Table ask workers)) input lists = silent NotBuilt

-- A batch is many answers, and any other command is one.
abbrev pub is_batch : Result Command Reason → Bool
is_batch (Ok Batch) = true
is_batch command = false

-- what is said of a batch, and what of any other command
abbrev pub OfBatch : Bool → Type 0 → Type 0 → Type 0
OfBatch true A B = A
OfBatch false A B = B

-- whether a command other than a batch asks the catalogues
abbrev pub asks_alone : Result Command Reason → Bool
asks_alone (Ok (On request)) = asks_catalogues request
asks_alone command = false

-- how many of them, where it asks some
abbrev pub asked_alone : Result Command Reason → List (List Entry) → Option ℕ
asked_alone (Ok (On request)) lists = asked_for request lists
asked_alone command lists = None

-- what they hold behind it
abbrev pub left_alone : Result Command Reason → List (List Entry) → List (List Entry)
left_alone (Ok (On request)) lists = lists_after request lists
left_alone command lists = lists

-- what the catalogues hold before and after the answer, or before each line of a batch and after the last, where it is handed on
abbrev pub command_lists : Result Command Reason → List ℕ → List (List Entry) → List (List (List Entry))
command_lists command input lists = if is_batch command then handed_on lists (lines_of input) else lists ∷ left_alone command lists ∷ []

-- whether the answer to the first of the lines asks the catalogues
abbrev pub first_asks : List InputLine → Bool
first_asks [] = false
first_asks (line ∷ lines) = line_asks (parse_in_batch (content_of line))

-- whether the answer to the command asks them, or of a batch that to the line behind the first `count`
abbrev pub asks_offers : Result Command Reason → List ℕ → ℕ → Bool
asks_offers command input count = if is_batch command then first_asks (drop count (lines_of input)) else asks_alone command

-- whether it may ask them, whatever the input is
abbrev pub may_ask : Result Command Reason → Bool
may_ask command = is_batch command || asks_alone command

-- the command of the words
abbrev pub command_of : {A : Type 0} → List (String A) → Result Command Reason
command_of words = parse (map string_bytes words)
