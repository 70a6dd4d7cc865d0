-- What each command is, as the one table of commands says.
use Rattle.std.specs.Prelude.{ℕ, Bool, false, get_or, List, [], map, Option, Some, None, Result, Ok, Err}
use Rattle.design_lines.specs.declared.command.Command.{Command}
use Rattle.design_lines.specs.declared.command.Command.TheVariants.{On, Check as CheckCommand, Replay as ReplayCommand, Batch as BatchCommand, Workload as WorkloadCommand, Table as TableCommand}
use Rattle.design_lines.specs.declared.command.Reason.{Reason}
use Rattle.design_lines.specs.declared.command.Verb.{Verb}
use Rattle.design_lines.specs.declared.command.Verb.TheVariants.{Ask as AskVerb, Build as BuildVerb, Explain as ExplainVerb, Closure as ClosureVerb}
use Rattle.design_lines.specs.declared.keywords.Keyword.{Keyword}
use Rattle.design_lines.specs.declared.keywords.Keyword.TheVariants.{Ask, Build, Explain, Closure, Check, Replay, Batch, Workload, Table}
use Rattle.design_lines.specs.declared.keywords.TheConstants.{COMMANDS}
use Rattle.design_lines.specs.contracts.keywords.Keyword.{enum}
use denote.Enum.Declared.{declared, tag_of}

-- a row of the table of commands
abbrev pub Row : Type 0
Row = Keyword × record { now : List ℕ } × Bool × Bool × Bool × Bool

-- the verb on a question that a keyword is
abbrev pub verb_of : Keyword → Option Verb
verb_of Ask = Some AskVerb
verb_of Build = Some BuildVerb
verb_of Explain = Some ExplainVerb
verb_of Closure = Some ClosureVerb
verb_of keyword = None

-- the keyword of a verb, and of a command
abbrev pub keyword_of_verb : Verb → Keyword
keyword_of_verb AskVerb = Ask
keyword_of_verb BuildVerb = Build
keyword_of_verb ExplainVerb = Explain
keyword_of_verb ClosureVerb = Closure

abbrev pub keyword_of : Command → Keyword
keyword_of (On request) = keyword_of_verb request.verb
keyword_of (CheckCommand asked) = Check
keyword_of ReplayCommand = Replay
keyword_of BatchCommand = Batch
keyword_of (WorkloadCommand n) = Workload
keyword_of (TableCommand ask workers) = Table

-- where no row is
abbrev no_row : Row
no_row = (Table, record { now = [] }, false, false, false, false)

-- the row of a keyword; a sample shows that it stands in it
abbrev pub row_of : Keyword → Row
row_of Ask = get_or COMMANDS.now (tag_of (declared enum) Ask) no_row
row_of keyword = get_or COMMANDS.now (tag_of (declared enum) keyword) no_row

-- the keywords as they are spelled
abbrev pub spellings : List (Keyword × List ℕ)
spellings = map (λ row. (row.0, row.1.now)) COMMANDS.now

-- whether its answer reads the input, asks the table of rules, may ask catalogues, and takes memory where no catalogue is asked; no answer to a line that
-- is refused does
abbrev pub of_command : (Row → Bool) → Result Command Reason → Bool
of_command column (Err reason) = false
of_command column (Ok command) = column (row_of (keyword_of command))

abbrev pub reads_input : Result Command Reason → Bool
reads_input command = of_command (λ row. row.2) command

abbrev pub asks_rules : Result Command Reason → Bool
asks_rules command = of_command (λ row. row.3) command

abbrev pub may_ask : Result Command Reason → Bool
may_ask command = of_command (λ row. row.4) command

abbrev pub takes_room : Result Command Reason → Bool
takes_room command = of_command (λ row. row.5) command
