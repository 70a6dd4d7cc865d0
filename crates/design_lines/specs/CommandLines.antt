-- The grammar of the command lines.
use Rattle.std.specs.Prelude.{ℕ, ◌/◌, ◌≡◌, Bool, true, ⊤, ◌&&◌, if◌then◌else◌, List, [], ◌∷◌, codes, map, Option, Some, None, option_map, Result, Ok, Err}
use Rattle.std.specs.List.{flat_map}
use Rattle.counting.specs.Search.{◌<=◌}
use Rattle.design_base.specs.declared.query.TableAsk.{TableAsk}
use Rattle.design_base.specs.declared.query.TableAsk.TheVariants.{Td as TdTable, Bibd as BibdTable, Gdd as GddTable}
use Rattle.design_base.specs.declared.limits.TheConstants.{TD_K_MAX, TD_N_MAX, POINTS_MAX, COVER_MAX, GDD_K_MAX, WORKERS_MAX, WORKLOAD_MAX}
use Rattle.design_base.specs.Limits.{in_bounds, within}
use Rattle.design_lines.specs.declared.command.Reason.{Reason}
use Rattle.design_lines.specs.declared.command.Reason.TheVariants.{OutOfBounds}
use Rattle.design_lines.specs.declared.command.Verb.{Verb}
use Rattle.design_lines.specs.declared.command.Verb.TheVariants.{Ask, Build, Explain, Closure}
use Rattle.design_lines.specs.declared.command.Request.{Request}
use Rattle.design_lines.specs.declared.command.Command.{Command}
use Rattle.design_lines.specs.declared.command.Command.TheVariants.{On, Check, Replay, Batch, Table, Workload}
use Rattle.design_lines.specs.declared.keywords.Keyword.{Keyword}
use Rattle.design_lines.specs.declared.keywords.Keyword.TheVariants.{Ask as AskWord, Build as BuildWord, Explain as ExplainWord, Closure as ClosureWord, Check as CheckWord, Replay as ReplayWord, Batch as BatchWord, Workload as WorkloadWord, Table as TableWord}
use Rattle.design_lines.specs.Grammar.{question}
use Rattle.design_lines.specs.Keywords.{spellings, verb_of}
use Rattle.design_lines.specs.Reading.{Entry, Reader, gives, ◌then◌, number, pair, ◌means◌, one_of, one_of_or, at_end, whole}
use Rattle.design_lines.specs.Words.{words_of}

-- both ends of a range lie within the limits, the first not above the second
abbrev pub is_range : ℕ → ℕ → ℕ → ℕ → Bool
is_range low high first last = low <= first && first <= last && last <= high

-- the ranges of a table lie within the limits of their letters; at least two groups share the points
abbrev pub table_in_bounds : TableAsk → Bool
table_in_bounds (TdTable k1 k2 n1 n2) = is_range 2 TD_K_MAX k1 k2 && is_range 1 TD_N_MAX n1 n2
table_in_bounds (BibdTable k1 k2 v1 v2 l) = is_range 2 POINTS_MAX k1 k2 && is_range 2 POINTS_MAX v1 v2 && within 1 COVER_MAX l
table_in_bounds (GddTable k g1 g2 u1 u2) = within 2 GDD_K_MAX k && is_range 1 (POINTS_MAX / 2) g1 g2 && is_range 2 POINTS_MAX u1 u2

-- the table, where its ranges and the number of workers lie within the limits
unfoldable pub table : TableAsk → ℕ → Option Command
table ask workers = if table_in_bounds ask && within 1 WORKERS_MAX workers then Some (Table ask workers) else None

-- how many workers: ` workers w` at the end of the line, or one
unfoldable pub workers : Reader ℕ
workers = one_of_or ((codes "workers" means number) ∷ []) (at_end 1)

unfoldable pub tables : List (Entry (Option Command))
tables =
    (codes "td" means pair then λ k. pair then λ n. workers then λ w. gives (table (TdTable k.0 k.1 n.0 n.1) w))
    ∷ (codes "bibd" means pair then λ k. pair then λ v. number then λ l. workers then λ w. gives (table (BibdTable k.0 k.1 v.0 v.1 l) w))
    ∷ (codes "gdd" means number then λ k. pair then λ g. pair then λ u. workers then λ w. gives (table (GddTable k g.0 g.1 u.0 u.1) w))
    ∷ []

-- so many questions, where there are not too many
unfoldable pub workload : ℕ → Option Command
workload n = if within 1 WORKLOAD_MAX n then Some (Workload n) else None

-- the verb on a question; nothing where the question is out of bounds
abbrev pub on : Verb → Reader (Option Request)
on verb = question then λ asked. gives (option_map (λ a. record { verb = verb; query = a.query; shape = a.shape }) asked)

-- what stands behind the keyword of a command; nothing where its numbers break the limits
abbrev pub arguments : Keyword → Reader (Option Command)
arguments AskWord = on Ask then λ request. gives (option_map On request)
arguments BuildWord = on Build then λ request. gives (option_map On request)
arguments ExplainWord = on Explain then λ request. gives (option_map On request)
arguments ClosureWord = on Closure then λ request. gives (option_map On request)
arguments CheckWord = question then λ asked. gives (option_map Check asked)
arguments ReplayWord = gives (Some Replay)
arguments BatchWord = gives (Some Batch)
arguments WorkloadWord = number then λ n. gives (workload n)
arguments TableWord = one_of tables

-- keywords as they are spelled
abbrev pub keyword_entry : Keyword × List ℕ → Entry Keyword
keyword_entry row = row.1 means gives row.0

unfoldable pub keywords : List (Keyword × List ℕ) → List (Entry Keyword)
keywords rows = map keyword_entry rows

-- a line
abbrev pub line : Reader (Option Command)
line = one_of (keywords spellings) then arguments

-- those that may stand in a batch, as verbs on a question
abbrev pub verb_entry : List ℕ → Option Verb → List (Entry Verb)
verb_entry spelled None = []
verb_entry spelled (Some verb) = (spelled means gives verb) ∷ []

unfoldable pub verbs : List (Keyword × List ℕ) → List (Entry Verb)
verbs rows = flat_map (λ row. verb_entry row.1 (verb_of row.0)) rows

-- a line of a batch
abbrev pub batch_line : Reader (Option Request)
batch_line = one_of (verbs spellings) then on

-- the value, where the numbers keep the limits
abbrev pub within_limits : {A : Type 0} → Result (Option A) Reason → Result A Reason
within_limits (Err reason) = Err reason
within_limits (Ok None) = Err OutOfBounds
within_limits (Ok (Some a)) = Ok a

-- the command of the words; or the reason of the first bad word, or that the numbers break the limits
unfoldable pub parse : List (List ℕ) → Result Command Reason
parse words = within_limits (whole line words)

-- what the command names is in bounds: its question, its table and the number of its workers, or its number of draws
abbrev pub IsInBounds : Command → Type 0
IsInBounds (On request) = in_bounds request.query ≡ true
IsInBounds (Check asked) = in_bounds asked.query ≡ true
IsInBounds (Table ask workers) = (table_in_bounds ask ≡ true) × (within 1 WORKERS_MAX workers ≡ true)
IsInBounds (Workload n) = within 1 WORKLOAD_MAX n ≡ true
IsInBounds command = ⊤

abbrev pub as_some : {A : Type 0} → Result A Reason → Result (Option A) Reason
as_some (Err reason) = Err reason
as_some (Ok a) = Ok (Some a)

-- the request of the words of a line of a batch; nothing where there is no word
abbrev pub batch_request : List (List ℕ) → Result (Option Request) Reason
batch_request [] = Ok None
batch_request (word ∷ words) = as_some (within_limits (whole batch_line (word ∷ words)))

-- the request of a line of a batch
unfoldable pub parse_in_batch : List ℕ → Result (Option Request) Reason
parse_in_batch line = batch_request (words_of line)
