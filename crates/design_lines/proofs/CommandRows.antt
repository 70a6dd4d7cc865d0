-- What the table of commands says of each.
use Rattle.std.proofs.Common.{◌≡◌, true, false, Ok, Some, refl}
use Rattle.design_lines.specs.Keywords.{asks_rules, keyword_of_verb, may_ask, reads_input, row_of, verb_of}
use Rattle.design_lines.specs.declared.command.Command.TheVariants.{On, Batch as BatchCommand, Check as CheckCommand, Replay as ReplayCommand}
use Rattle.design_lines.specs.declared.command.Asked.{Asked}
use Rattle.design_lines.specs.declared.command.Request.{Request}
use Rattle.design_lines.specs.declared.command.Verb.{Verb}
use Rattle.design_lines.specs.declared.command.Verb.TheVariants.{Ask as AskVerb, Build as BuildVerb, Explain as ExplainVerb, Closure as ClosureVerb}
use Rattle.design_lines.specs.declared.keywords.Keyword.{Keyword}
use Rattle.design_lines.specs.declared.keywords.Keyword.TheVariants.{Ask, Build, Explain, Closure, Check, Replay, Batch, Workload, Table}

-- each keyword stands in its row
pub stands : (keyword : Keyword) → (row_of keyword).0 ≡ keyword
stands Ask = refl
stands Build = refl
stands Explain = refl
stands Closure = refl
stands Check = refl
stands Replay = refl
stands Batch = refl
stands Workload = refl
stands Table = refl

pub verb_back : (verb : Verb) → verb_of (keyword_of_verb verb) ≡ Some verb
verb_back AskVerb = refl
verb_back BuildVerb = refl
verb_back ExplainVerb = refl
verb_back ClosureVerb = refl

-- a request asks the rules and leaves the input unread
pub request_asks : (request : Request) → asks_rules (Ok (On request)) ≡ true
request_asks request = of request.verb
  where
    of : (verb : Verb) → (row_of (keyword_of_verb verb)).3 ≡ true
    of AskVerb = refl
    of BuildVerb = refl
    of ExplainVerb = refl
    of ClosureVerb = refl

pub request_unread : (request : Request) → reads_input (Ok (On request)) ≡ false
request_unread request = of request.verb
  where
    of : (verb : Verb) → (row_of (keyword_of_verb verb)).2 ≡ false
    of AskVerb = refl
    of BuildVerb = refl
    of ExplainVerb = refl
    of ClosureVerb = refl

-- a check, a replay and a batch read it; of these a batch alone asks the rules and may ask catalogues
check_reads : (asked : Asked) → (reads_input (Ok (CheckCommand asked)) ≡ true) × (asks_rules (Ok (CheckCommand asked)) ≡ false) × (may_ask (Ok (CheckCommand asked)) ≡ false)
check_reads asked = (refl, refl, refl)

replay_reads : (reads_input (Ok ReplayCommand) ≡ true) × (asks_rules (Ok ReplayCommand) ≡ false) × (may_ask (Ok ReplayCommand) ≡ false)
replay_reads = (refl, refl, refl)

batch_reads : (reads_input (Ok BatchCommand) ≡ true) × (asks_rules (Ok BatchCommand) ≡ true) × (may_ask (Ok BatchCommand) ≡ true)
batch_reads = (refl, refl, refl)
