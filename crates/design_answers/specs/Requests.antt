-- What the program answers to a request: the verdict on a question, and what is said of it; and to `workload`.
-- The catalogues that are asked for open questions hold the entries `lists`, one list each.
use Rattle.std.specs.Prelude.{ℕ, ◌≡◌, Bool, true, false, ◌&&◌, ◌||◌, List, [], ◌∷◌, ◌++◌, codes, length, None, Option, Some, Result, Ok, Err}
use Rattle.catalogues.specs.Consulted.{consulted}
use Rattle.catalogues.specs.Consults.{count_asked}
use Rattle.catalogues.specs.Entries.{Seen}
use Rattle.catalogues.specs.declared.catalogue.Entry.{Entry}
use Rattle.criteria.specs.Criteria.{numbers_of}
use Rattle.derivation_text.specs.Text.{derivation_lines}
use Rattle.derivations.specs.Derivations.{derivation, replayed}
use Rattle.derivations.specs.declared.line.Line.{Line}
use Rattle.design_base.specs.declared.query.Query.{Query}
use Rattle.design_base.specs.declared.verdict.Verdict.{Verdict}
use Rattle.design_base.specs.declared.verdict.Verdict.TheVariants.{Yes as YesVerdict, No as NoVerdict, Unknown as UnknownVerdict}
use Rattle.design_lines.specs.Printed.{counted_line}
use Rattle.design_lines.specs.Keywords.{may_ask, takes_room}
use Rattle.design_lines.specs.declared.command.Command.TheVariants.{On}
use Rattle.design_lines.specs.declared.command.Request.{Request}
use Rattle.design_lines.specs.declared.command.Shape.{Shape}
use Rattle.design_lines.specs.declared.command.Verb.{Verb}
use Rattle.design_lines.specs.declared.command.Verb.TheVariants.{Ask, Build, Closure, Explain}
use Rattle.design_reports.specs.Endings.{status_of}
use Rattle.design_reports.specs.Parts.{part_lines, part_of}
use Rattle.design_reports.specs.Reports.{Report, verdict_report}
use Rattle.design_reports.specs.Texts.{because_lines}
use Rattle.design_reports.specs.declared.ending.Ending.TheVariants.{Yes as YesEnding}
use Rattle.design_reports.specs.declared.status.Status.TheVariants.{Usage}
use Rattle.rule_table.specs.Closure.{closure}
use Rattle.rule_table.specs.Verdicts.{is_yes, verdict}
use Rattle.design_answers.specs.Draws.{drawn, drawn_cells, is_no, is_unknown}
use Rattle.design_answers.specs.Offers.{consulted_report, handed_report}

-- why the verdict is so: for yes its derivation, for no the two numbers of the criterion
abbrev pub reason_lines : Query → Verdict → List (List ℕ)
reason_lines q (YesVerdict step) = derivation_lines (derivation q)
reason_lines q (NoVerdict criterion) = because_lines (numbers_of q)
reason_lines q UnknownVerdict = []

-- a derivation, and the blocks that it gives in the shape that is asked for
abbrev pub built_lines : Query → Shape → List Line → List (List ℕ) → List (List ℕ)
built_lines q shape D B = derivation_lines D ++ part_lines (part_of q shape B)

-- for yes the derivation by the table of rules, and its blocks
abbrev pub design_lines : Query → Shape → Verdict → List (List ℕ)
design_lines q shape (YesVerdict step) = built_lines q shape (derivation q) (replayed (derivation q))
design_lines q shape (NoVerdict criterion) = []
design_lines q shape UnknownVerdict = []

-- how many questions the verdict rests on, itself among them
abbrev pub closure_lines : Query → List (List ℕ)
closure_lines q = counted_line (codes "closure") (length (closure q)) ∷ []

-- how many of the first n draws have which verdict, and how many different questions their closures have
abbrev pub workload_lines : ℕ → List (List ℕ)
workload_lines n =
    counted_line (codes "workload") n
    ∷ counted_line (codes "yes") (drawn is_yes n)
    ∷ counted_line (codes "no") (drawn is_no n)
    ∷ counted_line (codes "unknown") (drawn is_unknown n)
    ∷ counted_line (codes "cells") (drawn_cells n)
    ∷ []

abbrev pub workload_report : ℕ → Report
workload_report n = record { lines = workload_lines n; ending = YesEnding }

-- The answer to `ask`: the verdict, and for an open question what the catalogues offer.
abbrev pub ask_report : Query → Verdict → List (List Entry) → Report
ask_report q (YesVerdict step) lists = verdict_report q (YesVerdict step) []
ask_report q (NoVerdict criterion) lists = verdict_report q (NoVerdict criterion) []
ask_report q UnknownVerdict lists = consulted_report q lists

-- The answer to `build`: the verdict, for yes its derivation and its blocks, and for an open question what the catalogues offer.
abbrev pub build_report : Query → Shape → Verdict → List (List Entry) → Report
build_report q shape (YesVerdict step) lists = verdict_report q (YesVerdict step) (design_lines q shape (YesVerdict step))
build_report q shape (NoVerdict criterion) lists = verdict_report q (NoVerdict criterion) []
build_report q shape UnknownVerdict lists = handed_report q shape lists

-- The answer to a verb on a question: the verdict, and for `explain` why it is so, for `build` the design, for `closure` how many questions it rests on.
abbrev pub verb_report : Verb → Query → Shape → List (List Entry) → Report
verb_report Ask q shape lists = ask_report q (verdict q) lists
verb_report Explain q shape lists = verdict_report q (verdict q) (reason_lines q (verdict q))
verb_report Build q shape lists = build_report q shape (verdict q) lists
verb_report Closure q shape lists = verdict_report q (verdict q) (closure_lines q)

abbrev pub request_report : Request → List (List Entry) → Report
request_report request lists = verb_report request.verb request.query request.shape lists

-- whether the catalogues are asked: where a verb that may ask them has a question that the table of rules leaves open
abbrev pub asks_catalogues : Request → Bool
asks_catalogues request = may_ask (Ok (On request)) && is_unknown (verdict request.query)

-- the entries afterwards: what was offered is taken out, and empty catalogues are dropped
abbrev pub left_by : Query → Verdict → List (List Entry) → List (List Entry)
left_by q (YesVerdict step) lists = lists
left_by q (NoVerdict criterion) lists = lists
left_by q UnknownVerdict lists = (consulted q lists).lists

abbrev pub verb_leaves : Verb → Query → List (List Entry) → List (List Entry)
verb_leaves Ask q lists = left_by q (verdict q) lists
verb_leaves Build q lists = left_by q (verdict q) lists
verb_leaves verb q lists = lists

abbrev pub lists_after : Request → List (List Entry) → List (List Entry)
lists_after request lists = verb_leaves request.verb request.query lists

-- how many catalogues are asked, where some are: all, or those up to a design
abbrev pub asked_by : Query → Verdict → List (List Entry) → Option ℕ
asked_by q (YesVerdict step) lists = None
asked_by q (NoVerdict criterion) lists = None
asked_by q UnknownVerdict lists = Some (count_asked (length lists) (consulted q lists).valid)

abbrev pub verb_asks : Verb → Query → List (List Entry) → Option ℕ
verb_asks Ask q lists = asked_by q (verdict q) lists
verb_asks Build q lists = asked_by q (verdict q) lists
verb_asks verb q lists = None

abbrev pub asked_for : Request → List (List Entry) → Option ℕ
asked_for request lists = verb_asks request.verb request.query lists

-- whether the answer takes memory, by what is seen of the catalogues
abbrev pub asks_some : Bool → List Seen → Bool
asks_some asks [] = false
asks_some asks (s ∷ seen) = asks

abbrev pub takes_memory : Request → List Seen → Bool
takes_memory request seen = takes_room (Ok (On request)) || asks_some (asks_catalogues request) seen

-- the words are refused
abbrev pub IsRefused : Report → Type 0
IsRefused report = status_of report.ending ≡ Usage
