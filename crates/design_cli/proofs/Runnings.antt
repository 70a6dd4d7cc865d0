-- How a run ends, by how its answer ended.
use Rattle.std.proofs.Common.{◌≡◌, ◌≢◌, ◌↔◌, ◌⊎◌, inl, inr, ℕ, Bool, List, [], ◌∷◌, Option, Some, None, Result, Ok, Err, true, false, refl, ap, subst, sym, ◌∙◌}
use Rattle.std.specs.Prelude.{drop, if◌then◌else◌, get_or, length, nat_le}
use Rattle.std.specs.Io.KnownBytes.{Keeps}
use Rattle.std.proofs.KnownBytes.{Appends-nil, Keeps-refl}
use Rattle.catalogues.proofs.Held.{held_told, some_held}
use Rattle.catalogues.proofs.Left.{left_refl}
use Rattle.catalogues.specs.Consulted.{AreHeld, AreTold, consulted}
use Rattle.catalogues.specs.Entries.{Seen}
use Rattle.catalogues.specs.declared.catalogue.Entry.{Entry}
use Rattle.design_answers.proofs.Offered.{IsNoFault, still_told, still_unasked}
use Rattle.design_answers.specs.Answered.{AnswersOn, AsksBy, HasOfferFault, LeavesTold}
use Rattle.design_answers.specs.Offers.{counted, ending_by}
use Rattle.design_answers.specs.Requests.{IsRefused, ask_report, asked_for, asks_catalogues, build_report, closure_lines, lists_after, reason_lines, request_report, verb_report, workload_report}
use Rattle.derivation_text.specs.Grammar.{parse_input}
use Rattle.derivations.specs.Derivations.{fault, last_question}
use Rattle.derivations.specs.declared.line.Fault.{Fault}
use Rattle.derivations.specs.declared.line.Line.{Line}
use Rattle.design_base.specs.declared.limits.TheConstants.{INPUT_MAX}
use Rattle.design_base.specs.declared.query.Query.{Query}
use Rattle.design_base.specs.declared.query.TableAsk.{TableAsk}
use Rattle.design_base.specs.declared.verdict.Verdict.{Verdict}
use Rattle.design_base.specs.declared.verdict.Verdict.TheVariants.{Yes as YesVerdict, No as NoVerdict, Unknown as UnknownVerdict}
use Rattle.design_io.specs.Inputs.{IsInput, line_at}
use Rattle.design_io.specs.InputLines.{lines_of}
use Rattle.design_lines.specs.declared.command.Asked.{Asked}
use Rattle.design_lines.specs.declared.command.Command.{Command}
use Rattle.design_lines.specs.declared.command.Command.TheVariants.{On, Check, Replay, Batch, Table, Workload}
use Rattle.design_lines.specs.declared.command.Reason.{Reason}
use Rattle.design_lines.specs.declared.command.Request.{Request}
use Rattle.design_lines.specs.declared.command.Shape.{Shape}
use Rattle.design_lines.specs.declared.command.Verb.{Verb}
use Rattle.design_lines.specs.declared.command.Verb.TheVariants.{Ask, Build, Closure, Explain}
use Rattle.design_reports.specs.Answers.{EndsWith, IsAnswer}
use Rattle.design_reports.specs.Endings.{message_of, status_of}
use Rattle.design_reports.specs.Reports.{Report, output, silent, verdict_report}
use Rattle.design_reports.specs.declared.ending.Ending.{Ending}
use Rattle.design_reports.specs.declared.ending.Ending.TheVariants.{Yes, No, Unknown, Refused, NotBuilt, BadInput, ReadFault, CatalogueFault, NoMemory, WriteFault}
use Rattle.design_reports.specs.declared.status.Status.TheVariants.{ReadFault as ReadFaultStatus, Usage}
use Rattle.rule_table.specs.Verdicts.{verdict}
use Rattle.design_cli.proofs.BatchEnds.{batch_answers}
use Rattle.catalogues.specs.Left.{AreLeft}
use Rattle.design_cli.proofs.Batches.{handed_first, none_asked}
use Rattle.design_cli.proofs.Endings.{check_answers, some_input}
use Rattle.design_cli.specs.Replays.{derivation_report, read_report, replay_report, sound_report}
use Rattle.design_cli.specs.Report.{OfBatch, asked_alone, asks_alone, check_report, command_lists, command_report, first_asks, is_batch, left_alone}
use Rattle.design_cli.specs.Runs.{AnswerEnds, Answers, AsksLines, BreaksAt, EndsOn, IsLineCount, RunsOn}
use Rattle.design_cli.specs.Batches.{AppendsFirst, handed_on}

-- what a command that is no batch hands on
lists_alone : (command : Result Command Reason) → is_batch command ≡ false → (text : List ℕ) (entries : List (List Entry)) → command_lists command text entries ≡ entries ∷ left_alone command entries ∷ []
lists_alone command alone text entries = ap (λ (b : Bool). if b then handed_on entries (lines_of text) else entries ∷ left_alone command entries ∷ []) alone

-- An answer to a command that is no batch, on this text and these entries: it counts as one line.
module _ (command : Result Command Reason) (alone : is_batch command ≡ false) (left after : Option (List ℕ)) (old new : List Seen) (ending : Ending) (held now : Option (List ℕ)) (text : List ℕ) (is_input : IsInput left text) (entries : List (List Entry)) (are_held : AreHeld old entries) where
  abbrev lists : List (List (List Entry))
  lists = command_lists command text entries

  abbrev report : Report
  report = command_report command text lists

  held_before : AreHeld old (get_or lists 0 [])
  held_before = subst (λ ls. AreHeld old (get_or ls 0 [])) (sym (lists_alone command alone text entries)) are_held

  told_before : (told : List (List Entry)) → AreTold old told → lists ≡ command_lists command text told
  told_before told are_told = ap (command_lists command text) (held_told old entries told are_held are_told)

  -- what is left behind it, where it was told before
  left_behind : (P : List (List Entry) → Type 0) → (AreTold old entries → P (left_alone command entries)) → (told : List (List Entry)) → AreTold old told → P (get_or lists 1 [])
  left_behind P leaves told are_told = subst (λ ls. P (get_or ls 1 [])) (sym (lists_alone command alone text entries)) (leaves (subst (AreTold old) (sym (held_told old entries told are_held are_told)) are_told))

  -- nothing stands of it where it is cut
  none_stands : (ending : Ending) → EndsWith report ending held now → AnswerEnds command 1 report ending held now
  none_stands Yes ends = ends
  none_stands No ends = ends
  none_stands Unknown ends = ends
  none_stands (Refused reason) ends = ends
  none_stands NotBuilt ends = ends
  none_stands (BadInput line) ends = ends
  none_stands ReadFault ends = subst (λ b. OfBatch b (AppendsFirst 1 held now report.lines) (Keeps held now)) (sym alone) ends
  none_stands (CatalogueFault number) ends = subst (λ b. OfBatch b (AppendsFirst 1 held now report.lines) (Keeps held now)) (sym alone) ends
  none_stands NoMemory ends = subst (λ b. OfBatch b (AppendsFirst 1 held now report.lines) (Keeps held now)) (sym alone) ends
  none_stands WriteFault ends = ends

  pub alone_ends : EndsWith report ending held now → (status_of ending ≡ Usage) ↔ IsRefused report → (AreTold old entries → LeavesTold ending new (left_alone command entries)) → AsksBy ending (asked_alone command entries) old new
      → ((number : ℕ) → ending ≡ CatalogueFault number → asks_alone command ≡ true) → AreLeft old new → Answers true command left after old new ending held now
  alone_ends ends usage leaves asked failed are_left = record {
    text = text;
    is_input = is_input;
    lists = lists;
    are_held = held_before;
    are_told = told_before;
    count = 1;
    ends = none_stands ending ends;
    is_count = subst (λ b. OfBatch b (IsLineCount text after report ending 1) (◌≡◌ {A = ℕ} 1 1)) (sym alone) refl;
    usage = usage;
    ended = ending;
    is_ended = λ other. refl;
    breaks = λ direct. (refl, λ broken. subst (λ b. OfBatch b (BreaksAt 1 report.lines held now) (◌≡◌ {A = ℕ} 1 1)) (sym alone) refl);
    leaves = left_behind (LeavesTold ending new) leaves;
    asked = subst (λ b. OfBatch b (AsksLines (lines_of text) lists ending 1 old new) (AsksBy ending (asked_alone command (get_or lists 0 [])) old new)) (sym alone)
        (subst (λ ls. AsksBy ending (asked_alone command (get_or ls 0 [])) old new) (sym (lists_alone command alone text entries)) asked);
    failed = λ number e. ap (λ (b : Bool). if b then first_asks (drop 1 (lines_of text)) else asks_alone command) alone ∙ failed number e;
    are_left = are_left;
  }

-- An answer that asks no catalogue, whose report is a function of the input's text.
module _ (command : Result Command Reason) (alone : is_batch command ≡ false) (report : List ℕ → Report) (is : (text : List ℕ) (lists : List (List (List Entry))) → command_report command text lists ≡ report text)
    (kept : (lists : List (List Entry)) → left_alone command lists ≡ lists) (asks : (lists : List (List Entry)) → asked_alone command lists ≡ None) (left after : Option (List ℕ)) (seen : List Seen) (held now : Option (List ℕ)) where
  pub unasked_ends : (ending : Ending) → EndsOn left report ending held now → ((text : List ℕ) → (status_of ending ≡ Usage) ↔ IsRefused (report text)) → IsNoFault ending → Answers true command left after seen seen ending held now
  unasked_ends ending on usage no_offer =
      let some = some_held seen in
      let same = is on.text (command_lists command on.text some.0) in
      alone_ends command alone left after seen seen ending held now on.text on.is_input some.0 some.1 (subst (λ r. EndsWith r ending held now) (sym same) on.ends)
      (subst (λ r. (status_of ending ≡ Usage) ↔ IsRefused r) (sym same) (usage on.text)) (λ told. subst (LeavesTold ending seen) (sym (kept some.0)) (still_told ending seen some.0 told))
      (subst (λ n. AsksBy ending n seen seen) (sym (asks some.0)) (still_unasked ending seen no_offer)) (λ number e. absurd (no_offer number e)) (left_refl seen)

-- what is answered is no refusal
pub answered_usage : (ending : Ending) (report : Report) → IsAnswer ending → (IsRefused report → ⊥) → (status_of ending ≡ Usage) ↔ IsRefused report
answered_usage ending report answered other = (λ e. absurd (answered e), λ e. absurd (other e))

-- a replay is never refused
design_answers : (D : List Line) (o : Option Query) → status_of (sound_report D o).ending ≢ Usage
design_answers D None e = cc
design_answers D (Some q) e = cc

derivation_answers : (D : List Line) (o : Option Fault) → status_of (derivation_report D o).ending ≢ Usage
derivation_answers D None e = design_answers D (last_question D) e
derivation_answers D (Some f) e = cc

read_answers : (r : Result (List Line) ℕ) → status_of (read_report r).ending ≢ Usage
read_answers (Err place) e = cc
read_answers (Ok D) e = derivation_answers D (fault D) e

pub replay_answers : (text : List ℕ) → status_of (replay_report text).ending ≢ Usage
replay_answers text = of (nat_le (length text) INPUT_MAX)
  where
    of : (short : Bool) → status_of (if short then read_report (parse_input text) else silent (BadInput (line_at text INPUT_MAX))).ending ≢ Usage
    of true e = read_answers (parse_input text) e
    of false e = cc

-- a check, a replay and a workload end as the answers to their commands
module _ (command : Command) (left after : Option (List ℕ)) (seen : List Seen) (held now : Option (List ℕ)) where
  pub check_ends : (asked : Asked) (ending : Ending) → command ≡ Check asked → EndsOn left (check_report asked.query asked.shape) ending held now → IsAnswer ending → IsNoFault ending → Answers true (Ok command) left after seen seen ending held now
  check_ends asked ending is on answered no_offer =
      subst (λ c. Answers true (Ok c) left after seen seen ending held now) (sym is)
      (unasked_ends (Ok (Check asked)) refl (check_report asked.query asked.shape) (λ text lists. refl) (λ lists. refl) (λ lists. refl) left after seen held now ending on
      (λ text. answered_usage ending (check_report asked.query asked.shape text) answered (check_answers asked.query asked.shape text)) no_offer)

  pub replay_ends : (ending : Ending) → command ≡ Replay → EndsOn left replay_report ending held now → IsAnswer ending → IsNoFault ending → Answers true (Ok command) left after seen seen ending held now
  replay_ends ending is on answered no_offer =
      subst (λ c. Answers true (Ok c) left after seen seen ending held now) (sym is)
      (unasked_ends (Ok Replay) refl replay_report (λ text lists. refl) (λ lists. refl) (λ lists. refl) left after seen held now ending on (λ text. answered_usage ending (replay_report text) answered (replay_answers text)) no_offer)

  pub workload_ends : (n : ℕ) (ending : Ending) → command ≡ Workload n → EndsWith (workload_report n) ending held now → IsAnswer ending → IsNoFault ending → Answers true (Ok command) left after seen seen ending held now
  workload_ends n ending is ends answered no_offer =
      let some = some_input left in
      subst (λ c. Answers true (Ok c) left after seen seen ending held now) (sym is)
      (unasked_ends (Ok (Workload n)) refl (λ text. workload_report n) (λ text lists. refl) (λ lists. refl) (λ lists. refl) left after seen held now ending (record { text = some.0; is_input = some.1; ends = ends })
      (λ text. answered_usage ending (workload_report n) answered (λ e. cc)) no_offer)

  -- what no line answers yet
  pub table_ends : (ask : TableAsk) (workers : ℕ) → command ≡ Table ask workers → Answers true (Ok command) left after seen seen NotBuilt held held
  table_ends ask workers is =
      let some = some_input left in
      subst (λ c. Answers true (Ok c) left after seen seen NotBuilt held held) (sym is)
      (unasked_ends (Ok (Table ask workers)) refl (λ text. silent NotBuilt) (λ text lists. refl) (λ lists. refl) (λ lists. refl) left after seen held held NotBuilt (record { text = some.0; is_input = some.1; ends = (refl, Appends-nil held) })
      (λ text. (λ e. e, λ e. e)) (λ number e. cc))

-- words that are refused
pub refused_ends : (command : Result Command Reason) (reason : Reason) (left after : Option (List ℕ)) (seen : List Seen) (held : Option (List ℕ)) → Err reason ≡ command → Answers true command left after seen seen (Refused reason) held held
refused_ends command reason left after seen held is =
    let some = some_input left in
    subst (λ c. Answers true c left after seen seen (Refused reason) held held) is
    (unasked_ends (Err reason) refl (λ text. silent (Refused reason)) (λ text lists. refl) (λ lists. refl) (λ lists. refl) left after seen held held (Refused reason) (record { text = some.0; is_input = some.1; ends = (refl, Appends-nil held) })
    (λ text. (λ e. e, λ e. e)) (λ number e. cc))

-- Requests are never refused.

verdict_answers : (q : Query) (v : Verdict) (lines : List (List ℕ)) → status_of (verdict_report q v lines).ending ≢ Usage
verdict_answers q (YesVerdict step) lines e = cc
verdict_answers q (NoVerdict criterion) lines e = cc
verdict_answers q UnknownVerdict lines e = cc

offers_answer : (valid : Option (ℕ × ℕ)) → status_of (ending_by valid) ≢ Usage
offers_answer None e = cc
offers_answer (Some offer) e = cc

ask_answers : (q : Query) (v : Verdict) (lists : List (List Entry)) → status_of (ask_report q v lists).ending ≢ Usage
ask_answers q (YesVerdict step) lists e = cc
ask_answers q (NoVerdict criterion) lists e = cc
ask_answers q UnknownVerdict lists e = offers_answer (counted (consulted q lists).valid) e

build_answers : (q : Query) (shape : Shape) (v : Verdict) (lists : List (List Entry)) → status_of (build_report q shape v lists).ending ≢ Usage
build_answers q shape (YesVerdict step) lists e = cc
build_answers q shape (NoVerdict criterion) lists e = cc
build_answers q shape UnknownVerdict lists e = offers_answer (counted (consulted q lists).valid) e

pub request_answers : (request : Request) (lists : List (List Entry)) → IsRefused (request_report request lists) → ⊥
request_answers request lists refused = of request.verb refused
  where
    of : (verb : Verb) → IsRefused (verb_report verb request.query request.shape lists) → ⊥
    of Ask e = ask_answers request.query (verdict request.query) lists e
    of Build e = build_answers request.query request.shape (verdict request.query) lists e
    of Explain e = verdict_answers request.query (verdict request.query) (reason_lines request.query (verdict request.query)) e
    of Closure e = verdict_answers request.query (verdict request.query) (closure_lines request.query) e

-- a request ends as the answer to its command
pub request_ends : (command : Command) (request : Request) → command ≡ On request → (left after : Option (List ℕ)) (old new : List Seen) (ending : Ending) (held now : Option (List ℕ))
    → AnswersOn old new (request_report request) (lists_after request) (asked_for request) ending held now → IsAnswer ending → ((number : ℕ) → ending ≡ CatalogueFault number → HasOfferFault (asks_catalogues request) old new number) → AreLeft old new
    → Answers true (Ok command) left after old new ending held now
request_ends command request is left after old new ending held now on answered failed are_left =
    let some = some_input left in
    subst (λ c. Answers true (Ok c) left after old new ending held now) (sym is)
    (alone_ends (Ok (On request)) refl left after old new ending held now some.0 some.1 on.lists on.are_held on.ends (answered_usage ending (request_report request on.lists) answered (request_answers request on.lists)) on.leaves on.asked
    (λ number e. (failed number e).asked) are_left)

-- there is no memory for the table of rules
pub unopened_request : (request : Request) (seen : List Seen) (held : Option (List ℕ)) → AnswersOn seen seen (request_report request) (lists_after request) (asked_for request) NoMemory held held
unopened_request request seen held = let some = some_held seen in record { lists = some.0; are_held = some.1; ends = Keeps-refl held; leaves = λ told. tt; asked = inl refl }

pub unopened_batch : (left after : Option (List ℕ)) (seen : List Seen) (held : Option (List ℕ)) → Answers true (Ok Batch) left after seen seen NoMemory held held
unopened_batch left after seen held =
    let some = some_input left in
    let entries = some_held seen in
    let lists = command_lists (Ok Batch) some.0 entries.0 in
    record {
      text = some.0;
      is_input = some.1;
      lists = lists;
      are_held = subst (AreHeld seen) (sym (handed_first entries.0 (lines_of some.0))) entries.1;
      are_told = λ told are_told. ap (command_lists (Ok Batch) some.0) (held_told seen entries.0 told entries.1 are_told);
      count = 0;
      ends = Appends-nil held;
      is_count = tt;
      usage = (λ e. cc, λ e. absurd (batch_answers some.0 lists e));
      ended = NoMemory;
      is_ended = λ other. refl;
      breaks = λ direct. (refl, λ broken. cc);
      leaves = λ told are_told. tt;
      asked = record { answered = 0; counts = refl; between = seen; each = none_asked lists seen; last = inl refl };
      failed = λ number e. cc;
      are_left = left_refl seen;
    }

-- nothing is written where a command is refused
pub refused_silent : (command : Result Command Reason) (text : List ℕ) (lists : List (List (List Entry))) → IsRefused (command_report command text lists) → output (command_report command text lists) ≡ []
refused_silent (Err reason) text lists e = refl
refused_silent (Ok (On request)) text lists e = absurd (request_answers request (get_or lists 0 []) e)
refused_silent (Ok (Check asked)) text lists e = absurd (check_answers asked.query asked.shape text e)
refused_silent (Ok Replay) text lists e = absurd (replay_answers text e)
refused_silent (Ok Batch) text lists e = absurd (batch_answers text lists e)
refused_silent (Ok (Workload n)) text lists e = cc
refused_silent (Ok (Table ask workers)) text lists e = refl

-- a run ends as its answer
pub run_ends : (direct : Bool) (command : Result Command Reason) (left after : Option (List ℕ)) (old new : List Seen) (ending : Ending) (held now : Option (List ℕ)) (IsSaid : List ℕ → Type 0) → Answers direct command left after old new ending held now → IsSaid (message_of ending)
    → RunsOn direct command left after old new (status_of ending) held now IsSaid
run_ends direct command left after old new ending held now IsSaid answers said = record { ending = ending; is_status = refl; answers = answers; message = said }

-- a status of a read fault comes of no other ending
pub read_back : (ending : Ending) → status_of ending ≡ ReadFaultStatus → ending ≡ ReadFault
read_back Yes e = cc
read_back No e = cc
read_back Unknown e = cc
read_back (Refused reason) e = cc
read_back NotBuilt e = cc
read_back (BadInput line) e = cc
read_back ReadFault e = refl
read_back (CatalogueFault number) e = cc
read_back NoMemory e = cc
read_back WriteFault e = cc

pub apart : ReadFault ≢ WriteFault
apart e = cc
