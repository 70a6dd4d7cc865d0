-- How an answer ends that was collected in a buffer, once the buffer is flushed.
use Rattle.std.proofs.Common.{◌≡◌, ◌≢◌, ℕ, ◌≤◌, Bool, true, false, List, [], ◌++◌, length, take, drop, Option, Some, Result, Ok, Err, refl, subst, sym, ap, ◌∙◌, arith}
use Rattle.std.proofs.lemmas.List.{take-append-drop}
use Rattle.std.proofs.lemmas.List.Concat.{flat_map-append}
use Rattle.std.specs.Io.KnownBytes.{Appends, Keeps}
use Rattle.std.specs.List.{flat_map}
use Rattle.std.specs.Result.{OnErr, OnOk}
use Rattle.catalogues.specs.Entries.{Seen}
use Rattle.catalogues.specs.declared.catalogue.Entry.{Entry}
use Rattle.design_answers.specs.Requests.{IsRefused}
use Rattle.design_io.proofs.HandedOn.{AppendsPart-on, Keeps-on}
use Rattle.design_io.proofs.Pieces.{AppendsPart-first}
use Rattle.design_io.specs.Faults.{HasCause, Rose}
use Rattle.design_io.specs.Pieces.{AppendsPart, AppendsWhole}
use Rattle.design_io.specs.declared.streams.Failed.{Failed}
use Rattle.design_lines.specs.declared.command.Command.{Command}
use Rattle.design_lines.specs.declared.command.Reason.{Reason}
use Rattle.design_reports.specs.Answers.{HasFault}
use Rattle.design_reports.specs.Reports.{Report, output}
use Rattle.design_reports.specs.declared.ending.Ending.{Ending}
use Rattle.design_reports.specs.declared.ending.Ending.TheVariants.{Yes, No, Unknown, Refused, NotBuilt, BadInput, ReadFault, CatalogueFault, NoMemory, WriteFault}
use Rattle.design_cli.proofs.Runnings.{refused_silent}
use Rattle.design_cli.specs.Batches.{AppendsFirst}
use Rattle.design_cli.specs.Report.{OfBatch, command_report, is_batch}
use Rattle.design_cli.specs.Runs.{AnswerEnds, Answers, IsCount, IsLineCount, Stands}

-- All was handed on.
module _ (a b : Option (List ℕ)) (handed : List ℕ) (on : Appends a b handed) where
  moved : (bs : List ℕ) → Appends (Some []) (Some handed) bs → Appends a b bs
  moved bs is = subst (Appends a b) is on

  kept : Keeps (Some []) (Some handed) → Keeps a b
  kept is = (Keeps-on {T = Unit {0}} {E = Failed} a b (Ok tt) handed is on).1

  moved_part : (bs : List ℕ) → AppendsPart (Some []) (Some handed) bs → AppendsPart a b bs
  moved_part bs part = AppendsPart-on {T = Unit {0}} {E = Failed} a b (Ok tt) handed bs part on

  -- what stands of an answer that was cut
  moved_stands : (command : Result Command Reason) (count : ℕ) (report : Report) → Stands command count report (Some []) (Some handed) → Stands command count report a b
  moved_stands command count report stands = of (is_batch command) stands
    where
      of : (batch : Bool) → OfBatch batch (AppendsFirst count (Some []) (Some handed) report.lines) (Keeps (Some []) (Some handed)) → OfBatch batch (AppendsFirst count a b report.lines) (Keeps a b)
      of true stands = moved _ stands
      of false stands = kept stands

  moved_ends : (command : Result Command Reason) (count : ℕ) (report : Report) (ending : Ending) → AnswerEnds command count report ending (Some []) (Some handed) → AnswerEnds command count report ending a b
  moved_ends command count report Yes ends = (ends.0, moved (output report) ends.1)
  moved_ends command count report No ends = (ends.0, moved (output report) ends.1)
  moved_ends command count report Unknown ends = (ends.0, moved (output report) ends.1)
  moved_ends command count report (Refused reason) ends = (ends.0, moved (output report) ends.1)
  moved_ends command count report NotBuilt ends = (ends.0, moved (output report) ends.1)
  moved_ends command count report (BadInput line) ends = (ends.0, moved (output report) ends.1)
  moved_ends command count report ReadFault ends = moved_stands command count report ends
  moved_ends command count report (CatalogueFault number) ends = moved_stands command count report ends
  moved_ends command count report NoMemory ends = moved_stands command count report ends
  moved_ends command count report WriteFault ends = moved_part (output report) ends

-- A proper prefix was handed on.
module _ (a b : Option (List ℕ)) (handed : List ℕ) (e : Failed) (part : AppendsPart a b handed) where
  none_kept : Keeps (Some []) (Some handed) → ⊥
  none_kept is = omega (arith, part.short, ap length is)

  cut : (bs : List ℕ) → Appends (Some []) (Some handed) bs → AppendsPart a b bs
  cut bs is = subst (AppendsPart a b) is part

  -- the answers to the first lines are a prefix of all
  cut_first : (count : ℕ) (answers : List (List ℕ)) → AppendsFirst count (Some []) (Some handed) answers → AppendsPart a b (flat_map (λ answer. answer) answers)
  cut_first count answers appended =
      let first = take count answers in
      let later = drop count answers in
      let is : flat_map (λ answer. answer) answers ≡ flat_map (λ answer. answer) first ++ flat_map (λ answer. answer) later =
      ap (flat_map (λ answer. answer)) (sym (take-append-drop count answers)) ∙ flat_map-append (λ answer. answer) first later in
      rw is (AppendsPart-first (flat_map (λ answer. answer) later) (cut (flat_map (λ answer. answer) first) appended))

  cut_stands : (command : Result Command Reason) (count : ℕ) (report : Report) → Stands command count report (Some []) (Some handed) → AppendsPart a b (output report)
  cut_stands command count report stands = of (is_batch command) stands
    where
      of : (batch : Bool) → OfBatch batch (AppendsFirst count (Some []) (Some handed) report.lines) (Keeps (Some []) (Some handed)) → AppendsPart a b (output report)
      of true stands = cut_first count report.lines stands
      of false stands = absurd (none_kept stands)

  cut_ends : (command : Result Command Reason) (count : ℕ) (report : Report) (ending : Ending) → AnswerEnds command count report ending (Some []) (Some handed) → AppendsPart a b (output report)
  cut_ends command count report Yes ends = cut (output report) ends.1
  cut_ends command count report No ends = cut (output report) ends.1
  cut_ends command count report Unknown ends = cut (output report) ends.1
  cut_ends command count report (Refused reason) ends = cut (output report) ends.1
  cut_ends command count report NotBuilt ends = cut (output report) ends.1
  cut_ends command count report (BadInput line) ends = cut (output report) ends.1
  cut_ends command count report ReadFault ends = cut_stands command count report ends
  cut_ends command count report (CatalogueFault number) ends = cut_stands command count report ends
  cut_ends command count report NoMemory ends = cut_stands command count report ends
  cut_ends command count report WriteFault ends = AppendsPart-on {T = Unit {0}} a b (Err e) handed (output report) ends part

-- a flush that fails leaves the catalogues and the count of lines as they are
count_flushed : (command : Result Command Reason) (text : List ℕ) (after : Option (List ℕ)) (report : Report) (ending : Ending) (count : ℕ) → IsCount command text after report ending count → IsCount command text after report WriteFault count
count_flushed command text after report ending count is = of (is_batch command) is
  where
    of : (batch : Bool) → OfBatch batch (IsLineCount text after report ending count) (count ≡ 1) → OfBatch batch (IsLineCount text after report WriteFault count) (count ≡ 1)
    of true is = tt
    of false is = is

no_part : (a b : Option (List ℕ)) (bs : List ℕ) → AppendsPart a b bs → bs ≢ []
no_part a b bs part is = absurd (omega (arith, part.short, ap length is))

-- the answer ends on the output as it did on the buffer, or by the flush that failed
flushed_from : (command : Result Command Reason) (left after : Option (List ℕ)) (old new : List Seen) (ending end : Ending) (a b : Option (List ℕ)) (handed : List ℕ) (r : Result (Unit {0}) Failed)
    → Answers true command left after old new ending (Some []) (Some handed) → AppendsWhole a b r handed → OnOk r (end ≡ ending) → OnErr r (end ≡ WriteFault) → Answers false command left after old new end a b
flushed_from command left after old new ending end a b handed (Ok x) ends on kept failed = subst (λ e. Answers false command left after old new e a b) (sym kept) (record {
  text = ends.text;
  is_input = ends.is_input;
  lists = ends.lists;
  are_held = ends.are_held;
  are_told = ends.are_told;
  count = ends.count;
  ends = moved_ends a b handed on command ends.count (command_report command ends.text ends.lists) ending ends.ends;
  is_count = ends.is_count;
  usage = ends.usage;
  ended = ends.ended;
  is_ended = ends.is_ended;
  breaks = λ direct. cc;
  leaves = ends.leaves;
  asked = ends.asked;
  failed = ends.failed;
  are_left = ends.are_left;
})
flushed_from command left after old new ending end a b handed (Err e) ends on kept failed =
    let report = command_report command ends.text ends.lists in
    let part = cut_ends a b handed e on command ends.count report ending ends.ends in
    subst (λ e. Answers false command left after old new e a b) (sym failed) (record {
      text = ends.text;
      is_input = ends.is_input;
      lists = ends.lists;
      are_held = ends.are_held;
      are_told = ends.are_told;
      count = ends.count;
      ends = part;
      is_count = count_flushed command ends.text after report ending ends.count ends.is_count;
      usage = (λ u. cc, λ u. absurd (no_part a b (output report) part (refused_silent command ends.text ends.lists u)));
      ended = ends.ended;
      is_ended = λ other. absurd (other refl);
      breaks = λ direct. cc;
      leaves = ends.leaves;
      asked = ends.asked;
      failed = ends.failed;
      are_left = ends.are_left;
    })

-- where the buffer was empty at the start
pub flushed_ends : (command : Result Command Reason) (left after : Option (List ℕ)) (old new : List Seen) (ending end : Ending) (a b : Option (List ℕ)) (start handed : List ℕ) (r : Result (Unit {0}) Failed) → start ≡ []
    → Answers true command left after old new ending (Some start) (Some handed) → AppendsWhole a b r handed → OnOk r (end ≡ ending) → OnErr r (end ≡ WriteFault) → Answers false command left after old new end a b
flushed_ends command left after old new ending end a b start handed r empty ends on kept failed =
    flushed_from command left after old new ending end a b handed r (subst (λ held. Answers true command left after old new ending (Some held) (Some handed)) empty ends) on kept failed

-- a fault that was counted once stays counted
later_fault : (before mid now : ℕ) → Rose before mid → mid ≤ now → Rose before now
later_fault before mid now rose later = omega (arith, rose, later)

first_fault : (before mid now : ℕ) → before ≤ mid → Rose mid now → Rose before now
first_fault before mid now later rose = grind (arith)

pub flushed_fault : (ending end : Ending) (before mid now : ℕ) (r : Result (Unit {0}) Failed) → HasFault ending before mid → HasCause mid now r → OnOk r (end ≡ ending) → OnErr r (end ≡ WriteFault) → HasFault end before now
flushed_fault ending end before mid now (Ok x) fault cause same failed = record {
  later = omega (arith, fault.later, cause.later);
  failed = λ e. later_fault before mid now (fault.failed (sym same ∙ e)) cause.later;
  kept = λ other. cause.kept ∙ fault.kept (λ e. other (same ∙ e));
}
flushed_fault ending end before mid now (Err e) fault cause same failed = record {
  later = omega (arith, fault.later, cause.later);
  failed = λ e. first_fault before mid now fault.later cause.failed;
  kept = λ other. absurd (other failed);
}
