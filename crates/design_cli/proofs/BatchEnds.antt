-- How a batch ends.
use Rattle.std.proofs.Common.{◌≡◌, ◌≢◌, ℕ, ◌+◌, ◌-◌, Bool, true, false, cond, List, [], ◌∷◌, ◌++◌, Option, Some, None, Ok, Err, IfSome, refl, ap, sym, ◌∙◌, subst, append-nil, append_assoc, arith}
use Rattle.std.specs.Prelude.{drop, if◌then◌else◌, get_or, length, take}
use Rattle.std.specs.List.{flat_map}
use Rattle.std.proofs.Math.Seq.{drop-append_seam, get_or-append_seam}
use Rattle.std.proofs.lemmas.List.{get_or-append-add}
use Rattle.std.proofs.lemmas.List.Concat.{flat_map-append}
use Rattle.std.proofs.lemmas.List.Sums.{sum_by-append}
use lib.Seq.{take-append_seam}
use Rattle.std.specs.Io.KnownBytes.{Appends, Consumes, prepend_known}
use Rattle.std.proofs.KnownBytes.{Appends-kept}
use Rattle.catalogues.proofs.Held.{held_told, some_held}
use Rattle.catalogues.specs.Consulted.{AreHeld, AreTold}
use Rattle.catalogues.specs.Entries.{Seen}
use Rattle.catalogues.specs.declared.catalogue.Entry.{Entry}
use Rattle.catalogues.proofs.Left.{left_refl, left_trans}
use Rattle.catalogues.specs.Left.{AreLeft}
use Rattle.design_answers.specs.Answered.{AsksBy, LeavesTold}
use Rattle.design_answers.specs.Requests.{IsRefused}
use Rattle.design_base.specs.declared.limits.TheConstants.{INPUT_MAX}
use Rattle.design_io.proofs.LinesInFront.{long_text}
use Rattle.design_io.proofs.Pieces.{AppendsPart-first, AppendsPart-second}
use Rattle.design_io.specs.Inputs.{IsInput}
use Rattle.design_io.specs.Pieces.{AppendsPart}
use Rattle.design_io.specs.declared.lines.LineEnd.TheVariants.{Failed, TooLong}
use Rattle.design_io.specs.InputLines.{InputLine, LinesRead, GivesFrom, content_of, feeds_in, first_line, fits, is_feed, lines_of, size_of, too_long}
use Rattle.design_lines.specs.CommandLines.{parse_in_batch}
use Rattle.design_lines.specs.declared.command.Command.TheVariants.{Batch}
use Rattle.design_reports.specs.Answers.{EndsCut}
use Rattle.design_reports.specs.Endings.{status_of}
use Rattle.design_reports.specs.Reports.{Report, silent}
use Rattle.design_reports.specs.declared.ending.Ending.{Ending}
use Rattle.design_reports.specs.declared.ending.Ending.TheVariants.{Yes, BadInput, ReadFault, CatalogueFault, NoMemory, WriteFault}
use Rattle.design_reports.specs.declared.status.Status.TheVariants.{Usage}
use Rattle.design_cli.proofs.Batches.{AreAnswered, IsAnswered, IsFirst, asks_front, IsGiven, IsRead, bad_first, behind, given_fits, handed_behind, handed_first, one_more, with_line}
use Rattle.design_cli.proofs.Endings.{some_input}
use Rattle.design_cli.specs.Batches.{AnswersLine, AppendsFirst, AsksEach, batch_from, batch_report, handed_on, in_front, line_answer, line_asks, lists_behind}
use Rattle.design_cli.specs.Report.{asks_offers, first_asks}
use Rattle.design_cli.specs.Runs.{Answers, AsksLines, IsCount, Stands, begun_lines, next_asked, stops}
use Rattle.design_cli.specs.declared.batching.Stop.TheVariants.{Catalogue, Memory, Write}

-- bytes behind those that were taken, so that both are the input where it is told
record Continues (left : Option (List ℕ)) (given : List ℕ) (IsMore : List ℕ → Type 0) : Type 0 where
  pub more : List ℕ
  pub is_input : IsInput left (given ++ more)
  pub is_more : IsMore more

continued : (left rest : Option (List ℕ)) (given : List ℕ) (IsMore : List ℕ → Type 0) (other : List ℕ) → IsMore other → Consumes left rest given → IfSome left (λ text. IfSome rest IsMore) → Continues left given IsMore
continued None rest given IsMore other is_more taken told = record { more = other; is_input = tt; is_more = is_more }
continued (Some text) None given IsMore other is_more taken told = absurd taken
continued (Some text) (Some bytes) given IsMore other is_more taken told = record { more = bytes; is_input = taken; is_more = told }

-- a batch is never refused
not_usage : (place room : ℕ) (lists : List (List (List Entry))) (lines : List InputLine) → status_of (batch_from place room lists lines).ending ≢ Usage
unfolding batch_from
not_usage place room lists [] e = cc
not_usage place room lists (l ∷ lines) e = of (fits room l) (not_usage (place + 1) (room - size_of l) (drop 1 lists) lines) e
  where
    later : Report
    later = batch_from (place + 1) (room - size_of l) (drop 1 lists) lines

    of : (t : Bool) → status_of later.ending ≢ Usage → status_of (if t then in_front (line_answer (get_or lists 0 []) (content_of l)) later else silent (BadInput place)).ending ≢ Usage
    of true rest e = rest e
    of false rest e = cc

pub batch_answers : (text : List ℕ) (lists : List (List (List Entry))) → IsRefused (batch_report text lists) → ⊥
unfolding batch_report
batch_answers text lists refused = not_usage 1 INPUT_MAX lists (lines_of text) refused

-- what the first of more lists is
first_of : (old mid : List Seen) (lists : List (List (List Entry))) (entries : List (List Entry)) (rest : List InputLine) → IsFirst old mid lists → AreHeld mid entries → AreHeld old (get_or (lists ++ handed_on entries rest) 0 [])
first_of old mid [] entries rest first held = rw (handed_first entries rest) (subst (λ s. AreHeld s entries) first held)
first_of old mid (others ∷ lists) entries rest first held = first

-- The lines that were answered are the first of a text, the others are `rest`, and before those the catalogues hold these entries.
module _ (reader : LinesRead) (lines : List InputLine) (old mid : List Seen) (done : AreAnswered reader lines old mid) (text : List ℕ) (rest : List InputLine) (is : lines_of text ≡ lines ++ rest) (entries : List (List Entry))
    (held : AreHeld mid entries) where
  abbrev pub all_lists : List (List (List Entry))
  all_lists = done.lists ++ handed_on entries rest

  report_is : batch_report text all_lists ≡ behind done.answers (batch_from (reader.lines + 1) reader.room (handed_on entries rest) rest)
  unfolding batch_report
  report_is = ap (batch_from 1 INPUT_MAX all_lists) is ∙ done.report (handed_on entries rest) rest

  all_held : AreHeld old (get_or all_lists 0 [])
  all_held = first_of old mid done.lists entries rest done.first held

  all_told : (told : List (List Entry)) → AreTold old told → all_lists ≡ handed_on told (lines_of text)
  all_told told are_told =
      let h = done.handed told are_told in
      ap (λ entries. done.lists ++ handed_on entries rest) (held_told mid entries h.entries held h.are_told) ∙ sym (h.on rest) ∙ ap (handed_on told) (sym is)

  now_told : (told : List (List Entry)) → AreTold old told → AreTold mid entries
  now_told told are_told = let h = done.handed told are_told in subst (AreTold mid) (sym (held_told mid entries h.entries held h.are_told)) h.are_told

  list_at : (n : ℕ) → get_or all_lists (reader.lines + n) [] ≡ get_or (handed_on entries rest) n []
  list_at n = ap (λ k. get_or all_lists (k + n) []) (sym done.held) ∙ get_or-append-add done.lists (handed_on entries rest) n []

  list_here : get_or all_lists reader.lines [] ≡ entries
  list_here = let here : reader.lines ≡ reader.lines + 0 = omega arith in ap (λ k. get_or all_lists k []) here ∙ list_at 0 ∙ handed_first entries rest

  -- the answers to the first lines
  first_stand : (from now : Option (List ℕ)) → Appends from now (flat_map (λ answer. answer) done.answers) → AppendsFirst reader.lines from now (batch_report text all_lists).lines
  first_stand from now appended = rw (← done.count, ap (λ (r : Report). r.lines) report_is, take-append_seam done.answers) appended

  -- how the catalogues were asked for the lines
  asked_before : (ending : Ending) (new : List Seen) (count : ℕ) → length lines ≡ reader.lines → count ≡ begun_lines ending reader.lines → AsksBy ending (if stops ending then next_asked rest entries else None) mid new
      → AsksLines (lines_of text) all_lists ending count old new
  asked_before ending new count size counts last = record {
    answered = reader.lines;
    counts = counts;
    between = mid;
    each = subst (λ ls. AsksEach ls all_lists old mid) (sym front) (asks_front lines done.lists (handed_on entries rest) old mid done.size done.asked);
    last = rw (behind_lines, list_here) last;
  }
    where
      front : take reader.lines (lines_of text) ≡ lines
      front = ap (take reader.lines) is ∙ ap (λ n. take n (lines ++ rest)) (sym size) ∙ take-append_seam lines rest

      behind_lines : drop reader.lines (lines_of text) ≡ rest
      behind_lines = ap (drop reader.lines) is ∙ ap (λ n. drop n (lines ++ rest)) (sym size) ∙ drop-append_seam lines rest

  -- the answer to a batch that ends before these other lines
  ends_before : (left after : Option (List ℕ)) (ending : Ending) (new : List Seen) (from now : Option (List ℕ)) → IsInput left text
      → EndsCut (Stands (Ok Batch) reader.lines (batch_report text all_lists)) (batch_report text all_lists) ending from now
      → IsCount (Ok Batch) text after (batch_report text all_lists) ending reader.lines
      → (AreTold mid entries → LeavesTold ending new entries)
      → status_of ending ≢ Usage
      → ending ≢ WriteFault
      → AsksLines (lines_of text) all_lists ending reader.lines old new
      → ((number : ℕ) → ending ≡ CatalogueFault number → asks_offers (Ok Batch) text reader.lines ≡ true)
      → AreLeft mid new
      → Answers true (Ok Batch) left after old new ending from now
  ends_before left after ending new from now is_input ends is_count leaves answered whole asked failed are_left = record {
    text = text;
    is_input = is_input;
    lists = all_lists;
    are_held = all_held;
    are_told = all_told;
    count = reader.lines;
    ends = ends;
    is_count = is_count;
    usage = (λ e. absurd (answered e), λ e. absurd (batch_answers text all_lists e));
    ended = ending;
    is_ended = λ other. refl;
    breaks = λ direct. (refl, λ broken. absurd (whole broken));
    leaves = λ told are_told. subst (LeavesTold ending new) (sym list_here) (leaves (now_told told are_told));
    asked = asked;
    failed = failed;
    are_left = left_trans old mid new done.left are_left;
  }

module _ (left rest after : Option (List ℕ)) (reader new : LinesRead) (old mid : List Seen) (from written : Option (List ℕ)) (done : IsAnswered left reader rest old mid from written) where
  abbrev entries : List (List Entry)
  entries = (some_held mid).0

  held : AreHeld mid entries
  held = (some_held mid).1

  -- no line is left
  pub ends_whole : (kept : Option (List ℕ)) → IfSome rest (λ bytes. GivesFrom reader new bytes after (Ok false)) → Answers true (Ok Batch) left kept old mid Yes from written
  unfolding batch_from lines_of
  ends_whole kept gives =
      let more = continued left rest done.read.given (λ more. more ≡ []) [] refl done.read.taken (none_left left rest after done.read.taken done.read.last gives) in
      let text = done.read.given ++ more.more in
      let is : lines_of text ≡ done.lines ++ [] = done.read.in_text more.more (λ over. more.is_more) ∙ ap (λ bytes. done.lines ++ lines_of bytes) more.is_more in
      let report = report_is reader done.lines old mid done.answered text [] is entries held in
      ends_before reader done.lines old mid done.answered text [] is entries held left kept Yes mid from written more.is_input
      (rw report (refl, rw (append-nil done.answered.answers) done.appended))
      (rw report (rw (append-nil done.answered.answers) (sym done.answered.count)))
      (λ told. told) (λ e. cc) (λ e. cc) (asked_before reader done.lines old mid done.answered text [] is entries held Yes mid reader.lines done.read.count refl refl) (λ number e. cc) (left_refl mid)
    where
      none_left : (left rest after : Option (List ℕ)) → Consumes left rest done.read.given → (reader.is_over ≡ true → IfSome left (λ text. IsInput rest [])) → IfSome rest (λ bytes. GivesFrom reader new bytes after (Ok false))
          → IfSome left (λ text. IfSome rest (λ bytes. bytes ≡ []))
      none_left None rest after taken last gives = tt
      none_left (Some text) None after taken last gives = absurd taken
      none_left (Some text) (Some bytes) None taken last gives = absurd gives
      none_left (Some text) (Some bytes) (Some more) taken last gives = of reader.is_over refl
        where
          of : (t : Bool) → reader.is_over ≡ t → bytes ≡ []
          of true e = last e
          of false e = gives.0 e

  -- the next line is too long
  pub ends_bad : (kept : Option (List ℕ)) (line : ℕ) → reader.is_over ≢ true → IfSome rest (λ bytes. GivesFrom reader new bytes after (Err (TooLong line))) → line ≡ reader.lines + 1 → Answers true (Ok Batch) left kept old mid (BadInput line) from written
  ends_bad kept line begun gives place =
      let long = long_text reader.room in
      let more = continued left rest done.read.given (λ more. first_line reader.room (lines_of more) ≡ too_long) long.0 long.1 done.read.taken (long_left left rest after done.read.taken gives) in
      let text = done.read.given ++ more.more in
      let is = done.read.in_text more.more (λ over. absurd (begun over)) in
      let report = report_is reader done.lines old mid done.answered text (lines_of more.more) is entries held
      ∙ ap (behind done.answered.answers) (bad_first (reader.lines + 1) reader.room (handed_on entries (lines_of more.more)) (lines_of more.more) more.is_more) in
      ends_before reader done.lines old mid done.answered text (lines_of more.more) is entries held left kept (BadInput line) mid from written more.is_input
      (rw report (ap BadInput place, rw (append-nil done.answered.answers) done.appended))
      (rw report (rw (append-nil done.answered.answers) (sym done.answered.count)))
      (λ told. told) (λ e. cc) (λ e. cc) (asked_before reader done.lines old mid done.answered text (lines_of more.more) is entries held (BadInput line) mid reader.lines done.read.count refl refl) (λ number e. cc) (left_refl mid)
    where
      long_left : (left rest after : Option (List ℕ)) → Consumes left rest done.read.given → IfSome rest (λ bytes. GivesFrom reader new bytes after (Err (TooLong line))) → IfSome left (λ text. IfSome rest (λ bytes. first_line reader.room (lines_of bytes) ≡ too_long))
      long_left None rest after taken gives = tt
      long_left (Some text) None after taken gives = absurd taken
      long_left (Some text) (Some bytes) None taken gives = absurd gives
      long_left (Some text) (Some bytes) (Some more) taken gives = gives.1

  -- a read failed, and what the reader holds is no whole line
  pub ends_failed : (source : Option (List ℕ)) → after ≡ prepend_known new.held source → reader.is_over ≢ true → IfSome rest (λ bytes. GivesFrom reader new bytes after (Err Failed)) → feeds_in new.held ≡ 0
      → Answers true (Ok Batch) left source old mid ReadFault from written
  ends_failed source is_after begun gives none =
      let some = some_input source in
      let more = continued left rest done.read.given (λ more. (bytes : List ℕ) × ((more ≡ new.held ++ bytes) × IsInput source bytes)) (new.held ++ some.0) (some.0, (refl, some.1)) done.read.taken
      (held_left left rest source done.read.taken (subst (λ a. IfSome rest (λ bytes. GivesFrom reader new bytes a (Err Failed))) is_after gives)) in
      let text = done.read.given ++ more.more in
      let is = done.read.in_text more.more (λ over. absurd (begun over)) in
      let size = sum_by-append (λ b. cond (is_feed b) 1 0) done.read.given new.held in
      ends_before reader done.lines old mid done.answered text (lines_of more.more) is entries held left source ReadFault mid from written more.is_input
      (first_stand reader done.lines old mid done.answered text (lines_of more.more) is entries held from written done.appended)
      (record {
        taken = done.read.given ++ new.held;
        rest = more.is_more.0;
        is_text = ap (λ bytes. done.read.given ++ bytes) more.is_more.1.0 ∙ sym (append_assoc done.read.given new.held more.is_more.0);
        is_left = more.is_more.1.1;
        lines = omega (arith, size, none, done.read.feeds (not_over begun));
      })
      (λ told. told) (λ e. cc) (λ e. cc) (asked_before reader done.lines old mid done.answered text (lines_of more.more) is entries held ReadFault mid reader.lines done.read.count refl refl) (λ number e. cc) (left_refl mid)
    where
      held_left : (left rest source : Option (List ℕ)) → Consumes left rest done.read.given → IfSome rest (λ bytes. GivesFrom reader new bytes (prepend_known new.held source) (Err Failed))
          → IfSome left (λ text. IfSome rest (λ more. (bytes : List ℕ) × ((more ≡ new.held ++ bytes) × IsInput source bytes)))
      held_left None rest source taken gives = tt
      held_left (Some text) None source taken gives = absurd taken
      held_left (Some text) (Some bytes) None taken gives = absurd gives
      held_left (Some text) (Some bytes) (Some more) taken gives = (more, (sym gives.1, refl))

      not_over : reader.is_over ≢ true → reader.is_over ≡ false
      not_over = of reader.is_over
        where
          of : (t : Bool) → t ≢ true → t ≡ false
          of true begun = absurd (begun refl)
          of false begun = refl

  -- A line was given at which the batch stops.
  module _ (is : IsGiven reader new rest after) (now : List Seen) (written' : Option (List ℕ)) where
    read : IsRead left new after (done.lines ++ new.last ∷ [])
    read = one_more left rest after reader new done.lines done.read is

    continues : Continues left read.given (λ more. new.is_over ≡ true → more ≡ [])
    continues = continued left after read.given (λ more. new.is_over ≡ true → more ≡ []) [] (λ over. refl) read.taken (rest_left left after read.given read.taken read.last)
      where
        rest_left : (left after : Option (List ℕ)) (given : List ℕ) → Consumes left after given → (new.is_over ≡ true → IfSome left (λ text. IsInput after [])) → IfSome left (λ text. IfSome after (λ more. new.is_over ≡ true → more ≡ []))
        rest_left None after given taken last = tt
        rest_left (Some text) None given taken last = absurd taken
        rest_left (Some text) (Some bytes) given taken last = last

    abbrev text : List ℕ
    text = read.given ++ continues.more

    abbrev behind_it : List InputLine
    behind_it = lines_of continues.more

    in_text : lines_of text ≡ done.lines ++ new.last ∷ behind_it
    in_text = read.in_text continues.more continues.is_more ∙ append_assoc done.lines (new.last ∷ []) behind_it

    -- it stands behind those that were answered
    line_in_text : line_asks (parse_in_batch (content_of new.last)) ≡ true → asks_offers (Ok Batch) text reader.lines ≡ true
    line_in_text asks =
        ap first_asks (ap (drop reader.lines) in_text ∙ ap (λ n. drop n (done.lines ++ new.last ∷ behind_it)) (sym done.read.count) ∙ drop-append_seam done.lines (new.last ∷ behind_it)) ∙ asks

    -- there is no memory for its answer
    pub ends_short : (kept : Option (List ℕ)) → AnswersLine (content_of new.last) mid now (Err Memory) written written' → AreLeft mid now → Answers true (Ok Batch) left kept old now NoMemory from written'
    ends_short kept line are_left =
        let appended = Appends-kept from written written' (flat_map (λ answer. answer) done.answered.answers) done.appended line.ends in
        ends_before reader done.lines old mid done.answered text (new.last ∷ behind_it) in_text line.lists line.are_held left kept NoMemory now from written' continues.is_input
        (first_stand reader done.lines old mid done.answered text (new.last ∷ behind_it) in_text line.lists line.are_held from written' appended) tt (λ told. tt) (λ e. cc) (λ e. cc)
        (asked_before reader done.lines old mid done.answered text (new.last ∷ behind_it) in_text line.lists line.are_held NoMemory now reader.lines done.read.count refl line.asked) (λ number e. cc) are_left

    -- an offer for it failed
    pub ends_refused : (kept : Option (List ℕ)) (number : ℕ) → AnswersLine (content_of new.last) mid now (Err (Catalogue number)) written written' → line_asks (parse_in_batch (content_of new.last)) ≡ true → AreLeft mid now
        → Answers true (Ok Batch) left kept old now (CatalogueFault number) from written'
    ends_refused kept number line asks are_left =
        let appended = Appends-kept from written written' (flat_map (λ answer. answer) done.answered.answers) done.appended line.ends in
        ends_before reader done.lines old mid done.answered text (new.last ∷ behind_it) in_text line.lists line.are_held left kept (CatalogueFault number) now from written' continues.is_input
        (first_stand reader done.lines old mid done.answered text (new.last ∷ behind_it) in_text line.lists line.are_held from written' appended) tt (λ told. tt) (λ e. cc) (λ e. cc)
        (asked_before reader done.lines old mid done.answered text (new.last ∷ behind_it) in_text line.lists line.are_held (CatalogueFault number) now reader.lines done.read.count refl line.asked) (λ other e. line_in_text asks) are_left

    -- the output fails at it
    module _ (line : AnswersLine (content_of new.last) mid now (Err Write) written written') where
      abbrev lists : List (List (List Entry))
      lists = all_lists reader done.lines old mid done.answered text (new.last ∷ behind_it) in_text line.lists line.are_held

      abbrev answer : List ℕ
      answer = line_answer line.lists (content_of new.last)

      abbrev next : List (List (List Entry))
      next = handed_on (lists_behind (content_of new.last) line.lists) behind_it

      abbrev later : Report
      later = batch_from (reader.lines + 1 + 1) new.room next behind_it

      report : batch_report text lists ≡ behind done.answered.answers (in_front answer later)
      report =
          report_is reader done.lines old mid done.answered text (new.last ∷ behind_it) in_text line.lists line.are_held
          ∙ ap (λ more. behind done.answered.answers (batch_from (reader.lines + 1) reader.room more (new.last ∷ behind_it))) (handed_behind line.lists new.last behind_it)
          ∙ ap (behind done.answered.answers) (with_line (reader.lines + 1) reader.room new.room line.lists next new.last behind_it (given_fits reader new rest after is) is.room)

      behind_line : get_or lists (reader.lines + 1) [] ≡ lists_behind (content_of new.last) line.lists
      behind_line =
          list_at reader done.lines old mid done.answered text (new.last ∷ behind_it) in_text line.lists line.are_held 1
          ∙ ap (λ more. get_or more 1 []) (handed_behind line.lists new.last behind_it)
          ∙ handed_first (lists_behind (content_of new.last) line.lists) behind_it

      answer_here : get_or (batch_report text lists).lines reader.lines [] ≡ answer
      answer_here =
          ap (λ (r : Report). get_or r.lines reader.lines []) report
          ∙ ap (λ n. get_or (done.answered.answers ++ answer ∷ later.lines) n []) (sym done.answered.count)
          ∙ get_or-append_seam done.answered.answers answer later.lines []

      pub ends_broken : (kept : Option (List ℕ)) → AreLeft mid now → Answers true (Ok Batch) left kept old now WriteFault from written'
      ends_broken kept are_left = record {
        text = text;
        is_input = continues.is_input;
        lists = lists;
        are_held = all_held reader done.lines old mid done.answered text (new.last ∷ behind_it) in_text line.lists line.are_held;
        are_told = all_told reader done.lines old mid done.answered text (new.last ∷ behind_it) in_text line.lists line.are_held;
        count = reader.lines + 1;
        ends = rw (report, flat_map-append (λ b. b) done.answered.answers (answer ∷ later.lines)) (AppendsPart-second from (flat_map (λ b. b) done.answered.answers) done.appended (AppendsPart-first (flat_map (λ b. b) later.lines) line.ends));
        is_count = tt;
        usage = (λ e. cc, λ e. absurd (batch_answers text lists e));
        ended = WriteFault;
        is_ended = λ other. refl;
        breaks = λ direct. (
          refl,
          λ broken. record {
            before = reader.lines;
            next = refl;
            whole = written;
            first = first_stand reader done.lines old mid done.answered text (new.last ∷ behind_it) in_text line.lists line.are_held from written done.appended;
            part = subst (AppendsPart written written') (sym answer_here) line.ends;
          },
        );
        leaves = λ told are_told. subst (AreTold now) (sym behind_line) (line.leaves (now_told reader done.lines old mid done.answered text (new.last ∷ behind_it) in_text line.lists line.are_held told are_told));
        asked = asked_before reader done.lines old mid done.answered text (new.last ∷ behind_it) in_text line.lists line.are_held WriteFault now (reader.lines + 1) done.read.count refl line.asked;
        failed = λ number e. cc;
        are_left = left_trans old mid now done.answered.left are_left;
      }
