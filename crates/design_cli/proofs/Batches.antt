-- The lines of a batch and the answers to them, one after another.
use Rattle.std.proofs.Common.{◌≡◌, ◌≢◌, ◌⊎◌, inl, inr, ℕ, ◌+◌, ◌-◌, ◌^◌, ◌<◌, ◌≤◌, Bool, true, false, cond, List, [], ◌∷◌, ◌++◌, length, Option, Some, None, Result, Ok, Err, IfSome, refl, ap, sym, ◌∙◌, subst, append-nil, append_assoc, length-append, map, arith}
use Rattle.std.specs.Prelude.{if◌then◌else◌, get_or}
use Rattle.std.specs.List.{flat_map}
use Rattle.std.proofs.lemmas.List.{length-map}
use Rattle.std.proofs.lemmas.List.Concat.{flat_map-append}
use Rattle.std.proofs.lemmas.List.Sums.{sum_by-append}
use Rattle.std.specs.Io.KnownBytes.{Appends, Consumes, prepend_known}
use Rattle.std.proofs.KnownBytes.{Appends-nil, Appends-trans, Consumes-trans}
use Rattle.catalogues.proofs.Held.{held_told, some_held}
use Rattle.catalogues.proofs.Left.{left_refl, left_shorter, left_trans}
use Rattle.catalogues.specs.Consulted.{AreHeld, AreTold}
use Rattle.catalogues.specs.Entries.{Seen}
use Rattle.catalogues.specs.Left.{AreLeft}
use Rattle.catalogues.specs.declared.catalogue.Entry.{Entry}
use Rattle.design_answers.specs.Answered.{AnswersOn, AsksBy, LeavesTold}
use Rattle.design_answers.specs.Requests.{asked_for, asks_catalogues, lists_after, request_report}
use Rattle.design_base.specs.declared.limits.TheConstants.{INPUT_MAX, LINE_MAX}
use Rattle.design_io.proofs.LinesInFront.{line_in_front}
use Rattle.design_io.proofs.LinesOfText.{does_fit}
use Rattle.design_io.proofs.Pieces.{AppendsPart-second}
use Rattle.design_io.specs.Inputs.{IsInput}
use Rattle.design_io.specs.Pieces.{AppendsPart}
use Rattle.design_io.specs.declared.lines.LineEnd.{LineEnd}
use Rattle.design_io.specs.InputLines.{InputLine, LinesRead, GivesFrom, bytes_of, content_of, feeds_in, first_line, fits, is_feed, lines_of, new_reader, next_line, size_of, too_long}
use Rattle.design_lines.specs.CommandLines.{parse_in_batch}
use Rattle.design_lines.specs.declared.command.Request.{Request}
use Rattle.design_lines.specs.declared.command.Reason.{Reason}
use Rattle.design_reports.specs.Answers.{EndsWith}
use Rattle.design_reports.specs.Endings.{message_of}
use Rattle.design_reports.specs.Reports.{Report, output, silent}
use Rattle.design_reports.specs.declared.ending.Ending.{Ending}
use Rattle.design_reports.specs.declared.ending.Ending.TheVariants.{Yes, No, Unknown, Refused, NotBuilt, BadInput, ReadFault, CatalogueFault, NoMemory, WriteFault}
use Rattle.design_cli.specs.Batches.{AnswersLine, AsksEach, EndsLine, LeavesLine, asked_by_line, batch_from, ending_at, handed_on, in_front, left_after, line_answer, line_asked, line_asks, line_report, lists_behind, written}
use Rattle.design_cli.specs.declared.batching.Stop.{Stop}

-- The answer to a line.

-- an answer that is neither want of memory nor a fault was written whole
settled : (report : Report) (ending : Ending) (before old : Option (List ℕ)) → ending ≢ NoMemory → ending ≢ WriteFault → ending ≢ ReadFault → ((number : ℕ) → ending ≢ CatalogueFault number) → EndsWith report ending before old
    → (ending ≡ report.ending) × Appends before old (output report)
settled report Yes before old m w r o ends = ends
settled report No before old m w r o ends = ends
settled report Unknown before old m w r o ends = ends
settled report (Refused reason) before old m w r o ends = ends
settled report NotBuilt before old m w r o ends = ends
settled report (BadInput line) before old m w r o ends = ends
settled report ReadFault before old m w r o ends = absurd (r refl)
settled report (CatalogueFault number) before old m w r o ends = absurd (o number refl)
settled report NoMemory before old m w r o ends = absurd (m refl)
settled report WriteFault before old m w r o ends = absurd (w refl)

module _ (report : Report) (ending : Ending) (before old new : Option (List ℕ)) (m : ending ≢ NoMemory) (w : ending ≢ WriteFault) (r : ending ≢ ReadFault) (o : (number : ℕ) → ending ≢ CatalogueFault number) (ends : EndsWith report ending before old) where
  -- and then its message
  pub said_whole : Appends old new (message_of ending) → Appends before new (written report)
  said_whole said =
      let whole = settled report ending before old m w r o ends in
      Appends-trans before old new (output report) (message_of report.ending) whole.1 (subst (λ e. Appends old new (message_of e)) whole.0 said)

  pub said_part : AppendsPart old new (message_of ending) → AppendsPart before new (written report)
  said_part said =
      let whole = settled report ending before old m w r o ends in
      AppendsPart-second before (output report) whole.1 (subst (λ e. AppendsPart old new (message_of e)) whole.0 said)

-- The report on a text, line by line.

-- answers in front of those of a report
abbrev pub behind : List (List ℕ) → Report → Report
behind answers r = record { lines = answers ++ r.lines; ending = r.ending }

behind-in_front : (answers : List (List ℕ)) (a : List ℕ) (r : Report) → behind answers (in_front a r) ≡ behind (answers ++ a ∷ []) r
behind-in_front answers a r = ap (λ lines. record { lines = lines; ending = r.ending }) (sym (append_assoc answers (a ∷ []) r.lines))

pub bytes_more : (answers : List (List ℕ)) (a : List ℕ) → flat_map (λ b. b) (answers ++ a ∷ []) ≡ flat_map (λ b. b) answers ++ a
bytes_more answers a = flat_map-append (λ b. b) answers (a ∷ []) ∙ ap (λ bytes. flat_map (λ b. b) answers ++ bytes) (append-nil a)

-- a line that fits
pub with_line : (place room room' : ℕ) (entries : List (List Entry)) (more : List (List (List Entry))) (l : InputLine) (lines : List InputLine) → fits room l ≡ true → room ≡ room' + size_of l
    → batch_from place room (entries ∷ more) (l ∷ lines) ≡ in_front (line_answer entries (content_of l)) (batch_from (place + 1) room' more lines)
unfolding batch_from
with_line place room room' entries more l lines fit left = let e : room - size_of l ≡ room' = omega (arith, left) in rw (fit, e) refl

-- a line that is too long
pub bad_first : (place room : ℕ) (more : List (List (List Entry))) (lines : List InputLine) → first_line room lines ≡ too_long → batch_from place room more lines ≡ silent (BadInput place)
unfolding batch_from
bad_first place room more [] is = cc
bad_first place room more (l ∷ lines) is = of (fits room l) refl is
  where
    of : (t : Bool) → fits room l ≡ t → (if t then next_line l lines else too_long) ≡ too_long → batch_from place room more (l ∷ lines) ≡ silent (BadInput place)
    of true e h = cc
    of false e h = rw e refl

-- what is handed on behind a line
pub handed_behind : (entries : List (List Entry)) (l : InputLine) (lines : List InputLine) → handed_on entries (l ∷ lines) ≡ entries ∷ handed_on (lists_behind (content_of l) entries) lines
unfolding handed_on
handed_behind entries l lines = refl

pub handed_first : (entries : List (List Entry)) (lines : List InputLine) → get_or (handed_on entries lines) 0 [] ≡ entries
unfolding handed_on
handed_first entries [] = refl
handed_first entries (l ∷ lines) = refl

-- What was read: bytes whose lines were given, so that with others behind them these are the first lines of the text.
pub record IsRead (left : Option (List ℕ)) (reader : LinesRead) (rest : Option (List ℕ)) (lines : List InputLine) : Type 0 where
  pub given : List ℕ
  pub taken : Consumes left rest given
  pub in_text : (more : List ℕ) → (reader.is_over ≡ true → more ≡ []) → lines_of (given ++ more) ≡ lines ++ lines_of more
  pub last : reader.is_over ≡ true → IfSome left (λ text. IsInput rest [])
  pub count : length lines ≡ reader.lines
  pub feeds : reader.is_over ≡ false → feeds_in given ≡ reader.lines

-- before the first line the catalogues hold what they are seen to hold
abbrev pub IsFirst : List Seen → List Seen → List (List (List Entry)) → Type 0
IsFirst old now [] = now ≡ old
IsFirst old now (entries ∷ lists) = AreHeld old entries

-- where all catalogues tell: what the lines handed on, and what they tell now
pub record HandsOn (told : List (List Entry)) (lines : List InputLine) (lists : List (List (List Entry))) (now : List Seen) : Type 0 where
  pub entries : List (List Entry)
  pub are_told : AreTold now entries
  pub on : (rest : List InputLine) → handed_on told (lines ++ rest) ≡ lists ++ handed_on entries rest

-- how the catalogues are asked for some lines, whatever they hold behind them
pub asks_front : (lines : List InputLine) (lists more : List (List (List Entry))) (old new : List Seen) → length lists ≡ length lines → AsksEach lines lists old new → AsksEach lines (lists ++ more) old new
unfolding AsksEach
asks_front [] lists more old new size each = each
asks_front (l ∷ lines) [] more old new size each = cc
asks_front (l ∷ lines) (entries ∷ lists) more old new size each = (each.0, each.1, asks_front lines lists more each.0 new (omega (arith, size)) each.2)

-- and for one more
asks_more : (lines : List InputLine) (lists : List (List (List Entry))) (l : InputLine) (entries : List (List Entry)) (old mid new : List Seen) → length lists ≡ length lines → AsksEach lines lists old mid → AsksBy Yes (line_asked (content_of l) entries) mid new
    → AsksEach (lines ++ l ∷ []) (lists ++ entries ∷ []) old new
unfolding AsksEach
asks_more [] [] l entries old mid new size each last = (new, subst (λ s. AsksBy Yes (line_asked (content_of l) entries) s new) each last, refl)
asks_more [] (others ∷ lists) l entries old mid new size each last = cc
asks_more (l' ∷ lines) [] l entries old mid new size each last = cc
asks_more (l' ∷ lines) (others ∷ lists) l entries old mid new size each last = (each.0, each.1, asks_more lines lists l entries each.0 mid new (omega (arith, size)) each.2 last)

pub none_asked : (lists : List (List (List Entry))) (old : List Seen) → AsksEach [] lists old old
unfolding AsksEach
none_asked lists old = refl

-- The lines were answered, each on what the catalogues held before it.
pub record AreAnswered (reader : LinesRead) (lines : List InputLine) (old now : List Seen) : Type 0 where
  pub lists : List (List (List Entry))
  pub answers : List (List ℕ)
  pub report : (more : List (List (List Entry))) (rest : List InputLine) → batch_from 1 INPUT_MAX (lists ++ more) (lines ++ rest) ≡ behind answers (batch_from (reader.lines + 1) reader.room more rest)
  pub held : length lists ≡ reader.lines
  pub count : length answers ≡ reader.lines
  pub first : IsFirst old now lists
  pub handed : (told : List (List Entry)) → AreTold old told → HandsOn told lines lists now
  pub size : length lists ≡ length lines
  pub asked : AsksEach lines lists old now
  pub left : AreLeft old now

-- and the answers were written
pub record IsAnswered (left : Option (List ℕ)) (reader : LinesRead) (rest : Option (List ℕ)) (old now : List Seen) (held written : Option (List ℕ)) : Type 0 where
  pub lines : List InputLine
  pub read : IsRead left reader rest lines
  pub answered : AreAnswered reader lines old now
  pub appended : Appends held written (flat_map (λ answer. answer) answered.answers)

pub none_answered : (left : Option (List ℕ)) (old : List Seen) (held : Option (List ℕ)) → IsAnswered left (new_reader INPUT_MAX) (prepend_known [] left) old old held held
none_answered left old held = record {
  lines = [];
  read = record { given = []; taken = all left; in_text = λ more last. refl; last = λ over. cc; count = refl; feeds = λ begun. refl };
  answered = record {
    lists = [];
    answers = [];
    report = λ more rest. refl;
    held = refl;
    count = refl;
    first = refl;
    handed = λ told are_told. record { entries = told; are_told = are_told; on = λ rest. refl };
    size = refl;
    asked = none_asked [] old;
    left = left_refl old;
  };
  appended = Appends-nil held;
}
  where
    all : (left : Option (List ℕ)) → Consumes left (prepend_known [] left) []
    all None = tt
    all (Some text) = refl

-- A line was given, as the reader says, whether the bytes are told or not.
pub record IsGiven (reader new : LinesRead) (rest after : Option (List ℕ)) : Type 0 where
  pub told : IfSome rest (λ bytes. GivesFrom reader new bytes after (Ok true))
  pub begun : reader.is_over ≡ false
  pub lines : new.lines ≡ reader.lines + 1
  pub room : reader.room ≡ new.room + size_of new.last
  pub some : 0 < size_of new.last
  pub short : length new.last.bytes ≤ LINE_MAX
  pub alone : feeds_in new.last.bytes ≡ 0
  pub ended : new.is_over ≡ false → new.last.is_ended ≡ true

told_taken : (reader new : LinesRead) (rest after : Option (List ℕ)) → IfSome rest (λ bytes. GivesFrom reader new bytes after (Ok true)) → Consumes rest after (bytes_of new.last)
told_taken reader new None after gives = tt
told_taken reader new (Some bytes) None gives = absurd gives
told_taken reader new (Some bytes) (Some more) gives = gives.taken

told_last : (left rest after : Option (List ℕ)) (given : List ℕ) (reader new : LinesRead) → Consumes left rest given → IfSome rest (λ bytes. GivesFrom reader new bytes after (Ok true)) → new.is_over ≡ true → IfSome left (λ text. IsInput after [])
told_last None rest after given reader new taken gives over = tt
told_last (Some text) None after given reader new taken gives over = absurd taken
told_last (Some text) (Some bytes) None given reader new taken gives over = absurd gives
told_last (Some text) (Some bytes) (Some more) given reader new taken gives over = gives.last over

-- a line that a line feed ends has one
one_feed : (l : InputLine) → l.is_ended ≡ true → feeds_in l.bytes ≡ 0 → feeds_in (bytes_of l) ≡ 1
one_feed l ended none = rw ended (sum_by-append (λ b. cond (is_feed b) 1 0) l.bytes (10 ∷ []) ∙ ap (λ n. n + 1) none)

apart : true ≢ false
apart e = cc

-- nothing is behind a line that no line feed ends
none_behind : (is_over is_ended : Bool) (more : List ℕ) → (is_over ≡ false → is_ended ≡ true) → (is_over ≡ true → more ≡ []) → is_ended ≡ false → more ≡ []
none_behind true is_ended more ended last cut = last refl
none_behind false is_ended more ended last cut = absurd (apart (sym (ended refl) ∙ cut))

-- no more catalogues are left than there were
pub few_left : {X : Type 0} (see : X → Seen) (old new : List X) → length old < 2 ^ 32 → AreLeft (map see old) (map see new) → length new < 2 ^ 32
few_left see old new few left = let fewer = left_shorter (map see old) (map see new) left in omega (arith, few, fewer, length-map old see, length-map new see)

-- one more line was read
pub one_more : (left rest after : Option (List ℕ)) (reader new : LinesRead) (lines : List InputLine) → IsRead left reader rest lines → IsGiven reader new rest after → IsRead left new after (lines ++ new.last ∷ [])
one_more left rest after reader new lines read is = record {
  given = read.given ++ bytes_of new.last;
  taken = Consumes-trans left rest after read.given (bytes_of new.last) read.taken (told_taken reader new rest after is.told);
  in_text = in_text;
  last = told_last left rest after read.given reader new read.taken is.told;
  count = let size = length-append lines (new.last ∷ []) in omega (arith, size, read.count, is.lines);
  feeds = λ begun.
      let more = sum_by-append (λ b. cond (is_feed b) 1 0) read.given (bytes_of new.last) in
      omega (arith, more, read.feeds is.begun, one_feed new.last (is.ended begun) is.alone, is.lines);
}
  where
    in_text : (more : List ℕ) → (new.is_over ≡ true → more ≡ []) → lines_of ((read.given ++ bytes_of new.last) ++ more) ≡ (lines ++ new.last ∷ []) ++ lines_of more
    in_text more last =
        ap lines_of (append_assoc read.given (bytes_of new.last) more)
        ∙ read.in_text (bytes_of new.last ++ more) (λ over. absurd (apart (sym over ∙ is.begun)))
        ∙ ap (λ rest. lines ++ rest) (line_in_front new.last more is.alone is.some (none_behind new.is_over new.last.is_ended more is.ended last))
        ∙ sym (append_assoc lines (new.last ∷ []) (lines_of more))

-- the first of more
first_more : (old mid now : List Seen) (lists : List (List (List Entry))) (entries : List (List Entry)) → IsFirst old mid lists → AreHeld mid entries → IsFirst old now (lists ++ entries ∷ [])
first_more old mid now [] entries first held = subst (λ s. AreHeld s entries) first held
first_more old mid now (others ∷ lists) entries first held = first

module _ (reader new : LinesRead) (lines : List InputLine) (old mid : List Seen) (done : AreAnswered reader lines old mid) where
  -- one more line was answered
  answered_more : (now : List Seen) (held written : Option (List ℕ)) → fits reader.room new.last ≡ true → reader.room ≡ new.room + size_of new.last → new.lines ≡ reader.lines + 1
      → AnswersLine (content_of new.last) mid now (Ok tt) held written → AreLeft mid now → AreAnswered new (lines ++ new.last ∷ []) old now
  answered_more now held written fit room place line left = record {
    lists = done.lists ++ line.lists ∷ [];
    answers = done.answers ++ answer ∷ [];
    report = report;
    held = let size = length-append done.lists (line.lists ∷ []) in omega (arith, size, done.held, place);
    count = let size = length-append done.answers (answer ∷ []) in omega (arith, size, done.count, place);
    first = first_more old mid now done.lists line.lists done.first line.are_held;
    handed = handed;
    size = let lists = length-append done.lists (line.lists ∷ []) in let all = length-append lines (new.last ∷ []) in omega (arith, lists, all, done.size);
    asked = asks_more lines done.lists new.last line.lists old mid now done.size done.asked line.asked;
    left = left_trans old mid now done.left left;
  }
    where
      l : InputLine
      l = new.last

      answer : List ℕ
      answer = line_answer line.lists (content_of l)

      report : (more : List (List (List Entry))) (rest : List InputLine)
          → batch_from 1 INPUT_MAX ((done.lists ++ line.lists ∷ []) ++ more) ((lines ++ l ∷ []) ++ rest) ≡ behind (done.answers ++ answer ∷ []) (batch_from (new.lines + 1) new.room more rest)
      report more rest =
          ap (λ lists. batch_from 1 INPUT_MAX lists ((lines ++ l ∷ []) ++ rest)) (append_assoc done.lists (line.lists ∷ []) more)
          ∙ ap (batch_from 1 INPUT_MAX (done.lists ++ line.lists ∷ more)) (append_assoc lines (l ∷ []) rest)
          ∙ done.report (line.lists ∷ more) (l ∷ rest)
          ∙ ap (behind done.answers) (with_line (reader.lines + 1) reader.room new.room line.lists more l rest fit room)
          ∙ behind-in_front done.answers answer (batch_from (reader.lines + 1 + 1) new.room more rest)
          ∙ ap (λ n. behind (done.answers ++ answer ∷ []) (batch_from (n + 1) new.room more rest)) (sym place)

      handed : (told : List (List Entry)) → AreTold old told → HandsOn told (lines ++ l ∷ []) (done.lists ++ line.lists ∷ []) now
      handed told are_told =
          let h = done.handed told are_told in
          let same : line.lists ≡ h.entries = held_told mid line.lists h.entries line.are_held h.are_told in
          record {
            entries = lists_behind (content_of l) line.lists;
            are_told = line.leaves (subst (AreTold mid) (sym same) h.are_told);
            on = λ rest.
                ap (handed_on told) (append_assoc lines (l ∷ []) rest)
                ∙ h.on (l ∷ rest)
                ∙ ap (λ entries. done.lists ++ handed_on entries (l ∷ rest)) (sym same)
                ∙ ap (λ lists. done.lists ++ lists) (handed_behind line.lists l rest)
                ∙ sym (append_assoc done.lists (line.lists ∷ []) (handed_on (lists_behind (content_of l) line.lists) rest));
          }

-- a line that was given fits
pub given_fits : (reader new : LinesRead) (rest after : Option (List ℕ)) → IsGiven reader new rest after → fits reader.room new.last ≡ true
given_fits reader new rest after is = does_fit reader.room new.last is.short (omega (arith, is.room))

-- a line was given and answered
pub line_answered : (left rest after : Option (List ℕ)) (reader new : LinesRead) (old mid now : List Seen) (held written more : Option (List ℕ)) → IsAnswered left reader rest old mid held written → IsGiven reader new rest after
    → AnswersLine (content_of new.last) mid now (Ok tt) written more → AreLeft mid now → IsAnswered left new after old now held more
unfolding answered_more
line_answered left rest after reader new old mid now held written more done is line left_over =
    let answer = line_answer line.lists (content_of new.last) in
    record {
      lines = done.lines ++ new.last ∷ [];
      read = one_more left rest after reader new done.lines done.read is;
      answered = answered_more reader new done.lines old mid done.answered now written more (given_fits reader new rest after is) is.room is.lines line left_over;
      appended = rw (bytes_more done.answered.answers answer) (Appends-trans held written more (flat_map (λ b. b) done.answered.answers) answer done.appended line.ends);
    }

-- what a call of the reader told, where its answer is known
pub told_as : (rest : Option (List ℕ)) (reader new : LinesRead) (after : Option (List ℕ)) (result answer : Result Bool LineEnd) → result ≡ answer → IfSome rest (λ bytes. GivesFrom reader new bytes after result) → IfSome rest (λ bytes. GivesFrom reader new bytes after answer)
told_as rest reader new after result answer is told = subst (λ r. IfSome rest (λ bytes. GivesFrom reader new bytes after r)) is told

-- a reader that is over refuses nothing
pub refused_before : (is_over : Bool) (result : Result Bool LineEnd) (end : LineEnd) → result ≡ Err end → (is_over ≡ true → result ≡ Ok false) → is_over ≢ true
refused_before is_over result end is over_gives over = let e : Err end ≡ Ok false = sym is ∙ over_gives over in cc

-- and gives no line
given_before : (is_over given : Bool) → given ≡ true → (is_over ≡ true → ◌≡◌ {A = Result Bool LineEnd} (Ok given) (Ok false)) → is_over ≡ false
given_before false given is over_gives = refl
given_before true given is over_gives = let e : ◌≡◌ {A = Result Bool LineEnd} (Ok true) (Ok false) = sym (ap Ok is) ∙ over_gives refl in cc

-- a line was given, by the clauses of the reader
pub is_given : (rest : Option (List ℕ)) (reader new : LinesRead) (after : Option (List ℕ)) (given : Bool) → given ≡ true → IfSome rest (λ bytes. GivesFrom reader new bytes after (Ok given)) → (reader.is_over ≡ true → ◌≡◌ {A = Result Bool LineEnd} (Ok given) (Ok false))
    → (given ≡ true → new.lines ≡ reader.lines + 1) → (given ≡ true → reader.room ≡ new.room + size_of new.last) → (given ≡ true → 0 < size_of new.last) → (given ≡ true → length new.last.bytes ≤ LINE_MAX) → (given ≡ true → feeds_in new.last.bytes ≡ 0)
    → (new.is_over ≡ false → (given ≡ true) × (new.last.is_ended ≡ true)) → IsGiven reader new rest after
is_given rest reader new after given is told over lines room some short alone ended = record {
  told = told_as rest reader new after (Ok given) (Ok true) (ap Ok is) told;
  begun = given_before reader.is_over given is over;
  lines = lines is;
  room = room is;
  some = some is;
  short = short is;
  alone = alone is;
  ended = λ begun. (ended begun).1;
}

-- the answer to a line and what is left behind it, by what was read of it
pub answer_is : (line : List ℕ) (read : Result (Option Request) Reason) (lists : List (List Entry)) → read ≡ parse_in_batch line → line_answer lists line ≡ written (line_report read lists)
unfolding line_answer
answer_is line read lists is = ap (λ r. written (line_report r lists)) (sym is)

pub behind_is : (line : List ℕ) (read : Result (Option Request) Reason) (lists : List (List Entry)) → read ≡ parse_in_batch line → lists_behind line lists ≡ left_after read lists
unfolding lists_behind
behind_is line read lists is = ap (λ r. left_after r lists) (sym is)

asked_is : (line : List ℕ) (read : Result (Option Request) Reason) (lists : List (List Entry)) → read ≡ parse_in_batch line → asked_by_line read lists ≡ line_asked line lists
unfolding line_asked
asked_is line read lists is = ap (λ r. asked_by_line r lists) is

-- a line without a word
pub blank_is : (line : List ℕ) (lists : List (List Entry)) → Ok None ≡ parse_in_batch line → line_answer lists line ≡ []
unfolding message_of
blank_is line lists is = answer_is line (Ok None) lists is

-- what catalogues tell behind an answer that was not cut
pub told_whole : (ending : Ending) (new : List Seen) (entries : List (List Entry)) → ending ≢ NoMemory → ((number : ℕ) → ending ≢ CatalogueFault number) → LeavesTold ending new entries → AreTold new entries
told_whole Yes new entries m o told = told
told_whole No new entries m o told = told
told_whole Unknown new entries m o told = told
told_whole (Refused reason) new entries m o told = told
told_whole NotBuilt new entries m o told = told
told_whole (BadInput line) new entries m o told = told
told_whole ReadFault new entries m o told = told
told_whole (CatalogueFault number) new entries m o told = absurd (o number refl)
told_whole NoMemory new entries m o told = absurd (m refl)
told_whole WriteFault new entries m o told = told

-- how catalogues were asked, by an answer that was not cut: so many of them, or none
pub asked_whole : (ending other : Ending) (asks : Option ℕ) (old new : List Seen) → ending ≢ NoMemory → ((number : ℕ) → ending ≢ CatalogueFault number) → (other ≡ Yes) ⊎ (other ≡ WriteFault) → AsksBy ending asks old new → AsksBy other asks old new
asked_whole ending other asks old new m o which asked = elim which [
  | inl is ↦ subst (λ e. AsksBy e asks old new) (sym is) (all ending asks m o asked)
  | inr is ↦ subst (λ e. AsksBy e asks old new) (sym is) (broken asks (all ending asks m o asked))
]
  where
    broken : (asks : Option ℕ) → AsksBy Yes asks old new → AsksBy WriteFault asks old new
    broken None asked = asked
    broken (Some n) asked = asked

    all : (ending : Ending) (asks : Option ℕ) → ending ≢ NoMemory → ((number : ℕ) → ending ≢ CatalogueFault number) → AsksBy ending asks old new → AsksBy Yes asks old new
    all NoMemory asks m o asked = absurd (m refl)
    all (CatalogueFault number) asks m o asked = absurd (o number refl)
    all Yes asks m o asked = asked
    all No None m o asked = asked
    all No (Some n) m o asked = asked
    all Unknown None m o asked = asked
    all Unknown (Some n) m o asked = asked
    all (Refused reason) None m o asked = asked
    all (Refused reason) (Some n) m o asked = asked
    all NotBuilt None m o asked = asked
    all NotBuilt (Some n) m o asked = asked
    all (BadInput line) None m o asked = asked
    all (BadInput line) (Some n) m o asked = asked
    all ReadFault None m o asked = asked
    all ReadFault (Some n) m o asked = asked
    all WriteFault None m o asked = asked
    all WriteFault (Some n) m o asked = asked

-- How a line is answered, by what was read of it.

-- a line that is refused
pub refused_line : (line : List ℕ) (reason : Reason) (seen : List Seen) (result : Result (Unit {0}) Stop) (held now : Option (List ℕ)) → Err reason ≡ parse_in_batch line → EndsLine (written (silent (Refused reason))) result held now
    → ((entries : List (List Entry)) → AreTold seen entries → LeavesLine result seen entries) → AsksBy (ending_at result) None seen seen → AnswersLine line seen seen result held now
refused_line line reason seen result held now is ends leaves asked =
    let some = some_held seen in
    record { lists = some.0; are_held = some.1; ends = rw (answer_is line (Err reason) some.0 is) ends; leaves = λ told. rw (behind_is line (Err reason) some.0 is) (leaves some.0 told); asked = subst (λ asks. AsksBy (ending_at result) asks seen seen) (asked_is line (Err reason) some.0 is) asked }

pub blank_line : (line : List ℕ) (seen : List Seen) (held : Option (List ℕ)) → Ok None ≡ parse_in_batch line → AnswersLine line seen seen (Ok tt) held held
blank_line line seen held is =
    let some = some_held seen in
    record { lists = some.0; are_held = some.1; ends = rw (blank_is line some.0 is) (Appends-nil held); leaves = λ told. rw (behind_is line (Ok None) some.0 is) told; asked = subst (λ asks. AsksBy Yes asks seen seen) (asked_is line (Ok None) some.0 is) refl }

-- a request
module _ (line : List ℕ) (request : Request) (is : Ok (Some request) ≡ parse_in_batch line) (old new : List Seen) where
  pub request_line : (ending : Ending) (result : Result (Unit {0}) Stop) (held mid now : Option (List ℕ)) → AnswersOn old new (request_report request) (lists_after request) (asked_for request) ending held mid
      → ((report : Report) (before : Option (List ℕ)) → EndsWith report ending before mid → EndsLine (written report) result before now) → ((seen : List Seen) (entries : List (List Entry)) → LeavesTold ending seen entries → LeavesLine result seen entries)
      → ((asks : Option ℕ) (old new : List Seen) → AsksBy ending asks old new → AsksBy (ending_at result) asks old new) → AnswersLine line old new result held now
  request_line ending result held mid now on ends leaves asked = record {
    lists = on.lists;
    are_held = on.are_held;
    ends = rw (answer_is line (Ok (Some request)) on.lists is) (ends (request_report request on.lists) held on.ends);
    leaves = λ told. rw (behind_is line (Ok (Some request)) on.lists is) (leaves new (lists_after request on.lists) (on.leaves told));
    asked = subst (λ asks. AsksBy (ending_at result) asks old new) (asked_is line (Ok (Some request)) on.lists is) (asked (asked_for request on.lists) old new on.asked);
  }

-- it asks catalogues where its line does
pub request_asks : (line : List ℕ) (request : Request) → Ok (Some request) ≡ parse_in_batch line → asks_catalogues request ≡ true → line_asks (parse_in_batch line) ≡ true
request_asks line request is asks = subst (λ read. line_asks read ≡ true) is asks
