-- What is said of offers, and how an answer ends that asks no catalogues.
use Rattle.std.proofs.Common.{◌≡◌, ◌≢◌, ◌==◌, ℕ, ◌+◌, ◌<◌, List, [], ◌∷◌, ◌++◌, append-nil, append_assoc, ap, ap₂, arith, drop, get_or, inl, inr, length, map, refl, subst, sym, take, true, ◌∙◌, Option, Some}
use Rattle.std.specs.Io.KnownBytes.{Appends}
use Rattle.std.specs.Prelude.{None}
use Rattle.std.specs.List.{flat_map}
use Rattle.std.proofs.KnownBytes.{Appends-nil, Appends-trans, Keeps-refl}
use Rattle.counting.proofs.Booleans.{eqb-true}
use Rattle.std.proofs.lemmas.List.{map-append, take-append-drop, take_more}
use Rattle.catalogues.proofs.Held.{held_length, held_none, some_held}
use Rattle.catalogues.proofs.Left.{asks_none, first_unfailed, none_failed}
use Rattle.catalogues.proofs.Walks.{consulted_none}
use Rattle.catalogues.specs.Consulted.{AreHeld, AreTold, IsConsulted, consulted}
use Rattle.catalogues.specs.Consults.{AsksFirst, EndsAtValid, HasEnded, count_asked}
use Rattle.catalogues.specs.Entries.{Seen}
use Rattle.catalogues.specs.Left.{AreUnfailed}
use Rattle.catalogues.specs.declared.catalogue.Entry.{Entry}
use Rattle.catalogues.specs.declared.outcome.ConsultEnd.{ConsultEnd}
use Rattle.catalogues.specs.declared.outcome.ConsultEnd.TheVariants.{Failed, Memory}
use Rattle.catalogues.specs.declared.outcome.Rejected.{Rejected}
use Rattle.design_answers.specs.Answered.{AnswersOn, AsksBy, LeavesTold}
use Rattle.design_answers.specs.Offers.{consulted_report, counted, ending_at_consult, handed_lines, handed_report, offers_report, refused_lines, valid_lines}
use Rattle.design_answers.specs.Requests.{ask_report, asked_by, asked_for, asks_some, build_report, design_lines, left_by, lists_after, request_report}
use Rattle.design_base.specs.declared.query.Query.{Query}
use Rattle.design_base.specs.Steps.{Step}
use Rattle.design_base.specs.declared.verdict.Criterion.{Criterion}
use Rattle.design_base.specs.declared.verdict.Verdict.{Verdict}
use Rattle.design_base.specs.declared.verdict.Verdict.TheVariants.{Yes as YesVerdict, No as NoVerdict, Unknown as UnknownVerdict}
use Rattle.design_io.proofs.Pieces.{AppendsPart-first, AppendsPart-second}
use Rattle.design_io.specs.Pieces.{AppendsPart}
use Rattle.design_reports.proofs.Outputs.{output_of_both}
use Rattle.design_lines.specs.declared.command.Request.{Request}
use Rattle.design_lines.specs.declared.command.Shape.{Shape}
use Rattle.design_reports.specs.Answers.{EndsWith}
use Rattle.design_reports.specs.Reports.{Report, output, verdict_report}
use Rattle.design_reports.specs.Texts.{refused_offer_line, verdict_line}
use Rattle.design_reports.specs.declared.ending.Ending.{Ending}
use Rattle.design_reports.specs.declared.ending.Ending.TheVariants.{Yes, No, Unknown, Refused, NotBuilt, BadInput, ReadFault, CatalogueFault, NoMemory, WriteFault}

abbrev joined : List (List ℕ) → List ℕ
joined lines = flat_map (λ line. line) lines

-- the bytes of the offers
pub offers_output : (q : Query) (refused : List Rejected) (valid : Option (ℕ × ℕ)) → output (offers_report q refused valid []) ≡ verdict_line q UnknownVerdict ++ (joined (refused_lines refused) ++ joined (valid_lines valid))
offers_output q refused valid =
    ap (λ lines. verdict_line q UnknownVerdict ++ joined (refused_lines refused ++ lines)) (append-nil (valid_lines valid)) ∙ ap (λ bytes. verdict_line q UnknownVerdict ++ bytes) (output_of_both (refused_lines refused) (valid_lines valid))

pub handed_output : (q : Query) (refused : List Rejected) (valid : Option (ℕ × ℕ)) (lines : List (List ℕ))
    → output (offers_report q refused valid lines) ≡ (verdict_line q UnknownVerdict ++ (joined (refused_lines refused) ++ joined (valid_lines valid))) ++ joined lines
handed_output q refused valid lines =
    let first = verdict_line q UnknownVerdict in
    let front = joined (refused_lines refused) in
    ap (λ bytes. first ++ bytes)
    (output_of_both (refused_lines refused) (valid_lines valid ++ lines) ∙ ap (λ bytes. front ++ bytes) (output_of_both (valid_lines valid) lines) ∙ sym (append_assoc front (joined (valid_lines valid)) (joined lines)))
    ∙ sym (append_assoc first (front ++ joined (valid_lines valid)) (joined lines))

-- one more offer that was refused
module _ (refused : List Rejected) (i : ℕ) (d : Rejected) (within : i < length refused) where
  abbrev pub line_at : List ℕ
  line_at = refused_offer_line (get_or refused i d).number (get_or refused i d).finding

  front_more : joined (refused_lines (take (i + 1) refused)) ≡ joined (refused_lines (take i refused)) ++ line_at
  front_more =
      let r = get_or refused i d in
      ap (λ front. joined (refused_lines front)) (take_more refused i d within)
      ∙ ap joined (map-append (λ r. refused_offer_line r.number r.finding) (take i refused) (r ∷ []))
      ∙ output_of_both (refused_lines (take i refused)) (refused_lines (r ∷ []))
      ∙ ap (λ bytes. joined (refused_lines (take i refused)) ++ bytes) (append-nil line_at)

  pub refused_more : (a b c : Option (List ℕ)) → Appends a b (joined (refused_lines (take i refused))) → Appends b c line_at → Appends a c (joined (refused_lines (take (i + 1) refused)))
  refused_more a b c front next = rw front_more (Appends-trans a b c _ _ front next)

  -- a part of its line is a part of all
  pub refused_part : (a b c : Option (List ℕ)) → Appends a b (joined (refused_lines (take i refused))) → AppendsPart b c line_at → AppendsPart a c (joined (refused_lines refused))
  refused_part a b c front part =
      let rest = drop (i + 1) refused in
      let is : joined (refused_lines refused) ≡ joined (refused_lines (take (i + 1) refused)) ++ joined (refused_lines rest) =
      ap (λ all. joined (refused_lines all)) (sym (take-append-drop (i + 1) refused)) ∙ ap joined (map-append (λ r. refused_offer_line r.number r.finding) (take (i + 1) refused) rest)
      ∙ output_of_both (refused_lines (take (i + 1) refused)) (refused_lines rest) in
      rw is (AppendsPart-first (joined (refused_lines rest)) (rw front_more (AppendsPart-second a (joined (refused_lines (take i refused))) front part)))

-- catalogues that were not asked tell what they told
pub still_told : (ending : Ending) (seen : List Seen) (lists : List (List Entry)) → AreTold seen lists → LeavesTold ending seen lists
still_told Yes seen lists told = told
still_told No seen lists told = told
still_told Unknown seen lists told = told
still_told (Refused reason) seen lists told = told
still_told NotBuilt seen lists told = told
still_told (BadInput line) seen lists told = told
still_told ReadFault seen lists told = told
still_told (CatalogueFault number) seen lists told = tt
still_told NoMemory seen lists told = tt
still_told WriteFault seen lists told = told

-- the answer is no catalogue fault
abbrev pub IsNoFault : Ending → Type 0
IsNoFault ending = (number : ℕ) → ending ≢ CatalogueFault number

-- so they were not asked, or the first of them were
pub still_unasked : (ending : Ending) (seen : List Seen) → IsNoFault ending → AsksBy ending None seen seen
still_unasked Yes seen none = refl
still_unasked No seen none = refl
still_unasked Unknown seen none = refl
still_unasked (Refused reason) seen none = refl
still_unasked NotBuilt seen none = refl
still_unasked (BadInput line) seen none = refl
still_unasked ReadFault seen none = refl
still_unasked (CatalogueFault number) seen none = absurd (none number refl)
still_unasked NoMemory seen none = inl refl
still_unasked WriteFault seen none = refl

pub asks_those : (ending : Ending) (n : ℕ) (old new : List Seen) → IsNoFault ending → AsksFirst n old new → AsksBy ending (Some n) old new
asks_those Yes n old new none first = first
asks_those No n old new none first = first
asks_those Unknown n old new none first = first
asks_those (Refused reason) n old new none first = first
asks_those NotBuilt n old new none first = first
asks_those (BadInput line) n old new none first = first
asks_those ReadFault n old new none first = first
asks_those (CatalogueFault number) n old new none first = absurd (none number refl)
asks_those NoMemory n old new none first = inr (n, first)
asks_those WriteFault n old new none first = first

-- an answer whose report hangs on no entries
pub unasked_on : (seen : List Seen) (report : Report) (ending : Ending) (held now : Option (List ℕ)) → IsNoFault ending → EndsWith report ending held now
    → AnswersOn seen seen (λ lists. report) (λ lists. lists) (λ lists. None) ending held now
unasked_on seen report ending held now none ends =
    let some = some_held seen in
    record { lists = some.0; are_held = some.1; ends = ends; leaves = still_told ending seen some.0; asked = still_unasked ending seen none }

-- the same of a request whose report hangs on none, and which leaves them as they are
pub request_on : (request : Request) (seen : List Seen) (report : Report) (ending : Ending) (held now : Option (List ℕ)) → ((lists : List (List Entry)) → request_report request lists ≡ report) → ((lists : List (List Entry)) → lists_after request lists ≡ lists)
    → ((lists : List (List Entry)) → asked_for request lists ≡ None) → IsNoFault ending → EndsWith report ending held now → AnswersOn seen seen (request_report request) (lists_after request) (asked_for request) ending held now
request_on request seen report ending held now is after asks none ends =
    let some = some_held seen in
    record {
      lists = some.0;
      are_held = some.1;
      ends = subst (λ r. EndsWith r ending held now) (sym (is some.0)) ends;
      leaves = λ told. subst (LeavesTold ending seen) (sym (after some.0)) (still_told ending seen some.0 told);
      asked = subst (λ asks. AsksBy ending asks seen seen) (sym (asks some.0)) (still_unasked ending seen none);
    }

-- what catalogues offered
module _ (q : Query) (old new : List Seen) (refused : List Rejected) (valid : Option (ℕ × List (List ℕ))) (found : IsConsulted q old new refused valid) (first : EndsAtValid old new valid) (ending : Ending) (none : IsNoFault ending) (held now : Option (List ℕ)) where
  asks_by : AsksBy ending (asked_by q UnknownVerdict found.lists) old new
  asks_by = asks_those ending (count_asked (length found.lists) (consulted q found.lists).valid) old new none
      (subst (λ n. AsksFirst n old new) (ap₂ (λ count valid. count_asked count valid) (sym (held_length old found.lists found.held)) found.valid_one) first)

  pub consulted_on : EndsWith (offers_report q refused (counted valid) []) ending held now → AnswersOn old new (consulted_report q) (λ lists. (consulted q lists).lists) (asked_by q UnknownVerdict) ending held now
  consulted_on ends = record {
    lists = found.lists;
    are_held = found.held;
    ends = subst (λ report. EndsWith report ending held now) (ap₂ (λ refused valid. offers_report q refused (counted valid) []) found.refusals found.valid_one) ends;
    leaves = λ told. still_told ending new (consulted q found.lists).lists (found.after told);
    asked = asks_by;
  }

  pub handed_on : (shape : Shape) → EndsWith (offers_report q refused (counted valid) (handed_lines q shape valid)) ending held now → AnswersOn old new (handed_report q shape) (λ lists. (consulted q lists).lists) (asked_by q UnknownVerdict) ending held now
  handed_on shape ends = record {
    lists = found.lists;
    are_held = found.held;
    ends = subst (λ report. EndsWith report ending held now) (ap₂ (λ refused valid. offers_report q refused (counted valid) (handed_lines q shape valid)) found.refusals found.valid_one) ends;
    leaves = λ told. still_told ending new (consulted q found.lists).lists (found.after told);
    asked = asks_by;
  }

-- the catalogues were not asked to the end
pub ended_on : (old new : List Seen) (report : List (List Entry) → Report) (after : List (List Entry) → List (List Entry)) (asks : List (List Entry) → Option ℕ) (end : ConsultEnd) (ending : Ending) (held : Option (List ℕ))
    → ending ≡ ending_at_consult end → HasEnded old new end → AnswersOn old new report after asks ending held held
ended_on old new report after asks end ending held is ended = subst (λ ending. AnswersOn old new report after asks ending held held) (sym is) (of end ended)
  where
    some : (lists : List (List Entry)) × AreHeld old lists
    some = some_held old

    of : (end : ConsultEnd) → HasEnded old new end → AnswersOn old new report after asks (ending_at_consult end) held held
    of (Failed number) ended = record { lists = some.0; are_held = some.1; ends = Keeps-refl held; leaves = λ told. tt; asked = ended }
    of Memory ended = record { lists = some.0; are_held = some.1; ends = Keeps-refl held; leaves = λ told. tt; asked = inr ended }

-- a question that the table of rules answers
module _ (q : Query) (seen : List Seen) (ending : Ending) (held now : Option (List ℕ)) (none : IsNoFault ending) where
  pub closed_ask : (v w : Verdict) → v ≡ w → v ≢ UnknownVerdict → EndsWith (verdict_report q v []) ending held now → AnswersOn seen seen (ask_report q w) (left_by q w) (asked_by q w) ending held now
  closed_ask v w is closed ends = subst (λ w. AnswersOn seen seen (ask_report q w) (left_by q w) (asked_by q w) ending held now) is (of v closed ends)
    where
      of : (v : Verdict) → v ≢ UnknownVerdict → EndsWith (verdict_report q v []) ending held now → AnswersOn seen seen (ask_report q v) (left_by q v) (asked_by q v) ending held now
      of (YesVerdict step) closed ends = unasked_on seen (verdict_report q (YesVerdict step) []) ending held now none ends
      of (NoVerdict criterion) closed ends = unasked_on seen (verdict_report q (NoVerdict criterion) []) ending held now none ends
      of UnknownVerdict closed ends = absurd (closed refl)

  pub built_yes : (shape : Shape) (v : Verdict) (step : Step) → YesVerdict step ≡ v → EndsWith (verdict_report q v (design_lines q shape v)) ending held now → AnswersOn seen seen (build_report q shape v) (left_by q v) (asked_by q v) ending held now
  built_yes shape v step is ends = subst (λ v. EndsWith (verdict_report q v (design_lines q shape v)) ending held now → AnswersOn seen seen (build_report q shape v) (left_by q v) (asked_by q v) ending held now) is
      (unasked_on seen (verdict_report q (YesVerdict step) (design_lines q shape (YesVerdict step))) ending held now none) ends

  pub built_no : (shape : Shape) (v : Verdict) (criterion : Criterion) → NoVerdict criterion ≡ v → EndsWith (verdict_report q (NoVerdict criterion) []) ending held now → AnswersOn seen seen (build_report q shape v) (left_by q v) (asked_by q v) ending held now
  built_no shape v criterion is ends = subst (λ v. AnswersOn seen seen (build_report q shape v) (left_by q v) (asked_by q v) ending held now) is (unasked_on seen (verdict_report q (NoVerdict criterion) []) ending held now none ends)

  -- an open question where there is no catalogue
  pub open_alone : (v : Verdict) → UnknownVerdict ≡ v → seen ≡ [] → EndsWith (verdict_report q UnknownVerdict []) ending held now → AnswersOn seen seen (ask_report q v) (left_by q v) (asked_by q v) ending held now
  open_alone v is no_one ends = subst (λ v. AnswersOn seen seen (ask_report q v) (left_by q v) (asked_by q v) ending held now) is (subst (λ s. AnswersOn s s (ask_report q UnknownVerdict) (left_by q UnknownVerdict) (asked_by q UnknownVerdict) ending held now) (sym no_one) (record {
    lists = [];
    are_held = held_none;
    ends = subst (λ walk. EndsWith (offers_report q walk.refusals (counted walk.valid) []) ending held now) (sym (consulted_none q)) ends;
    leaves = λ told. still_told ending [] (consulted q []).lists (ap (λ walk. map (λ es. Some es) walk.lists) (sym (consulted_none q)));
    asked = asks_those ending (count_asked 0 (consulted q []).valid) [] [] none (subst (λ n. AsksFirst n [] []) (sym (ap (λ walk. count_asked 0 walk.valid) (consulted_none q))) asks_none);
  }))

by_count : (asks : Option ℕ) (old new : List Seen) → AsksBy Yes asks old new → AreUnfailed old new
by_count None old new same = subst (AreUnfailed old) (sym same) (none_failed old)
by_count (Some n) old new first = first_unfailed n old new first

-- unless a catalogue fault is answered, no failed offer was counted
pub asked_unfailed : (ending : Ending) (asks : Option ℕ) (old new : List Seen) → IsNoFault ending → AsksBy ending asks old new → AreUnfailed old new
asked_unfailed NoMemory asks old new none (inl same) = subst (AreUnfailed old) (sym same) (none_failed old)
asked_unfailed NoMemory asks old new none (inr some) = first_unfailed some.0 old new some.1
asked_unfailed (CatalogueFault number) asks old new none asked = absurd (none number refl)
asked_unfailed Yes asks old new none asked = by_count asks old new asked
asked_unfailed No asks old new none asked = by_count asks old new asked
asked_unfailed Unknown asks old new none asked = by_count asks old new asked
asked_unfailed (Refused reason) asks old new none asked = by_count asks old new asked
asked_unfailed NotBuilt asks old new none asked = by_count asks old new asked
asked_unfailed (BadInput line) asks old new none asked = by_count asks old new asked
asked_unfailed ReadFault asks old new none asked = by_count asks old new asked
asked_unfailed WriteFault asks old new none asked = by_count asks old new asked

-- no catalogue is seen where there is none
pub none_seen : {X : Type 0} (see : X → Seen) (items : List X) (n : ℕ) → n ≡ length items → true ≡ (n == 0) → map see items ≡ []
none_seen see [] n size is = refl
none_seen see (x ∷ items) n size is = let none = eqb-true n 0 (sym is) in absurd (omega (arith, none, size))

-- there is a catalogue to ask
pub asks_more : (seen : List Seen) → seen ≢ [] → asks_some true seen ≡ true
asks_more [] some = absurd (some refl)
asks_more (s ∷ seen) some = refl
