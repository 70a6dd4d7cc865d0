-- How an answer ends that reads its whole input first, against its report.
use Rattle.std.proofs.Common.{◌≡◌, ℕ, ◌<◌, ◌≤◌, List, Option, Ok, Err, true, false, length, ap, subst, arith}
use Rattle.std.specs.Prelude.{Vec, nat_le}
use Rattle.std.proofs.KnownBytes.{Appends-nil, Keeps-refl}
use Rattle.std.proofs.lemmas.Bool.Decides.{nat_tests}
use Rattle.design_base.specs.declared.limits.TheConstants.{INPUT_MAX}
use Rattle.design_cli.specs.Runs.{EndsOn}
use Rattle.design_cli.specs.WholeInputs.{whole_report}
use Rattle.design_io.specs.Inputs.{ReadGives, ReadsText}
use Rattle.design_io.specs.declared.reading.ReadEnd.{ReadEnd}
use Rattle.design_io.specs.declared.reading.ReadEnd.TheVariants.{Failed, TooLong, Memory}
use Rattle.design_reports.specs.Answers.{EndsWith}
use Rattle.design_reports.specs.Endings.{ending_at}
use Rattle.design_reports.specs.Reports.{Report}
use Rattle.design_reports.specs.declared.ending.Ending.{Ending}
use Rattle.design_reports.specs.declared.ending.Ending.TheVariants.{BadInput}

is_above : (limit n : ℕ) → limit < n → nat_le n limit ≡ false
is_above limit n more = grind (arith, nat_tests)

is_within : (limit n : ℕ) → n ≤ limit → nat_le n limit ≡ true
is_within limit n within = grind (arith, nat_tests)

-- the answer to an input that was not read ends as the report on each input that is too long, or has a cause of its own
unread_ends : (Z : Type 0) (report : List ℕ → Report) (text : List ℕ) (end : ReadEnd) (held : Option (List ℕ)) → ReadGives {Z = Z} INPUT_MAX text (Err end) → EndsWith (whole_report report text) (ending_at end) held held
unread_ends Z report text Failed held gives = Keeps-refl held
unread_ends Z report text (TooLong line) held gives = rw (is_above INPUT_MAX (length text) gives.0) (ap BadInput gives.1, Appends-nil held)
unread_ends Z report text Memory held gives = Keeps-refl held

pub unread_on : (Z : Type 0) (report : List ℕ → Report) (left : Option (List ℕ)) (end : ReadEnd) (held : Option (List ℕ)) → ReadsText {Z = Z} left INPUT_MAX (Err end) → EndsOn left (whole_report report) (ending_at end) held held
unread_on Z report left end held reads = record { text = reads.text; is_input = reads.is_input; ends = unread_ends Z report reads.text end held reads.gives }

-- an input that was read whole is answered as its text is
read_ends : (report : List ℕ → Report) (text : List ℕ) (ending : Ending) (old new : Option (List ℕ)) → length text ≤ INPUT_MAX → EndsWith (report text) ending old new → EndsWith (whole_report report text) ending old new
read_ends report text ending old new short ends = rw (is_within INPUT_MAX (length text) short) ends

pub read_on : (Z : Type 0) (report : List ℕ → Report) (left : Option (List ℕ)) (all : Vec ℕ Z) (ending : Ending) (old new : Option (List ℕ)) → ReadsText left INPUT_MAX (Ok all) → EndsWith (report all.items) ending old new
    → EndsOn left (whole_report report) ending old new
read_on Z report left all ending old new reads ends = record {
  text = reads.text;
  is_input = reads.is_input;
  ends = read_ends report reads.text ending old new reads.gives.0 (subst (λ text. EndsWith (report text) ending old new) reads.gives.1 ends);
}
