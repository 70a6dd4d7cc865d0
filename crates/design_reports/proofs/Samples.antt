-- Small reports, computed.
use Rattle.std.proofs.Common.{◌≡◌, [], ◌∷◌, ◌++◌, refl}
use Rattle.std.specs.Fmt.{digits}
use Rattle.std.specs.Prelude.{codes}
use Rattle.derivations.specs.declared.line.LineFault.TheVariants.{MissingPremise, Surplus}
use Rattle.design_base.specs.declared.query.Query.TheVariants.{Td, Bibd}
use Rattle.design_base.specs.declared.verdict.Verdict.TheVariants.{No, Unknown}
use Rattle.design_base.specs.declared.verdict.Criterion.TheVariants.{Groups}
use Rattle.design_checks.specs.declared.finding.Finding.TheVariants.{BadPair, Valid}
use Rattle.design_lines.specs.Printed.{counted_line, question_words}
use Rattle.design_lines.specs.declared.command.Reason.TheVariants.{OutOfBounds, Unknown as UnknownWord}
use Rattle.design_reports.specs.Endings.{message_of}
use Rattle.design_reports.specs.Reports.{found_report, output, verdict_report}
use Rattle.design_reports.specs.Texts.{fault_line, finding_line, refused_offer_line, valid_offer_line, verdict_line}
use Rattle.design_reports.specs.declared.ending.Ending.TheVariants.{CatalogueFault, Refused}

unknown_report : output (verdict_report (Td 4 6) Unknown []) ≡ codes "td 4 6 unknown" ++ 10 ∷ []
unfolding verdict_line question_words digits
unknown_report = refl

no_report : output (verdict_report (Td 5 2) (No Groups) []) ≡ codes "td 5 2 no groups" ++ 10 ∷ []
unfolding verdict_line question_words digits
no_report = refl

pair_report : output (found_report (Bibd 7 3 1) (BadPair 0 5 2)) ≡ codes "bibd 7 3 1 invalid pair 0 5 covered 2" ++ 10 ∷ []
unfolding finding_line question_words digits
pair_report = refl

valid_report : output (found_report (Td 4 26) Valid) ≡ codes "td 4 26 valid" ++ 10 ∷ []
unfolding finding_line question_words digits
valid_report = refl

premise_line : fault_line (record { number = 7; fault = MissingPremise }) ≡ codes "invalid line 7 missing premise" ++ 10 ∷ []
unfolding fault_line digits
premise_line = refl

surplus_line : fault_line (record { number = 1; fault = Surplus }) ≡ codes "invalid line 1 surplus line" ++ 10 ∷ []
unfolding fault_line digits
surplus_line = refl

refused_message : message_of (Refused (UnknownWord 2)) ≡ codes "usage: unknown word at 2" ++ 10 ∷ []
unfolding message_of counted_line digits
refused_message = refl

bounds_message : message_of (Refused OutOfBounds) ≡ codes "usage: out of bounds" ++ 10 ∷ []
unfolding message_of counted_line digits
bounds_message = refl

fault_message : message_of (CatalogueFault 2) ≡ codes "catalogue fault at 2" ++ 10 ∷ []
unfolding message_of counted_line digits
fault_message = refl

refused_offer : refused_offer_line 1 (BadPair 0 1 3) ≡ codes "offer 1 invalid pair 0 1 covered 3" ++ 10 ∷ []
unfolding refused_offer_line digits
refused_offer = refl

valid_offer : valid_offer_line 2 15 ≡ codes "offer 2 valid 15 blocks" ++ 10 ∷ []
unfolding valid_offer_line digits
valid_offer = refl
