-- The lines that the program prints.
use Rattle.std.specs.Prelude.{ℕ, List, [], ◌∷◌, map, codes, Option, None, Some}
use Rattle.std.specs.Fmt.{decimal}
use Rattle.derivations.specs.declared.line.Fault.{Fault}
use Rattle.derivations.specs.declared.line.LineFault.{LineFault}
use Rattle.derivations.specs.declared.line.LineFault.TheVariants.{OutOfBounds, NotCandidate, ForwardReference, MissingPremise, UsedTwice, Surplus}
use Rattle.design_base.specs.declared.query.Query.{Query}
use Rattle.design_base.specs.declared.verdict.Verdict.{Verdict}
use Rattle.design_base.specs.declared.verdict.Verdict.TheVariants.{Yes, No, Unknown}
use Rattle.design_base.specs.Steps.{Step}
use Rattle.design_checks.specs.declared.finding.Finding.{Finding}
use Rattle.design_checks.specs.declared.finding.Finding.TheVariants.{Valid, BadBlock, BadPair}
use Rattle.design_lines.specs.Printed.{line_of, spaced, question_words, step_words, criterion_word}

-- the question in its normal words
abbrev pub question_text : Query → List ℕ
question_text q = spaced (question_words q)

-- the rule with its parameters
abbrev pub step_text : Step → List ℕ
step_text step = spaced (step_words step)

abbrev pub verdict_words : Verdict → List (List ℕ)
verdict_words (Yes step) = codes "yes" ∷ step_text step ∷ []
verdict_words (No criterion) = codes "no" ∷ criterion_word criterion ∷ []
verdict_words Unknown = codes "unknown" ∷ []

-- the question and its verdict
unfoldable pub verdict_line : Query → Verdict → List ℕ
verdict_line q verdict = line_of (question_text q ∷ verdict_words verdict)

-- the two numbers that a criterion compares
abbrev pub because_lines : Option (ℕ × ℕ) → List (List ℕ)
because_lines None = []
because_lines (Some numbers) = line_of (codes "because" ∷ decimal numbers.0 ∷ decimal numbers.1 ∷ []) ∷ []

-- the numbers of a row
abbrev pub row_line : List ℕ → List ℕ
row_line row = line_of (map decimal row)

abbrev pub finding_words : Finding → List (List ℕ)
finding_words Valid = codes "valid" ∷ []
finding_words (BadBlock index) = codes "invalid block" ∷ decimal index ∷ []
finding_words (BadPair x y count) = codes "invalid pair" ∷ decimal x ∷ decimal y ∷ codes "covered" ∷ decimal count ∷ []

-- the question and what the check of its blocks found
unfoldable pub finding_line : Query → Finding → List ℕ
finding_line q finding = line_of (question_text q ∷ finding_words finding)

-- what the check of an offer found, where that is no design; the number is that of its catalogue
unfoldable pub refused_offer_line : ℕ → Finding → List ℕ
refused_offer_line number finding = line_of (codes "offer" ∷ decimal number ∷ finding_words finding)

-- an offer of so many blocks that are a design
unfoldable pub valid_offer_line : ℕ → ℕ → List ℕ
valid_offer_line number b = line_of (codes "offer" ∷ decimal number ∷ codes "valid" ∷ decimal b ∷ codes "blocks" ∷ [])

-- the printed name of what is wrong with a line of a derivation
abbrev pub fault_word : LineFault → List ℕ
fault_word OutOfBounds = codes "out of bounds"
fault_word NotCandidate = codes "not a candidate"
fault_word ForwardReference = codes "forward reference"
fault_word MissingPremise = codes "missing premise"
fault_word UsedTwice = codes "used twice"
fault_word Surplus = codes "surplus line"

-- the line of a derivation that has a fault, and what is wrong with it
unfoldable pub fault_line : Fault → List ℕ
fault_line f = line_of (codes "invalid line" ∷ decimal f.number ∷ fault_word f.fault ∷ [])
