-- A question is read back from its words.
use Rattle.std.proofs.Common.{◌≡◌, ℕ, ◌+◌, List, ◌++◌, ap, arith}
use Rattle.std.specs.Prelude.{Result, Ok}
use Rattle.design_base.specs.Limits.{HasFewDigits}
use Rattle.design_base.specs.declared.query.Group.TheVariants.{Cyclic, Field}
use Rattle.design_base.specs.declared.query.Query.{Query}
use Rattle.design_base.specs.declared.query.Query.TheVariants.{Td, Df, Bibd, Gdd, Pbd}
use Rattle.design_lines.specs.declared.command.Reason.{Reason}
use Rattle.design_lines.specs.Reading.{Reading, one_of, one_of_or, is_next, number, pair, triple}
use Rattle.design_lines.specs.Grammar.{questions, groups}
use Rattle.design_lines.specs.Printed.{question_words}
use Rattle.design_lines.proofs.Digits.{number_of_decimal}

-- the numbers of the question are ones that a line can spell
abbrev pub AreSpellable : Query → Type 0
AreSpellable (Td k n) = HasFewDigits k × HasFewDigits n
AreSpellable (Df group v k l) = HasFewDigits v × HasFewDigits k × HasFewDigits l
AreSpellable (Bibd v k l) = HasFewDigits v × HasFewDigits k × HasFewDigits l
AreSpellable (Gdd k g u) = HasFewDigits k × HasFewDigits g × HasFewDigits u
AreSpellable (Pbd v s) = HasFewDigits v × HasFewDigits s

-- how many words the question has
abbrev pub word_count : Query → ℕ
word_count (Td k n) = 3
word_count (Df group v k l) = 5
word_count (Bibd v k l) = 4
word_count (Gdd k g u) = 4
word_count (Pbd v s) = 3

-- a question was read, and this is left
abbrev pub question_reading : Query → ℕ → List (List ℕ) → Result (Reading Query) Reason
question_reading q at words = Ok (record { value = q; at = at; words = words })

-- the printed words of a question are read as that question, and nothing behind them is taken
pub question_read : (q : Query) (at : ℕ) (rest : List (List ℕ)) → AreSpellable q → one_of questions at (question_words q ++ rest) ≡ question_reading q (at + word_count q) rest
unfolding questions groups one_of_or is_next number pair triple question_words
question_read (Td k n) at rest h = simp (number_of_decimal k h.0, number_of_decimal n h.1) (ap (λ i. question_reading (Td k n) i rest) (omega arith))
question_read (Df Cyclic v k l) at rest h = simp (number_of_decimal v h.0, number_of_decimal k h.1, number_of_decimal l h.2) (ap (λ i. question_reading (Df Cyclic v k l) i rest) (omega arith))
question_read (Df Field v k l) at rest h = simp (number_of_decimal v h.0, number_of_decimal k h.1, number_of_decimal l h.2) (ap (λ i. question_reading (Df Field v k l) i rest) (omega arith))
question_read (Bibd v k l) at rest h = simp (number_of_decimal v h.0, number_of_decimal k h.1, number_of_decimal l h.2) (ap (λ i. question_reading (Bibd v k l) i rest) (omega arith))
question_read (Gdd k g u) at rest h = simp (number_of_decimal k h.0, number_of_decimal g h.1, number_of_decimal u h.2) (ap (λ i. question_reading (Gdd k g u) i rest) (omega arith))
question_read (Pbd v s) at rest h = simp (number_of_decimal v h.0, number_of_decimal s h.1) (ap (λ i. question_reading (Pbd v s) i rest) (omega arith))
