-- Words that are pushed one after another make the line of the words.
use Rattle.std.proofs.Common.{◌≡◌, ℕ, ◌<◌, List, [], ◌∷◌, ◌++◌, length, arith}
use Rattle.std.specs.Prelude.{codes}
use Rattle.design_base.specs.declared.query.Query.{Query}
use Rattle.design_base.specs.declared.query.Query.TheVariants.{Td, Df, Bibd, Gdd, Pbd}
use Rattle.design_checks.specs.declared.finding.Finding.{Finding}
use Rattle.design_lines.specs.Printed.{line_of, spaced, with_word, with_words, question_words}
use Rattle.design_lines.proofs.Joined.{line_joined}
use Rattle.design_reports.specs.Texts.{finding_words}

-- the question in its words is not empty
question_nonempty : (q : Query) → 0 < length (spaced (question_words q))
unfolding question_words
question_nonempty (Td k n) = omega arith
question_nonempty (Df group v k l) = omega arith
question_nonempty (Bibd v k l) = omega arith
question_nonempty (Gdd k g u) = omega arith
question_nonempty (Pbd v s) = omega arith

-- a line that begins with a question, and has one or two words behind it
pub question_and_one : (q : Query) (a : List ℕ) → with_word (spaced (question_words q)) a ++ 10 ∷ [] ≡ line_of (spaced (question_words q) ∷ a ∷ [])
question_and_one q a = line_joined (spaced (question_words q)) (a ∷ []) (question_nonempty q)

pub question_and_two : (q : Query) (a b : List ℕ) → with_word (with_word (spaced (question_words q)) a) b ++ 10 ∷ [] ≡ line_of (spaced (question_words q) ∷ a ∷ b ∷ [])
question_and_two q a b = line_joined (spaced (question_words q)) (a ∷ b ∷ []) (question_nonempty q)

-- or what was found of blocks
pub finding_joined : (q : Query) (finding : Finding) → with_words (spaced (question_words q)) (finding_words finding) ++ 10 ∷ [] ≡ line_of (spaced (question_words q) ∷ finding_words finding)
finding_joined q finding = line_joined (spaced (question_words q)) (finding_words finding) (question_nonempty q)

-- the line of an offer
pub offer_joined : (number : List ℕ) (finding : Finding) → with_words (with_word (codes "offer") number) (finding_words finding) ++ 10 ∷ [] ≡ line_of (codes "offer" ∷ number ∷ finding_words finding)
offer_joined number finding = line_joined (codes "offer") (number ∷ finding_words finding) (omega arith)

pub valid_joined : (number b : List ℕ) → with_word (with_word (with_word (with_word (codes "offer") number) (codes "valid")) b) (codes "blocks") ++ 10 ∷ [] ≡ line_of (codes "offer" ∷ number ∷ codes "valid" ∷ b ∷ codes "blocks" ∷ [])
valid_joined number b = line_joined (codes "offer") (number ∷ codes "valid" ∷ b ∷ codes "blocks" ∷ []) (omega arith)

-- what the line of a question names in its attribute `using`
pub ruleset question_lines = (question_and_one, question_and_two)

-- a line of three words
pub line_of_three : (word a b : List ℕ) → 0 < length word → with_word (with_word word a) b ++ 10 ∷ [] ≡ line_of (word ∷ a ∷ b ∷ [])
line_of_three word a b more = line_joined word (a ∷ b ∷ []) more
