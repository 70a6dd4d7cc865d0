-- Lines, questions and steps as they are printed.
use Rattle.std.specs.Prelude.{ℕ, List, [], ◌∷◌, ◌++◌, map, codes, fold}
use Rattle.std.specs.Fmt.{decimal}
use Rattle.std.specs.List.{join_with_byte}
use Rattle.design_base.specs.declared.query.Group.{Group}
use Rattle.design_base.specs.declared.query.Group.TheVariants.{Cyclic, Field}
use Rattle.design_base.specs.declared.query.Query.{Query}
use Rattle.design_base.specs.declared.query.Query.TheVariants.{Td, Df, Bibd, Gdd, Pbd}
use Rattle.design_base.specs.declared.verdict.Criterion.{Criterion}
use Rattle.design_base.specs.declared.verdict.Criterion.TheVariants.{Replication, Count, Fisher, Groups, FewGroups, GroupReplication, GroupCount, Differences, Points}
use Rattle.design_base.specs.Rules.{title}
use Rattle.design_base.specs.Steps.{Step, parameters_of}

-- words with one space between each two
abbrev pub spaced : List (List ℕ) → List ℕ
spaced words = join_with_byte 32 words

-- a line of words, which a line feed ends
abbrev pub line_of : List (List ℕ) → List ℕ
line_of words = spaced words ++ 10 ∷ []

-- numbers with one space between each two
abbrev pub row_text : List ℕ → List ℕ
row_text row = spaced (map decimal row)

-- a word and a number, as a line
unfoldable pub counted_line : List ℕ → ℕ → List ℕ
counted_line word number = line_of (word ∷ decimal number ∷ [])

-- a word behind those of a line
abbrev pub with_word : List ℕ → List ℕ → List ℕ
with_word [] word = word
with_word (c ∷ line) word = (c ∷ line) ++ 32 ∷ word

-- words behind those of a line
abbrev pub with_words : List ℕ → List (List ℕ) → List ℕ
with_words line words = fold with_word line words

abbrev pub group_word : Group → List ℕ
group_word Cyclic = codes "z"
group_word Field = codes "f"

-- the question in its normal words
unfoldable pub question_words : Query → List (List ℕ)
question_words (Td k n) = codes "td" ∷ decimal k ∷ decimal n ∷ []
question_words (Df group v k l) = codes "df" ∷ group_word group ∷ decimal v ∷ decimal k ∷ decimal l ∷ []
question_words (Bibd v k l) = codes "bibd" ∷ decimal v ∷ decimal k ∷ decimal l ∷ []
question_words (Gdd k g u) = codes "gdd" ∷ decimal k ∷ decimal g ∷ decimal u ∷ []
question_words (Pbd v s) = codes "pbd" ∷ decimal v ∷ decimal s ∷ []

-- the rule's name and its parameters
unfoldable pub step_words : Step → List (List ℕ)
step_words s = (title s.rule).name ∷ map decimal (parameters_of s)

-- the printed name of a criterion
abbrev pub criterion_word : Criterion → List ℕ
criterion_word Replication = codes "replication"
criterion_word Count = codes "count"
criterion_word Fisher = codes "fisher"
criterion_word Groups = codes "groups"
criterion_word FewGroups = codes "fewgroups"
criterion_word GroupReplication = codes "groupreplication"
criterion_word GroupCount = codes "groupcount"
criterion_word Differences = codes "differences"
criterion_word Points = codes "points"
