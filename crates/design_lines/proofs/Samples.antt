-- Small values of the definitions, computed.
use Rattle.std.proofs.Common.{◌≡◌, [], ◌∷◌, Some, Ok, Err, refl}
use Rattle.std.specs.Fmt.{digits}
use Rattle.std.specs.Prelude.{codes}
use Rattle.design_base.specs.Limits.{in_bounds}
use Rattle.design_base.specs.Steps.{step}
use Rattle.design_base.specs.declared.query.Group.TheVariants.{Field}
use Rattle.design_base.specs.declared.query.Query.TheVariants.{Td, Df, Bibd}
use Rattle.design_base.specs.declared.rule.Rule.TheVariants.{Wilson1, PbdDelete}
use Rattle.design_lines.specs.declared.command.Command.TheVariants.{On}
use Rattle.design_lines.specs.declared.command.Reason.TheVariants.{Missing, Unknown, Spelling, Surplus, OutOfBounds}
use Rattle.design_lines.specs.declared.command.Shape.TheVariants.{Blocks, Squares}
use Rattle.design_lines.specs.declared.command.Verb.TheVariants.{Ask, Build, Explain}
use Rattle.design_lines.specs.Words.{number_of, words_of}
use Rattle.design_lines.specs.Reading.{at_end, is_next, no_fixed_word, number, one_of_or, pair, triple}
use Rattle.design_lines.specs.Grammar.{other_questions, question, questions}
use Rattle.design_lines.specs.CommandLines.{keywords, parse, parse_in_batch, verbs}
use Rattle.design_lines.specs.Printed.{question_words, spaced, step_words}

-- questions

explain_td : parse (codes "explain" ∷ codes "td" ∷ codes "4" ∷ codes "18" ∷ []) ≡ Ok (On (record { verb = Explain; query = Td 4 18; shape = Blocks }))
unfolding parse keywords other_questions question questions one_of_or is_next at_end number pair number_of in_bounds
explain_td = refl

build_squares : parse (codes "build" ∷ codes "mols" ∷ codes "10" ∷ codes "2" ∷ []) ≡ Ok (On (record { verb = Build; query = Td 4 10; shape = Squares }))
unfolding parse keywords other_questions question questions one_of_or is_next at_end number pair number_of in_bounds
build_squares = refl

ask_plane : parse_in_batch (codes " ask  plane 3 ") ≡ Ok (Some (record { verb = Ask; query = Bibd 13 4 1; shape = Blocks }))
unfolding parse_in_batch words_of verbs other_questions question questions one_of_or is_next at_end number number_of in_bounds
ask_plane = refl

-- the first bad word, with its place

no_word : parse [] ≡ Err (Missing 1)
unfolding parse keywords one_of_or is_next no_fixed_word
no_word = refl

unknown_word : parse (codes "ask" ∷ codes "foo" ∷ codes "3" ∷ []) ≡ Err (Unknown 2)
unfolding parse keywords other_questions question questions one_of_or is_next no_fixed_word
unknown_word = refl

leading_zero : parse (codes "ask" ∷ codes "bibd" ∷ codes "09" ∷ codes "3" ∷ codes "1" ∷ []) ≡ Err (Spelling 3)
unfolding parse keywords other_questions question questions one_of_or is_next number triple number_of
leading_zero = refl

missing_word : parse (codes "ask" ∷ codes "bibd" ∷ codes "9" ∷ codes "3" ∷ []) ≡ Err (Missing 5)
unfolding parse keywords other_questions question questions one_of_or is_next number triple number_of
missing_word = refl

surplus_word : parse (codes "ask" ∷ codes "td" ∷ codes "3" ∷ codes "4" ∷ codes "5" ∷ []) ≡ Err (Surplus 5)
unfolding parse keywords other_questions question questions one_of_or is_next at_end number pair number_of in_bounds
surplus_word = refl

-- a bound

out_of_bounds : parse (codes "ask" ∷ codes "td" ∷ codes "129" ∷ codes "1" ∷ []) ≡ Err OutOfBounds
unfolding parse keywords other_questions question questions one_of_or is_next at_end number pair number_of in_bounds
out_of_bounds = refl

-- printed questions and steps

family_text : spaced (question_words (Df Field 25 4 1)) ≡ codes "df f 25 4 1"
unfolding question_words digits
family_text = refl

wilson_text : spaced (step_words (step Wilson1 3 5 3 0)) ≡ codes "wilson1 3 5 3"
unfolding step_words digits
wilson_text = refl

delete_text : spaced (step_words (step PbdDelete 0 0 0 0)) ≡ codes "delete"
unfolding step_words
delete_text = refl
