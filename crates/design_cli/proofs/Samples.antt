-- Small answers, computed.
use Rattle.std.proofs.Common.{◌≡◌, [], ◌∷◌, ◌++◌, refl}
use Rattle.std.specs.Fmt.{digits}
use Rattle.std.specs.Prelude.{codes}
use Rattle.catalogues.specs.Consulted.{walk}
use Rattle.counting.specs.Search.{first_in, each_passes}
use Rattle.counting.specs.Sums.{join_below}
use Rattle.criteria.specs.Criteria.{reasons, reason_of}
use Rattle.design_base.specs.Fields.{moduli, modulus_of}
use Rattle.design_base.specs.Limits.{in_bounds}
use Rattle.design_lines.specs.CommandLines.{keywords, parse}
use Rattle.design_lines.specs.Grammar.{other_questions, question, questions}
use Rattle.design_lines.specs.Printed.{counted_line, question_words}
use Rattle.design_lines.specs.Reading.{at_end, is_next, no_fixed_word, number, one_of_or, pair, triple}
use Rattle.design_lines.specs.Words.{number_of}
use Rattle.design_reports.specs.Endings.{message_of}
use Rattle.design_reports.specs.Reports.{output}
use Rattle.design_reports.specs.Texts.{verdict_line}
use Rattle.rule_table.specs.Candidates.{candidates, premises}
use Rattle.rule_table.specs.Verdicts.{judged, verdict, verdict_below}
use Rattle.rule_terms.specs.Rank.{rank}
use Rattle.rule_terms.specs.Table.{terms}
use Rattle.rule_terms.specs.TdTerms.{td_terms}
use Rattle.rule_terms.specs.RuleTree.{choices, premises_at}
use Rattle.design_cli.specs.Report.{command_report}

-- on any input, with no catalogues

ask_six : output (command_report (parse (codes "ask" ∷ codes "td" ∷ codes "4" ∷ codes "6" ∷ [])) [] []) ≡ codes "td 4 6 unknown" ++ 10 ∷ []
unfolding parse keywords other_questions question questions one_of_or is_next no_fixed_word
    pair number number_of at_end verdict verdict_below judged reasons reason_of candidates terms td_terms choices in_bounds join_below premises premises_at first_in each_passes moduli modulus_of rank verdict_line question_words digits walk
ask_six = refl

ask_foo : message_of (command_report (parse (codes "ask" ∷ codes "foo" ∷ codes "3" ∷ [])) [] []).ending ≡ codes "usage: unknown word at 2" ++ 10 ∷ []
unfolding parse keywords other_questions question questions one_of_or is_next no_fixed_word message_of counted_line digits
ask_foo = refl

build_eight : output (command_report (parse (codes "build" ∷ codes "bibd" ∷ codes "8" ∷ codes "3" ∷ codes "1" ∷ [])) [] []) ≡ codes "bibd 8 3 1 no replication" ++ 10 ∷ []
unfolding parse keywords other_questions question questions one_of_or is_next no_fixed_word
    triple number number_of at_end verdict verdict_below judged reasons reason_of in_bounds first_in rank verdict_line question_words digits
build_eight = refl
