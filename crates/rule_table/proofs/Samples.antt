-- Small values of the definitions, computed.
use Rattle.std.proofs.Common.{◌≡◌, [], ◌∷◌, refl}
use Rattle.counting.specs.Search.{first_in, each_passes}
use Rattle.counting.specs.Sorting.{insert_by, sort_by}
use Rattle.counting.specs.Sums.{join_below}
use Rattle.criteria.specs.Criteria.{reasons, reason_of}
use Rattle.design_base.specs.Cells.{cell_of}
use Rattle.design_base.specs.Fields.{moduli, modulus_of}
use Rattle.design_base.specs.Limits.{in_bounds}
use Rattle.design_base.specs.declared.query.Query.TheVariants.{Td}
use Rattle.design_base.specs.declared.rule.Rule.TheVariants.{Product, Parker, Wilson1, Wilson2}
use Rattle.design_base.specs.declared.verdict.Criterion.TheVariants.{Groups}
use Rattle.design_base.specs.declared.verdict.Verdict.TheVariants.{Yes, No, Unknown}
use Rattle.design_base.specs.Steps.{step}
use Rattle.rule_table.specs.Asked.{asked, asked_by, asked_through}
use Rattle.rule_table.specs.Candidates.{candidates, premises}
use Rattle.rule_table.specs.Closure.{closure, once, reached, reached_below}
use Rattle.rule_terms.specs.Rank.{rank}
use Rattle.rule_terms.specs.Table.{terms}
use Rattle.rule_terms.specs.TdTerms.{td_terms}
use Rattle.rule_terms.specs.RuleTree.{choices, premises_at}
use Rattle.rule_table.specs.Verdicts.{judged, verdict, verdict_below}
use Rattle.rule_table.specs.Work.{work, work_below}

candidates_of_ten : candidates (Td 4 10) ≡ step Product 2 5 0 0 ∷ step Parker 3 0 0 0 ∷ step Wilson1 2 4 2 0 ∷ []
unfolding candidates terms td_terms choices in_bounds join_below first_in moduli modulus_of
candidates_of_ten = refl

candidates_of_eighteen : candidates (Td 4 18) ≡
    step Product 2 9 0 0 ∷ step Product 3 6 0 0 ∷
    step Wilson1 2 6 6 0 ∷ step Wilson1 2 7 4 0 ∷ step Wilson1 2 8 2 0 ∷ step Wilson1 3 5 3 0 ∷ step Wilson1 4 4 2 0 ∷
    step Wilson2 2 5 4 4 ∷ step Wilson2 2 5 5 3 ∷ step Wilson2 2 6 3 3 ∷ step Wilson2 2 6 4 2 ∷ step Wilson2 2 6 5 1 ∷
    step Wilson2 2 7 2 2 ∷ step Wilson2 2 7 3 1 ∷ step Wilson2 2 8 1 1 ∷ step Wilson2 3 5 2 1 ∷ []
unfolding candidates terms td_terms choices in_bounds join_below first_in moduli modulus_of
candidates_of_eighteen = refl

premises_of_eighteen : premises (Td 4 18) (step Wilson1 3 5 3 0) ≡ Td 5 5 ∷ Td 4 3 ∷ Td 4 4 ∷ Td 4 3 ∷ []
unfolding premises terms td_terms premises_at
premises_of_eighteen = refl

verdict_of_six : verdict (Td 4 6) ≡ Unknown
unfolding verdict verdict_below judged reasons reason_of candidates terms td_terms choices in_bounds join_below premises premises_at first_in each_passes moduli modulus_of rank
verdict_of_six = refl

verdict_of_five_and_two : verdict (Td 5 2) ≡ No Groups
unfolding verdict verdict_below judged reasons reason_of first_in rank
verdict_of_five_and_two = refl

verdict_of_eighteen : verdict (Td 4 18) ≡ Yes (step Wilson1 3 5 3 0)
unfolding verdict verdict_below judged reasons reason_of candidates terms td_terms choices in_bounds join_below premises premises_at first_in each_passes moduli modulus_of rank
verdict_of_eighteen = refl

asked_of_eighteen : asked (Td 4 18) ≡ Td 4 2 ∷ Td 4 3 ∷ Td 4 6 ∷ Td 5 6 ∷ Td 5 7 ∷ Td 4 2 ∷ Td 5 8 ∷ Td 4 2 ∷ Td 5 5 ∷ Td 4 3 ∷ Td 4 4 ∷ Td 4 3 ∷ []
unfolding asked asked_by asked_through verdict verdict_below judged reasons reason_of candidates terms td_terms choices in_bounds join_below premises premises_at first_in each_passes moduli modulus_of rank
asked_of_eighteen = refl

work_of_eighteen : work (Td 4 18) ≡ 15
unfolding work work_below asked asked_by asked_through verdict verdict_below judged reasons reason_of candidates terms td_terms choices in_bounds join_below premises premises_at first_in each_passes moduli modulus_of rank
work_of_eighteen = refl

closure_of_eighteen : closure (Td 4 18) ≡ Td 4 2 ∷ Td 5 2 ∷ Td 4 3 ∷ Td 4 4 ∷ Td 5 5 ∷ Td 4 6 ∷ Td 5 6 ∷ Td 5 7 ∷ Td 5 8 ∷ Td 4 18 ∷ []
unfolding closure once reached reached_below insert_by sort_by cell_of asked asked_by asked_through verdict verdict_below judged reasons reason_of candidates terms td_terms choices in_bounds join_below premises premises_at first_in each_passes moduli modulus_of rank
closure_of_eighteen = refl
