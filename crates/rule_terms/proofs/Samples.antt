-- Small values of the table, computed.
use Rattle.std.proofs.Common.{◌≡◌, [], ◌∷◌, refl}
use Rattle.counting.specs.Sums.{join_below}
use Rattle.design_base.specs.Limits.{in_bounds}
use Rattle.design_base.specs.declared.query.Query.TheVariants.{Bibd, Gdd, Pbd, Td}
use Rattle.design_base.specs.declared.rule.Rule.TheVariants.{Fill1, Pbd as PbdRule, Split, Truncate, Weight}
use Rattle.rule_terms.specs.BibdTerms.{bibd_terms}
use Rattle.rule_terms.specs.GddTerms.{gdd_terms}
use Rattle.rule_terms.specs.PbdTerms.{pbd_terms}
use Rattle.rule_terms.specs.RuleTree.{choices, premises_at}

filled : choices (bibd_terms 25 4 1 Fill1) ≡ (4 ∷ 6 ∷ []) ∷ (6 ∷ 4 ∷ []) ∷ []
unfolding bibd_terms choices in_bounds join_below
filled = refl

lines : premises_at (bibd_terms 85 4 1 PbdRule) (4 ∷ []) ≡ Pbd 28 4 ∷ Bibd 13 4 1 ∷ Bibd 16 4 1 ∷ []
unfolding bibd_terms premises_at
lines = refl

weighted : choices (gdd_terms 3 2 4 Weight) ≡ (2 ∷ 3 ∷ []) ∷ []
unfolding gdd_terms choices in_bounds join_below
weighted = refl

split : premises_at (gdd_terms 3 4 6 Split) (3 ∷ []) ≡ Gdd 3 12 2 ∷ Gdd 3 4 3 ∷ []
unfolding gdd_terms premises_at
split = refl

truncated : choices (pbd_terms 11 3 Truncate) ≡ (3 ∷ 2 ∷ []) ∷ []
unfolding pbd_terms choices in_bounds join_below
truncated = refl

truncated_to_one : premises_at (pbd_terms 10 3 Truncate) (3 ∷ 1 ∷ []) ≡ Td 4 3 ∷ Pbd 3 3 ∷ []
unfolding pbd_terms premises_at
truncated_to_one = refl
