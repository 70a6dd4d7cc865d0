-- Small values of the definitions, computed.
use Rattle.std.proofs.Common.{◌≡◌, ℕ, List, [], ◌∷◌, refl}
use Rattle.std.specs.Prelude.{None}
use Rattle.counting.specs.Search.{each_passes, first_in, is_among}
use Rattle.counting.specs.Sorting.{insert_by, sort_by}
use Rattle.counting.specs.Sums.{join_below}
use Rattle.criteria.specs.Criteria.{reasons, reason_of}
use Rattle.design_base.specs.Arrays.{blocks_of_rows, place, row_block}
use Rattle.design_base.specs.Canonical.{canonical, lex_le}
use Rattle.design_base.specs.Fields.{moduli, modulus_of}
use Rattle.design_base.specs.Limits.{in_bounds}
use Rattle.design_base.specs.Steps.{step}
use Rattle.design_base.specs.declared.query.Query.TheVariants.{Td}
use Rattle.design_base.specs.declared.rule.Rule.TheVariants.{Cyclic, Field, Product, Parker}
use Rattle.rule_table.specs.Candidates.{candidates, is_candidate, premises}
use Rattle.rule_terms.specs.Rank.{rank}
use Rattle.rule_terms.specs.Table.{terms}
use Rattle.rule_terms.specs.TdTerms.{td_terms}
use Rattle.rule_terms.specs.RuleTree.{choices, allows, premises_at}
use Rattle.rule_table.specs.Verdicts.{judged, verdict, verdict_below}
use Rattle.transversal.specs.Constructions.{cyclic_row, cyclic_rows, rows_below}
use Rattle.derivations.specs.Blocks.{blocks, built}
use Rattle.derivations.specs.Derivations.{answers, derivation, derivation_behind, fault, fault_at, fault_from, fault_of_line, line, lists_from, parts, replayed, surplus_from, unfolded, used_twice}
use Rattle.derivations.specs.TdBlocks.{td_blocks}
use Rattle.derivations.specs.declared.line.Line.{Line}
use Rattle.derivations.specs.declared.line.LineFault.TheVariants.{OutOfBounds, NotCandidate, ForwardReference, MissingPremise, UsedTwice, Surplus}

-- the lines of a field, and of the product of 3 and 4
abbrev plane : ℕ → Line
plane n = line (Td 4 n) (step Field 0 0 0 0) []

abbrev twelve : ℕ → List ℕ → Line
twelve n from = line (Td 4 n) (step Product 3 4 0 0) from

sound : fault (plane 3 ∷ plane 4 ∷ twelve 12 (1 ∷ 2 ∷ []) ∷ []) ≡ None
unfolding fault fault_from fault_of_line in_bounds is_candidate terms td_terms allows premises premises_at answers used_twice is_among surplus_from first_in moduli modulus_of
sound = refl

out_of_bounds : fault (plane 3 ∷ plane 1000 ∷ []) ≡ fault_at 2 OutOfBounds
unfolding fault fault_from fault_of_line in_bounds is_candidate terms td_terms allows premises premises_at answers used_twice is_among surplus_from first_in moduli modulus_of
out_of_bounds = refl

not_a_candidate : fault (plane 3 ∷ plane 4 ∷ twelve 13 (1 ∷ 2 ∷ []) ∷ []) ≡ fault_at 3 NotCandidate
unfolding fault fault_from fault_of_line in_bounds is_candidate terms td_terms allows premises premises_at answers used_twice is_among surplus_from first_in moduli modulus_of
not_a_candidate = refl

forward_reference : fault (plane 3 ∷ twelve 12 (1 ∷ 3 ∷ []) ∷ plane 4 ∷ []) ≡ fault_at 2 ForwardReference
unfolding fault fault_from fault_of_line in_bounds is_candidate terms td_terms allows premises premises_at answers used_twice is_among surplus_from first_in moduli modulus_of
forward_reference = refl

missing_premise : fault (plane 4 ∷ plane 3 ∷ twelve 12 (1 ∷ 2 ∷ []) ∷ []) ≡ fault_at 3 MissingPremise
unfolding fault fault_from fault_of_line in_bounds is_candidate terms td_terms allows premises premises_at answers used_twice is_among surplus_from first_in moduli modulus_of
missing_premise = refl

used_twice_there : fault (plane 3 ∷ line (Td 4 9) (step Product 3 3 0 0) (1 ∷ 1 ∷ []) ∷ []) ≡ fault_at 2 UsedTwice
unfolding fault fault_from fault_of_line in_bounds is_candidate terms td_terms allows premises premises_at answers used_twice is_among surplus_from first_in moduli modulus_of
used_twice_there = refl

surplus_line : fault (plane 3 ∷ plane 4 ∷ plane 5 ∷ twelve 12 (1 ∷ 2 ∷ []) ∷ []) ≡ fault_at 3 Surplus
unfolding fault fault_from fault_of_line in_bounds is_candidate terms td_terms allows premises premises_at answers used_twice is_among surplus_from first_in moduli modulus_of
surplus_line = refl

derivation_of_ten : derivation (Td 4 10) ≡ plane 3 ∷ line (Td 4 10) (step Parker 3 0 0 0) (1 ∷ []) ∷ []
unfolding derivation derivation_behind unfolded parts verdict verdict_below judged reasons reason_of candidates terms td_terms choices in_bounds join_below premises premises_at first_in each_passes moduli modulus_of rank
derivation_of_ten = refl

replayed_of_two : replayed (line (Td 3 2) (step Cyclic 0 0 0 0) [] ∷ []) ≡ (0 ∷ 2 ∷ 4 ∷ []) ∷ (0 ∷ 3 ∷ 5 ∷ []) ∷ (1 ∷ 2 ∷ 5 ∷ []) ∷ (1 ∷ 3 ∷ 4 ∷ []) ∷ []
unfolding replayed lists_from blocks built td_blocks canonical sort_by insert_by lex_le cyclic_rows cyclic_row rows_below join_below blocks_of_rows row_block place
replayed_of_two = refl
