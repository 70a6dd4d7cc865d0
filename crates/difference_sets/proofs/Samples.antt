-- Small values of the definitions, computed. The values were counted by another program.
use Rattle.std.proofs.Common.{[], ◌∷◌, refl, ◌≡◌}
use Rattle.counting.specs.Search.{each_passes, first_in, is_among}
use Rattle.counting.specs.Sorting.{insert_by, sort_by}
use Rattle.counting.specs.Sums.{join_below}
use Rattle.design_base.specs.Canonical.{canonical, lex_le}
use Rattle.design_base.specs.Fields.{field_product, field_sum, gen, moduli, modulus_of, powers_from}
use Rattle.design_base.specs.Meets.{group_add}
use Rattle.design_base.specs.declared.query.Group.TheVariants.{Cyclic, Field}
use Rattle.difference_sets.specs.Develop.{developed, translates_below}
use Rattle.difference_sets.specs.Families.{coset, coset0_blocks, coset_blocks, cosets, field_cosets, halfcoset_blocks, power_blocks}
use Rattle.field_tables.specs.Powers.{power}

powers_13 : canonical (power_blocks 13 4 1) ≡ (0 ∷ 1 ∷ 3 ∷ 9 ∷ []) ∷ []
unfolding canonical sort_by insert_by lex_le field_cosets cosets coset power join_below field_product gen powers_from modulus_of moduli first_in each_passes is_among
powers_13 = refl

powers_27 : canonical (power_blocks 27 2 0) ≡ (1 ∷ 6 ∷ 7 ∷ 8 ∷ 9 ∷ 11 ∷ 12 ∷ 13 ∷ 15 ∷ 16 ∷ 20 ∷ 22 ∷ 25 ∷ []) ∷ []
unfolding canonical sort_by insert_by lex_le field_cosets cosets coset power join_below field_product gen powers_from modulus_of moduli first_in each_passes is_among
powers_27 = refl

cosets_9 : canonical (coset_blocks 9 4) ≡ (1 ∷ 2 ∷ 3 ∷ 6 ∷ []) ∷ (4 ∷ 5 ∷ 7 ∷ 8 ∷ []) ∷ []
unfolding canonical sort_by insert_by lex_le field_cosets cosets coset power join_below field_product gen powers_from modulus_of moduli first_in each_passes is_among
cosets_9 = refl

cosets0_5 : canonical (coset0_blocks 5 3) ≡ (0 ∷ 1 ∷ 4 ∷ []) ∷ (0 ∷ 2 ∷ 3 ∷ []) ∷ []
unfolding canonical sort_by insert_by lex_le field_cosets cosets coset power join_below field_product gen powers_from modulus_of moduli first_in each_passes is_among
cosets0_5 = refl

halfcosets_19 : canonical (halfcoset_blocks 19 3) ≡ (1 ∷ 7 ∷ 11 ∷ []) ∷ (2 ∷ 3 ∷ 14 ∷ []) ∷ (4 ∷ 6 ∷ 9 ∷ []) ∷ []
unfolding canonical sort_by insert_by lex_le field_cosets cosets coset power join_below field_product gen powers_from modulus_of moduli first_in each_passes is_among
halfcosets_19 = refl

developed_7 : canonical (developed Cyclic 7 ((0 ∷ 1 ∷ 3 ∷ []) ∷ [])) ≡ (0 ∷ 1 ∷ 3 ∷ []) ∷ (0 ∷ 2 ∷ 6 ∷ []) ∷ (0 ∷ 4 ∷ 5 ∷ []) ∷ (1 ∷ 2 ∷ 4 ∷ []) ∷ (1 ∷ 5 ∷ 6 ∷ []) ∷ (2 ∷ 3 ∷ 5 ∷ []) ∷ (3 ∷ 4 ∷ 6 ∷ []) ∷ []
unfolding developed translates_below group_add canonical sort_by insert_by lex_le join_below
developed_7 = refl

developed_4 : canonical (developed Field 4 ((1 ∷ 2 ∷ 3 ∷ []) ∷ [])) ≡ (0 ∷ 1 ∷ 2 ∷ []) ∷ (0 ∷ 1 ∷ 3 ∷ []) ∷ (0 ∷ 2 ∷ 3 ∷ []) ∷ (1 ∷ 2 ∷ 3 ∷ []) ∷ []
unfolding developed translates_below group_add canonical sort_by insert_by lex_le join_below field_sum modulus_of moduli first_in
developed_4 = refl
