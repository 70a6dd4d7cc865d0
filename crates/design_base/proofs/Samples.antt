-- Small values of the definitions, computed.
use Rattle.std.proofs.Common.{◌≡◌, ℕ, ◌+◌, List, [], ◌∷◌, true, false, Some, None, refl}
use Rattle.counting.specs.Sorting.{insert_by, sort_by}
use Rattle.counting.specs.Search.{first_in, each_passes, is_among}
use Rattle.counting.specs.Sums.{join_below}
use Rattle.design_base.specs.Blocks.{holds, cover, replication, across, differences}
use Rattle.design_base.specs.Canonical.{lex_le, canonical}
use Rattle.design_base.specs.Arrays.{place, row_block, blocks_of_rows, rows_of_blocks, agree}
use Rattle.design_base.specs.Squares.{cell}
use Rattle.design_base.specs.Fields.{moduli, modulus_of, field_sum, field_product, powers_from, gen}
use Rattle.design_base.specs.Limits.{in_bounds}
use Rattle.design_base.specs.Cells.{cells, cell_of}
use Rattle.design_base.specs.Codes.{code, read_code}
use Rattle.design_base.specs.Questions.{query_of}
use Rattle.design_base.specs.Steps.{step}
use Rattle.design_base.specs.Meets.{group_add}
use Rattle.design_base.specs.declared.query.Group.TheVariants.{Cyclic, Field}
use Rattle.design_base.specs.declared.query.Query.TheVariants.{Td, Df, Bibd, Gdd, Pbd}
use Rattle.design_base.specs.declared.rule.Rule.TheVariants.{Bose, Wilson1}
use Rattle.design_base.specs.declared.verdict.Criterion.TheVariants.{Points}
use Rattle.design_base.specs.declared.verdict.Verdict.TheVariants.{Yes, No}

-- the blocks of the plane with seven points, but for the last one
abbrev six_blocks : List (List ℕ)
six_blocks = (0 ∷ 1 ∷ 3 ∷ []) ∷ (1 ∷ 2 ∷ 4 ∷ []) ∷ (2 ∷ 3 ∷ 5 ∷ []) ∷ (3 ∷ 4 ∷ 6 ∷ []) ∷ (0 ∷ 4 ∷ 5 ∷ []) ∷ (1 ∷ 5 ∷ 6 ∷ []) ∷ []

cover_none : cover [] 0 1 ≡ 0
unfolding cover holds
cover_none = refl

cover_five : cover ((0 ∷ 2 ∷ 5 ∷ []) ∷ six_blocks) 0 5 ≡ 2
unfolding cover holds
cover_five = refl

cover_six : cover ((0 ∷ 2 ∷ 6 ∷ []) ∷ six_blocks) 0 6 ≡ 1
unfolding cover holds
cover_six = refl

replication_of_zero : replication ((0 ∷ 2 ∷ 6 ∷ []) ∷ six_blocks) 0 ≡ 3
unfolding replication holds
replication_of_zero = refl

-- repeats are kept, and the shorter of two blocks that begin alike comes first
canonical_form : canonical ((3 ∷ 1 ∷ 0 ∷ []) ∷ (2 ∷ 1 ∷ []) ∷ (1 ∷ 0 ∷ []) ∷ (2 ∷ 1 ∷ []) ∷ []) ≡ (0 ∷ 1 ∷ []) ∷ (0 ∷ 1 ∷ 3 ∷ []) ∷ (1 ∷ 2 ∷ []) ∷ (1 ∷ 2 ∷ []) ∷ []
unfolding canonical sort_by insert_by lex_le
canonical_form = refl

-- points 2 and 3 are one group of two, and 3 and 4 are not
one_group : across 2 2 3 ≡ 0
unfolding across
one_group = refl

two_groups : across 2 3 4 ≡ 1
unfolding across
two_groups = refl

-- the difference family over the integers modulo 7: each difference once
difference_one : differences (group_add Cyclic 7) ((0 ∷ 1 ∷ 3 ∷ []) ∷ []) 1 ≡ 1
unfolding differences group_add
difference_one = refl

difference_four : differences (group_add Cyclic 7) ((0 ∷ 1 ∷ 3 ∷ []) ∷ []) 4 ≡ 1
unfolding differences group_add
difference_four = refl

-- the array of three columns and two symbols, its blocks, and back
abbrev four_rows : List (List ℕ)
four_rows = (0 ∷ 0 ∷ 0 ∷ []) ∷ (0 ∷ 1 ∷ 1 ∷ []) ∷ (1 ∷ 0 ∷ 1 ∷ []) ∷ (1 ∷ 1 ∷ 0 ∷ []) ∷ []

abbrev four_blocks : List (List ℕ)
four_blocks = (0 ∷ 2 ∷ 4 ∷ []) ∷ (0 ∷ 3 ∷ 5 ∷ []) ∷ (1 ∷ 2 ∷ 5 ∷ []) ∷ (1 ∷ 3 ∷ 4 ∷ []) ∷ []

rows_agree : agree four_rows 0 2 1 1 ≡ 1
unfolding agree
rows_agree = refl

blocks_of_four : blocks_of_rows 3 2 four_rows ≡ four_blocks
unfolding blocks_of_rows row_block place join_below
blocks_of_four = refl

rows_of_four : rows_of_blocks 2 four_blocks ≡ four_rows
unfolding rows_of_blocks
rows_of_four = refl

-- the symbol of the second square of order 3 in line 1 and column 0
second_square : cell ((0 ∷ 1 ∷ 2 ∷ []) ∷ (1 ∷ 2 ∷ 0 ∷ []) ∷ (2 ∷ 0 ∷ 1 ∷ []) ∷ (0 ∷ 1 ∷ 2 ∷ []) ∷ (2 ∷ 0 ∷ 1 ∷ []) ∷ (1 ∷ 2 ∷ 0 ∷ []) ∷ []) 3 1 1 0 ≡ 2
second_square = refl

-- the field of nine elements: x + 1 and x + 2, and x times x is 2, since x * x + 1 is 0
sum_of_nine : field_sum 9 4 5 ≡ 6
unfolding field_sum modulus_of moduli first_in
sum_of_nine = refl

product_of_nine : field_product 9 3 3 ≡ 2
unfolding field_product modulus_of moduli first_in
product_of_nine = refl

generator_of_nine : gen 9 ≡ 4
unfolding gen first_in each_passes is_among moduli modulus_of powers_from field_product join_below
generator_of_nine = refl

-- limits
most_groups : in_bounds (Td 66 64) ≡ true
unfolding in_bounds
most_groups = refl

many_groups : in_bounds (Td 129 1) ≡ false
unfolding in_bounds
many_groups = refl

no_field_of_six : in_bounds (Df Field 6 3 1) ≡ false
unfolding in_bounds modulus_of moduli first_in
no_field_of_six = refl

integers_modulo_six : in_bounds (Df Cyclic 6 3 1) ≡ true
unfolding in_bounds
integers_modulo_six = refl

most_pairs : in_bounds (Bibd 128 2 6) ≡ true
unfolding in_bounds
most_pairs = refl

many_points : in_bounds (Gdd 3 65536 65536) ≡ false
unfolding in_bounds
many_points = refl

no_small_blocks : in_bounds (Pbd 10 1) ≡ false
unfolding in_bounds
no_small_blocks = refl

-- the numbers of questions: the first, one in the middle, the last
first_cell : cell_of (Td 2 1) ≡ 0
unfolding cell_of
first_cell = refl

cell_of_nine : cell_of (Bibd 9 3 1) ≡ 203048
unfolding cell_of
cell_of_nine = refl

last_cell : cell_of (Pbd 128 16) + 1 ≡ cells
unfolding cell_of
last_cell = refl

all_cells : cells ≡ 426435
all_cells = refl

-- and back: a question, a number whose question is out of bounds, the first number past all
question_of_nine : query_of 203048 ≡ Some (Bibd 9 3 1)
unfolding query_of in_bounds
question_of_nine = refl

question_of_six : query_of (cell_of (Df Field 6 3 1)) ≡ None
unfolding query_of cell_of in_bounds modulus_of moduli first_in
question_of_six = refl

question_past_all : query_of cells ≡ None
unfolding query_of
question_past_all = refl

-- the numbers of verdicts
code_of_bose : code (Yes (step Bose 0 0 0 0)) ≡ 4099
unfolding code
code_of_bose = refl

code_of_wilson : code (Yes (step Wilson1 3 5 3 0)) ≡ 3299877258755
unfolding code
code_of_wilson = refl

code_of_points : code (No Points) ≡ 2306
unfolding code
code_of_points = refl

verdict_of_wilson : read_code 3299877258755 ≡ Some (Yes (step Wilson1 3 5 3 0))
unfolding read_code code
verdict_of_wilson = refl

-- no verdict has the number 0, and none a rule with a parameter that it has not
verdict_of_none : read_code 0 ≡ None
unfolding read_code
verdict_of_none = refl

verdict_of_surplus : read_code (4099 + 65536) ≡ None
unfolding read_code
verdict_of_surplus = refl
