-- Orthogonal arrays of strength three: which are known, and the rows that are made.
use Rattle.std.specs.Prelude.{Bool, List, [], ℕ, ◌+◌, ◌%◌, ◌==◌, ◌≡◌, ◌≤◌, ◌&&◌, ◌∷◌, if◌then◌else◌, nat_lt, replicate}
use Rattle.std.proofs.Common.{false, suc, true, zero}
use Rattle.counting.specs.Search.{◌<=◌}
use Rattle.counting.specs.Sorting.{sort_by}
use Rattle.counting.specs.Sums.{join_below, list_below}
use Rattle.design_base.specs.Canonical.{lex_le}
use Rattle.design_base.specs.Fields.{field_product, field_sum, has_field}
use Rattle.three_designs.specs.declared.verdict.ThreeRule.{ThreeRule}
use Rattle.three_designs.specs.declared.verdict.ThreeRule.TheVariants.{One, Polynomials, Sum}
use Rattle.three_designs.specs.declared.verdict.ThreeVerdict.{ThreeVerdict}
use Rattle.three_designs.specs.declared.verdict.ThreeVerdict.TheVariants.{No, Unknown, Yes}

-- what is known of k columns of n symbols
unfoldable pub oa3_verdict_of : ℕ → ℕ → ThreeVerdict
oa3_verdict_of k n =
    if n == 1 then Yes One else (
    if nat_lt (n + 2) k then No else (
    if k <= 4 then Yes Sum else (
    if k <= n + 1 && has_field n then Yes Polynomials else Unknown)))

-- a row of k entries e x y z 0, e x y z 1, .. for each x, y and z below n
unfoldable pub cube_rows : ℕ → ℕ → (ℕ → ℕ → ℕ → ℕ → ℕ) → List (List ℕ)
cube_rows k n e = join_below n (λ x. join_below n (λ y. list_below n (λ z. list_below k (e x y z))))

-- x, y, z, and their sum modulo n
abbrev pub sum_entry : ℕ → ℕ → ℕ → ℕ → ℕ → ℕ
sum_entry n x y z zero = x
sum_entry n x y z (suc zero) = y
sum_entry n x y z (suc (suc zero)) = z
sum_entry n x y z (suc (suc (suc j))) = (x + y + z) % n

-- a + b j + c j j for each element j of a field of n elements, and then c
abbrev pub polynomial_entry : ℕ → (ℕ → ℕ → ℕ) → (ℕ → ℕ → ℕ) → ℕ → ℕ → ℕ → ℕ → ℕ
polynomial_entry n add mul a b c j = if j == n then c else add (add a (mul b j)) (mul c (mul j j))

-- over the field of n elements, or without a field
abbrev pub cube_entry : Bool → ℕ → ℕ → ℕ → ℕ → ℕ → ℕ
cube_entry true n = polynomial_entry n (field_sum n) (field_product n)
cube_entry false n = sum_entry n

-- the rows that a rule makes
abbrev pub rows_by : ThreeRule → ℕ → ℕ → List (List ℕ)
rows_by One k n = replicate k 0 ∷ []
rows_by Sum k n = cube_rows k n (cube_entry false n)
rows_by Polynomials k n = cube_rows k n (cube_entry true n)
rows_by rule k n = []

-- what it needs
abbrev pub CanMakeRows : ThreeRule → ℕ → ℕ → Type 0
CanMakeRows One k n = n ≡ 1
CanMakeRows Sum k n = (1 ≤ n) × (k ≤ 4)
CanMakeRows Polynomials k n = (has_field n ≡ true) × (k ≤ n + 1)
CanMakeRows rule k n = ⊥

-- the array where the verdict is Yes: the rows of its rule, in lexicographic order
abbrev pub list_by : ThreeVerdict → ℕ → ℕ → List (List ℕ)
list_by (Yes rule) k n = sort_by lex_le (rows_by rule k n)
list_by verdict k n = []

unfoldable pub oa3_list : ℕ → ℕ → List (List ℕ)
oa3_list k n = list_by (oa3_verdict_of k n) k n
