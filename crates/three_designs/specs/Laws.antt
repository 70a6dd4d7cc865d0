-- What holds of every array of strength three and of every quadruple system, whatever its list.
use Rattle.std.specs.Prelude.{List, ℕ, ◌+◌, ◌*◌, ◌%◌, ◌≡◌, ◌≤◌, ◌⊎◌}
use Rattle.design_base.specs.Canonical.{canonical}
use Rattle.design_base.specs.Rings.{IsField}
use Rattle.three_designs.specs.Arrays.{cube_rows, polynomial_entry}
use Rattle.three_designs.specs.Quadruples.{double_blocks}
use Rattle.three_designs.specs.StrengthThree.{IsOa3, IsSqs}

-- an array of two symbols or more has at most n + 2 columns
abbrev pub ColumnsLaw : Type 0
ColumnsLaw = (R : List (List ℕ)) (k n : ℕ) → 3 ≤ k → 2 ≤ n → IsOa3 R k n → k ≤ n + 2

-- over any field the polynomials of degree below 3 give an array of up to n + 1 columns
abbrev pub PolynomialsLaw : Type 0
PolynomialsLaw = (k n : ℕ) (add mul : ℕ → ℕ → ℕ) → IsField n add mul → k ≤ n + 1 → IsOa3 (cube_rows k n (polynomial_entry n add mul)) k n

-- a quadruple system has 2 or 4 points modulo 6
abbrev pub PointsLaw : Type 0
PointsLaw = (B : List (List ℕ)) (v : ℕ) → 2 ≤ v → IsSqs B v → (v % 6 ≡ 2) ⊎ (v % 6 ≡ 4)

-- each quadruple system on w points gives one on twice as many
abbrev pub DoublingLaw : Type 0
DoublingLaw = (S : List (List ℕ)) (w : ℕ) → 2 ≤ w → IsSqs S w → IsSqs (canonical (double_blocks w S)) (2 * w)
