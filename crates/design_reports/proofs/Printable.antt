-- Blocks, rows of arrays and lines of squares have room in a line.
use Rattle.std.proofs.Common.{◌≡◌, ℕ, ◌+◌, ◌-◌, ◌*◌, ◌≤◌, All, List, true, length, get_or, arith, inl, inr, ◌⊎◌}
use Rattle.std.proofs.lemmas.Bool.Decides.{nat_tests}
use Rattle.arrays.proofs.Bounds.{td_bounds}
use Rattle.design_base.specs.Arrays.{IsOa}
use Rattle.design_base.specs.Limits.{in_bounds}
use Rattle.design_base.specs.Meets.{Meets}
use Rattle.design_base.specs.Squares.{IsMols}
use Rattle.design_base.specs.declared.limits.TheConstants.{POINTS_MAX}
use Rattle.design_base.specs.declared.query.Query.{Query}
use Rattle.design_base.specs.declared.query.Query.TheVariants.{Td, Df, Bibd, Gdd, Pbd}

pub blocks_fit : (q : Query) → in_bounds q ≡ true → (B : List (List ℕ)) → Meets q B → All (λ row. length row ≤ POINTS_MAX) B
unfolding in_bounds
blocks_fit (Td k n) bounds B meets = let few : k ≤ POINTS_MAX = grind (arith, nat_tests) in λ i d l. omega (arith, (meets.blocks i d l).size, few)
blocks_fit (Df group v k l) bounds B meets = let few : k ≤ POINTS_MAX = grind (arith, nat_tests) in λ i d l. omega (arith, (meets.1.blocks i d l).size, few)
blocks_fit (Bibd v k l) bounds B meets = let few : k ≤ POINTS_MAX = grind (arith, nat_tests) in λ i d l. omega (arith, (meets.blocks i d l).size, few)
blocks_fit (Gdd k g u) bounds B meets = let few : k ≤ POINTS_MAX = grind (arith, nat_tests) in λ i d l. omega (arith, (meets.blocks i d l).size, few)
blocks_fit (Pbd v s) bounds B meets = λ i d l. of i d (meets.blocks i d l).size
  where
    few : s + 1 ≤ POINTS_MAX
    few = grind (arith, nat_tests)

    of : (i : ℕ) (d : List ℕ) → (length (get_or B i d) ≡ s) ⊎ (length (get_or B i d) ≡ s + 1) → length (get_or B i d) ≤ POINTS_MAX
    of i d (inl e) = omega (arith, e, few)
    of i d (inr e) = omega (arith, e, few)

pub rows_fit : (k n : ℕ) → in_bounds (Td k n) ≡ true → (R : List (List ℕ)) → IsOa R k n → All (λ row. length row ≤ POINTS_MAX) R
rows_fit k n bounds R oa = let b = td_bounds k n bounds in λ i d l. omega (arith, (oa.rows i d l).size, b.few)

pub squares_fit : (k n : ℕ) → in_bounds (Td k n) ≡ true → (L : List (List ℕ)) → IsMols L n (k - 2) → (length L ≡ (k - 2) * n) × All (λ row. length row ≤ POINTS_MAX) L
squares_fit k n bounds L mols = let b = td_bounds k n bounds in (mols.count, λ i d l. omega (arith, (mols.rows i d l).size, b.small))
