-- Where group divisible designs rank: those whose groups hold a block, and those whose groups are smaller.
use Rattle.std.proofs.Common.{◌≡◌, ℕ, ◌+◌, ◌*◌, ◌<◌, ◌≤◌, arith, inl, inr}
use Rattle.counting.proofs.Booleans.{cases_lt}
use Rattle.std.proofs.lemmas.Bool.Decides.{nat_tests}
use Rattle.design_base.specs.declared.query.Query.TheVariants.{Gdd}
use Rattle.rule_terms.specs.Rank.{rank, ranked}

pub rank_wide : (k g u : ℕ) → k ≤ g → rank (Gdd k g u) ≡ ranked (g * u) 0 u
unfolding rank
rank_wide k g u h = grind (arith, nat_tests)

pub rank_narrow : (k g u : ℕ) → g < k → rank (Gdd k g u) ≡ ranked (g * u + 1) 2 u
unfolding rank
rank_narrow k g u h = grind (arith, nat_tests)

-- whatever the groups, at least and at most
pub rank_least : (k g u : ℕ) → ranked (g * u) 0 u ≤ rank (Gdd k g u)
rank_least k g u = elim (cases_lt g k) [
  | inl narrow ↦ omega (arith, rank_narrow k g u narrow)
  | inr wide ↦ omega (arith, rank_wide k g u wide)
]

pub rank_most : (k g u : ℕ) → rank (Gdd k g u) ≤ ranked (g * u + 1) 2 u
rank_most k g u = elim (cases_lt g k) [
  | inl narrow ↦ omega (arith, rank_narrow k g u narrow)
  | inr wide ↦ omega (arith, rank_wide k g u wide)
]
