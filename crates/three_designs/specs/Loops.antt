-- The crossed pairs of a factor as loops write them.
use Rattle.std.specs.Prelude.{List, ℕ, ◌-◌, ◌/◌, ◌++◌}
use Rattle.counting.specs.Sums.{join_below, list_below}
use Rattle.three_designs.specs.Quadruples.{factor_pair, moved}

-- pair s of factor i, and pair t on the points above
abbrev pub crossed_pair : ℕ → ℕ → ℕ → ℕ → List ℕ
crossed_pair w i s t = factor_pair (w - 1) i s ++ moved w (factor_pair (w - 1) i t)

unfoldable pub crossed_pairs : ℕ → ℕ → List (List ℕ)
crossed_pairs w i = join_below (w / 2) (λ s. list_below (w / 2) (crossed_pair w i s))
