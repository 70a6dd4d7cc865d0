-- Pairwise balanced designs from transversal designs whose last group loses points.
use Rattle.std.specs.Prelude.{ℕ, List, None, Option, Some, ◌+◌, ◌*◌}
use Rattle.std.proofs.Common.{[], ◌++◌}
use Rattle.counting.specs.Sums.{join_below}
use Rattle.design_base.specs.Arrays.{place}
use Rattle.gdd_pbd.specs.Deleting.{below_point}
use Rattle.gdd_pbd.specs.Filling.{rename}

-- a design on what is left of group s, where there is one
abbrev pub last_group : ℕ → ℕ → Option (List (List ℕ)) → List (List ℕ)
last_group t s None = []
last_group t s (Some Q) = rename (place t s) Q

-- the blocks of T without the points from s * t + u on, P on the first s groups, and the last design, where there is one, on what is left of the last group
unfoldable pub truncated : ℕ → ℕ → ℕ → List (List ℕ) → List (List ℕ) → Option (List (List ℕ)) → List (List ℕ)
truncated s t u T P rest = below_point (s * t + u) T ++ (join_below s (λ j. rename (place t j) P) ++ last_group t s rest)
