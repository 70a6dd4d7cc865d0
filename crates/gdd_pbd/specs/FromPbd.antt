-- A block design from a pairwise balanced design and smaller block designs.
use Rattle.std.specs.Prelude.{List, ℕ, ◌+◌}
use Rattle.design_base.specs.Canonical.{canonical}
use Rattle.gdd_pbd.specs.Basic.{whole_blocks}
use Rattle.gdd_pbd.specs.Deleting.{delete_last}
use Rattle.gdd_pbd.specs.Filling.{fill_with_point}
use Rattle.gdd_pbd.specs.Weighting.{chosen, weighted}

-- C and D without their last points are group divisible designs with s and with s + 1 groups of w points. For each block of P the blocks of
-- the one with as many groups, over the groups of its points; and for each group the block of its points and the last point
unfoldable pub from_pbd : ℕ → ℕ → ℕ → List (List ℕ) → List (List ℕ) → List (List ℕ) → List (List ℕ)
from_pbd w n s P C D = fill_with_point w n (weighted w (chosen s (canonical (delete_last w s C)) (canonical (delete_last w (s + 1) D))) P) (whole_blocks (w + 1) 1)
