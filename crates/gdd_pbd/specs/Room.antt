-- What the loops need: blocks that fit into a row, and room for them.
use Rattle.std.specs.Prelude.{All, List, [], false, length, slice_index_or, ℕ, ◌*◌, ◌+◌, ◌/◌, ◌<◌, ◌≡◌, ◌≤◌}
use Rattle.design_base.specs.Blocks.{IsBibd, holds}
use Rattle.design_base.specs.declared.limits.TheConstants.{PACKED_MAX, POINTS_MAX}
use Rattle.incidence.specs.Packed.{size_of}
use Rattle.gdd_pbd.specs.Deleting.{group_in, rank_in}
use Rattle.gdd_pbd.specs.Weighting.{chosen}

-- the most blocks of a design on POINTS_MAX points in which two points stand together once at most, and the most numbers that it takes
abbrev pub most_blocks : ℕ
most_blocks = POINTS_MAX * POINTS_MAX / 2

abbrev pub most_size : ℕ
most_size = 3 * (POINTS_MAX * POINTS_MAX) / 2

-- not longer than the longest block
abbrev pub IsShort : List ℕ → Type 0
IsShort block = length block ≤ POINTS_MAX

-- not longer than the longest block, and of points below n
pub record FitsIn (n : ℕ) (block : List ℕ) : Type 0 where
  pub few : length block ≤ POINTS_MAX
  pub below : All (λ p. p < n) block

-- a design that fits on a group of t points
pub record FitsGroup (t : ℕ) (Q : List (List ℕ)) : Type 0 where
  pub fits : All (FitsIn t) Q
  pub size : size_of Q ≤ most_size

-- blocks for the groups of the blocks of a list, and room for them
pub record CanFillGroups (g u : ℕ) (G D : List (List ℕ)) : Type 0 where
  pub some : 0 < g
  pub points : g ≤ POINTS_MAX
  pub groups : u * g ≤ POINTS_MAX
  pub fits : All (FitsIn (2 * g)) D
  pub room : size_of G + u * size_of D < PACKED_MAX

-- the block's points are points of a design, and the ingredient for so many points fits into the groups of w points
pub record CanReplace (w s : ℕ) (C D : List (List ℕ)) (block : List ℕ) : Type 0 where
  pub points : All (λ x. x * w ≤ POINTS_MAX) block
  pub fits : All (FitsIn (length block * w)) (chosen s C D (length block))

-- u groups of g points and one point more, of a BIBD
pub record CanDeleteLast (g u : ℕ) (B : List (List ℕ)) : Type 0 where
  pub some : 0 < g
  pub groups : 0 < u
  pub points : g * u + 1 ≤ POINTS_MAX
  pub design : IsBibd B (g * u + 1) (g + 1) 1

-- the point stands in a group
pub record HasName (g : ℕ) (G : List (List ℕ)) (x : ℕ) : Type 0 where
  pub group : group_in G x < length G
  pub rank : rank_in (slice_index_or G (group_in G x) []) x < g

-- a block whose points stand in groups, unless it holds p
pub record HasNames (g p : ℕ) (G : List (List ℕ)) (block : List ℕ) : Type 0 where
  pub few : length block ≤ POINTS_MAX
  pub names : holds p block ≡ false → All (HasName g G) block
