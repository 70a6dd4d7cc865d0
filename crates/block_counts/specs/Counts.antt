-- The numbers of blocks at a point, and of points that two blocks share.
use Rattle.std.specs.Prelude.{ℕ, List, ◌+◌, ◌-◌, ◌*◌, ◌/◌, count_by}
use Rattle.design_base.specs.Blocks.{holds}

-- r: in how many blocks each point of a block design stands
abbrev pub replication_number : ℕ → ℕ → ℕ → ℕ
replication_number v k l = l * (v - 1) / (k - 1)

-- b: how many blocks a block design has
abbrev pub block_number : ℕ → ℕ → ℕ → ℕ
block_number v k l = v * replication_number v k l / k

-- b + l - 2r: in how many complements of blocks two points stand together
abbrev pub complement_cover : ℕ → ℕ → ℕ → ℕ
complement_cover v k l = block_number v k l + l - 2 * replication_number v k l

-- in how many points a meets b
unfoldable pub meet : List ℕ → List ℕ → ℕ
meet a b = count_by (λ x. holds x b) a
