-- Block designs without their last point: as it is, and where the blocks through it become groups.
use Rattle.std.specs.List.{position_or_len}
use Rattle.std.specs.Prelude.{List, [], filter, map, nat_lt, not, slice_index_or, ℕ, ◌*◌, ◌==◌}
use Rattle.design_base.specs.Arrays.{place}
use Rattle.design_base.specs.Blocks.{holds}
use Rattle.gdd_pbd.specs.Filling.{rename}

-- each block without the points from v on
unfoldable pub below_point : ℕ → List (List ℕ) → List (List ℕ)
below_point v B = map (filter (λ x. nat_lt x v)) B

-- the blocks through the last point p, without it
unfoldable pub groups_at : ℕ → List (List ℕ) → List (List ℕ)
groups_at p B = below_point p (filter (λ b. holds p b) B)

-- the group of x, and how many points of a group stand before it
abbrev pub group_in : List (List ℕ) → ℕ → ℕ
group_in G x = position_or_len (λ b. holds x b) G

abbrev pub rank_in : List ℕ → ℕ → ℕ
rank_in b x = position_or_len (λ z. z == x) b

-- the place of x: its group and its rank in it
unfoldable pub place_in : ℕ → List (List ℕ) → ℕ → ℕ
place_in g G x = place g (group_in G x) (rank_in (slice_index_or G (group_in G x) []) x)

-- the blocks that miss p, their points renamed
unfoldable pub renamed_rest : (ℕ → ℕ) → ℕ → List (List ℕ) → List (List ℕ)
renamed_rest f p B = rename f (filter (λ b. not (holds p b)) B)

-- the blocks that miss the last point g * u, over the places of their points
abbrev pub delete_last : ℕ → ℕ → List (List ℕ) → List (List ℕ)
delete_last g u B = renamed_rest (place_in g (groups_at (g * u) B)) (g * u) B
