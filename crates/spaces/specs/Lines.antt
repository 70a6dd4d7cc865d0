-- The lines of affine and of projective geometries, as block lists: a block of an affine geometry holds vectors, and one of
-- a projective geometry places in the list of its points.
use Rattle.std.specs.Prelude.{ℕ, ◌+◌, ◌-◌, ◌^◌, List, filter, length, map, nat_eq}
use Rattle.std.specs.List.{dedup}
use Rattle.std.specs.Cmp.Lexicographic.{pointwise}
use Rattle.std.proofs.Common.{get_or}
use Rattle.counting.specs.Search.{upward}
use Rattle.counting.specs.Sums.{join_below, list_below}
use Rattle.design_base.specs.Blocks.{holds}
use Rattle.design_base.specs.Canonical.{canonical}
use Rattle.design_base.specs.Fields.{field_sum, field_product}
use Rattle.spaces.specs.Vectors.{vector_sum, multiple, combination}
use Rattle.spaces.specs.Points.{points}

-- the blocks in canonical form, each once
unfoldable pub each_once : List (List ℕ) → List (List ℕ)
each_once B = dedup (pointwise nat_eq) (canonical B)

-- the places of those of the points P that are among the vectors S
unfoldable pub points_in : List ℕ → List ℕ → List ℕ
points_in P S = filter (λ i. holds (get_or P i 0) S) (list_below (length P) (λ i. i))

module _ (add mul : ℕ → ℕ → ℕ) (q n : ℕ) where
  -- the points p + t * e
  unfoldable pub affine_line : ℕ → ℕ → List ℕ
  affine_line p e = list_below q (λ t. vector_sum add q n p (multiple mul q n t e))

  -- those lines for each p and each e but 0
  unfoldable pub affine_lines_over : List (List ℕ)
  affine_lines_over = each_once (join_below (q ^ n) (λ p. map (affine_line p) (upward 1 (q ^ n - 1))))

  -- the vectors a * x + b * y: the subspace of x and y
  unfoldable pub subspace : ℕ → ℕ → List ℕ
  subspace x y = join_below q (λ a. list_below q (λ b. combination add mul q n a x b y))

  -- for each two points the points in their subspace
  unfoldable pub projective_lines_over : List (List ℕ)
  projective_lines_over =
      let P = points q n in
      each_once (join_below (length P) (λ j. list_below j (λ i. points_in P (subspace (get_or P i 0) (get_or P j 0)))))

-- the lines of the affine geometry of dimension d over the field of q elements, whose points are all vectors of d entries
unfoldable pub affine_lines : ℕ → ℕ → List (List ℕ)
affine_lines q d = affine_lines_over (field_sum q) (field_product q) q d

-- and of the projective geometry, whose points are among the vectors of d + 1 entries
unfoldable pub projective_lines : ℕ → ℕ → List (List ℕ)
projective_lines q d = projective_lines_over (field_sum q) (field_product q) q (d + 1)
