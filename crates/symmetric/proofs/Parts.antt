-- What blocks have of some of the points: where each has m of them, and any two of them stand together in c blocks, that is a design.
use Rattle.std.proofs.Common.{List, ap₂, arith, get_or, length, map, sym, true, ℕ, ◌&&◌, ◌<◌, ◌∙◌, ◌≡◌, ◌≤◌}
use Rattle.std.proofs.lemmas.List.Kept.{AllPairs-from_increasing}
use Rattle.std.proofs.lemmas.List.Sums.{count_by-le-length}
use Rattle.std.specs.List.Sorted.{IsStrictlyIncreasing}
use Rattle.std.specs.Prelude.{All}
use Rattle.counting.proofs.Lists.{All-map_of, each_all, sum_by-map, sum_by-same}
use Rattle.counting.proofs.Totals.{length_filtered}
use Rattle.counting.specs.Sums.{one}
use Rattle.design_base.proofs.Canonical.{IsPointSet, design_from_loose}
use Rattle.design_base.proofs.Cover.{cover-is}
use Rattle.design_base.proofs.Points.{holds_element}
use Rattle.design_base.specs.Blocks.{IsBibd, cover, holds}
use Rattle.design_base.specs.Canonical.{canonical}
use Rattle.block_counts.proofs.Meeting.{meet-is}
use Rattle.block_counts.specs.Counts.{meet}
use Rattle.spaces.specs.Lines.{points_in}
use Rattle.plane_curves.proofs.Sections.{sum_places}
use Rattle.plane_curves.proofs.Traces.{holds_part, part_below, part_differs}

module _ (P : List ℕ) where
  abbrev at : ℕ → ℕ
  at i = get_or P i 0

  -- as many places as points
  pub length-points_in : (b : List ℕ) → length (points_in P b) ≡ meet P b
  unfolding points_in
  length-points_in b = length_filtered (λ i. holds (at i) b) (length P) ∙ sum_places (λ x. one (holds x b)) P ∙ sym (meet-is P b)

  pub length-points_in-le : (b : List ℕ) → length (points_in P b) ≤ length P
  unfolding meet
  length-points_in-le b = omega (arith, length-points_in b, count_by-le-length (λ x. holds x b) P)

  -- the places of two points stand together where the points do
  cover-parts : (R : List (List ℕ)) (i j : ℕ) → i < length P → j < length P → cover (map (points_in P) R) i j ≡ cover R (at i) (at j)
  cover-parts R i j l m =
      cover-is (map (points_in P) R) i j
      ∙ sum_by-map (λ b. one (holds i b && holds j b)) (points_in P) R
      ∙ sum_by-same _ (λ b. one (holds (at i) b && holds (at j) b)) R (each_all _ (λ b. ap₂ (λ p q. one (p && q)) (holds_part P b i l) (holds_part P b j m)) R)
      ∙ sym (cover-is R (at i) (at j))

  pub parts_design : (R : List (List ℕ)) (m c : ℕ) → IsStrictlyIncreasing P → All (λ b. meet P b ≡ m) R
      → ((x y : ℕ) → x < y → holds x P ≡ true → holds y P ≡ true → cover R x y ≡ c) → IsBibd (canonical (map (points_in P) R)) (length P) m c
  parts_design R m c rises sizes covers = design_from_loose (length P) (λ s. s ≡ m) (map (points_in P) R) (λ x y. c) (record {
    blocks = All-map_of (λ b. meet P b ≡ m) (IsPointSet (length P) (λ s. s ≡ m)) (points_in P) R sizes
        (λ b size. record { differs = part_differs P b; below = part_below P b; size = length-points_in b ∙ size });
    pairs = λ i j l h. cover-parts R i j (omega arith) h
        ∙ covers (at i) (at j) (AllPairs-from_increasing P rises i j 0 l h) (holds_element P i (omega arith)) (holds_element P j h);
  })
