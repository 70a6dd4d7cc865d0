-- Counting the pairs of rows, one row after another.
use Rattle.std.proofs.Common.{List, [], Some, arith, get_or, length, take, ℕ, ◌&&◌, ◌+◌, ◌<◌, ◌^◌, ◌∷◌, ◌≡◌, ◌≤◌}
use Rattle.std.proofs.lemmas.List.Sums.{count_by-le-length}
use Rattle.counting.specs.Sums.{one}
use Rattle.design_base.proofs.Cover.{cover-append, cover-single}
use Rattle.design_base.specs.Blocks.{cover, holds}
use Rattle.design_base.specs.declared.limits.TheConstants.{PACKED_MAX}
use Rattle.incidence.proofs.Sizes.{size_of-next}
use Rattle.incidence.proofs.Walk.{take_next}
use Rattle.incidence.specs.Packed.{size_of}
use Rattle.std.specs.List.{slice_get}
use Rattle.design_checks.specs.Counts.{Counts, Pairwise, cell}

pub cover-le : (B : List (List ℕ)) (x y : ℕ) → cover B x y ≤ length B
unfolding cover
cover-le B x y = count_by-le-length (λ b. holds x b && holds y b) B

module _ (rows : List (List ℕ)) (i : ℕ) (row : List ℕ) (is : slice_get rows i ≡ Some row) (v low high : ℕ) (now : List ℕ) (so_far : Counts now v low high (take i rows)) where
  pub row_counted : (new : List ℕ) → Pairwise v low high (λ x y. get_or new (cell v low x y) 0 ≡ get_or now (cell v low x y) 0 + one (holds x row && holds y row)) → Counts new v low high (take (i + 1) rows)
  row_counted new more x y a b c d = rw (take_next rows i row is) (omega (arith, more x y a b c d, so_far x y a b c d, cover-append (take i rows) (row ∷ []) x y, cover-single row x y))

  -- no count grows too large
  pub row_fits : size_of rows < PACKED_MAX → Pairwise v low high (λ x y. get_or now (cell v low x y) 0 + length row < 2 ^ 32)
  row_fits small x y a b c d = omega (arith, so_far x y a b c d, cover-le (take i rows) x y, size_of-next rows i row is)
