-- Geometries in which two points have one line.
use Rattle.std.specs.Prelude.{ℕ, List, ◌<◌, ◌≡◌, true}
use Rattle.design_base.proofs.Canonical.{IsPointSet}
use Rattle.design_base.specs.Blocks.{holds}

-- lines of k points on v points: two points have one line, which is that of any two of its points
pub record IsLinearSpace (v k : ℕ) (line : ℕ → ℕ → List ℕ) : Type 0 where
  pub set : (x y : ℕ) → x < y → y < v → IsPointSet v (λ s. s ≡ k) (line x y)
  pub first : (x y : ℕ) → x < y → y < v → holds x (line x y) ≡ true
  pub second : (x y : ℕ) → x < y → y < v → holds y (line x y) ≡ true
  pub joins : (x y z w u : ℕ) → x < y → y < v → z < w → w < v → holds z (line x y) ≡ true → holds w (line x y) ≡ true → holds u (line x y) ≡ holds u (line z w)
