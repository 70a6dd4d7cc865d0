-- Blocks whose points are replaced by groups of w points.
use Rattle.std.specs.Prelude.{List, flat_map, length, ℕ, ◌==◌}
use Rattle.std.proofs.Common.{cond}
use Rattle.gdd_pbd.specs.Filling.{place_by, rename}

-- for each block of z points the blocks of D z over the groups of its points
unfoldable pub weighted : ℕ → (ℕ → List (List ℕ)) → List (List ℕ) → List (List ℕ)
weighted w D G = flat_map (λ b. rename (place_by w b) (D (length b))) G

-- the same with one ingredient
unfoldable pub weight : ℕ → List (List ℕ) → List (List ℕ) → List (List ℕ)
weight w G D = weighted w (λ z. D) G

-- C for blocks of s points, and D for all others
unfoldable pub chosen : ℕ → List (List ℕ) → List (List ℕ) → ℕ → List (List ℕ)
chosen s C D z = cond (z == s) C D
