-- What a design says of each of its blocks.
use Rattle.std.proofs.Common.{List, length, ℕ, ◌<◌}
use Rattle.std.proofs.lemmas.List.Elements.{All-weaker}
use Rattle.std.specs.Prelude.{All}
use Rattle.design_base.specs.Blocks.{IsBlock, IsDesign}

module _ (B : List (List ℕ)) (v : ℕ) (Size : ℕ → Type 0) (want : ℕ → ℕ → ℕ) (design : IsDesign B v Size want) where
  -- its length is a size of the design
  pub block_sizes : All (λ b. Size (length b)) B
  block_sizes = All-weaker (IsBlock v Size) (λ b. Size (length b)) (λ b s. s.size) B design.blocks

  -- its points are below v
  pub block_points : All (λ b. All (λ x. x < v) b) B
  block_points = All-weaker (IsBlock v Size) (λ b. All (λ x. x < v) b) (λ b s. s.below) B design.blocks
