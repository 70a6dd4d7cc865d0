-- How many blocks a design has, and how many points they have together.
use Rattle.std.proofs.Common.{Bool, List, ap, arith, cond, false, inl, inr, length, suc, true, zero, ℕ, ◌*◌, ◌+◌, ◌/◌, ◌<◌, ◌==◌, ◌≡◌, ◌≤◌, ◌⊎◌}
use Rattle.counting.proofs.Booleans.{cases_order, eq-eqb}
use Rattle.std.proofs.lemmas.List.Elements.{All-weaker, recursion_from_All}
use Rattle.std.proofs.lemmas.Nat.{mul-le}
use Rattle.std.specs.List.{sum_by}
use Rattle.std.specs.Prelude.{All}
use Rattle.counting.proofs.Counts.{count_equal, one-most, one-true, sum_below-add, sum_below-const, sum_below-le, sum_below-mul}
use Rattle.counting.proofs.Lists.{each-weaker, sum_by-add, sum_by-le, sum_by-mul-one}
use Rattle.counting.specs.Sums.{one}
use Rattle.design_base.proofs.Cover.{cover-turn}
use Rattle.design_base.specs.Blocks.{IsBibd, IsBlock, IsDesign, IsGdd, IsPbd, across, cover, holds, replication}
use Rattle.design_base.specs.declared.limits.TheConstants.{COVER_MAX, POINTS_MAX}
use Rattle.incidence.specs.Packed.{size_of}
use Rattle.block_counts.proofs.Flags.{cover-self, covers_of_point, points_of_block, replication-is, replications}
use Rattle.gdd_pbd.specs.Room.{FitsIn, most_blocks, most_size}

-- a block has at most all points
pub block_short : (v : ℕ) (Size : ℕ → Type 0) (b : List ℕ) → IsBlock v Size b → length b ≤ v
block_short v Size b s = omega (arith, points_of_block v Size b s, sum_below-le v (λ y. one (holds y b)) (λ y. 1) (λ y l. one-most (holds y b)), sum_below-const v 1)

module _ (v l : ℕ) (Size : ℕ → Type 0) (want : ℕ → ℕ → ℕ) (B : List (List ℕ)) (two : (s : ℕ) → Size s → 2 ≤ s) (most : (x y : ℕ) → want x y ≤ l) (design : IsDesign B v Size want) where
  each : (x y : ℕ) → x < v → y < v → cover B x y ≤ l + replication B x * one (x == y)
  each x y lx ly = elim (cases_order x y) [
    | inl e ↦ omega (arith, cover-self B x, ap (cover B x) e, ap (λ n. replication B x * n) (one-true (x == y) (eq-eqb x y e)))
    | inr (inl w) ↦ omega (arith, design.pairs x y w ly, most x y)
    | inr (inr w) ↦ omega (arith, cover-turn B x y, design.pairs y x w lx, most y x)
  ]

  doubled : (b : List ℕ) → IsBlock v Size b → (x : ℕ) → one (holds x b) + one (holds x b) ≤ one (holds x b) * length b
  doubled b s x = pick (one (holds x b)) (length b) (two (length b) s.size) (one-most (holds x b))
    where
      pick : (o n : ℕ) → 2 ≤ n → o ≤ 1 → o + o ≤ o * n
      pick zero n t m = omega arith
      pick (suc zero) n t m = omega arith
      pick (suc (suc o)) n t m = absurd (omega arith)

  -- a point is in at most l * v blocks
  replication_most : (x : ℕ) → x < v → replication B x ≤ l * v
  replication_most x m = omega (
    arith,
    covers_of_point B v Size design.blocks x,
    sum_below-le v (λ y. cover B x y) (λ y. l + replication B x * one (x == y)) (λ y n. each x y m n),
    sum_below-add v (λ y. l) (λ y. replication B x * one (x == y)),
    sum_below-mul v (replication B x) (λ y. one (x == y)),
    ap (λ n. replication B x * n) (count_equal v x m),
    sum_below-const v l,
    replication-is B x,
    sum_by-le (λ b. one (holds x b) + one (holds x b)) (λ b. one (holds x b) * length b) B (each-weaker (IsBlock v Size) (λ b. one (holds x b) + one (holds x b) ≤ one (holds x b) * length b) (λ b s. doubled b s x) B (recursion_from_All (IsBlock v Size) B design.blocks)),
    sum_by-add (λ b. one (holds x b)) (λ b. one (holds x b)) B,
  )

  pub points_most : sum_by length B ≤ l * (v * v)
  points_most = omega (
    arith,
    sum_below-le v (replication B) (λ x. l * v) (λ x m. replication_most x m),
    sum_below-const v (l * v),
    replications B v Size design.blocks,
  )

  pub blocks_most : length B + length B ≤ l * (v * v)
  blocks_most = omega (
    arith,
    points_most,
    sum_by-le (λ b. 2) length B (each-weaker (IsBlock v Size) (λ b. 2 ≤ length b) (λ b s. two (length b) s.size) B (recursion_from_All (IsBlock v Size) B design.blocks)),
    sum_by-mul-one 2 B,
  )

  pub size_most : size_of B + size_of B ≤ 3 * (l * (v * v))
  size_most = omega (arith, points_most, blocks_most)

-- ---- designs in which two points stand together once at most
pub across_most : (g x y : ℕ) → across g x y ≤ 1
unfolding across
across_most g x y = both (x / g == y / g)
  where
    both : (t : Bool) → cond t 0 1 ≤ 1
    both true = omega arith
    both false = omega arith

pub record IsSmall (v : ℕ) (B : List (List ℕ)) : Type 0 where
  pub size : size_of B ≤ most_size
  pub count : length B ≤ most_blocks
  pub fits : All (FitsIn v) B

square_most : (v : ℕ) → v ≤ POINTS_MAX → v * v ≤ POINTS_MAX * POINTS_MAX
square_most v l = mul-le v v POINTS_MAX POINTS_MAX l l

small_design : (v : ℕ) (Size : ℕ → Type 0) (want : ℕ → ℕ → ℕ) (B : List (List ℕ)) → ((s : ℕ) → Size s → 2 ≤ s) → ((x y : ℕ) → want x y ≤ 1) → v ≤ POINTS_MAX → IsDesign B v Size want → IsSmall v B
small_design v Size want B two most points design = record {
  size = omega (arith, size_most v 1 Size want B two most design, square_most v points);
  count = omega (arith, blocks_most v 1 Size want B two most design, square_most v points);
  fits = All-weaker (IsBlock v Size) (FitsIn v) (λ b s. record { few = omega (arith, block_short v Size b s, points); below = s.below }) B design.blocks;
}

pub small_bibd : (v k : ℕ) (B : List (List ℕ)) → 2 ≤ k → v ≤ POINTS_MAX → IsBibd B v k 1 → IsSmall v B
small_bibd v k B two points design = small_design v (λ s. s ≡ k) (λ x y. 1) B (λ s e. omega arith) (λ x y. omega arith) points design

pub small_gdd : (k g u : ℕ) (B : List (List ℕ)) → 2 ≤ k → g * u ≤ POINTS_MAX → IsGdd B k g u → IsSmall (g * u) B
small_gdd k g u B two points design = small_design (g * u) (λ s. s ≡ k) (across g) B (λ s e. omega arith) (across_most g) points design

pub small_pbd : (v s : ℕ) (B : List (List ℕ)) → 2 ≤ s → v ≤ POINTS_MAX → IsPbd B v s → IsSmall v B
small_pbd v s B two points design = small_design v (λ z. (z ≡ s) ⊎ (z ≡ s + 1)) (λ x y. 1) B (λ z e. omega arith) (λ x y. omega arith) points design

-- and up to the most blocks through two points
pub bibd_size : (v k l : ℕ) (B : List (List ℕ)) → 2 ≤ k → v ≤ POINTS_MAX → l ≤ COVER_MAX → IsBibd B v k l → size_of B ≤ COVER_MAX * most_size
bibd_size v k l B two points most design = omega (arith, size_most v l (λ s. s ≡ k) (λ x y. l) B (λ s e. omega arith) (λ x y. omega arith) design, mul-le l (v * v) COVER_MAX (POINTS_MAX * POINTS_MAX) most (square_most v points))

pub bibd_count : (v k l : ℕ) (B : List (List ℕ)) → 2 ≤ k → v ≤ POINTS_MAX → l ≤ COVER_MAX → IsBibd B v k l → length B ≤ COVER_MAX * most_blocks
bibd_count v k l B two points most design = omega (arith, blocks_most v l (λ s. s ≡ k) (λ x y. l) B (λ s e. omega arith) (λ x y. omega arith) design, mul-le l (v * v) COVER_MAX (POINTS_MAX * POINTS_MAX) most (square_most v points))
