-- Block lists and block designs, as in the Handbook of Combinatorial Designs (Colbourn, Dinitz) and in Stinson's
-- Combinatorial Designs. The points are the numbers below v, and a block may stand in a list more than once.
use Rattle.std.specs.Prelude.{ℕ, Bool, List, ◌+◌, ◌*◌, ◌/◌, ◌==◌, ◌<◌, ◌≡◌, ◌⊎◌, All, length, count_by, sum_by}
use Rattle.std.specs.List.{list_any}
use Rattle.std.specs.List.Sorted.{IsStrictlyIncreasing}
use Rattle.std.proofs.Common.{◌&&◌, cond}

-- the block holds the point x
unfoldable pub holds : ℕ → List ℕ → Bool
holds x block = list_any (λ y. y == x) block

-- in how many blocks x and y stand together
unfoldable pub cover : List (List ℕ) → ℕ → ℕ → ℕ
cover blocks x y = count_by (λ block. holds x block && holds y block) blocks

-- the replication of x: how many blocks hold it
unfoldable pub replication : List (List ℕ) → ℕ → ℕ
replication blocks x = count_by (λ block. holds x block) blocks

-- points below v in increasing order, and so many of them as `Size` allows
pub record IsBlock (v : ℕ) (Size : ℕ → Type 0) (block : List ℕ) : Type 0 where
  pub rises : IsStrictlyIncreasing block
  pub below : All (λ x. x < v) block
  pub size : Size (length block)

-- a design: blocks of the allowed sizes on v points, and two points x < y stand together in `want x y` blocks
pub record IsDesign (B : List (List ℕ)) (v : ℕ) (Size : ℕ → Type 0) (want : ℕ → ℕ → ℕ) : Type 0 where
  pub blocks : All (IsBlock v Size) B
  pub pairs : (x y : ℕ) → x < y → y < v → cover B x y ≡ want x y

-- a balanced incomplete block design: v points, blocks of k points, two points together in l blocks
abbrev pub IsBibd : List (List ℕ) → ℕ → ℕ → ℕ → Type 0
IsBibd B v k l = IsDesign B v (λ size. size ≡ k) (λ x y. l)

-- 0 for two points of one group of g points, and 1 for points of different groups; point j * g + a is in group j
unfoldable pub across : ℕ → ℕ → ℕ → ℕ
across g x y = cond (x / g == y / g) 0 1

-- a group divisible design: u groups of g points, blocks of k points, two points together in one block where their
-- groups differ, and in none where they are in one group
abbrev pub IsGdd : List (List ℕ) → ℕ → ℕ → ℕ → Type 0
IsGdd B k g u = IsDesign B (g * u) (λ size. size ≡ k) (across g)

-- a transversal design: a group divisible design whose blocks hold one point of each of k groups of n points
abbrev pub IsTd : List (List ℕ) → ℕ → ℕ → Type 0
IsTd B k n = IsGdd B k n k

-- a pairwise balanced design: v points, blocks of s or s + 1 points, two points together in one block
abbrev pub IsPbd : List (List ℕ) → ℕ → ℕ → Type 0
IsPbd B v s = IsDesign B v (λ size. (size ≡ s) ⊎ (size ≡ s + 1)) (λ x y. 1)

-- of how many ordered pairs of points of one block d is the difference: x plus d is y, where `add` is the group's sum
unfoldable pub differences : (ℕ → ℕ → ℕ) → List (List ℕ) → ℕ → ℕ
differences add B d = sum_by (λ block. sum_by (λ x. count_by (λ y. add x d == y) block) block) B

-- a difference family over a group of v elements: base blocks of k elements, and each element but 0 is l differences
pub record IsDf (B : List (List ℕ)) (add : ℕ → ℕ → ℕ) (v k l : ℕ) : Type 0 where
  pub blocks : All (IsBlock v (λ size. size ≡ k)) B
  pub each : (d : ℕ) → 0 < d → d < v → differences add B d ≡ l
