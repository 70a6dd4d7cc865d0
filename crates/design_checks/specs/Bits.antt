-- Transversal designs by bits: one for each two points of different groups.
use Rattle.std.specs.Prelude.{ℕ, ◌+◌, ◌*◌, ◌<◌, ◌≤◌, ◌≡◌, List, length, slice_index}
use Rattle.std.specs.Int.{bit_at}
use Rattle.design_base.specs.Blocks.{cover}
use Rattle.design_checks.specs.declared.transversal.TheConstants.{GROUPS}

-- k points, one of each group of n points, in the order of the groups
pub record IsAcross (k n : ℕ) (block : List ℕ) : Type 0 where
  pub size : length block ≡ k
  pub from : (j : ℕ) → j < k → j * n ≤ slice_index block j
  pub below : (j : ℕ) → j < k → slice_index block j < j * n + n

-- each point of group i meets each point of each later group
abbrev pub MeetsLater : ℕ → ℕ → ℕ → List (List ℕ) → Type 0
MeetsLater k n i B = (a j b : ℕ) → a < n → i < j → j < k → b < n → 0 < cover B (i * n + a) (j * n + b)

-- a bit that is set says that point a of group i meets point b of group j: it is bit b of the word of a and j
abbrev pub Tells : List ℕ → ℕ → ℕ → ℕ → List (List ℕ) → Type 0
Tells words k n i B = (a j b : ℕ) → a < n → i < j → j < k → b < n → bit_at (slice_index words (a * GROUPS + j)) b ≡ 1 → 0 < cover B (i * n + a) (j * n + b)

-- all bits of the points of group i are set
abbrev pub AreSet : List ℕ → ℕ → ℕ → ℕ → Type 0
AreSet words k n i = (a j b : ℕ) → a < n → i < j → j < k → b < n → bit_at (slice_index words (a * GROUPS + j)) b ≡ 1
