-- Counts of pairs against the ones wanted.
use Rattle.std.specs.Prelude.{ℕ, ◌+◌, ◌-◌, ◌*◌, ◌<◌, ◌≤◌, ◌≡◌, ◌≢◌, List, slice_index}
use Rattle.design_base.specs.Blocks.{IsBlock, across, cover}
use Rattle.design_checks.specs.declared.finding.Pair.{Pair}
use Rattle.design_checks.specs.declared.finding.Wanted.{Wanted}
use Rattle.design_checks.specs.declared.finding.Wanted.TheVariants.{Everywhere, Across}
use Rattle.design_checks.specs.declared.scratch.TheConstants.{WIDTH}

-- in how many blocks x and y are to stand together
abbrev pub want : Wanted → ℕ → ℕ → ℕ
want (Everywhere l) = λ x y. l
want (Across g) = across g

-- groups have points, and not more than the largest design
abbrev pub IsWanted : Wanted → Type 0
IsWanted (Everywhere l) = Unit {0}
IsWanted (Across g) = (0 < g) × (g ≤ WIDTH)

-- increasing numbers below v
abbrev pub IsRowOf : ℕ → List ℕ → Type 0
IsRowOf v row = IsBlock v (λ size. Unit {0}) row

-- the place of the count of x and y in a table of lines of v counts, the first of which is that of the point low
abbrev pub cell : ℕ → ℕ → ℕ → ℕ → ℕ
cell v low x y = (x - low) * v + y

-- P holds of each two points x < y of v of which x is from low on and below high
abbrev pub Pairwise : ℕ → ℕ → ℕ → (ℕ → ℕ → Type 0) → Type 0
Pairwise v low high P = (x y : ℕ) → low ≤ x → x < high → x < y → y < v → P x y

-- the table holds the covers
abbrev pub Counts : List ℕ → ℕ → ℕ → ℕ → List (List ℕ) → Type 0
Counts table v low high B = Pairwise v low high (λ x y. slice_index table (cell v low x y) ≡ cover B x y)

-- two functions agree from low on, below high
abbrev pub Agree : (ℕ → ℕ) → (ℕ → ℕ) → ℕ → ℕ → Type 0
Agree f g low high = (i : ℕ) → low ≤ i → i < high → f i ≡ g i

-- i is the first number at which two functions differ, from low on, below high
pub record IsFirstDifference (f g : ℕ → ℕ) (low high i : ℕ) : Type 0 where
  pub above : low ≤ i
  pub below : i < high
  pub differ : f i ≢ g i
  pub before : Agree f g low i

-- p is the first pair x < y < v, x from low on and below high, whose count is not the one wanted
pub record IsFirstBad (counts wanted : ℕ → ℕ → ℕ) (v low high : ℕ) (p : Pair) : Type 0 where
  pub above : low ≤ p.x
  pub below : p.x < high
  pub partner : IsFirstDifference (counts p.x) (wanted p.x) (p.x + 1) v p.y
  pub before : (x : ℕ) → low ≤ x → x < p.x → Agree (counts x) (wanted x) (x + 1) v
  pub count : p.count ≡ counts p.x p.y
