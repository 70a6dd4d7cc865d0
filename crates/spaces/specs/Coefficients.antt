-- The line of two points is made of their combinations a * x + b * y for certain coefficients (a, b).
use Rattle.std.specs.Prelude.{ℕ, ◌+◌, ◌<◌, ◌≡◌, List, All, length, map}
use Rattle.std.proofs.Common.{get_or}
use Rattle.spaces.specs.Vectors.{combination}

-- (1 - t, t) for each t below n
pub record AreAffine (add : ℕ → ℕ → ℕ) (n : ℕ) (W : List (ℕ × ℕ)) : Type 0 where
  pub count : length W ≡ n
  pub second : (t : ℕ) → t < n → (get_or W t (0, 0)).1 ≡ t
  pub sum_one : (t : ℕ) → t < n → add (get_or W t (0, 0)).0 t ≡ 1

-- (1, t) for each t below n
pub record AreSlopes (n : ℕ) (W : List (ℕ × ℕ)) : Type 0 where
  pub count : length W ≡ n
  pub each : (t : ℕ) → t < n → get_or W t (0, 0) ≡ (1, t)

-- (1, t) for each t below q, and (0, 1)
pub record AreProjective (q : ℕ) (W : List (ℕ × ℕ)) : Type 0 where
  pub count : length W ≡ q + 1
  pub each : (t : ℕ) → t < q → get_or W t (0, 0) ≡ (1, t)
  pub last : get_or W q (0, 0) ≡ (0, 1)

-- elements of the field
abbrev pub AreElements : ℕ → List (ℕ × ℕ) → Type 0
AreElements q W = All (λ w. (w.0 < q) × (w.1 < q)) W

module _ (add mul : ℕ → ℕ → ℕ) (q n : ℕ) (points places : List ℕ) where
  -- the place of a combination of the points at i and j
  abbrev pub combined_point : ℕ → ℕ → ℕ × ℕ → ℕ
  combined_point i j w = get_or places (combination add mul q n w.0 (get_or points i 0) w.1 (get_or points j 0)) 0

  unfoldable pub combined_line : List (ℕ × ℕ) → ℕ → ℕ → List ℕ
  combined_line W i j = map (combined_point i j) W
