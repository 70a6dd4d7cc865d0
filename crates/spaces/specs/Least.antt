-- The lines of a geometry in which two points have one line: each is listed for its two least points.
use Rattle.std.specs.Prelude.{ℕ, Bool, List, [], ◌∷◌, ◌==◌, ◌||◌, if◌then◌else◌, nat_le, nat_lt}
use Rattle.std.specs.List.{list_all}
use Rattle.counting.specs.Sums.{join_below}

-- each point of the line but x is y or a later one
abbrev pub are_least : ℕ → ℕ → List ℕ → Bool
are_least x y line = list_all (λ z. z == x || nat_le y z) line

-- the line in a list, where x and y are its two least points
abbrev pub line_at : ℕ → ℕ → List ℕ → List (List ℕ)
line_at x y line = if are_least x y line then line ∷ [] else []

-- those of y and each x below it
unfoldable pub lines_to : (ℕ → ℕ → List ℕ) → ℕ → ℕ → List (List ℕ)
lines_to line y n = join_below n (λ x. line_at x y (line x y))

-- those of each two points below v
unfoldable pub least_lines : (ℕ → ℕ → List ℕ) → ℕ → List (List ℕ)
least_lines line v = join_below v (λ y. lines_to line y y)

-- the same lines by their least points: those of x and each later point below n
unfoldable pub lines_from : (ℕ → ℕ → List ℕ) → ℕ → ℕ → List (List ℕ)
lines_from line x n = join_below n (λ y. if nat_lt x y then line_at x y (line x y) else [])

-- those of each x below n and each later point below v
unfoldable pub rising_lines : (ℕ → ℕ → List ℕ) → ℕ → ℕ → List (List ℕ)
rising_lines line v n = join_below n (λ x. lines_from line x v)
