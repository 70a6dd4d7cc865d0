-- Lines of an input that are no rows of an array or of squares. Lines are counted from 1.
use Rattle.std.specs.Prelude.{ℕ, ◌+◌, ◌*◌, ◌==◌, ◌&&◌, ◌≡◌, Bool, not, nat_lt, min, List, length, take, Option, Some, None, option_map, position, if◌then◌else◌, ⊤}
use Rattle.std.specs.List.{list_all}
use Rattle.std.specs.Option.{option_or}
use Rattle.arrays.specs.declared.end.ArrayEnd.{ArrayEnd}
use Rattle.arrays.specs.declared.end.ArrayEnd.TheVariants.{BadLine, Memory}

-- whether a line has k symbols, each below n
unfoldable pub is_row : ℕ → ℕ → List ℕ → Bool
is_row k n line = (length line == k) && list_all (λ a. nat_lt a n) line

-- the first line that has not
unfoldable pub bad_row : ℕ → ℕ → List (List ℕ) → Option ℕ
bad_row k n lines = option_map (λ i. i + 1) (position (λ line. not (is_row k n line)) lines)

-- the first line that is missing or surplus, where so many are wanted
unfoldable pub bad_count : ℕ → ℕ → Option ℕ
bad_count wanted count = if count == wanted then None else Some (min count wanted + 1)

-- the first bad line of m squares of order n, one below the other
unfoldable pub bad_line : ℕ → ℕ → List (List ℕ) → Option ℕ
bad_line m n lines = option_or (bad_row n n (take (m * n) lines)) (bad_count (m * n) (length lines))

-- a bad line is named where it is the first
abbrev pub IsNamed : Option ℕ → ArrayEnd → Type 0
IsNamed bad (BadLine index) = bad ≡ Some index
IsNamed bad Memory = ⊤
