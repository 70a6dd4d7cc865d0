-- The canonical form of a block list.
use Rattle.std.specs.Prelude.{ℕ, Bool, List, [], ◌∷◌, ◌==◌, nat_lt, nat_le, map, true, false}
use Rattle.std.proofs.Common.{◌&&◌, ◌||◌}
use Rattle.counting.specs.Sorting.{sort_by}

-- a is not after b in lexicographic order
unfoldable pub lex_le : List ℕ → List ℕ → Bool
lex_le [] b = true
lex_le (x ∷ a) [] = false
lex_le (x ∷ a) (y ∷ b) = nat_lt x y || ((x == y) && lex_le a b)

-- each block in increasing order, and the blocks in lexicographic order, repeats kept
unfoldable pub canonical : List (List ℕ) → List (List ℕ)
canonical B = sort_by lex_le (map (sort_by nat_le) B)
