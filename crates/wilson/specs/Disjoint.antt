-- Blocks without a common point.
use Rattle.std.specs.Prelude.{ℕ, Bool, not, List, [], slice_index_or, Option, position}
use Rattle.std.specs.List.{list_any}
use Rattle.design_base.specs.Blocks.{holds}

-- no point stands in both blocks
unfoldable pub are_disjoint : List ℕ → List ℕ → Bool
are_disjoint b c = not (list_any (λ x. holds x c) b)

-- the least place of a block that is disjoint from the first one
unfoldable pub disjoint_from_first : List (List ℕ) → Option ℕ
disjoint_from_first B = position (are_disjoint (slice_index_or B 0 [])) B
