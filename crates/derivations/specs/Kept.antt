-- Lists of earlier lines, kept for the lines behind.
use Rattle.std.specs.Prelude.{◌≡◌, ℕ, ◌-◌, ◌<◌, ◌≤◌, List, [], length, map, Option, Some, None, slice_index_or}

-- the list of line number i is kept
pub record IsKept (kept : List (Option (List (List ℕ)))) (i : ℕ) : Type 0 where
  pub number : 0 < i
  pub within : i ≤ length kept
  pub list : List (List ℕ)
  pub there : slice_index_or kept (i - 1) None ≡ Some list

-- the list of line number i, if it is kept
abbrev pub kept_list : List (Option (List (List ℕ))) → ℕ → List (List ℕ)
kept_list kept i = elim (slice_index_or kept (i - 1) None) [ Some B ↦ B | None ↦ [] ]

abbrev pub kept_lists : List (Option (List (List ℕ))) → List ℕ → List (List (List ℕ))
kept_lists kept from = map (kept_list kept) from
