-- Marks at the numbers of lines that were named.
use Rattle.std.specs.Prelude.{◌≡◌, ℕ, ◌<◌, Bool, false, List, length, slice_index_or}
use Rattle.counting.specs.Search.{is_among}

-- a place is marked exactly where it is one of the numbers
abbrev pub Marks : List ℕ → List Bool → Type 0
Marks named marks = (j : ℕ) → j < length marks → slice_index_or marks j false ≡ is_among j named
