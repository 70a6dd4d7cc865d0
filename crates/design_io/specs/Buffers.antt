-- What a sink that collects what is written is seen as.
use Rattle.std.specs.Prelude.{ℕ, List, ◌++◌, take}
use Rattle.std.specs.List.{flat_map}

-- The sink behind the buffer, what was passed on to it, and what the buffer holds.
pub record Collected (Inner : Type 0) : Type 0 where
  pub inner : Inner
  pub passed : List ℕ
  pub left : List ℕ

-- all that was handed in
abbrev pub handed : {Inner : Type 0} → Collected Inner → List ℕ
handed s = s.passed ++ s.left

-- so many bytes from the front of each piece, one after another
abbrev pub fronts : List (List ℕ × ℕ) → List ℕ
fronts pairs = flat_map (λ p. take p.1 p.0) pairs
