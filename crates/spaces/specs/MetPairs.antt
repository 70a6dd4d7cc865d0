-- A table that says of each two points whether a line of a list holds both.
use Rattle.std.specs.Prelude.{ℕ, Bool, List, ◌+◌, ◌*◌, ◌<◌, ◌≡◌, false, length, nat_lt, slice_index_or}
use Rattle.design_base.specs.Blocks.{cover}
use Rattle.design_base.specs.declared.limits.TheConstants.{POINTS_MAX}

-- the entry of x and y
abbrev pub entry : List Bool → ℕ → ℕ → Bool
entry met x y = slice_index_or met (x * POINTS_MAX + y) false

pub record AreMet (B : List (List ℕ)) (met : List Bool) : Type 0 where
  pub count : length met ≡ POINTS_MAX * POINTS_MAX
  pub each : (x y : ℕ) → x < POINTS_MAX → y < POINTS_MAX → entry met x y ≡ nat_lt 0 (cover B x y)
