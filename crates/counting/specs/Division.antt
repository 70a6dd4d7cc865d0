-- Whether one number divides another.
use Rattle.std.specs.Prelude.{ℕ, Bool, ◌%◌, ◌==◌}

abbrev pub divides : ℕ → ℕ → Bool
divides d n = n % d == 0
