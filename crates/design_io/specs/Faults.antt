-- What a count of faults does in a call.
use Rattle.std.specs.Prelude.{◌≡◌, ℕ, ◌+◌, ◌-◌, ◌^◌, ◌≤◌, min, Result, OnErr, OnOk}

-- one more, up to the last value of the type u64
abbrev pub counted : ℕ → ℕ
counted n = min (n + 1) (2 ^ 64 - 1)

-- The count has risen, or stands at its last value.
abbrev pub Rose : ℕ → ℕ → Type 0
Rose before now = counted before ≤ now

-- The count never falls, a call fails only where it rose, and a call that did not fail leaves it.
pub record HasCause {T E : Type 0} (before now : ℕ) (result : Result T E) : Type 0 where
  pub later : before ≤ now
  pub failed : OnErr result (Rose before now)
  pub kept : OnOk result (now ≡ before)
