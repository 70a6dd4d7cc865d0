-- What a write does to bytes that are told.
use Rattle.std.specs.Prelude.{ℕ, ◌<◌, List, length, take, Option, Result, MatchResult, IfOk}
use Rattle.std.specs.Io.KnownBytes.{Appends}

-- A proper prefix of bs was appended.
pub record AppendsPart (old new : Option (List ℕ)) (bs : List ℕ) : Type 0 where
  pub count : ℕ
  pub short : count < length bs
  pub appended : Appends old new (take count bs)

-- All of bs was appended at `Ok`, and a proper prefix of it at `Err`.
abbrev pub AppendsWhole : {T E : Type 0} → Option (List ℕ) → Option (List ℕ) → Result T E → List ℕ → Type 0
AppendsWhole old new r bs = MatchResult r (λ _. Appends old new bs) (λ _. AppendsPart old new bs)

-- A piece with bytes is never answered by `Ok(0)`.
abbrev pub TakesSome : {E : Type 0} → Result ℕ E → List ℕ → Type 0
TakesSome r piece = IfOk r (λ n. 0 < length piece → 0 < n)
