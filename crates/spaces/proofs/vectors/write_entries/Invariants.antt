-- The entries so far and those of the rest are all.
use Rattle.std.proofs.Common.{◌++◌, ◌-◌, ◌≡◌}
use Rattle.design_base.specs.Digits.{digits}
use Rattle.spaces.proofs.vectors.write_entries.Given as goal

abbrev pub invariant-loop : goal.invariant-loop
invariant-loop l = l.entries.items ++ digits l.q (l.n - l.counter) l.rest ≡ digits l.q l.n l.x
