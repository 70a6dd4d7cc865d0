use Rattle.std.proofs.Common.{◌≡◌, ℕ, drop, get_or, ◌<◌}
use Rattle.std.specs.List.{list_all}
use Rattle.derivations.specs.Derivations.{comes_before}
use Rattle.derivations.proofs.faults.is_backward.Given as goal

abbrev pub invariant-loop-number : goal.invariant-loop-number
invariant-loop-number l = record {
  test : list_all (comes_before l.own) l.from ≡ list_all (comes_before l.own) (drop l.number-index l.from);
  each : (k d : ℕ) → k < l.number-index → (0 < get_or l.from k d) × (get_or l.from k d < l.own);
}
