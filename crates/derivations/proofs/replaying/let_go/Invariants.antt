use Rattle.std.proofs.Common.{◌≡◌, ◌≢◌, ℕ, ◌+◌, ◌-◌, ◌<◌, length, get_or}
use Rattle.std.specs.Prelude.{slice_index_or, None, All}
use Rattle.derivations.proofs.replaying.let_go.Given as goal

abbrev pub invariant-loop-number : goal.invariant-loop-number
invariant-loop-number l = record {
  size : length l.kept ≡ length l.initial.kept;
  gone : (i : ℕ) → i < l.number-index → slice_index_or l.kept (get_or l.from i 0 - 1) None ≡ None;
  others : (j : ℕ) → All (λ i. i ≢ j + 1) l.from → slice_index_or l.kept j None ≡ slice_index_or l.initial.kept j None;
}
