use Rattle.std.proofs.Common.{◌≡◌, map, take}
use Rattle.derivations.specs.Kept.{kept_lists}
use Rattle.derivations.proofs.replaying.lent.Given as goal

abbrev pub invariant-loop-number : goal.invariant-loop-number
invariant-loop-number l = map (λ r. r.now) l.refs.items ≡ kept_lists l.kept (take l.number-index l.from)
