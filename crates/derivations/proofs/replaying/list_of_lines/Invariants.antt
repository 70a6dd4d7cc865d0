use Rattle.derivations.proofs.Running.{Running}
use Rattle.derivations.proofs.replaying.list_of_lines.Given as goal

abbrev pub invariant-loop-line : goal.invariant-loop-line
invariant-loop-line l = Running l.lines l.line-index l.kept.items
