-- The rule is sought among those from place i on.
use Rattle.std.proofs.Common.{◌≡◌, drop, find}
use Rattle.design_base.specs.Rules.{has_name, rules}
use Rattle.design_base.proofs.rule.rule_named.Given as goal

abbrev pub invariant-loop-i : goal.invariant-loop-i
invariant-loop-i l = find (has_name l.kind l.name) rules ≡ find (has_name l.kind l.name) (drop l.i rules)
