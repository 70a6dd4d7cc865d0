use Rattle.std.proofs.Common.{◌≡◌, drop}
use Rattle.design_base.specs.Rules.{rules}
use Rattle.rule_table.specs.Walks.{head, steps_of}
use Rattle.rule_table.proofs.walk.first_of_rules.Given as goal

abbrev pub invariant-loop-i : goal.invariant-loop-i
invariant-loop-i l = head (steps_of l.fn.q (drop l.fn.start rules)) ≡ head (steps_of l.q (drop l.i rules))
