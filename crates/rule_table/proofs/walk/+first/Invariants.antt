use Rattle.std.proofs.Common.{◌≡◌, ◌-◌, ◌*◌, length}
use Rattle.rule_terms.specs.Prefixes.{listed}
use Rattle.rule_table.specs.Walks.{head, steps_between}
use Rattle.rule_table.proofs.walk.+first.Given as goal

abbrev pub decreases-first_between : goal.decreases-first_between
decreases-first_between l = 2 * (5 - length (listed l.prefix)) - 1

abbrev pub decreases-first_under : goal.decreases-first_under
decreases-first_under l = 2 * (5 - length (listed l.prefix))

abbrev pub invariant-first_between-loop-x : goal.invariant-first_between-loop-x
invariant-first_between-loop-x l =
    head (steps_between l.fn.q l.fn.rule (listed l.fn.prefix) l.fn.low l.fn.high) ≡ head (steps_between l.q l.rule (listed l.prefix) l.x l.high)
