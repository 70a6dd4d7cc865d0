-- The elements so far are as many differences as they are to be.
use Rattle.design_base.specs.Blocks.{differences}
use Rattle.design_base.specs.Meets.{group_add}
use Rattle.design_checks.specs.Counts.{Agree}
use Rattle.design_checks.proofs.differences.first_bad_difference.Given as goal

abbrev pub invariant-loop-d : goal.invariant-loop-d
invariant-loop-d l = Agree (differences (group_add l.group l.v) l.rows) (λ d. l.l) 1 l.d
