use Rattle.std.proofs.Common.{ap, arith, sym, ◌∙◌}
use Rattle.counting.proofs.Counts.{sum_below-none}
use Rattle.counting.specs.Sums.{sum_below}
use Rattle.design_base.specs.Blocks.{cover}
use Rattle.design_base.specs.Meets.{group_add}
use Rattle.design_checks.proofs.Families.{moved, sum_more}
use Rattle.design_checks.proofs.differences.times_difference.Goals as goal

pub loop-x-init : goal.loop-x-init
loop-x-init c = record { small = omega arith; sum = λ B is. sym (sum_below-none _) }

pub together-requires-clause-apart : goal.together-requires-clause-apart
together-requires-clause-apart c = λ e. moved c.args.group c.args.v c.loop-x.x c.args.d c.requires.group (omega arith) (omega arith) (omega arith) (e ∙ c.group_add.ensures.sum)

pub loop-x-preserved : goal.loop-x-preserved
loop-x-preserved c = record {
  small = omega (arith, c.loop-x.invariant.small);
  sum = λ B is.
      omega (
        arith,
        c.loop-x.invariant.sum B is,
        c.together.ensures B is,
        c.from-sum.ensures,
        ap (cover B c.loop-x.x) c.group_add.ensures.sum,
        sum_more c.loop-x.x (λ x. cover B x (group_add c.args.group c.args.v x c.args.d)),
      );
}

pub returns : goal.returns
returns c = λ B is. c.loop-x.invariant.sum B is ∙ ap (λ n. sum_below n (λ x. cover B x (group_add c.args.group c.args.v x c.args.d))) (omega arith)
