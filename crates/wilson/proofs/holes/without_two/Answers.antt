use Rattle.std.proofs.Common.{ap, arith, sym, ◌∙◌}
use Rattle.incidence.specs.Packed.{size_of}
use Rattle.wilson.proofs.Steps.{others_renumbered_all, others_renumbered_next, others_renumbered_skip}
use Rattle.wilson.proofs.holes.without_two.Goals as goal
use Rattle.wilson.proofs.holes.without_two.Goals.{else-i-e, then-i-e+in_ok-push_renumbered_twice}

pub loop-i-preserved : goal.loop-i-preserved
loop-i-preserved c = elim c.if-i-e.branch [
  | then-i-e+in_ok-push_renumbered_twice w ↦ record {
    some = omega arith;
    rows = w.rows-is ∙ w.in_ok-push_renumbered_twice.ensures.ok
        ∙ others_renumbered_next c.args.k c.args.m c.args.e c.loop-i.i c.args.array.now w.row.result.now w.row-then-i-e.result.now w.row-then-i-e-2.result.now c.loop-i.rows
        c.requires.second c.loop-i.invariant.some (omega arith) w.if-i-e.true w.row.ensures w.row-then-i-e.ensures w.row-then-i-e-2.ensures c.loop-i.invariant.rows;
    size = omega (arith, ap size_of w.rows-is, w.in_ok-push_renumbered_twice.ensures.size, c.loop-i.invariant.size, c.requires.groups);
  }
  | else-i-e w ↦ record {
    some = omega arith;
    rows = w.rows-is ∙ c.loop-i.invariant.rows ∙ sym (others_renumbered_skip c.args.k c.args.m c.args.e c.loop-i.i c.args.array.now c.requires.second c.loop-i.invariant.some (omega arith) w.if-i-e.false);
    size = omega (arith, ap size_of w.rows-is, c.loop-i.invariant.size, c.requires.groups);
  }
]

pub returns : goal.returns
returns c = c.loop-i.invariant.rows ∙ others_renumbered_all c.args.k c.args.m c.args.e c.loop-i.i c.args.array.now (omega arith)
