use Rattle.spaces.proofs.Marking.{mark_line_next, mark_line_none}
use Rattle.spaces.proofs.line_list.mark_line.Goals as goal

pub loop-x-init : goal.loop-x-init
loop-x-init c = record { size = c.requires.size; marked = λ z w lz lw. mark_line_none c.args.line.now c.args.met.now z w }

pub loop-x-preserved : goal.loop-x-preserved
loop-x-preserved c = record {
  size = c.mark_point.ensures.size;
  marked = λ z w lz lw. mark_line_next c.args.line.now c.args.met.now c.loop-x.x-index z w c.loop-x.met c.mark_point.new.met c.loop-x-test.true
      (c.loop-x.invariant.marked z w lz lw) (c.mark_point.ensures.marked z w lz lw);
}
