use Rattle.std.proofs.Common.{ap, slice_set, ◌∙◌}
use Rattle.std.proofs.lemmas.List.{length-set}
use Rattle.spaces.proofs.Marking.{mark_next, mark_none}
use Rattle.spaces.specs.MetPairs.{entry}
use Rattle.spaces.proofs.line_list.mark_point.Goals as goal

pub loop-y-init : goal.loop-y-init
loop-y-init c = record { size = c.requires.size; marked = λ z w lz lw. mark_none c.args.line.now c.args.met.now c.args.x z w }

pub loop-y-preserved : goal.loop-y-preserved
loop-y-preserved c = record {
  size = length-set c.loop-y.met c.place.result _ ∙ c.loop-y.invariant.size;
  marked = λ z w lz lw. ap (λ i. entry (slice_set c.loop-y.met i _) z w) c.place.ensures
      ∙ mark_next c.args.line.now c.args.met.now c.args.x c.loop-y.y-index z w c.loop-y.met c.loop-y.invariant.size c.requires.point c.loop-y-test.true
      (c.requires.line c.loop-y.y-index 0 c.loop-y-test.true) lz lw (c.loop-y.invariant.marked z w lz lw);
}
