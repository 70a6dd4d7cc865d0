use Rattle.std.proofs.Common.{ap, arith, length, ◌+◌, ◌∙◌}
use Rattle.arrays.specs.Arrays.{row_of_cell}
use Rattle.arrays.proofs.Bounds.{row_fits}
use Rattle.arrays.proofs.Steps.{pushed_more, pushed_none, size_none}
use Rattle.arrays.proofs.Squares.{length-row_of_cell}
use Rattle.arrays.proofs.blocks.push_cells.Goals as goal

pub loop-y-init : goal.loop-y-init
loop-y-init c = record { rows = pushed_none _ (row_of_cell c.args.m c.args.n c.args.squares.now c.args.x); size = size_none _ (c.args.m + 3) }

pub push_row-requires : goal.push_row-requires
push_row-requires c = omega (
  arith,
  c.loop-y.invariant.size,
  ap length (c.deref.ensures.value ∙ c.in_ok-row.ensures),
  length-row_of_cell c.args.m c.args.n c.args.squares.now c.args.x c.loop-y.y,
  row_fits c.args.n (c.args.m + 3) c.loop-y.y (omega arith),
)

pub loop-y-preserved : goal.loop-y-preserved
loop-y-preserved c =
    let e = c.deref.ensures.value ∙ c.in_ok-row.ensures in
    record {
      rows = pushed_more _ (row_of_cell c.args.m c.args.n c.args.squares.now c.args.x) c.loop-y.y _ _ _ c.in_ok-push_row.ensures.ok c.loop-y.invariant.rows e;
      size = omega (arith, c.in_ok-push_row.ensures.size, c.loop-y.invariant.size, ap length e, length-row_of_cell c.args.m c.args.n c.args.squares.now c.args.x c.loop-y.y);
    }
