use Rattle.std.proofs.Common.{ap, arith, length, ◌+◌}
use Rattle.arrays.specs.Arrays.{row_of_column}
use Rattle.arrays.proofs.Bounds.{row_fits}
use Rattle.arrays.proofs.Steps.{pushed_more, pushed_none, size_none}
use Rattle.arrays.proofs.TdRows.{length-row_of_column}
use Rattle.arrays.proofs.rows.push_square.Goals as goal

pub loop-x-init : goal.loop-x-init
loop-x-init c = record { squares = pushed_none _ (row_of_column c.args.n c.args.rows.now c.args.j); size = size_none _ (c.args.n + 1) }

pub push_row-requires : goal.push_row-requires
push_row-requires c = omega (
  arith,
  c.loop-x.invariant.size,
  ap length c.write_row.ensures,
  length-row_of_column c.args.n c.args.rows.now c.args.j c.loop-x.x,
  row_fits c.args.n (c.args.n + 1) c.loop-x.x (omega arith),
)

pub loop-x-preserved : goal.loop-x-preserved
loop-x-preserved c =
    let e = c.write_row.ensures in
    record {
      squares = pushed_more _ (row_of_column c.args.n c.args.rows.now c.args.j) c.loop-x.x _ _ _ c.in_ok-push_row.ensures.ok c.loop-x.invariant.squares e;
      size = omega (arith, c.in_ok-push_row.ensures.size, c.loop-x.invariant.size, ap length e, length-row_of_column c.args.n c.args.rows.now c.args.j c.loop-x.x);
    }
