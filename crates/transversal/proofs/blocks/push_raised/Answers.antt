use Rattle.std.proofs.Common.{[], ap, arith, length, take, ◌*◌, ◌+◌, ◌∙◌, ◌∷◌}
use Rattle.std.proofs.lemmas.List.{length-append, length-take-le}
use Rattle.design_base.specs.Arrays.{IsRow, blocks_of_rows}
use Rattle.counting.proofs.Lists.{left_after}
use Rattle.incidence.proofs.RowsAndBlocks.{room_next}
use Rattle.transversal.proofs.Steps.{length-raised, started_failed, steps}
use Rattle.transversal.proofs.blocks.push_raised.Goals as goal
use Rattle.transversal.specs.Constructions.{raised}

pub push_row-requires : goal.push_row-requires
push_row-requires c = omega (
  arith,
  room_next c.args.k c.args.n c.loop-row.rows c.args.rows.now (raised c.args.c (c.in-Some.row.now ∷ [])) (raised c.args.c c.next.new.self) (raised c.args.c c.args.array.now) (grind (arith, steps)),
  ap (λ rows. (c.args.k + 1) * rows) (length-raised c.args.c (c.in-Some.row.now ∷ [])),
  ap (λ rows. (c.args.k + 1) * rows) (length-raised c.args.c c.args.array.now),
  length-take-le c.args.k c.write_raised.new.block (omega (arith, c.write_raised.ensures.len, c.loop-row.invariant.block, c.requires.groups)),
  c.requires.room,
)

pub loop-row-preserved : goal.loop-row-preserved
loop-row-preserved c = record {
  blocks = grind (arith, steps);
  grown = omega (arith, c.loop-row.invariant.grown, ap length c.in_ok-push_row.ensures.ok, length-append c.loop-row.rows (take c.args.k c.write_raised.new.block ∷ []));
  block = c.write_raised.ensures.len ∙ c.loop-row.invariant.block;
  left = left_after (IsRow c.args.k c.args.h) c.loop-row.row-iterator c.in-Some.row.now c.next.new.self (grind arith) c.loop-row.invariant.left;
}

pub returns-in_err-push_row-clause-some : goal.returns-in_err-push_row-clause-some
returns-in_err-push_row-clause-some c = started_failed c.from_residual.result c.push_row.new.self c.loop-row.rows
    (blocks_of_rows c.args.k c.args.n (raised c.args.c c.loop-row.row-iterator)) c.args.rows.now (blocks_of_rows c.args.k c.args.n (raised c.args.c c.args.array.now))
    c.in_err-push_row.ensures.err c.loop-row.invariant.blocks c.loop-row.invariant.grown
