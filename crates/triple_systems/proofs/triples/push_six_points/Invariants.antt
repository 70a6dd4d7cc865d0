-- The blocks so far.
use Rattle.std.proofs.Common.{◌*◌, ◌++◌, ◌+◌, ◌≡◌}
use Rattle.incidence.specs.Packed.{size_of}
use Rattle.triple_systems.specs.Double.{six_point_blocks}
use Rattle.triple_systems.proofs.triples.push_six_points.Given as goal

abbrev pub invariant-loop-c : goal.invariant-loop-c
invariant-loop-c l = record {
  rows : l.rows ≡ l.fn.rows ++ six_point_blocks l.c;
  size : size_of l.rows ≡ size_of l.fn.rows + 8 * l.c;
}
