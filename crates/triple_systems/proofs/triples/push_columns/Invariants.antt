-- The columns so far.
use Rattle.std.proofs.Common.{◌*◌, ◌++◌, ◌+◌, ◌≡◌}
use Rattle.incidence.specs.Packed.{size_of}
use Rattle.triple_systems.specs.Triples.{columns}
use Rattle.triple_systems.proofs.triples.push_columns.Given as goal

abbrev pub invariant-loop-x : goal.invariant-loop-x
invariant-loop-x l = record {
  rows : l.rows ≡ l.fn.rows ++ columns l.n l.x;
  size : size_of l.rows ≡ size_of l.fn.rows + 4 * l.x;
}
