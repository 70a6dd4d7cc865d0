-- The triples so far.
use Rattle.std.proofs.Common.{◌*◌, ◌++◌, ◌+◌, ◌≡◌}
use Rattle.incidence.specs.Packed.{size_of}
use Rattle.triple_systems.specs.Triples.{infinite_triples_of}
use Rattle.triple_systems.proofs.triples.push_infinite_triples_of.Given as goal

abbrev pub invariant-loop-x : goal.invariant-loop-x
invariant-loop-x l = record {
  rows : l.rows ≡ l.fn.rows ++ infinite_triples_of l.n l.s l.i l.x;
  size : size_of l.rows ≡ size_of l.fn.rows + 4 * l.x;
}
