-- The triples so far.
use Rattle.std.proofs.Common.{◌*◌, ◌++◌, ◌+◌, ◌≡◌}
use Rattle.incidence.specs.Packed.{size_of}
use Rattle.triple_systems.specs.Triples.{infinite_triples}
use Rattle.triple_systems.proofs.triples.push_infinite_triples.Given as goal

abbrev pub invariant-loop-i : goal.invariant-loop-i
invariant-loop-i l = record {
  rows : l.rows ≡ l.fn.rows ++ infinite_triples l.n l.s l.m l.i;
  size : size_of l.rows ≡ size_of l.fn.rows + 4 * (l.i * l.m);
}
