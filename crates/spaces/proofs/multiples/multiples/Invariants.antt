-- The multiples by the elements so far.
use Rattle.std.proofs.Common.{length, ◌*◌, ◌+◌, ◌≡◌}
use Rattle.design_base.specs.Fields.{field_product}
use Rattle.incidence.specs.Packed.{size_of}
use Rattle.spaces.specs.Vectors.{multiples_below}
use Rattle.spaces.proofs.multiples.multiples.Given as goal

abbrev pub invariant-loop-t : goal.invariant-loop-t
invariant-loop-t l = record {
  listed : l.rows ≡ multiples_below (field_product l.field) l.field l.n l.points l.t;
  size : size_of l.rows ≡ l.t * (length l.points * (l.n + 1));
}
