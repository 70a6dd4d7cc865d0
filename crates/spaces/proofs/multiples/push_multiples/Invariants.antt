-- The multiples of the points so far.
use Rattle.std.proofs.Common.{map, take, ◌*◌, ◌++◌, ◌+◌, ◌≡◌}
use Rattle.design_base.specs.Digits.{digits}
use Rattle.design_base.specs.Fields.{field_product}
use Rattle.incidence.specs.Packed.{size_of}
use Rattle.spaces.specs.Vectors.{multiple}
use Rattle.spaces.proofs.multiples.push_multiples.Given as goal

abbrev pub invariant-loop-x : goal.invariant-loop-x
invariant-loop-x l = record {
  listed : l.rows ≡ l.fn.rows ++ map (λ x. digits l.field l.n (multiple (field_product l.field) l.field l.n l.t x)) (take l.x-index l.points);
  size : size_of l.rows ≡ size_of l.fn.rows + l.x-index * (l.n + 1);
}
