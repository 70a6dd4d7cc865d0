-- The lines of the points so far.
use Rattle.std.proofs.Common.{length, ◌*◌, ◌+◌, ◌≡◌, ◌≤◌}
use Rattle.incidence.specs.Packed.{size_of}
use Rattle.spaces.specs.GeometryLines.{line_in}
use Rattle.spaces.specs.Least.{rising_lines}
use Rattle.spaces.proofs.geometry.Geometry.lines.Given as goal

abbrev pub invariant-loop-x : goal.invariant-loop-x
invariant-loop-x l = record {
  listed : l.lines ≡ rising_lines (line_in l.self) (length l.self.points.items) l.x;
  small : size_of l.lines ≤ l.x * (length l.self.points.items * (length l.self.coefficients.items + 1));
}
