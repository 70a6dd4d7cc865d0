-- The lines of x and the points so far.
use Rattle.std.proofs.Common.{length, ◌*◌, ◌++◌, ◌+◌, ◌≡◌, ◌≤◌}
use Rattle.incidence.specs.Packed.{size_of}
use Rattle.spaces.specs.GeometryLines.{line_in}
use Rattle.spaces.specs.Least.{lines_from, rising_lines}
use Rattle.spaces.proofs.geometry.Geometry.push_lines_from.Given as goal

abbrev pub invariant-loop-y : goal.invariant-loop-y
invariant-loop-y l = record {
  listed : l.lines ≡ rising_lines (line_in l.self) (length l.self.points.items) l.x ++ lines_from (line_in l.self) l.x l.y;
  small : size_of l.lines ≤ size_of l.fn.lines + l.y * (length l.self.coefficients.items + 1);
}
