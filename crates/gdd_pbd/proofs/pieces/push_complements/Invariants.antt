-- What is there and the complements that are left are what is there in the end.
use Rattle.std.proofs.Common.{length, ◌*◌, ◌++◌, ◌+◌, ◌≡◌, ◌≤◌}
use Rattle.incidence.specs.Packed.{size_of}
use Rattle.design_base.specs.declared.limits.TheConstants.{POINTS_MAX}
use Rattle.gdd_pbd.specs.Basic.{complement}
use Rattle.gdd_pbd.proofs.pieces.push_complements.Given as goal

abbrev pub invariant-loop-block : goal.invariant-loop-block
invariant-loop-block l = record {
  rows : l.rows ++ complement l.v l.block-iterator ≡ l.fn.rows ++ complement l.v l.design;
  size : size_of l.rows + (POINTS_MAX + 1) * length l.block-iterator ≤ size_of l.fn.rows + (POINTS_MAX + 1) * length l.design;
}
