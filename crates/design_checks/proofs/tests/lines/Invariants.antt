-- So many numbers are packed.
use Rattle.std.proofs.Common.{◌*◌, ◌≡◌}
use Rattle.incidence.specs.Packed.{size_of}
use Rattle.design_checks.proofs.tests.lines.Given as goal

abbrev pub invariant-loop-m : goal.invariant-loop-m
invariant-loop-m l = size_of l.rows ≡ l.m * 63
