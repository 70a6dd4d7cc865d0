use Rattle.std.proofs.Common.{ap, arith, ◌∙◌}
use Rattle.incidence.specs.Packed.{size_of}
use Rattle.three_designs.proofs.Grown.{size_of-canonical}
use Rattle.three_designs.proofs.quadruples.four.Goals as goal

pub returns-clause-size : goal.returns-clause-size
returns-clause-size c = omega (arith, ap size_of c.in_ok-blocks.ensures ∙ size_of-canonical _, c.in_ok-push_row.ensures.size, ap size_of c.new-rows.ensures)
