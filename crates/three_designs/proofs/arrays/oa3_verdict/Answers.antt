use Rattle.std.proofs.Common.{arith}
use Rattle.three_designs.proofs.MostColumns.{most_columns}
use Rattle.three_designs.proofs.arrays.oa3_verdict.Goals as goal

pub returns-then-k-n-clause-law : goal.returns-then-k-n-clause-law
returns-then-k-n-clause-law c = λ e R oa. omega (arith, most_columns R c.args.k c.args.n (omega (arith, c.requires)) (omega (arith, c.requires, c.if-n-eq1.false)) oa, c.if-k-n.true)
