use Rattle.std.proofs.Common.{subst, sym}
use Rattle.std.specs.Prelude.{IsSome}
use Rattle.wilson.proofs.DisjointRows.{disjoint_block_found, disjoint_from_row}
use Rattle.wilson.proofs.disjoint.disjoint_from_first.Goals as goal

pub returns-clause-value : goal.returns-clause-value
returns-clause-value c = disjoint_from_row c.args.rows.now c.row.result.now c.first_disjoint.result c.row.ensures c.first_disjoint.ensures

pub returns-clause-found : goal.returns-clause-found
returns-clause-found c = λ k n two big most td. subst IsSome (sym (disjoint_from_row c.args.rows.now c.row.result.now c.first_disjoint.result c.row.ensures c.first_disjoint.ensures)) (disjoint_block_found k n c.args.rows.now two big most td)
