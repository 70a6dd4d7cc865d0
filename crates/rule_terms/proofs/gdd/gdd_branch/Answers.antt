use Rattle.std.proofs.Common.{◌≤◌, ◌*◌, arith}
use Rattle.std.proofs.Math.Nat.{mul-le-mul_left}
use Rattle.rule_terms.proofs.gdd.gdd_branch.Goals as goal

-- no more than all points
pub overflow_mul-g : goal.overflow_mul-g
overflow_mul-g c = let p : c.args.g * c.in-One-prefix.c ≤ c.args.g * c.args.u = mul-le-mul_left c.args.g (omega arith) in omega arith
