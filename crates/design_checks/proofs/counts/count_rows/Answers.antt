use Rattle.std.proofs.Common.{arith, rules, sym, ◌-◌, ◌∙◌}
use Rattle.std.proofs.lemmas.Nat.{mul-add-lt}
use Rattle.design_base.proofs.Cover.{cover-none}
use Rattle.design_checks.specs.Counts.{cell}
use Rattle.design_checks.proofs.counts.count_rows.Goals as goal

pub count_each-requires-clause-none : goal.count_each-requires-clause-none
count_each-requires-clause-none c = λ x y a b d e.
    let within = mul-add-lt (x - c.args.low) c.args.v y (c.args.high - c.args.low) (omega arith) e in
    rw c.deref_mut.ensures.value (c.resize.ensures.by_index.1 (cell c.args.v c.args.low x y) 0 (search rules) (omega (arith, c.clear.ensures.len)) (omega (arith, within)) ∙ sym (cover-none x y))
