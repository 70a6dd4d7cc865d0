use Rattle.std.proofs.Common.{None, not, sym, ℕ, ◌∙◌, ◌≡◌}
use Rattle.std.specs.Prelude.{position}
use Rattle.design_base.specs.Blocks.{differences}
use Rattle.design_base.specs.Meets.{group_add}
use Rattle.design_checks.proofs.Valid.{agree_none, all_good, first_bad_with_0, good_rows_of, none_valid}
use Rattle.design_checks.specs.Findings.{is_block, pair_finding, pairs_of}
use Rattle.design_checks.proofs.checks.check_family.Goals as goal

pub first_bad_difference-requires-clause-rows : goal.first_bad_difference-requires-clause-rows
first_bad_difference-requires-clause-rows c = good_rows_of c.args.v c.args.k c.args.k c.args.rows.now (cc)

pub returns-in-Some-first_bad_difference : goal.returns-in-Some-first_bad_difference
returns-in-Some-first_bad_difference c =
    let rows = c.args.rows.now in
    let good = is_block c.args.v c.args.k c.args.k in
    let counts : ℕ → ℕ → ℕ = λ x. differences (group_add c.args.group c.args.v) rows in
    let want : ℕ → ℕ → ℕ = λ x d. c.args.l in
    let none : position (λ row. not (good row)) rows ≡ None = cc in
    sym (all_good good rows (pair_finding counts want (pairs_of c.args.v 0)) none
    ∙ first_bad_with_0 counts want c.args.v c.in-Some-first_bad_difference.pair c.in-Some-first_bad_difference.ensures.pair)

pub returns-in-None : goal.returns-in-None
returns-in-None c =
    let rows = c.args.rows.now in
    let good = is_block c.args.v c.args.k c.args.k in
    let counts : ℕ → ℕ → ℕ = λ x. differences (group_add c.args.group c.args.v) rows in
    let want : ℕ → ℕ → ℕ = λ x d. c.args.l in
    let none : position (λ row. not (good row)) rows ≡ None = cc in
    sym (all_good good rows (pair_finding counts want (pairs_of c.args.v 0)) none
    ∙ none_valid counts want (pairs_of c.args.v 0) (agree_none counts want c.args.v 0 c.in-None.ensures.pair))
