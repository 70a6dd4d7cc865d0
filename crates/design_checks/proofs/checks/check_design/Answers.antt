use Rattle.std.proofs.Common.{None, not, sym, ◌∙◌, ◌≡◌}
use Rattle.std.specs.Prelude.{position}
use Rattle.design_base.specs.Blocks.{cover}
use Rattle.design_checks.proofs.Valid.{all_good, first_bad_pair, good_rows_of, no_bad_pair}
use Rattle.design_checks.specs.Counts.{want}
use Rattle.design_checks.specs.Findings.{is_block, pair_finding, pairs}
use Rattle.design_checks.proofs.checks.check_design.Goals as goal

pub first_bad_pair-requires-clause-rows : goal.first_bad_pair-requires-clause-rows
first_bad_pair-requires-clause-rows c = good_rows_of c.args.v c.args.least c.args.most c.args.rows.now (cc)

pub returns-in-Some-first_bad_pair : goal.returns-in-Some-first_bad_pair
returns-in-Some-first_bad_pair c =
    let rows = c.args.rows.now in
    let good = is_block c.args.v c.args.least c.args.most in
    let none : position (λ row. not (good row)) rows ≡ None = cc in
    sym (all_good good rows (pair_finding (cover rows) (want c.args.wanted) (pairs c.args.v)) none
    ∙ first_bad_pair (cover rows) (want c.args.wanted) c.args.v c.in-Some-first_bad_pair.pair c.in-Some-first_bad_pair.ensures.pair)

pub returns-in-None : goal.returns-in-None
returns-in-None c =
    let rows = c.args.rows.now in
    let good = is_block c.args.v c.args.least c.args.most in
    let none : position (λ row. not (good row)) rows ≡ None = cc in
    sym (all_good good rows (pair_finding (cover rows) (want c.args.wanted) (pairs c.args.v)) none
    ∙ no_bad_pair (cover rows) (want c.args.wanted) c.args.v c.in-None.ensures.pair)
