use Rattle.std.proofs.Common.{sym, ◌∙◌}
use Rattle.design_checks.proofs.Meeting.{td_valid}
use Rattle.design_checks.specs.Findings.{finding}
use Rattle.design_checks.proofs.checks.check_td.Goals as goal

pub returns-clause-valid : goal.returns-clause-valid
unfolding finding
returns-clause-valid c =
    let told = td_valid c.args.rows.now c.args.k c.args.n in
    ((λ e. told.0 (sym c.check_design.ensures ∙ e)), (λ h. c.check_design.ensures ∙ told.1 h))

pub returns-then-is_td-clause-finding : goal.returns-then-is_td-clause-finding
returns-then-is_td-clause-finding c = sym ((td_valid c.args.rows.now c.args.k c.args.n).1 (c.is_td.ensures.design (cc)))
