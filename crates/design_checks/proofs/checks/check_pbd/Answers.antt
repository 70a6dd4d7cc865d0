use Rattle.std.proofs.Common.{sym, ◌∙◌}
use Rattle.design_checks.proofs.Meeting.{pbd_valid}
use Rattle.design_checks.specs.Findings.{finding}
use Rattle.design_checks.proofs.checks.check_pbd.Goals as goal

pub returns-clause-valid : goal.returns-clause-valid
unfolding finding
returns-clause-valid c =
    let told = pbd_valid c.args.rows.now c.args.v c.args.s in
    ((λ e. told.0 (sym c.check_design.ensures ∙ e)), (λ h. c.check_design.ensures ∙ told.1 h))
