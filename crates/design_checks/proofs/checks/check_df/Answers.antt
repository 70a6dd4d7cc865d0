use Rattle.std.proofs.Common.{sym, ◌∙◌}
use Rattle.design_base.specs.declared.query.Query.TheVariants.{Df}
use Rattle.design_checks.proofs.Meeting.{family_found, found_meets, group_asked}
use Rattle.design_checks.proofs.checks.check_df.Goals as goal

pub check_family-requires-clause-group : goal.check_family-requires-clause-group
check_family-requires-clause-group c = (group_asked c.args.group c.args.v c.args.k c.args.l c.requires).is_group

pub check_family-requires-clause-points : goal.check_family-requires-clause-points
check_family-requires-clause-points c = let asked = group_asked c.args.group c.args.v c.args.k c.args.l c.requires in (asked.some, asked.small)

pub returns-clause-finding : goal.returns-clause-finding
returns-clause-finding c =
    let asked = group_asked c.args.group c.args.v c.args.k c.args.l c.requires in
    c.check_family.ensures ∙ sym (family_found c.args.group c.args.v c.args.k c.args.l c.args.rows.now asked.listed)

pub returns-clause-valid : goal.returns-clause-valid
returns-clause-valid c =
    let asked = group_asked c.args.group c.args.v c.args.k c.args.l c.requires in
    found_meets (Df c.args.group c.args.v c.args.k c.args.l) c.args.rows.now c.check_family.result
    (c.check_family.ensures ∙ sym (family_found c.args.group c.args.v c.args.k c.args.l c.args.rows.now asked.listed))
