use Rattle.std.proofs.Common.{ap, sym, ◌∙◌}
use Rattle.std.specs.List.{list_all}
use Rattle.design_base.specs.Limits.{in_bounds}
use Rattle.rule_terms.specs.Table.{terms}
use Rattle.rule_terms.specs.Prefixes.{listed}
use Rattle.rule_terms.specs.RuleTree.{terms_at}
use Rattle.rule_table.proofs.Members.{found_outside, found_premises}
use Rattle.rule_table.proofs.allowed.+allowed_premises.Goals as goal

pub returns-else-is_within : goal.returns-else-is_within
returns-else-is_within t c =
    found_outside (terms c.args.q.now c.args.rule) (listed c.args.prefix) _ _ _ c.in-Parameter.ensures.branch _ _ c.in-Some.ensures.cases.0 (sym c.is_within.ensures ∙ c.if-is_within.false)

pub returns-then-are_in_bounds : goal.returns-then-are_in_bounds
returns-then-are_in_bounds t c =
    found_premises (terms_at (terms c.args.q.now c.args.rule) (listed c.args.prefix)) c.args.rest.now _ c.in-Premises.ensures.branch
    (ap (list_all in_bounds) (sym c.as_slice.ensures) ∙ sym c.are_in_bounds.ensures ∙ c.if-are_in_bounds.true) c.in-Premises.ensures.fits
