use Rattle.design_base.specs.declared.rule.Rule.TheVariants.{TdOne}
use Rattle.design_base.proofs.RuleOrder.{drop_mapped}
use Rattle.design_base.proofs.rule.rule_of.Goals as goal

pub returns : goal.returns
returns c = drop_mapped (λ t. t.0) c.args.titles.now c.args.i _ TdOne c.requires
