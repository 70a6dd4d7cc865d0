use Rattle.std.proofs.Common.{subst, sym, true, ◌∙◌, ◌≡◌}
use Rattle.std.specs.Prelude.{◌↔◌}
use Rattle.difference_sets.proofs.StepsMeet.{step_law, tested_law}
use Rattle.difference_sets.specs.FamilySteps.{IsFamilyStep}
use Rattle.difference_sets.proofs.steps.is_family_step.Goals as goal

pub returns-clause-exact : goal.returns-clause-exact
returns-clause-exact c = subst (λ b. (b ≡ true) ↔ IsFamilyStep c.args.q.now c.args.step.now) (sym c.step_applies.ensures) (step_law c.args.q.now c.args.step.now c.requires)

pub returns-clause-tested : goal.returns-clause-tested
returns-clause-tested c = c.step_applies.ensures ∙ sym (tested_law c.args.q.now c.args.step.now c.requires)
