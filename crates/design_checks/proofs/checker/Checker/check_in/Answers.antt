use Rattle.design_checks.proofs.checker.Checker.check_in.Goals as goal

pub returns-in-Df-clause-valid : goal.returns-in-Df-clause-valid
returns-in-Df-clause-valid c = rw c.in-Df.is c.check_base_blocks.ensures.valid
