use Rattle.design_base.proofs.Coding.{code_back}
use Rattle.design_base.proofs.codes.code.Goals as goal

pub returns-clause-back : goal.returns-clause-back
returns-clause-back c = code_back c.coded.result c.args.verdict.now c.coded.ensures.value c.coded.ensures.fits
