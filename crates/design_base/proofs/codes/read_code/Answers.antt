use Rattle.design_base.proofs.Coding.{read_only}
use Rattle.design_base.proofs.codes.read_code.Goals as goal

pub returns-clause-only : goal.returns-clause-only
returns-clause-only c v i e = read_only c.args.word c.decoded.result c.decoded.ensures v i e
