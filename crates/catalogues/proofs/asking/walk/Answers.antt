use Rattle.catalogues.proofs.Steps.{ends_walk}
use Rattle.catalogues.proofs.asking.walk.Goals as goal

pub returns-in-Err-clause-walks : goal.returns-in-Err-clause-walks
returns-in-Err-clause-walks g c = ends_walk _ c.loop-i.i _ _ _ c.loop-i.rejected c.step.new.rejected c.in-Err.end c.loop-i.invariant.begun c.in-Err.ensures.steps
