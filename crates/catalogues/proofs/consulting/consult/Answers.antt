use Rattle.catalogues.proofs.Failed.{by_end}
use Rattle.catalogues.proofs.Found.{is_consulted}
use Rattle.catalogues.proofs.Left.{asks_first, left_after, left_after_end}
use Rattle.catalogues.proofs.Sound.{sound}
use Rattle.catalogues.proofs.consulting.consult.Goals as goal

pub returns-in-Ok-clause-told : goal.returns-in-Ok-clause-told
returns-in-Ok-clause-told g c = is_consulted c.args.q.now _ _ _ _ c.in-Ok.ensures

pub returns-in-Ok-clause-sound : goal.returns-in-Ok-clause-sound
returns-in-Ok-clause-sound g c = sound c.args.q.now _ _ _ _ c.in-Ok.ensures

pub returns-in-Ok-clause-ends : goal.returns-in-Ok-clause-ends
returns-in-Ok-clause-ends g c = asks_first c.args.q.now _ _ _ _ c.in-Ok.ensures

pub returns-in-Ok-clause-left : goal.returns-in-Ok-clause-left
returns-in-Ok-clause-left g c = left_after c.args.q.now _ _ _ _ c.in-Ok.ensures

pub returns-in-Err-clause-cause : goal.returns-in-Err-clause-cause
returns-in-Err-clause-cause g c = by_end c.args.q.now _ _ c.in-Err.end c.in-Err.ensures

pub returns-in-Err-clause-left : goal.returns-in-Err-clause-left
returns-in-Err-clause-left g c = left_after_end c.args.q.now _ _ c.in-Err.end c.in-Err.ensures
