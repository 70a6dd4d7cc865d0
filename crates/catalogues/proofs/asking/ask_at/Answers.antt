use Rattle.catalogues.proofs.Steps.{step_at}
use Rattle.catalogues.proofs.asking.ask_at.Goals as goal

pub returns-clause-asks : goal.returns-clause-asks
returns-clause-asks g c = step_at _ c.args.q.now c.args.i c.args.list.now.items _ c.ask.new.catalogue _ c.requires.within c.index_mut.ensures.value c.ask.ensures
