use Rattle.catalogues.proofs.source.load_source.Goals as goal

pub returns-in-Ok-clause-cause : goal.returns-in-Ok-clause-cause
returns-in-Ok-clause-cause g c = λ e. absurd (c.load_text.ensures.read e)
