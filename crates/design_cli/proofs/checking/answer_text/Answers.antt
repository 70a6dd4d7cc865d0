use Rattle.block_texts.specs.BlockText.{block_text}
use Rattle.design_cli.proofs.ShortBlocks.{kept_lines_end}
use Rattle.design_cli.proofs.checking.answer_text.Goals as goal

pub returns-clause-ends : goal.returns-clause-ends
returns-clause-ends g c =
    kept_lines_end c.args.query.now c.requires.bounds c.args.shape (block_text c.args.text.items) _ _ c.answer_finding.result (g.K.Sink.held c.args.out.now) _
    (rw (c.deref.ensures.value, c.shortest.ensures) at c.in-Ok.ensures.blocks) c.in-Ok-found_in_lines.ensures c.answer_finding.ensures.ends
