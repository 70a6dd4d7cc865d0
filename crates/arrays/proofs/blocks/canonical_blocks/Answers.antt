use Rattle.arrays.proofs.Bounds.{td_bounds}
use Rattle.arrays.proofs.blocks.canonical_blocks.Goals as goal

pub blocks_of_rows-requires-clause-groups : goal.blocks_of_rows-requires-clause-groups
blocks_of_rows-requires-clause-groups c = (td_bounds c.args.k c.args.n c.requires.bounds).few

pub blocks_of_rows-requires-clause-points : goal.blocks_of_rows-requires-clause-points
blocks_of_rows-requires-clause-points c = (td_bounds c.args.k c.args.n c.requires.bounds).small
