use Rattle.std.proofs.Common.{rules}
use Rattle.catalogues.proofs.Drops.{spent_at, stays_at, unspent_at}
use Rattle.catalogues.proofs.dropping.drop_at.Goals as goal
use Rattle.std.proofs.Common.{inl}

pub returns-then-not-spent-clause-drops : goal.returns-then-not-spent-clause-drops
returns-then-not-spent-clause-drops g c = unspent_at _ c.args.failed c.args.i c.args.list.now.items c.index.result.now c.requires.within c.index.ensures c.is_spent-spent.result (search rules) c.is_spent-spent.ensures

pub returns-then-eq-clause-drops : goal.returns-then-eq-clause-drops
returns-then-eq-clause-drops g c = stays_at _ c.args.failed c.args.i c.args.list.now.items c.index.result.now c.requires.within c.index.ensures (inl (search rules))

pub returns-clause-drops : goal.returns-clause-drops
returns-clause-drops g c = spent_at _ c.args.failed c.args.i c.args.list.now.items c.index.result.now c.requires.within c.index.ensures c.is_spent-spent.result _ (search rules) c.is_spent-spent.ensures (search rules) c.remove.ensures.items
