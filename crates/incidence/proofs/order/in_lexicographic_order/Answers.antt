use Rattle.incidence.proofs.Ordered.{pointed_permuted, pointed_sorted}
use Rattle.incidence.proofs.order.in_lexicographic_order.Goals as goal

pub returns-clause-same : goal.returns-clause-same
returns-clause-same c = pointed_permuted c.args.rows.now c.in_ok-order.order.items c.sort_unstable.new.self.items c.in_ok-order.ensures c.sort_unstable.ensures.permutation

pub returns-clause-sorted : goal.returns-clause-sorted
returns-clause-sorted c = pointed_sorted c.sort_unstable.new.self.items c.sort_unstable.ensures.sorted
