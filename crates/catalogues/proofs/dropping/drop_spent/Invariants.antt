-- The catalogues behind the first n - k are done with.
use Rattle.std.proofs.Common.{length, map, ◌-◌, ◌≡◌, ◌≤◌}
use Rattle.catalogues.specs.Consults.{DropsFrom}
use Rattle.catalogues.proofs.dropping.drop_spent.Given as goal

abbrev pub invariant-loop-k : goal.invariant-loop-k
invariant-loop-k g l = record {
  size : l.n ≡ length l.fn.list.items;
  few : length l.list.items ≤ length l.fn.list.items;
  room : l.n - l.k ≤ length l.list.items;
  drops : DropsFrom l.failed (l.n - l.k)
      (map (λ b. (goal.Catalogue-dyn g (b.vtable, b.value)).seen b.value) l.fn.list.items)
      (map (λ b. (goal.Catalogue-dyn g (b.vtable, b.value)).seen b.value) l.list.items);
}
