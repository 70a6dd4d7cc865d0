-- The catalogues before the place were asked, and offered no valid list.
use Rattle.std.proofs.Common.{length, map, ◌≡◌}
use Rattle.catalogues.specs.Consults.{Begun}
use Rattle.catalogues.proofs.asking.walk.Given as goal

abbrev pub invariant-loop-i : goal.invariant-loop-i
invariant-loop-i g l = record {
  size : length l.list.items ≡ length l.fn.list.items;
  begun : Begun l.q l.i
      (map (λ b. (goal.Catalogue-dyn g (b.vtable, b.value)).seen b.value) l.fn.list.items)
      (map (λ b. (goal.Catalogue-dyn g (b.vtable, b.value)).seen b.value) l.list.items)
      l.rejected;
}
