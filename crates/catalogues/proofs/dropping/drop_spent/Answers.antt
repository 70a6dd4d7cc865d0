use Rattle.std.proofs.Common.{arith, rules, sym, ◌∙◌}
use Rattle.std.proofs.lemmas.List.{length-map}
use Rattle.catalogues.proofs.Drops.{drops_begin, drops_down}
use Rattle.catalogues.proofs.dropping.drop_spent.Goals as goal

pub loop-k-init : goal.loop-k-init
loop-k-init g c = record { size = search rules; few = search rules; room = search rules; drops = drops_begin _ _ _ (omega (arith, c.len-n.ensures) ∙ sym (length-map c.args.list.now.items _)) }

pub loop-k-preserved : goal.loop-k-preserved
loop-k-preserved g c = record {
  size = c.loop-k.invariant.size;
  room = omega (arith, c.loop-k.invariant.room, c.drop_at.ensures.size.0);
  few = omega (arith, c.loop-k.invariant.few, c.drop_at.ensures.size.1);
  drops = drops_down c.args.failed c.len-n.result c.loop-k.k _ _ _ (search rules) c.loop-k.invariant.drops c.drop_at.ensures.drops;
}
