use Rattle.std.proofs.Common.{ap, arith, length, refl, rules, subst, sym, ◌*◌, ◌++◌, ◌≡◌}
use Rattle.std.specs.Prelude.{All}
use Rattle.incidence.proofs.Appended.{extends_next}
use Rattle.gdd_pbd.proofs.weightings.push_weighted.Goals as goal
use Rattle.gdd_pbd.specs.Room.{CanReplace, most_size}
use Rattle.gdd_pbd.specs.Weighting.{chosen, weighted}

pub loop-block-preserved : goal.loop-block-preserved
unfolding weighted
loop-block-preserved c = extends_next (weighted c.args.w (chosen c.args.s c.args.small.now c.args.large.now)) (λ B. most_size * length B) (CanReplace c.args.w c.args.s c.args.small.now c.args.large.now) _ _ _ _ _ _ c.in-Some.block.now _ c.loop-block.invariant (grind arith) refl
    c.in_ok-push_over.ensures.ok (omega (arith, c.in_ok-push_over.ensures.size))

pub loop-block-init : goal.loop-block-init
loop-block-init c =
    let is : c.into_iter-block-iterator.result ≡ c.args.master.now = search rules in
    record {
      rows = ap (λ G. c.args.rows.now ++ weighted c.args.w (chosen c.args.s c.args.small.now c.args.large.now) G) is;
      each = subst (All (CanReplace c.args.w c.args.s c.args.small.now c.args.large.now)) (sym is) c.requires.replace;
      size = omega (arith, ap length is);
    }
