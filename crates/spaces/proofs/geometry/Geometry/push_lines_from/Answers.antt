use Rattle.std.proofs.Common.{[], ap, arith, length, ◌++◌, ◌<◌, ◌∙◌, ◌∷◌, ◌≡◌}
use Rattle.incidence.specs.Packed.{size_of}
use Rattle.spaces.proofs.MetPairs.{pair_left, pair_taken}
use Rattle.spaces.specs.GeometryLines.{line_in}
use Rattle.spaces.proofs.geometry.Geometry.push_lines_from.Goals as goal
use Rattle.spaces.proofs.geometry.Geometry.push_lines_from.Goals.{then-not-joins+in_ok-line+in_ok-push, else-not-joins}

pub loop-y-preserved : goal.loop-y-preserved
loop-y-preserved c =
    let v = length c.args.self.now.points.items in
    let k = length c.args.self.now.coefficients.items in
    let line = line_in c.args.self.now in
    let below : c.loop-y.y < v = omega (arith, c.loop-y-test.true, c.len-y-end.ensures) in
    let size : length (line c.args.x c.loop-y.y) ≡ k = (c.requires.space.set c.args.x c.loop-y.y (omega arith) below).size in
    elim c.if-not-joins.branch [
      | then-not-joins+in_ok-line+in_ok-push w ↦
          let pushed : w.deref.result.now ≡ line c.args.x c.loop-y.y = w.deref.ensures.value ∙ w.in_ok-line.ensures in
          record {
            listed = w.lines-is ∙ w.in_ok-push.ensures.ok ∙ ap (λ b. c.loop-y.lines ++ b ∷ []) pushed
                ∙ pair_taken line v k c.requires.space c.args.x c.loop-y.y (omega arith) below c.loop-y.lines c.loop-y.invariant.listed c.joins.result c.joins.ensures w.if-not-joins.true;
            small = omega (arith, ap size_of w.lines-is, w.in_ok-push.ensures.size, ap length pushed, size, c.loop-y.invariant.small);
          }
      | else-not-joins w ↦ record {
        listed = w.lines-is ∙ pair_left line v k c.requires.space c.args.x c.loop-y.y (omega arith) below c.loop-y.lines c.loop-y.invariant.listed c.joins.result c.joins.ensures w.if-not-joins.false;
        small = omega (arith, ap size_of w.lines-is, c.loop-y.invariant.small);
      }
    ]
