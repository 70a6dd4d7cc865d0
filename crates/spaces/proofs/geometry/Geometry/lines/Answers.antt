use Rattle.std.proofs.Common.{ap, arith, length, ◌∙◌, ◌≡◌}
use Rattle.design_base.specs.Canonical.{canonical}
use Rattle.spaces.proofs.Rising.{canonical_rising}
use Rattle.spaces.specs.GeometryLines.{line_in}
use Rattle.spaces.specs.Least.{rising_lines}
use Rattle.spaces.proofs.geometry.Geometry.lines.Goals as goal

pub returns : goal.returns
returns c =
    let v = length c.args.self.now.points.items in
    let line = line_in c.args.self.now in
    let last : c.loop-x.x ≡ v = omega (arith, c.loop-x-test.false, c.loop-x.auto.x-end, c.len-x-end.ensures) in
    c.in_ok-rows.ensures ∙ ap canonical c.loop-x.invariant.listed ∙ ap (λ x. canonical (rising_lines line v x)) last ∙ canonical_rising line v
