use Rattle.std.proofs.Common.{List, Some, [], ap, arith, get_or, length, slice_get, subst, sym, ℕ, ◌-◌, ◌∙◌, ◌≡◌, ◌≤◌}
use Rattle.std.proofs.lemmas.Option.{get_or_from_slice_get}
use Rattle.design_base.specs.Blocks.{IsBibd}
use Rattle.design_base.specs.Canonical.{canonical}
use Rattle.symmetric.specs.Symmetric.{parts_in, points_outside}
use Rattle.symmetric.proofs.EqualMeets.{places}
use Rattle.symmetric.proofs.SmallerDesigns.{outside_size, residual_design}
use Rattle.symmetric.proofs.Steps.{room_for_all}
use Rattle.symmetric.proofs.smaller.residual.Goals as goal

outside_block : (v i : ℕ) (B : List (List ℕ)) (row made points : List ℕ) → slice_get B i ≡ Some row → made ≡ points_outside v row → points ≡ made → points ≡ points_outside v (get_or B i [])
outside_block v i B row made points is e f = f ∙ e ∙ ap (points_outside v) (sym (get_or_from_slice_get B i row [] is))

few : (c : goal.After-deref) → length c.deref.result.now ≤ c.args.v
few c =
    let many = places c.args.rows.now c.args.v c.args.k c.args.l c.requires.design in
    omega (arith, ap length (outside_block c.args.v c.args.i c.args.rows.now c.row.result.now _ _ c.row.ensures c.in_ok-outside.ensures c.deref.ensures.value), outside_size c.args.rows.now c.args.v c.args.k c.args.l c.requires.design c.args.i (omega (arith, many, c.requires.place)))

pub parts-requires-clause-few : goal.parts-requires-clause-few
parts-requires-clause-few c = omega (arith, few c, c.ranges.v.fits)

pub parts-requires-clause-room : goal.parts-requires-clause-room
parts-requires-clause-room c = room_for_all (length c.deref.result.now) (length c.args.rows.now) c.args.v (few c) (places c.args.rows.now c.args.v c.args.k c.args.l c.requires.design) c.ranges.v.fits

pub returns-clause-blocks : goal.returns-clause-blocks
returns-clause-blocks c = c.in_ok-blocks.ensures ∙ ap canonical c.in_ok-parts.ensures
    ∙ ap (λ points. canonical (parts_in points c.args.rows.now c.args.i)) (outside_block c.args.v c.args.i c.args.rows.now c.row.result.now _ _ c.row.ensures c.in_ok-outside.ensures c.deref.ensures.value)

pub returns-clause-design : goal.returns-clause-design
returns-clause-design c = subst (λ B. IsBibd B (c.args.v - c.args.k) (c.args.k - c.args.l) c.args.l) (sym (returns-clause-blocks c))
    (residual_design c.args.rows.now c.args.v c.args.k c.args.l c.requires.design c.args.i (omega (arith, places c.args.rows.now c.args.v c.args.k c.args.l c.requires.design, c.requires.place)))
