use Rattle.std.proofs.Common.{[], ap, arith, length, subst, sym, ◌-◌, ◌∙◌}
use Rattle.std.proofs.lemmas.Option.{get_or_from_slice_get}
use Rattle.design_base.specs.Blocks.{IsBibd}
use Rattle.design_base.specs.Canonical.{canonical}
use Rattle.symmetric.specs.Symmetric.{parts_in}
use Rattle.symmetric.proofs.EqualMeets.{places}
use Rattle.symmetric.proofs.SmallerDesigns.{block_size, derived_design}
use Rattle.symmetric.proofs.Steps.{room_for_all}
use Rattle.symmetric.proofs.smaller.derived.Goals as goal

pub parts-requires-clause-room : goal.parts-requires-clause-room
parts-requires-clause-room c =
    let many = places c.args.rows.now c.args.v c.args.k c.args.l c.requires.design in
    let at = get_or_from_slice_get c.args.rows.now c.args.i c.row.result.now [] c.row.ensures in
    let size = block_size c.args.rows.now c.args.v c.args.k c.args.l c.requires.design c.args.i (omega (arith, many, c.requires.place)) in
    room_for_all (length c.row.result.now) (length c.args.rows.now) c.args.v (omega (arith, ap length at, size, c.requires.design.numbers.less)) many c.ranges.v.fits

pub returns-clause-blocks : goal.returns-clause-blocks
returns-clause-blocks c = c.in_ok-blocks.ensures ∙ ap canonical c.in_ok-parts.ensures
    ∙ ap (λ block. canonical (parts_in block c.args.rows.now c.args.i)) (sym (get_or_from_slice_get c.args.rows.now c.args.i c.row.result.now [] c.row.ensures))

pub returns-clause-design : goal.returns-clause-design
returns-clause-design c = subst (λ B. IsBibd B c.args.k c.args.l (c.args.l - 1)) (sym (returns-clause-blocks c))
    (derived_design c.args.rows.now c.args.v c.args.k c.args.l c.requires.design c.args.i (omega (arith, places c.args.rows.now c.args.v c.args.k c.args.l c.requires.design, c.requires.place)))
