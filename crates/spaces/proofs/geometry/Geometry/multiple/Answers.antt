use Rattle.std.proofs.Common.{[], ap, arith, get_or, length, sym, ◌*◌, ◌+◌, ◌∙◌, ◌≡◌}
use Rattle.std.proofs.lemmas.Option.{get_or_from_slice_get}
use Rattle.design_base.specs.Fields.{field_product}
use Rattle.spaces.proofs.EntrySteps.{below-made, kept_multiple, length-made, length-multiples, place_within}
use Rattle.spaces.proofs.geometry.Geometry.multiple.Goals as goal

pub row-requires : goal.row-requires
row-requires c =
    let g = c.args.self.now in
    let v : c.len.result ≡ length g.points.items = omega (arith, c.len.ensures) in
    let q = g.field.now in
    omega (
      arith,
      place_within c.args.t c.args.x (length g.points.items) q c.requires.factor c.requires.point,
      ap (λ v. c.args.t * v) v,
      ap length g.multiplied,
      length-multiples (field_product q) q g.entries g.points.items q,
    )

pub returns-clause-entries : goal.returns-clause-entries
returns-clause-entries c =
    let g = c.args.self.now in
    let v : c.len.result ≡ length g.points.items = omega (arith, c.len.ensures) in
    let q = g.field.now in
    sym (get_or_from_slice_get g.multiples (c.args.t * c.len.result + c.args.x) c.row.result.now [] c.row.ensures)
    ∙ ap (λ v. get_or g.multiples (c.args.t * v + c.args.x) []) v ∙ ap (λ B. get_or B (c.args.t * length g.points.items + c.args.x) []) g.multiplied
    ∙ kept_multiple (field_product q) q g.entries g.points.items q c.args.t c.args.x c.requires.factor c.requires.point

pub returns-clause-elements : goal.returns-clause-elements
returns-clause-elements c = below-made c.args.self.now.field.now c.args.self.now.entries _ c.row.result.now (omega (arith, c.requires.factor)) (returns-clause-entries c)

pub returns-clause-size : goal.returns-clause-size
returns-clause-size c = length-made c.args.self.now.field.now c.args.self.now.entries _ c.row.result.now (omega (arith, c.requires.factor)) (returns-clause-entries c)
