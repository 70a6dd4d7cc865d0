use Rattle.std.proofs.Common.{ap, arith, get_or, length, ◌<◌, ◌^◌, ◌∙◌}
use Rattle.std.proofs.lemmas.List.{get_or_default}
use Rattle.design_base.specs.Fields.{field_product, field_sum}
use Rattle.spaces.proofs.EntrySteps.{combined_entries}
use Rattle.spaces.proofs.geometry.Geometry.point.Goals as goal

pub sum_of_entries-vector-requires-clause-fits : goal.sum_of_entries-vector-requires-clause-fits
sum_of_entries-vector-requires-clause-fits c = omega (arith, ap (λ n. c.args.self.now.field.now ^ n) c.multiple.ensures.size, c.args.self.now.fits)

pub index-requires : goal.index-requires
index-requires c = omega (arith, ap (λ n. c.args.self.now.field.now ^ n) c.multiple.ensures.size, c.sum_of_entries-vector.ensures.below, c.args.self.now.placed)

pub returns : goal.returns
returns c =
    let g = c.args.self.now in
    let q = g.field.now in
    let within : c.sum_of_entries-vector.result < length g.places.items = omega (arith, ap (λ n. q ^ n) c.multiple.ensures.size, c.sum_of_entries-vector.ensures.below, g.placed) in
    c.index.ensures ∙ get_or_default g.places.items c.sum_of_entries-vector.result _ 0 within
    ∙ ap (λ i. get_or g.places.items i 0) (combined_entries (field_sum q) (field_product q) q g.entries c.args.coefficients.0 (get_or g.points.items c.args.x 0) c.args.coefficients.1 (get_or g.points.items c.args.y 0)
    c.sum_of_entries-vector.result c.multiple.result.now c.multiple-2.result.now c.multiple.ensures.entries c.multiple-2.ensures.entries c.sum_of_entries-vector.ensures.value)
