use Rattle.std.proofs.Common.{[], ap, arith, refl, subst, sym, ◌++◌, ◌+◌, ◌*◌, ◌≡◌, ◌∙◌, ◌∷◌}
use Rattle.std.specs.Prelude.{OnOk}
use Rattle.incidence.specs.Packed.{size_of}
use Rattle.std.proofs.lemmas.List.{length-set, length-take-le}
use Rattle.design_base.specs.Fields.{field_product, gen}
use Rattle.difference_sets.proofs.CosetSteps.{coset_all, power_by, row_inside, row_more, row_none}
use Rattle.field_tables.proofs.Listed.{listed_small}
use Rattle.field_tables.specs.Powers.{power}
use Rattle.difference_sets.proofs.cosets.push_coset.Goals as goal

pub loop-j-init : goal.loop-j-init
loop-j-init c = record {
  size = refl;
  elements = row_none c.args.z _ (λ j. power (field_product c.args.field.now) (gen c.args.field.now) (c.args.i + c.args.e * j)) c.requires.zero refl;
  next = c.power-element.ensures.value ∙ ap (λ g. power (field_product c.args.field.now) g c.args.i) c.least_generator-generator.ensures
      ∙ ap (power (field_product c.args.field.now) (gen c.args.field.now)) (omega arith);
  below = c.power-element.ensures.below;
}

pub bounds-row-z : goal.bounds-row-z
bounds-row-z c = omega (arith, c.requires.zero, c.requires.few, c.loop-j-test.true, listed_small c.args.field.now c.requires.listed)

pub loop-j-preserved : goal.loop-j-preserved
loop-j-preserved c = record {
  size = length-set c.loop-j.row (c.args.z + c.loop-j.j) _ ∙ c.loop-j.invariant.size;
  elements = row_more c.args.z c.loop-j.j c.loop-j.row (λ j. power (field_product c.args.field.now) (gen c.args.field.now) (c.args.i + c.args.e * j)) c.loop-j.element
      (omega (arith, c.loop-j.invariant.size, c.requires.zero, c.requires.few, c.loop-j-test.true, listed_small c.args.field.now c.requires.listed)) c.loop-j.invariant.elements c.loop-j.invariant.next;
  next = c.mul-element.ensures.product ∙ ap (λ x. field_product c.args.field.now x c.power-step.result) c.loop-j.invariant.next
      ∙ ap (field_product c.args.field.now _) (c.power-step.ensures.value ∙ ap (λ g. power (field_product c.args.field.now) g c.args.e) c.least_generator-generator.ensures)
      ∙ sym (power_by c.args.field.now c.requires.listed c.args.e c.args.i c.loop-j.j);
  below = c.mul-element.ensures.below;
}

pub overflow_add-row-2 : goal.overflow_add-row-2
overflow_add-row-2 c = omega (arith, c.requires.zero, c.requires.few, listed_small c.args.field.now c.requires.listed)

pub slice_bounds-row-end : goal.slice_bounds-row-end
slice_bounds-row-end c = row_inside c.args.field.now c.args.z c.args.f c.loop-j.row c.requires.listed c.requires.zero c.requires.few c.loop-j.invariant.size

pub slice_bounds-push_row-end : goal.slice_bounds-push_row-end
slice_bounds-push_row-end c = sym (length-take-le (c.args.z + c.args.f) c.loop-j.row (row_inside c.args.field.now c.args.z c.args.f c.loop-j.row c.requires.listed c.requires.zero c.requires.few c.loop-j.invariant.size))

pub returns-clause-ok : goal.returns-clause-ok
returns-clause-ok c =
    let mul = field_product c.args.field.now in
    let g = gen c.args.field.now in
    subst (λ row. OnOk c.push_row.result (c.push_row.new.self ≡ c.args.rows.now ++ row ∷ []))
    (coset_all mul g c.args.z c.args.e c.args.f c.args.i c.loop-j.j c.loop-j.row c.loop-j.auto.j-end (omega (arith, c.loop-j-test.false)) c.loop-j.invariant.elements)
    c.push_row.ensures.ok

pub returns-clause-size : goal.returns-clause-size
returns-clause-size c =
    subst (λ n. OnOk c.push_row.result (size_of c.push_row.new.self ≡ n)) (omega (arith, length-take-le (c.args.z + c.args.f) c.loop-j.row (row_inside c.args.field.now c.args.z c.args.f c.loop-j.row c.requires.listed c.requires.zero c.requires.few c.loop-j.invariant.size))) c.push_row.ensures.size
