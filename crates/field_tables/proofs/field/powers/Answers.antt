use Rattle.std.proofs.Common.{arith, ap, sym, ◌≡◌, ◌-◌, ◌+◌, ◌∙◌, true, slice_set, suc}
use Rattle.std.proofs.Math.ListN.{length-set}
use Rattle.design_base.specs.Fields.{field_product}
use Rattle.field_tables.proofs.Listed.{listed_field}
use Rattle.field_tables.proofs.Marks.{comes, comes_first, comes_last, comes_step}
use Rattle.field_tables.proofs.field.powers.Goals as goal

pub loop-init : goal.loop-init
loop-init c = record {
  size = omega (arith, c.in_ok-seen.ensures.len);
  power = (listed_field c.args.ring.now c.order.ensures.listed).ring.one_below;
  marks = λ y.
      ap (λ seen. comes (field_product c.args.ring.now) c.args.g 1 (c.args.ring.now - 1) seen y) (c.in_ok-seen.ensures.items_if_clones_equal (λ y e. e))
      ∙ comes_first (field_product c.args.ring.now) c.args.g 1 (c.args.ring.now - 1) c.order.result y;
}

pub loop-preserved : goal.loop-preserved
loop-preserved c =
    let mul = field_product c.args.ring.now in
    record {
      size = length-set c.loop.seen.items c.loop.power true ∙ c.loop.invariant.size;
      power = c.mul-power.ensures.below;
      marks = λ y.
          let left : c.args.ring.now - c.loop.counter ≡ suc (c.args.ring.now - (c.loop.counter + 1)) = omega arith in
          ap (λ power. comes mul c.args.g power (c.args.ring.now - (c.loop.counter + 1)) (slice_set c.loop.seen.items c.loop.power true) y) c.mul-power.ensures.product
          ∙ sym (comes_step mul c.args.g c.loop.power (c.args.ring.now - (c.loop.counter + 1)) c.loop.seen.items y (omega arith))
          ∙ ap (λ n. comes mul c.args.g c.loop.power n c.loop.seen.items y) (sym left) ∙ c.loop.invariant.marks y;
    }

pub returns-clause-marks : goal.returns-clause-marks
returns-clause-marks c y h =
    let q = c.args.ring.now in
    let over : q - c.loop.counter ≡ 0 = omega arith in
    sym (comes_last (field_product q) c.args.g c.loop.power c.loop.seen.items y)
    ∙ sym (ap (λ n. comes (field_product q) c.args.g c.loop.power n c.loop.seen.items y) over) ∙ c.loop.invariant.marks y
