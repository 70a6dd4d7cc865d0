use Rattle.std.proofs.Common.{arith, ap, sym, ◌≡◌, ◌-◌, ◌<◌, ◌∙◌, true, false, length}
use Rattle.std.proofs.lemmas.List.{get_or_default}
use Rattle.counting.specs.Search.{each_passes, is_among}
use Rattle.design_base.specs.Fields.{powers}
use Rattle.field_tables.proofs.Listed.{listed_field}
use Rattle.counting.proofs.Upward.{each_upward_here, each_upward_later, upward-none}
use Rattle.field_tables.proofs.field.generates.Goals as goal

pub returns-then-not-index : goal.returns-then-not-index
returns-then-not-index c =
    let q = c.args.ring.now in
    let below : c.loop-x.x < length c.in_ok-seen.seen.items = omega (arith, c.in_ok-seen.ensures.size) in
    let here : is_among c.loop-x.x (powers q c.args.g) ≡ false =
    sym (c.in_ok-seen.ensures.marks c.loop-x.x (omega arith)) ∙ get_or_default c.in_ok-seen.seen.items c.loop-x.x false c.index.result.now below ∙ sym c.index.ensures ∙ c.if-not-index.true in
    sym (each_upward_here (λ x. is_among x (powers q c.args.g)) c.loop-x.x (q - 1) (omega arith) here) ∙ c.loop-x.invariant

pub loop-x-preserved : goal.loop-x-preserved
loop-x-preserved c =
    let q = c.args.ring.now in
    let below : c.loop-x.x < length c.in_ok-seen.seen.items = omega (arith, c.in_ok-seen.ensures.size) in
    let here : is_among c.loop-x.x (powers q c.args.g) ≡ true =
    sym (c.in_ok-seen.ensures.marks c.loop-x.x (omega arith)) ∙ get_or_default c.in_ok-seen.seen.items c.loop-x.x false c.index.result.now below ∙ sym c.index.ensures ∙ c.if-not-index.false in
    sym (each_upward_later (λ x. is_among x (powers q c.args.g)) c.loop-x.x (q - 1) (omega arith) here) ∙ c.loop-x.invariant

pub returns : goal.returns
unfolding each_passes
returns c =
    let q = c.args.ring.now in
    sym (ap (each_passes (λ x. is_among x (powers q c.args.g))) (upward-none c.loop-x.x (q - 1) (omega (arith, (listed_field q c.order-x-end.ensures.listed).ring.one_below)))) ∙ c.loop-x.invariant
