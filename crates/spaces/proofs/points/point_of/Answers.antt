use Rattle.std.proofs.Common.{ap, ap₂, arith, subst, sym, ◌<◌, ◌≡◌, ◌^◌, ◌∙◌}
use Rattle.std.specs.Prelude.{Contains}
use Rattle.design_base.specs.Fields.{field_product, field_sum}
use Rattle.field_tables.proofs.Listed.{listed_field, order_above}
use Rattle.spaces.proofs.Leads.{contains_point, lead_one, lead_positive}
use Rattle.spaces.proofs.VectorSpaces.{combination-multiple}
use Rattle.spaces.specs.Points.{lead, points}
use Rattle.spaces.specs.Vectors.{multiple}
use Rattle.spaces.proofs.points.point_of.Goals as goal

pub lead-requires : goal.lead-requires
lead-requires c = omega (arith, order_above c.args.field.now c.order.ensures.listed, c.order.ensures.order)

first_entry : (c : goal.After-lead) → c.lead.result ≡ lead c.args.field.now c.args.n c.args.x
first_entry c = c.lead.ensures.value ∙ ap₂ (λ q z. lead q c.args.n z) c.order.ensures.order c.from.ensures

pub inv-scale-requires-clause-nonzero : goal.inv-scale-requires-clause-nonzero
inv-scale-requires-clause-nonzero c =
    let q = c.args.field.now in
    subst (λ t. 0 < t) (sym (first_entry c)) (lead_positive q (field_sum q) (field_product q) (listed_field q c.order.ensures.listed) c.args.n c.args.x c.requires.nonzero c.requires.below)

is_multiple : (c : goal.After-combination) → c.combination.result ≡ multiple (field_product c.args.field.now) c.args.field.now c.args.n c.inv-scale.result c.args.x
is_multiple c =
    let q = c.args.field.now in
    c.combination.ensures.value ∙ combination-multiple q (field_sum q) (field_product q) (listed_field q c.order.ensures.listed) c.args.n c.inv-scale.result c.args.x

pub returns-clause-point : goal.returns-clause-point
returns-clause-point c =
    let q = c.args.field.now in
    let m = multiple (field_product q) q c.args.n c.inv-scale.result c.args.x in
    let one : field_product q (lead q c.args.n c.args.x) c.inv-scale.result ≡ 1 =
    ap (λ t. field_product q t c.inv-scale.result) (sym (c.lead.ensures.value ∙ ap₂ (λ q z. lead q c.args.n z) c.order.ensures.order c.from.ensures)) ∙ c.inv-scale.ensures.product in
    subst (Contains (points q c.args.n)) (sym (is_multiple c))
    (contains_point q c.args.n m (subst (λ z. z < q ^ c.args.n) (is_multiple c) c.combination.ensures.below)
    (lead_one q (field_sum q) (field_product q) (listed_field q c.order.ensures.listed) c.args.n c.args.x c.inv-scale.result c.inv-scale.ensures.below one))

pub returns-clause-multiple : goal.returns-clause-multiple
returns-clause-multiple c = (c.inv-scale.result, c.inv-scale.ensures.below, sym (is_multiple c))
