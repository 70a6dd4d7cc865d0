use Rattle.std.proofs.Common.{ap, arith, length, subst, sym, ◌∙◌, ◌≡◌, ◌≤◌, None, false}
use Rattle.std.specs.Prelude.{is_some, slice_index_or, IfSome}
use Rattle.design_base.specs.Fields.{has_field}
use Rattle.field_tables.specs.Tables.{field_order}
use Rattle.field_tables.proofs.Listed.{field_order-is, field_order-listed, found_fields, listed_past}
use Rattle.field_tables.proofs.fields.Fields.field.Goals as goal

pub returns-in_err-get : goal.returns-in_err-get
returns-in_err-get c =
    let past : length c.self.inside.by_order.items ≤ c.args.q = omega (arith, c.in_err-get.ensures.lookup.3, ap length c.deref.ensures.value) in
    let none : has_field c.args.q ≡ false = listed_past c.args.q (omega (arith, past, c.self.invariant.size)) in
    let listed : is_some c.from_residual.result ≡ has_field c.args.q = ap is_some c.from_residual.ensures ∙ sym none in
    record {
      found = found_fields c.from_residual.result c.args.q listed;
      listed = listed;
      order = subst (λ r. IfSome r (λ f. f.now ≡ c.args.q)) (sym c.from_residual.ensures) tt;
    }

pub returns : goal.returns
returns c =
    let place : c.in_ok-get.field-0.now ≡ field_order c.args.q = c.in_ok-get.ensures.lookup.3.1 None ∙ ap (λ t. slice_index_or t c.args.q None) c.deref.ensures.value
    ∙ c.self.invariant.each c.args.q (omega (arith, c.in_ok-get.ensures.lookup.3.0, ap length c.deref.ensures.value)) in
    let listed : is_some c.as_ref.result ≡ has_field c.args.q = c.as_ref.ensures.variant ∙ ap is_some place ∙ field_order-listed c.args.q in
    record {
      found = found_fields c.as_ref.result c.args.q listed;
      listed = listed;
      order = field_order-is c.args.q c.as_ref.result (c.as_ref.ensures.value ∙ place);
    }
