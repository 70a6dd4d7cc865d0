-- The groups of the questions.
use Rattle.std.proofs.Common.{◌≡◌, ℕ, ◌+◌, ◌*◌, ◌-◌, ◌/◌, ◌%◌, ◌<◌, ◌≤◌, arith, ap, sym, ◌∙◌}
use Rattle.std.proofs.Math.Nat.{add-mod-mod, mod-add-mod, mod-lt, mod_self, mod-eq_of_lt, mod-add-div, add-mul-mod_self_left}
use Rattle.design_base.specs.Fields.{field_sum, field_product}
use Rattle.design_base.specs.Meets.{GroupAt, group_add}
use Rattle.design_base.specs.declared.query.Group.{Group}
use Rattle.design_base.specs.declared.query.Group.TheVariants.{Cyclic, Field}
use Rattle.field_tables.specs.Laws.{IsCommutativeGroup}
use Rattle.field_tables.proofs.AnyGroup.{ring_sums}
use Rattle.field_tables.proofs.Listed.{listed-FieldAt, listed_field}

-- the sums of the integers modulo v
cyclic_sums : (v : ℕ) → 1 ≤ v → IsCommutativeGroup v (λ x y. (x + y) % v)
cyclic_sums v some = record {
  sums_below = λ x y. mod-lt (x + y) some;
  sums_commute = λ x y. ap (λ t. t % v) (let e : x + y ≡ y + x = omega arith in e);
  sums_associate = λ x y z. mod-add-mod (x + y) v z ∙ ap (λ t. t % v) (let e : x + y + z ≡ x + (y + z) = omega arith in e) ∙ sym (add-mod-mod x (y + z) v);
  zero_neutral = λ x h. ap (λ t. t % v) (let e : x + 0 ≡ x = omega arith in e) ∙ mod-eq_of_lt h;
  negatives = λ x. ((v - x % v) % v, mod-lt (v - x % v) some, add-mod-mod x (v - x % v) v ∙ cancelled x);
}
  where
    cancelled : (x : ℕ) → (x + (v - x % v)) % v ≡ 0
    cancelled x =
        let below : x % v < v = mod-lt x some in
        ap (λ t. t % v) (let e : x + (v - x % v) ≡ v + v * (x / v) = omega (arith, mod-add-div x v) in e) ∙ add-mul-mod_self_left v v (x / v) ∙ mod_self v

-- the group of v elements is one
pub group_sums : (group : Group) (v : ℕ) → 1 ≤ v → GroupAt group v → IsCommutativeGroup v (group_add group v)
unfolding group_add
group_sums Cyclic v some h = cyclic_sums v some
group_sums Field v some h = ring_sums v (field_sum v) (field_product v) (listed_field v (listed-FieldAt v h)).ring
