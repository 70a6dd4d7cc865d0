-- What holds of the listed orders, for readers and for the crates above.
use Rattle.std.specs.Prelude.{ℕ, ◌≡◌, ◌<◌, ◌≤◌, ◌^◌, List, length, true, ◌↔◌}
use Rattle.design_base.specs.Digits.{plus, times}
use Rattle.design_base.specs.Rings.{IsCommutativeRing, IsField}
use Rattle.design_base.specs.Meets.{GroupAt, group_add}
use Rattle.design_base.specs.declared.query.Group.{Group}
use Rattle.design_base.specs.Fields.{FieldAt, has_field, field_sum, field_product}

-- at each p from 2 on, and under each polynomial of degree 1 or more: n is x to the degree
abbrev pub RingLaw : Type 0
RingLaw = (p : ℕ) (n : List ℕ) → 2 ≤ p → 1 ≤ length n → IsCommutativeRing (p ^ length n) (plus p (length n)) (times p (length n) n)

-- each listed order has a field
abbrev pub ListedLaw : Type 0
ListedLaw = (q : ℕ) → FieldAt q ↔ (has_field q ≡ true)

-- the sums and products of a listed order are those of a field
abbrev pub FieldLaw : Type 0
FieldLaw = (q : ℕ) → has_field q ≡ true → IsField q (field_sum q) (field_product q)

pub record IsCommutativeGroup (q : ℕ) (add : ℕ → ℕ → ℕ) : Type 0 where
  pub sums_below : (x y : ℕ) → add x y < q
  pub sums_commute : (x y : ℕ) → add x y ≡ add y x
  pub sums_associate : (x y z : ℕ) → add (add x y) z ≡ add x (add y z)
  pub zero_neutral : (x : ℕ) → x < q → add x 0 ≡ x
  pub negatives : (x : ℕ) → (y : ℕ) × (y < q) × (add x y ≡ 0)

-- the groups of the questions are commutative groups
abbrev pub GroupLaw : Type 0
GroupLaw = (group : Group) (v : ℕ) → 1 ≤ v → GroupAt group v → IsCommutativeGroup v (group_add group v)
