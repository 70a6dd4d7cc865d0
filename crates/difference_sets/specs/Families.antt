-- The base blocks of the stated difference families, in any order.
use Rattle.std.specs.Prelude.{ℕ, ◌+◌, ◌-◌, ◌*◌, ◌/◌, ◌==◌, List, [], ◌∷◌, if◌then◌else◌}
use Rattle.counting.specs.Sums.{list_below}
use Rattle.design_base.specs.Fields.{field_product, gen}
use Rattle.design_base.specs.Steps.{Step}
use Rattle.design_base.specs.declared.query.Query.{Query}
use Rattle.design_base.specs.declared.query.Query.TheVariants.{Df}
use Rattle.design_base.specs.declared.rule.Rule.{Rule}
use Rattle.design_base.specs.declared.rule.Rule.TheVariants.{Table, Powers, Cosets, Cosets0, Halfcosets}
use Rattle.field_tables.specs.Powers.{power}
use Rattle.difference_sets.specs.Listed.{family_at}

-- a block, and 0 too where z is 1
abbrev pub with_zero : ℕ → List ℕ → List ℕ
with_zero z block = if z == 1 then 0 ∷ block else block

module _ (mul : ℕ → ℕ → ℕ) (g : ℕ) where
  -- g ^ (i + e * j) for each j below f: where e * f elements are not 0, a coset of the subgroup of f elements
  unfoldable pub coset : ℕ → ℕ → ℕ → List ℕ
  coset e f i = list_below f (λ j. power mul g (i + e * j))

  -- those of each i below m, and 0 too in each where z is 1
  unfoldable pub cosets : ℕ → ℕ → ℕ → ℕ → List (List ℕ)
  cosets z e f m = list_below m (λ i. with_zero z (coset e f i))

-- over the field of q elements, with its least generator
unfoldable pub field_cosets : ℕ → ℕ → ℕ → ℕ → ℕ → List (List ℕ)
field_cosets q z e f m = cosets (field_product q) (gen q) z e f m

-- the powers of g ^ e, and 0 too where z is 1: one block
abbrev pub power_blocks : ℕ → ℕ → ℕ → List (List ℕ)
power_blocks q e z = field_cosets q z e ((q - 1) / e) 1

-- the cosets of k elements
abbrev pub coset_blocks : ℕ → ℕ → List (List ℕ)
coset_blocks q k = let e = (q - 1) / k in field_cosets q 0 e k e

-- those of k - 1 elements, each with 0
abbrev pub coset0_blocks : ℕ → ℕ → List (List ℕ)
coset0_blocks q k = let e = (q - 1) / (k - 1) in field_cosets q 1 e (k - 1) e

-- half of the cosets of k elements
abbrev pub halfcoset_blocks : ℕ → ℕ → List (List ℕ)
halfcoset_blocks q k = let e = (q - 1) / k in field_cosets q 0 e k (e / 2)

-- the base blocks of a rule with its parameters a and b, where v and k are those of the question
unfoldable pub family_blocks : ℕ → ℕ → Rule → ℕ → ℕ → List (List ℕ)
family_blocks v k Table a b = (family_at a).blocks
family_blocks v k Powers a b = power_blocks v a b
family_blocks v k Cosets a b = coset_blocks v k
family_blocks v k Cosets0 a b = coset0_blocks v k
family_blocks v k Halfcosets a b = halfcoset_blocks v k
family_blocks v k r a b = []

-- and of a step at a question
unfoldable pub step_blocks : Query → Step → List (List ℕ)
step_blocks (Df group v k l) s = family_blocks v k s.rule s.a s.b
step_blocks q s = []
