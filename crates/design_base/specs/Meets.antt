-- The designs that the questions ask for.
use Rattle.std.specs.Prelude.{ℕ, ◌+◌, ◌%◌, List, ⊤}
use Rattle.design_base.specs.Blocks.{IsTd, IsBibd, IsGdd, IsPbd, IsDf}
use Rattle.design_base.specs.declared.query.Group.{Group}
use Rattle.design_base.specs.declared.query.Group.TheVariants.{Cyclic, Field}
use Rattle.design_base.specs.declared.query.Query.{Query}
use Rattle.design_base.specs.declared.query.Query.TheVariants.{Td, Df, Bibd, Gdd, Pbd}
use Rattle.design_base.specs.Fields.{FieldAt, field_sum}

-- the sum of the group of v elements
unfoldable pub group_add : Group → ℕ → ℕ → ℕ → ℕ
group_add Cyclic v = λ x y. (x + y) % v
group_add Field v = field_sum v

-- the group is one
abbrev pub GroupAt : Group → ℕ → Type 0
GroupAt Cyclic v = ⊤
GroupAt Field v = FieldAt v

-- the block list is a design that the question asks for
abbrev pub Meets : Query → List (List ℕ) → Type 0
Meets (Td k n) B = IsTd B k n
Meets (Df group v k l) B = GroupAt group v × IsDf B (group_add group v) v k l
Meets (Bibd v k l) B = IsBibd B v k l
Meets (Gdd k g u) B = IsGdd B k g u
Meets (Pbd v s) B = IsPbd B v s
