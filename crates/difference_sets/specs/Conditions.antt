-- What each construction needs: its numbers within their ranges, and the family that it is made of.
use Rattle.std.specs.Prelude.{ℕ, ◌≤◌, ◌≡◌, ◌-◌, ◌*◌, List, true}
use Rattle.design_base.specs.Fields.{has_field}
use Rattle.design_base.specs.Limits.{in_bounds}
use Rattle.design_base.specs.Meets.{Meets}
use Rattle.design_base.specs.Steps.{Step}
use Rattle.design_base.specs.declared.limits.TheConstants.{COVER_MAX, POINTS_MAX}
use Rattle.design_base.specs.declared.query.Group.{Group}
use Rattle.design_base.specs.declared.query.Query.{Query}
use Rattle.design_base.specs.declared.query.Query.TheVariants.{Df}
use Rattle.difference_sets.specs.FamilySteps.{is_family_step}

-- the family of a step that applies to the question
pub record CanBuildFamily (q : Query) (s : Step) : Type 0 where
  pub bounds : in_bounds q ≡ true
  pub applies : is_family_step q s ≡ true

-- of the field of q elements the first m of e cosets of f nonzero elements, with 0 where z is 1
pub record CanBuildCosets (q z e f m : ℕ) : Type 0 where
  pub listed : has_field q ≡ true
  pub zero : z ≤ 1
  pub whole : e * f ≡ q - 1
  pub inside : m ≤ e

-- the translates of a difference family B over the group of v elements
pub record CanDevelop (group : Group) (v k l : ℕ) (B : List (List ℕ)) : Type 0 where
  pub two_points : 2 ≤ k
  pub block : k ≤ v
  pub points : v ≤ POINTS_MAX
  pub differences : l ≤ COVER_MAX
  pub family : Meets (Df group v k l) B
