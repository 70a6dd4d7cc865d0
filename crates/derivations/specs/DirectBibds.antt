-- What the steps of block designs without premises make: for each rule the block list, by its parameters a and b, and what its construction
-- needs. The rules stand in the order of the table.
use Rattle.std.specs.Prelude.{ℕ, ◌≡◌, ◌≢◌, ◌≤◌, ◌+◌, ◌-◌, ◌%◌, ◌^◌, true, ⊤, List, []}
use Rattle.design_base.specs.declared.limits.TheConstants.{POINTS_MAX}
use Rattle.design_base.specs.declared.rule.Rule.{Rule}
use Rattle.design_base.specs.declared.rule.Rule.TheVariants.{Whole, Pairs, Omit, Bose, Skolem, Double, Middle, Ordered, Affine, Projective, Unital, Arc}
use Rattle.design_base.specs.Fields.{has_field}
use Rattle.design_base.specs.Geometries.{point_count}
use Rattle.triple_systems.specs.Bose.{bose_blocks}
use Rattle.triple_systems.specs.Skolem.{skolem_blocks}
use Rattle.triple_systems.specs.Double.{double_blocks}
use Rattle.triple_systems.specs.OneGroup.{middle_blocks, ordered_blocks}
use Rattle.spaces.specs.Lines.{affine_lines, projective_lines}
use Rattle.plane_curves.specs.Conditions.{CanBuildArc, CanBuildUnital, arc_size}
use Rattle.plane_curves.specs.Curves.{arc_blocks, unital_blocks}
use Rattle.gdd_pbd.specs.Basic.{omit_blocks, pair_blocks, whole_blocks}
use Rattle.gdd_pbd.specs.Conditions.{CanOmit, CanRepeat}
use Rattle.derivations.specs.Sizes.{HasSizes}

-- blocks on v points, in any order, where each two points are to stand in l of them
unfoldable pub direct_blocks : ℕ → ℕ → Rule → ℕ → ℕ → List (List ℕ)
direct_blocks v l Whole a b = whole_blocks v l
direct_blocks v l Pairs a b = pair_blocks v l
direct_blocks v l Omit a b = omit_blocks v l
direct_blocks v l Bose a b = bose_blocks v
direct_blocks v l Skolem a b = skolem_blocks v
direct_blocks v l Double a b = double_blocks v
direct_blocks v l Middle a b = middle_blocks v
direct_blocks v l Ordered a b = ordered_blocks v
direct_blocks v l Affine q m = affine_lines q m
direct_blocks v l Projective q m = projective_lines q m
direct_blocks v l Unital q b = unital_blocks q
direct_blocks v l Arc r s = arc_blocks r s
direct_blocks v l r a b = []

-- a construction of blocks of three points, of which so many hold two points, on v points of this shape
pub record AreTriples (v k l times : ℕ) (Shape : Type 0) : Type 0 where
  pub least : 3 ≤ v
  pub points : v ≤ POINTS_MAX
  pub shape : Shape
  pub three : 3 ≡ k
  pub cover : times ≡ l

-- the lines of a geometry of dimension m over the field of q elements, with so many points
pub record CanListLines (q m points : ℕ) : Type 0 where
  pub listed : has_field q ≡ true
  pub dimension : 1 ≤ m
  pub few : points ≤ POINTS_MAX

-- the construction has what it needs, and gives blocks of k of v points, each two points in l of them
unfoldable pub CanBuildDirect : ℕ → ℕ → ℕ → Rule → ℕ → ℕ → Type 0
CanBuildDirect v k l Whole a b = CanRepeat v l × (v ≡ k)
CanBuildDirect v k l Pairs a b = CanRepeat v l × (2 ≡ k)
CanBuildDirect v k l Omit a b = CanOmit v l × (v - 1 ≡ k)
CanBuildDirect v k l Bose a b = AreTriples v k l 1 (v % 6 ≡ 3)
CanBuildDirect v k l Skolem a b = AreTriples v k l 1 (v % 6 ≡ 1)
CanBuildDirect v k l Double a b = AreTriples v k l 2 ((v % 3 ≢ 2) × (v ≢ 7))
CanBuildDirect v k l Middle a b = AreTriples v k l 3 (v % 2 ≡ 1)
CanBuildDirect v k l Ordered a b = AreTriples v k l 6 ⊤
CanBuildDirect v k l Affine q m = CanListLines q m (q ^ m) × HasSizes v k l (q ^ m) q
CanBuildDirect v k l Projective q m = CanListLines q m (point_count q m) × HasSizes v k l (point_count q m) (q + 1)
CanBuildDirect v k l Unital q b = CanBuildUnital q × HasSizes v k l (q ^ 3 + 1) (q + 1)
CanBuildDirect v k l Arc r s = CanBuildArc r s × HasSizes v k l (arc_size r s) (2 ^ r)
CanBuildDirect v k l r a b = ⊥
