-- What holds of unitals and arcs, for readers and for the crates above.
use Rattle.std.specs.Prelude.{ℕ, ◌+◌, ◌^◌}
use Rattle.design_base.specs.Blocks.{IsBibd}
use Rattle.design_base.specs.Canonical.{canonical}
use Rattle.plane_curves.specs.Conditions.{CanBuildArc, CanBuildUnital, arc_size}
use Rattle.plane_curves.specs.Curves.{arc_blocks, unital_blocks}

-- a line of the plane holds one point of the Hermitian curve, or q + 1
abbrev pub UnitalLaw : Type 0
UnitalLaw = (q : ℕ) → CanBuildUnital q → IsBibd (canonical (unital_blocks q)) (q ^ 3 + 1) (q + 1) 1

-- a line of the plane holds no point of the arc, or 2 ^ r
abbrev pub ArcLaw : Type 0
ArcLaw = (r s : ℕ) → CanBuildArc r s → IsBibd (canonical (arc_blocks r s)) (arc_size r s) (2 ^ r) 1
