-- A design is a design in canonical form too.
use Rattle.std.proofs.Common.{ℕ, List}
use Rattle.design_base.proofs.Canonical.{design_from_loose, loose_from_design}
use Rattle.design_base.specs.Blocks.{IsDesign}
use Rattle.design_base.specs.Canonical.{canonical}

pub ingredient_design : (B : List (List ℕ)) (v : ℕ) (Size : ℕ → Type 0) (want : ℕ → ℕ → ℕ) → IsDesign B v Size want → IsDesign (canonical B) v Size want
ingredient_design B v Size want d = design_from_loose v Size B want (loose_from_design v Size B want d)
