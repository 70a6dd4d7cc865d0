-- The affine and projective geometries as they are kept, and their lines.
use Rattle.std.specs.Prelude.{ℕ, ◌^◌, ◌≡◌, List, true}
use Rattle.std.proofs.Common.{get_or}
use Rattle.design_base.specs.Digits.{digits}
use Rattle.design_base.specs.Fields.{field_product, field_sum, has_field}
use Rattle.spaces.specs.Points.{AreNumbers, ArePlaces, points}
use Rattle.spaces.specs.Coefficients.{AreAffine, AreProjective, combined_line, combined_point}
use Rattle.spaces.specs.Vectors.{multiple}
use Rattle.spaces.specs.declared.geometry.Geometry.{Geometry}

-- the entries of t times a point
abbrev pub entries_in : Geometry → ℕ → ℕ → List ℕ
entries_in g t i = digits g.field.now g.entries (multiple (field_product g.field.now) g.field.now g.entries t (get_or g.points.items i 0))

abbrev pub point_in : Geometry → ℕ → ℕ → ℕ × ℕ → ℕ
point_in g = combined_point (field_sum g.field.now) (field_product g.field.now) g.field.now g.entries g.points.items g.places.items

-- the line of two points
abbrev pub line_in : Geometry → ℕ → ℕ → List ℕ
line_in g = combined_line (field_sum g.field.now) (field_product g.field.now) g.field.now g.entries g.points.items g.places.items g.coefficients.items

-- all vectors of n entries over the field of q elements, each its own point
pub record IsAffine (q n : ℕ) (g : Geometry) : Type 0 where
  pub listed : has_field q ≡ true
  pub field : g.field.now ≡ q
  pub entries : g.entries ≡ n
  pub points : AreNumbers (q ^ n) g.points.items
  pub places : AreNumbers (q ^ n) g.places.items
  pub coefficients : AreAffine (field_sum q) q g.coefficients.items

-- of the vectors of n entries over the field of q elements those whose first nonzero entry is 1
pub record IsProjective (q n : ℕ) (g : Geometry) : Type 0 where
  pub listed : has_field q ≡ true
  pub field : g.field.now ≡ q
  pub entries : g.entries ≡ n
  pub points : g.points.items ≡ points q n
  pub places : ArePlaces (field_product q) q n (q ^ n) g.places.items
  pub coefficients : AreProjective q g.coefficients.items
