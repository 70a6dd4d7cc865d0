-- The lines of a geometry, listed, are the stated ones.
use Rattle.std.proofs.Common.{List, ap, ap₂, arith, length, subst, suc, sym, ℕ, ◌+◌, ◌^◌, ◌∙◌, ◌≡◌}
use Rattle.design_base.specs.Blocks.{IsBibd}
use Rattle.design_base.specs.Canonical.{canonical}
use Rattle.design_base.specs.Fields.{field_product, field_sum}
use Rattle.field_tables.proofs.Listed.{listed_field, order_above}
use Rattle.spaces.proofs.Geometries.{affine_blocks, affine_design, affine_space, projective_blocks, projective_design, projective_space}
use Rattle.spaces.proofs.Leads.{length-points}
use Rattle.spaces.specs.GeometryLines.{IsAffine, IsProjective, line_in}
use Rattle.spaces.specs.Least.{least_lines}
use Rattle.spaces.specs.LinearSpaces.{IsLinearSpace}
use Rattle.spaces.specs.Lines.{affine_lines, projective_lines}
use Rattle.design_base.specs.Geometries.{point_count}
use Rattle.spaces.specs.Points.{points}
use Rattle.spaces.specs.Coefficients.{combined_line}
use Rattle.spaces.specs.declared.geometry.Geometry.{Geometry}

-- all lines of a geometry
abbrev pub all_lines : Geometry → List (List ℕ)
all_lines g = canonical (least_lines (line_in g) (length g.points.items))

-- the same over the field of q elements, on v points
over : Geometry → ℕ → ℕ → List ℕ → ℕ → List (List ℕ)
over g q n P v = canonical (least_lines (combined_line (field_sum q) (field_product q) q n P g.places.items g.coefficients.items) v)

module _ (g : Geometry) (q d : ℕ) (h : IsAffine q d g) where
  affine_over : all_lines g ≡ over g q d g.points.items (q ^ d)
  unfolding over
  affine_over = ap (λ q. over g q g.entries g.points.items (length g.points.items)) h.field ∙ ap₂ (λ n v. over g q n g.points.items v) h.entries h.points.count

  pub affine_is_space : IsLinearSpace (length g.points.items) (length g.coefficients.items) (line_in g)
  affine_is_space =
      let space : IsLinearSpace (q ^ d) q (combined_line (field_sum q) (field_product q) q d g.points.items g.places.items g.coefficients.items) =
      affine_space q (field_sum q) (field_product q) (listed_field q h.listed) d g.points.items g.places.items g.coefficients.items h.points h.places h.coefficients in
      subst (λ v. IsLinearSpace v (length g.coefficients.items) (line_in g)) (sym h.points.count) (subst (λ k. IsLinearSpace (q ^ d) k (line_in g)) (sym h.coefficients.count)
      (subst (IsLinearSpace (q ^ d) q) (sym affine_lines_over) space))
    where
      affine_lines_over : line_in g ≡ combined_line (field_sum q) (field_product q) q d g.points.items g.places.items g.coefficients.items
      affine_lines_over = ap (λ q. combined_line (field_sum q) (field_product q) q g.entries g.points.items g.places.items g.coefficients.items) h.field
          ∙ ap (λ n. combined_line (field_sum q) (field_product q) q n g.points.items g.places.items g.coefficients.items) h.entries

  pub affine_listed : all_lines g ≡ affine_lines q d
  unfolding over affine_lines
  affine_listed = affine_over ∙ affine_blocks q (field_sum q) (field_product q) (listed_field q h.listed) d g.points.items g.places.items g.coefficients.items h.points h.places h.coefficients

  pub affine_is_design : IsBibd (all_lines g) (q ^ d) q 1
  unfolding over
  affine_is_design = subst (λ B. IsBibd B (q ^ d) q 1) (sym affine_over)
      (affine_design q (field_sum q) (field_product q) (listed_field q h.listed) d g.points.items g.places.items g.coefficients.items h.points h.places h.coefficients)

module _ (g : Geometry) (q d : ℕ) (h : IsProjective q (d + 1) g) where
  projective_over : all_lines g ≡ over g q (d + 1) (points q (d + 1)) (length (points q (d + 1)))
  unfolding over
  projective_over = ap (λ q. over g q g.entries g.points.items (length g.points.items)) h.field ∙ ap₂ (λ n P. over g q n P (length P)) h.entries h.points

  pub projective_is_space : IsLinearSpace (length g.points.items) (length g.coefficients.items) (line_in g)
  projective_is_space =
      let space : IsLinearSpace (length (points q (d + 1))) (suc q) (combined_line (field_sum q) (field_product q) q (d + 1) (points q (d + 1)) g.places.items g.coefficients.items) =
      projective_space q (field_sum q) (field_product q) (listed_field q h.listed) (d + 1) g.places.items g.coefficients.items h.places h.coefficients in
      let k : length g.coefficients.items ≡ suc q = omega (arith, h.coefficients.count) in
      subst (λ P. IsLinearSpace (length P) (length g.coefficients.items) (line_in g)) (sym h.points) (subst (λ k. IsLinearSpace (length (points q (d + 1))) k (line_in g)) (sym k)
      (subst (IsLinearSpace (length (points q (d + 1))) (suc q)) (sym lines_over) space))
    where
      lines_over : line_in g ≡ combined_line (field_sum q) (field_product q) q (d + 1) (points q (d + 1)) g.places.items g.coefficients.items
      lines_over = ap (λ q. combined_line (field_sum q) (field_product q) q g.entries g.points.items g.places.items g.coefficients.items) h.field
          ∙ ap₂ (λ n P. combined_line (field_sum q) (field_product q) q n P g.places.items g.coefficients.items) h.entries h.points

  pub projective_listed : all_lines g ≡ projective_lines q d
  unfolding over projective_lines
  projective_listed = projective_over ∙ projective_blocks q (field_sum q) (field_product q) (listed_field q h.listed) (d + 1) g.places.items g.coefficients.items h.places h.coefficients

  count : length (points q (d + 1)) ≡ point_count q d
  count = length-points q (order_above q h.listed) d

  pub projective_is_design : IsBibd (all_lines g) (point_count q d) (q + 1) 1
  unfolding over
  projective_is_design =
      let e : suc q ≡ q + 1 = omega arith in
      subst (λ B. IsBibd B (point_count q d) (q + 1) 1) (sym projective_over)
      (subst (λ k. IsBibd (over g q (d + 1) (points q (d + 1)) (length (points q (d + 1)))) (point_count q d) k 1) e
      (subst (λ v. IsBibd (over g q (d + 1) (points q (d + 1)) (length (points q (d + 1)))) v (suc q) 1) count
      (projective_design q (field_sum q) (field_product q) (listed_field q h.listed) (d + 1) g.places.items g.coefficients.items h.places h.coefficients)))

  pub length-points_in : length g.points.items ≡ point_count q d
  length-points_in = ap length h.points ∙ count
