-- The lines of a geometry are listed in canonical form, which is its own canonical form.
use Rattle.std.proofs.Common.{List, [], ◌∷◌, ap, ap₂, refl, ℕ, ◌∙◌, ◌≡◌}
use Rattle.std.specs.List.{AllByRecursion}
use Rattle.std.specs.Prelude.{map, nat_le}
use Rattle.counting.proofs.Sorting.{each-sort_by, nat_le-order, ordered-sort_by, same_ordered, sum_by-sort_by}
use Rattle.counting.specs.Sorting.{Ordered, sort_by}
use Rattle.design_base.proofs.Sorted.{lex_le-order}
use Rattle.design_base.specs.Canonical.{canonical, lex_le}
use Rattle.spaces.proofs.Once.{each-dedup, ordered-dedup}
use Rattle.spaces.specs.Lines.{affine_lines, affine_lines_over, each_once, projective_lines, projective_lines_over}

sort-ordered : (b : List ℕ) → Ordered nat_le b → sort_by nat_le b ≡ b
sort-ordered b o = same_ordered nat_le nat_le-order (sort_by nat_le b) b (ordered-sort_by nat_le nat_le-order b) o (λ f. sum_by-sort_by nat_le f b)

map_sort-ordered : (B : List (List ℕ)) → AllByRecursion (Ordered nat_le) B → map (sort_by nat_le) B ≡ B
map_sort-ordered [] o = refl
map_sort-ordered (b ∷ B) o = ap₂ (λ c C. c ∷ C) (sort-ordered b o.0) (map_sort-ordered B o.1)

-- ordered blocks in order
canonical-ordered : (B : List (List ℕ)) → AllByRecursion (Ordered nat_le) B → Ordered lex_le B → canonical B ≡ B
unfolding canonical
canonical-ordered B rows o = ap (sort_by lex_le) (map_sort-ordered B rows)
    ∙ same_ordered lex_le lex_le-order (sort_by lex_le B) B (ordered-sort_by lex_le lex_le-order B) o (λ f. sum_by-sort_by lex_le f B)

sorted_rows : (B : List (List ℕ)) → AllByRecursion (Ordered nat_le) (map (sort_by nat_le) B)
sorted_rows [] = tt
sorted_rows (b ∷ B) = (ordered-sort_by nat_le nat_le-order b, sorted_rows B)

own_form : (B : List (List ℕ)) → canonical (each_once B) ≡ each_once B
unfolding each_once canonical
own_form B = canonical-ordered (each_once B)
    (each-dedup lex_le lex_le-order (Ordered nat_le) (canonical B) (each-sort_by lex_le (Ordered nat_le) (map (sort_by nat_le) B) (sorted_rows B)))
    (ordered-dedup lex_le lex_le-order (canonical B) (ordered-sort_by lex_le lex_le-order (map (sort_by nat_le) B)))

pub own_affine : (q d : ℕ) → canonical (affine_lines q d) ≡ affine_lines q d
unfolding affine_lines affine_lines_over
own_affine q d = own_form _

pub own_projective : (q d : ℕ) → canonical (projective_lines q d) ≡ projective_lines q d
unfolding projective_lines projective_lines_over
own_projective q d = own_form _
