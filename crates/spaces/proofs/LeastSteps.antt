-- How the lines of two least points are listed.
use Rattle.std.proofs.Common.{Bool, List, [], ap, arith, cond, length, map, refl, sym, true, false, ℕ, ◌*◌, ◌++◌, ◌+◌, ◌∙◌, ◌∷◌, ◌≡◌, ◌≤◌}
use Rattle.std.proofs.lemmas.List.{append-nil, append_assoc, length-map}
use Rattle.counting.proofs.Counts.{join_below_more, join_below_none}
use Rattle.spaces.specs.Least.{are_least, least_lines, lines_to}
use Rattle.spaces.specs.Coefficients.{combined_line}

module _ (line : ℕ → ℕ → List ℕ) where
  pub lines_to-none : (y : ℕ) → lines_to line y 0 ≡ []
  unfolding lines_to
  lines_to-none y = join_below_none _

  pub lines_to-taken : (y x : ℕ) → are_least x y (line x y) ≡ true → lines_to line y (x + 1) ≡ lines_to line y x ++ line x y ∷ []
  unfolding lines_to
  lines_to-taken y x e = join_below_more x _ ∙ ap (λ t. lines_to line y x ++ cond t (line x y ∷ []) []) e

  pub lines_to-left : (y x : ℕ) → are_least x y (line x y) ≡ false → lines_to line y (x + 1) ≡ lines_to line y x
  unfolding lines_to
  lines_to-left y x e = join_below_more x _ ∙ ap (λ t. lines_to line y x ++ cond t (line x y ∷ []) []) e ∙ append-nil (lines_to line y x)

  pub least_lines-none : least_lines line 0 ≡ []
  unfolding least_lines
  least_lines-none = join_below_none _

  pub least_lines-more : (y : ℕ) → least_lines line (y + 1) ≡ least_lines line y ++ lines_to line y y
  unfolding least_lines
  least_lines-more y = join_below_more y _

pub length-combined_line : (add mul : ℕ → ℕ → ℕ) (q n : ℕ) (P places : List ℕ) (W : List (ℕ × ℕ)) (i j : ℕ) → length (combined_line add mul q n P places W i j) ≡ length W
unfolding combined_line
length-combined_line add mul q n P places W i j = length-map W _

pub ruleset least_steps = (append-nil, append_assoc, lines_to-none, lines_to-taken, lines_to-left, least_lines-none, least_lines-more, length-combined_line)
