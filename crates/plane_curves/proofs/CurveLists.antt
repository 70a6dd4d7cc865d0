-- The lines of two listed points of a curve are the traces of the plane's lines.
use Rattle.std.proofs.Common.{Bool, List, [], ◌∷◌, ap, ap₂, arith, cond, get_or, length, map, refl, sym, true, ℕ, ◌&&◌, ◌<◌, ◌^◌, ◌∙◌, ◌≡◌}
use Rattle.counting.proofs.Booleans.{cond_both}
use Rattle.std.proofs.lemmas.Grind.{same_number_lists}
use Rattle.std.proofs.lemmas.List.{get_or-map, length-map}
use Rattle.std.proofs.lemmas.List.Elements.{All-from_recursion}
use Rattle.std.specs.Prelude.{All, filter}
use Rattle.counting.proofs.Lists.{each_all, each_map}
use Rattle.counting.proofs.Ranges.{get_or-list_below, length-list_below}
use Rattle.counting.specs.Sums.{list_below, one, sum_below}
use Rattle.design_base.specs.Blocks.{IsBibd, holds}
use Rattle.design_base.specs.Canonical.{canonical}
use Rattle.design_base.specs.Rings.{IsField}
use Rattle.spaces.specs.Least.{least_lines}
use Rattle.spaces.specs.Lines.{projective_lines_over, subspace}
use Rattle.spaces.specs.Points.{points}
use Rattle.plane_curves.specs.Secants.{IsOver, curve_points, entries, is_on_line, secant, secant_below, vector_at}
use Rattle.plane_curves.specs.Traces.{points_on, trace}
use Rattle.plane_curves.specs.declared.vectors.Vector.{Vector}
use Rattle.plane_curves.proofs.OnLines.{on_line}
use Rattle.plane_curves.proofs.Planes.{entries_below}
use Rattle.plane_curves.proofs.SecantLines.{is_point, line, listed, vectors_differ}

filter-map : {X Y : Type 0} (p : Y → Bool) (f : X → Y) (xs : List X) → filter p (map f xs) ≡ map f (filter (λ x. p (f x)) xs)
filter-map p f [] = refl
filter-map p f (x ∷ xs) = cond_both (p (f x)) _ _ (λ ys. ys ≡ map f (cond (p (f x)) (x ∷ filter (λ x. p (f x)) xs) (filter (λ x. p (f x)) xs)))
    (λ e. ap (λ ys. f x ∷ ys) (filter-map p f xs) ∙ ap (λ b. map f (cond b (x ∷ filter (λ x. p (f x)) xs) (filter (λ x. p (f x)) xs))) (sym e))
    (λ e. filter-map p f xs ∙ ap (λ b. map f (cond b (x ∷ filter (λ x. p (f x)) xs) (filter (λ x. p (f x)) xs))) (sym e))

-- a list by its places
by_places : (xs : List ℕ) → map (λ i. get_or xs i 0) (list_below (length xs) (λ i. i)) ≡ xs
by_places xs = same_number_lists _ xs
    (length-map (list_below (length xs) (λ i. i)) (λ i. get_or xs i 0) ∙ length-list_below (length xs) (λ (i : ℕ). i))
    (λ k l. let small : k < length xs = omega (arith, l, length-map (list_below (length xs) (λ i. i)) (λ i. get_or xs i 0), length-list_below (length xs) (λ (i : ℕ). i)) in
    get_or-map (λ i. get_or xs i 0) (list_below (length xs) (λ i. i)) k 0 0 (omega (arith, small, length-list_below (length xs) (λ (i : ℕ). i)))
    ∙ ap (λ i. get_or xs i 0) (get_or-list_below (length xs) (λ i. i) k 0 small))

module _ (q : ℕ) (add mul : ℕ → ℕ → ℕ) (field : IsField q add mul) (curve : ℕ → Bool) where
  abbrev P : List ℕ
  P = points q 3

  abbrev at : ℕ → ℕ
  at i = get_or P i 0

  abbrev S : List ℕ
  S = points_on curve P

  abbrev V : List Vector
  V = curve_points q curve (q ^ 3)

  by_point : V ≡ map (entries q) (map at S)
  unfolding curve_points points points_on
  by_point = ap (λ xs. map (entries q) (filter curve xs)) (sym (by_places P)) ∙ ap (map (entries q)) (filter-map curve at (list_below (length P) (λ i. i)))

  pub length-curve_points : length V ≡ length S
  length-curve_points = ap length by_point ∙ length-map (map at S) (entries q) ∙ length-map S at

  pub are_over : All (IsOver q) V
  unfolding curve_points
  are_over = All-from_recursion (IsOver q) _ (each_map (entries q) (λ z. Unit {0}) (IsOver q) (λ z h. entries_below q add mul field z) _ (each_all (λ z. Unit {0}) (λ z. tt) _))

  vector_is : (i : ℕ) → i < length S → vector_at V i ≡ entries q (at (get_or S i 0))
  vector_is i l = ap (λ xs. vector_at xs i) by_point ∙ get_or-map (entries q) (map at S) i 0 _ (omega (arith, l, length-map S at)) ∙ ap (entries q) (get_or-map at S i 0 0 l)

  module _ (k : ℕ) (sections : (i j : ℕ) → i < j → j < length P → curve (at i) ≡ true → curve (at j) ≡ true → sum_below (length P) (λ u. one (curve (at u) && holds (at u) (subspace add mul q 3 (at i) (at j)))) ≡ k) where
    on : ℕ → ℕ → ℕ → Bool
    on i j u = is_on_line add mul (vector_at V i) (vector_at V j) (vector_at V u)

    tells : (i j u : ℕ) → i < j → j < length S → u < length S → on i j u ≡ holds (at (get_or S u 0)) (subspace add mul q 3 (at (get_or S i 0)) (at (get_or S j 0)))
    unfolding on
    tells i j u l m h =
        ap (λ x. is_on_line add mul x (vector_at V j) (vector_at V u)) (vector_is i (omega arith))
        ∙ ap₂ (λ y z. is_on_line add mul (entries q (at (get_or S i 0))) y z) (vector_is j m) (vector_is u h)
        ∙ on_line q add mul field (at (get_or S i 0)) (at (get_or S j 0)) (is_point q add mul field 3 curve k sections i (omega arith)) (is_point q add mul field 3 curve k sections j m)
        (vectors_differ q add mul field 3 curve k sections i j l m) (at (get_or S u 0)) (is_point q add mul field 3 curve k sections u h).small

    pub curve_lines : IsBibd (canonical (trace S (projective_lines_over add mul q 3))) (length S) k 1 → canonical (least_lines (secant add mul V) (length V)) ≡ canonical (trace S (projective_lines_over add mul q 3))
    unfolding line secant_below on
    curve_lines design =
        ap (λ n. canonical (least_lines (λ i j. filter (on i j) (list_below n (λ u. u))) n)) length-curve_points
        ∙ listed q add mul field 3 curve k sections on tells design
