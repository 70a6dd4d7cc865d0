-- The triples above the pairs of all three groups, over a symmetric square.
use Rattle.std.proofs.Common.{List, ap, arith, sym, ℕ, ◌%◌, ◌+◌, ◌<◌, ◌∙◌, ◌≡◌}
use Rattle.std.specs.Prelude.{All}
use Rattle.counting.proofs.Ranges.{All-join_below}
use Rattle.design_base.proofs.Canonical.{IsPointSet}
use Rattle.design_base.specs.Arrays.{place}
use Rattle.triple_systems.proofs.Levels.{IsAbove}
use Rattle.triple_systems.proofs.Pairs.{lower_pair, other_point, rising_pair, square_pair, triple_sets, upper_pair}
use Rattle.triple_systems.specs.Squares.{IsSymmetric}
use Rattle.triple_systems.specs.declared.triples.Pairs.TheVariants.{Unordered}
use Rattle.triple_systems.specs.Triples.{levels, triples_above}

module _ (n : ℕ) (op : ℕ → ℕ → ℕ) (square : IsSymmetric n op) where
  abbrev pub above : ℕ → List (List ℕ)
  above i = triples_above Unordered n op i ((i + 1) % 3) n

  pub symmetric_above : (i : ℕ) → i < 3 → IsAbove n op 1 i ((i + 1) % 3) (above i)
  symmetric_above i l = record {
    lower = lower_pair n op square i ((i + 1) % 3) (omega arith);
    rising = λ x y k m d. let z = square.latin.row_solves x y k m in rising_pair n op square i ((i + 1) % 3) (omega arith) x y z.0 k z.1 (λ e. d (sym z.2 ∙ ap (op x) (sym e))) z.2;
    square = square_pair n op square i ((i + 1) % 3) (omega arith);
    upper = upper_pair n op square i ((i + 1) % 3) (omega arith);
    other = other_point n op square i ((i + 1) % 3) (omega arith);
  }

  -- the triples are sets of three points
  pub level_sets : (v : ℕ) → ((i x : ℕ) → i < 3 → x < n → place n i x < v) → All (IsPointSet v (λ s. s ≡ 3)) (levels Unordered n op 3)
  unfolding levels
  level_sets v below = All-join_below (IsPointSet v (λ s. s ≡ 3)) 3 _ (λ i k. triple_sets n op square i ((i + 1) % 3) (omega arith) v (λ c x w l. below c x (omega arith) l))
