-- The Bose construction gives a triple system.
use Rattle.std.proofs.Common.{arith, subst, sym, ℕ, ◌%◌, ◌*◌, ◌++◌, ◌+◌, ◌/◌, ◌<◌, ◌≡◌}
use Rattle.std.proofs.lemmas.List.Elements.{All-append}
use Rattle.design_base.proofs.Canonical.{IsLoose, IsPointSet, design_from_loose}
use Rattle.design_base.proofs.Places.{place-below}
use Rattle.design_base.specs.Arrays.{place}
use Rattle.design_base.specs.Blocks.{IsBibd}
use Rattle.design_base.specs.Canonical.{canonical}
use Rattle.triple_systems.proofs.Columns.{column_sets, columns_none, columns_one}
use Rattle.triple_systems.proofs.HalfSums.{half_sum-self, half_sum_square}
use Rattle.triple_systems.proofs.Levels.{IsColumns, columns_beside, three_groups}
use Rattle.triple_systems.proofs.SymmetricLevels.{above, level_sets, symmetric_above}
use Rattle.triple_systems.specs.Bose.{bose_blocks}
use Rattle.triple_systems.specs.Squares.{IsIdempotent, IsSymmetric, half_sum}
use Rattle.triple_systems.specs.declared.triples.Pairs.TheVariants.{Unordered}
use Rattle.triple_systems.specs.Triples.{columns, levels}

-- the columns of three groups, and the triples above their pairs over an idempotent square
module _ (n : ℕ) (op : ℕ → ℕ → ℕ) (square : IsSymmetric n op) (idempotent : IsIdempotent n op) (pos : 0 < n) where
  -- two points of one column stand together once
  once : IsColumns n 1 (columns n n)
  once = record {
    same = λ c d x k e l. columns_one n n (omega arith) c d x k (omega arith) l;
    apart = λ c d x y k h l m ne. columns_none n n (omega arith) c d x y l m ne;
  }

  -- so the blocks are a triple system
  idempotent_loose : IsLoose (columns n n ++ levels Unordered n op 3) (3 * n) (λ s. s ≡ 3) (λ x y. 1)
  unfolding levels
  idempotent_loose = record {
    blocks = All-append (IsPointSet (3 * n) (λ s. s ≡ 3)) (columns n n) (levels Unordered n op 3) (column_sets n n (omega arith) (3 * n) below) (level_sets n op square (3 * n) below);
    pairs = three_groups n op 1 (above n op square) (symmetric_above n op square) pos (columns n n) (columns_beside n op 1 (columns n n) idempotent once);
  }
    where
      below : (i x : ℕ) → i < 3 → x < n → place n i x < 3 * n
      below i x l m = place-below n 3 i x l m

-- the half sums are such a square of each odd order
pub bose_design : (v : ℕ) → v % 6 ≡ 3 → IsBibd (canonical (bose_blocks v)) v 3 1
unfolding bose_blocks
bose_design v shape = subst (λ w. IsBibd (canonical (bose_blocks w)) w 3 1) (sym (parts v shape)) (design_of (v / 6))
  where
    parts : (v : ℕ) → v % 6 ≡ 3 → v ≡ 3 * (2 * (v / 6) + 1)
    parts v shape = omega arith

    third : (t : ℕ) → 3 * (2 * t + 1) / 3 ≡ 2 * t + 1
    third t = omega arith

    design_of : (t : ℕ) → IsBibd (canonical (bose_blocks (3 * (2 * t + 1)))) (3 * (2 * t + 1)) 3 1
    design_of t = rw (third t) (design_from_loose (3 * (2 * t + 1)) (λ s. s ≡ 3) _ (λ x y. 1) (idempotent_loose (2 * t + 1) (half_sum (2 * t + 1)) (half_sum_square t) (half_sum-self t) (omega arith)))
