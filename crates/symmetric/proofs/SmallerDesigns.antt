-- The residual and the derived design of a symmetric design.
use Rattle.std.proofs.Common.{Bool, List, [], arith, false, get_or, length, map, not, refl, subst, sym, true, ℕ, ◌&&◌, ◌*◌, ◌+◌, ◌-◌, ◌<◌, ◌∙◌, ◌≡◌}
use Rattle.std.proofs.lemmas.List.Sums.{sum_by-remove}
use Rattle.std.specs.List.Sorted.{IsStrictlyIncreasing}
use Rattle.std.specs.Prelude.{All, remove}
use Rattle.counting.proofs.Booleans.{and_from, both, false≢true, not-true}
use Rattle.counting.proofs.Counts.{one-false, one-true, sum_below-add, sum_below-const, sum_below-same}
use Rattle.counting.proofs.OnePlace.{filter_sum}
use Rattle.counting.proofs.Totals.{length_filtered, sum_by-list_below}
use Rattle.counting.specs.Sums.{list_below, one}
use Rattle.design_base.proofs.Canonical.{IsPointSet, set_from_block}
use Rattle.design_base.proofs.Cover.{cover-is}
use Rattle.design_base.proofs.Points.{each_at, holds_filter, sum_set}
use Rattle.design_base.specs.Blocks.{IsBibd, IsBlock, cover, holds}
use Rattle.design_base.specs.Canonical.{canonical}
use Rattle.block_counts.proofs.Flags.{points_of_block}
use Rattle.block_counts.proofs.Meeting.{meet-is}
use Rattle.block_counts.specs.Counts.{meet}
use Rattle.spaces.specs.Lines.{points_in}
use Rattle.symmetric.proofs.EqualMeets.{meets_others}
use Rattle.symmetric.proofs.Parts.{parts_design}
use Rattle.symmetric.proofs.Passing.{passing_rises}
use Rattle.symmetric.proofs.Removed.{All-remove}
use Rattle.symmetric.specs.Symmetric.{IsSymmetric, derived_blocks, parts_in, points_outside, residual_blocks}

-- ---- the points outside a block
one-not : (p : Bool) → one p + one (not p) ≡ 1
unfolding one
one-not true = refl
one-not false = refl

-- a number, shared out by a test
one-parts : (p : Bool) (n : ℕ) → n * one p + one (not p) * n ≡ n
unfolding one
one-parts true n = omega arith
one-parts false n = omega arith

module _ (v : ℕ) (a : List ℕ) where
  outside_rises : IsStrictlyIncreasing (points_outside v a)
  unfolding points_outside
  outside_rises = passing_rises (λ x. not (holds x a)) v

  outside_point : (x : ℕ) → holds x (points_outside v a) ≡ true → (x < v) × (not (holds x a) ≡ true)
  unfolding points_outside
  outside_point x h = holds_filter (λ x. not (holds x a)) v x h

  module _ (k : ℕ) (block : IsBlock v (λ s. s ≡ k) a) where
    length-outside : k + length (points_outside v a) ≡ v
    unfolding points_outside
    length-outside = omega (
      arith,
      length_filtered (λ x. not (holds x a)) v,
      points_of_block v (λ s. s ≡ k) a block,
      block.size,
      sum_below-add v (λ x. one (holds x a)) (λ x. one (not (holds x a))),
      sum_below-same v _ (λ x. 1) (λ x l. one-not (holds x a)),
      sum_below-const v 1,
    )

    -- what a block does not share with a is outside a
    meet-outside : (b : List ℕ) → IsBlock v (λ s. s ≡ k) b → meet a b + meet (points_outside v a) b ≡ k
    unfolding points_outside
    meet-outside b other =
        let set : IsPointSet v (λ s. s ≡ k) a = set_from_block v (λ s. s ≡ k) a block in
        omega (
          arith,
          meet-is a b,
          sum_set v (λ x. one (holds x b)) a set.differs set.below,
          meet-is (points_outside v a) b,
          filter_sum (λ x. not (holds x a)) (λ x. one (holds x b)) (list_below v (λ x. x)),
          sum_by-list_below (λ x. one (not (holds x a)) * one (holds x b)) v (λ x. x),
          sum_below-add v (λ x. one (holds x b) * one (holds x a)) (λ x. one (not (holds x a)) * one (holds x b)),
          sum_below-same v _ (λ x. one (holds x b)) (λ x l. one-parts (holds x a) (one (holds x b))),
          points_of_block v (λ s. s ≡ k) b other,
          other.size,
        )

module _ (B : List (List ℕ)) (v k l : ℕ) (s : IsSymmetric B v k l) (i : ℕ) (here : i < length B) where
  abbrev a : List ℕ
  a = get_or B i []

  abbrev rest : List (List ℕ)
  rest = remove B i

  block : IsBlock v (λ s. s ≡ k) a
  block = s.design.blocks i [] here

  -- the other blocks with two points
  cover-rest : (x y : ℕ) → x < y → y < v → cover rest x y + one (holds x a && holds y a) ≡ l
  cover-rest x y m h = omega (arith, cover-is rest x y, cover-is B x y, sum_by-remove (λ b. one (holds x b && holds y b)) B i [] here, s.design.pairs x y m h)

  pub block_size : length (get_or B i []) ≡ k
  block_size = block.size

  pub outside_size : k + length (points_outside v (get_or B i [])) ≡ v
  outside_size = length-outside v a k block

  set : IsPointSet v (λ s. s ≡ k) a
  set = set_from_block v (λ s. s ≡ k) a block

  other_blocks : All (IsBlock v (λ s. s ≡ k)) rest
  other_blocks = All-remove (IsBlock v (λ s. s ≡ k)) B i s.design.blocks

  pub derived_design : IsBibd (canonical (derived_blocks B i)) k l (l - 1)
  unfolding parts_in
  derived_design = subst (λ n. IsBibd (canonical (map (points_in a) rest)) n l (l - 1)) block.size
      (parts_design a rest l (l - 1) block.rises (meets_others B v k l s i here) covers)
    where
      covers : (x y : ℕ) → x < y → holds x a ≡ true → holds y a ≡ true → cover rest x y ≡ l - 1
      covers x y m e f = omega (arith, cover-rest x y m (each_at (λ z. z < v) y a set.below f), one-true (holds x a && holds y a) (and_from (holds x a) (holds y a) e f))

  pub residual_design : IsBibd (canonical (residual_blocks v B i)) (v - k) (k - l) l
  unfolding parts_in
  residual_design = subst (λ n. IsBibd (canonical (map (points_in (points_outside v a)) rest)) n (k - l) l) (omega (arith, outside_size))
      (parts_design (points_outside v a) rest (k - l) l (outside_rises v a) sizes covers)
    where
      sizes : All (λ b. meet (points_outside v a) b ≡ k - l) rest
      sizes j d m = omega (arith, meets_others B v k l s i here j d m, meet-outside v a k block (get_or rest j d) (other_blocks j d m))

      covers : (x y : ℕ) → x < y → holds x (points_outside v a) ≡ true → holds y (points_outside v a) ≡ true → cover rest x y ≡ l
      covers x y m e f =
          let h = outside_point v a x e in
          let g = outside_point v a y f in
          omega (arith, cover-rest x y m g.0, one-false (holds x a && holds y a) (λ t. false≢true (sym (not-true (holds x a) h.1) ∙ (both (holds x a) (holds y a) t).0)))

pub ruleset residual_steps = (residual_design, outside_size)

pub ruleset derived_steps = (derived_design, block_size)
