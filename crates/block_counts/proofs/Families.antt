-- The differences of a difference family, counted by elements of the group and by base blocks.
use Rattle.std.proofs.Common.{List, ap, arith, length, refl, suc, sym, true, zero, ℕ, ◌*◌, ◌+◌, ◌-◌, ◌<◌, ◌==◌, ◌∙◌, ◌≡◌, ◌≤◌}
use Rattle.counting.proofs.Booleans.{eq-eqb, eqb-true, eqb-turn}
use Rattle.std.specs.List.{sum_by}
use Rattle.counting.proofs.ButOne.{sum_below-but_const}
use Rattle.counting.proofs.Counts.{count_one, one-true, sum_below-same}
use Rattle.counting.proofs.Lists.{each_all, sum_by-agree, sum_by-mul-one, sum_by-same, sum_by-sum_below}
use Rattle.counting.specs.Sums.{one, sum_below}
use Rattle.design_base.proofs.Points.{one-holds}
use Rattle.design_base.specs.Blocks.{IsBlock, IsDf, differences, holds}
use Rattle.block_counts.specs.Laws.{DifferencesLaw, IsGroupSum}
use Rattle.block_counts.proofs.Flags.{block_differs, block_points}

-- of how many ordered pairs of points of one block d is the difference
abbrev pairs : (ℕ → ℕ → ℕ) → List ℕ → ℕ → ℕ
pairs add b d = sum_by (λ x. sum_by (λ y. one (add x d == y)) b) b

differences-is : (add : ℕ → ℕ → ℕ) (B : List (List ℕ)) (d : ℕ) → differences add B d ≡ sum_by (λ b. pairs add b d) B
unfolding differences one
differences-is add B d = refl

module _ (v : ℕ) (add : ℕ → ℕ → ℕ) (group : IsGroupSum v add) where
  -- two elements have one difference
  one_difference : (x y : ℕ) → x < v → y < v → sum_below v (λ d. one (add x d == y)) ≡ 1
  one_difference x y l m =
      let way = group.reaches x y l m in
      count_one v way.0 (λ d. add x d == y) way.1 (eq-eqb (add x way.0) y way.2)
      (λ d h e. group.cancels x d way.0 l h way.1 (eqb-true (add x d) y e ∙ sym way.2))

  module _ (k : ℕ) (b : List ℕ) (block : IsBlock v (λ size. size ≡ k) b) where
    -- so the pairs of a block are its differences
    all_pairs : sum_below v (pairs add b) ≡ k * k
    all_pairs =
        sym (sum_by-sum_below (λ d x. sum_by (λ y. one (add x d == y)) b) v b)
        ∙ sum_by-agree (λ x. x < v) _ (λ x. k) b block.below (λ x l.
        sym (sum_by-sum_below (λ d y. one (add x d == y)) v b)
        ∙ sum_by-agree (λ y. y < v) _ (λ y. 1) b block.below (λ y m. one_difference x y l m)
        ∙ sum_by-mul-one 1 b ∙ omega (arith, block.size))
        ∙ sum_by-mul-one k b ∙ ap (λ n. k * n) block.size

    -- k of them are 0
    equal_pairs : pairs add b 0 ≡ k
    equal_pairs =
        sum_by-agree (λ x. (x < v) × (holds x b ≡ true)) _ (λ x. 1) b (block_points v (λ size. size ≡ k) b block) (λ x p.
        sum_by-same _ (λ y. one (y == x)) b (each_all _ (λ y. ap (λ t. one (t == y)) (group.zero_neutral x p.0) ∙ ap one (eqb-turn x y)) b)
        ∙ sym (one-holds x b (block_differs v (λ size. size ≡ k) b block)) ∙ one-true (holds x b) p.1)
        ∙ sum_by-mul-one 1 b ∙ omega (arith, block.size)

  module _ (B : List (List ℕ)) (k l : ℕ) (family : IsDf B add v k l) where
    all_differences : sum_below v (differences add B) ≡ k * k * length B
    all_differences =
        sum_below-same v _ (λ d. sum_by (λ b. pairs add b d) B) (λ d h. differences-is add B d)
        ∙ sym (sum_by-sum_below (λ d b. pairs add b d) v B)
        ∙ sum_by-agree (IsBlock v (λ size. size ≡ k)) _ (λ b. k * k) B family.blocks (all_pairs k)
        ∙ sum_by-mul-one (k * k) B

    zero_differences : differences add B 0 ≡ k * length B
    zero_differences =
        differences-is add B 0
        ∙ sum_by-agree (IsBlock v (λ size. size ≡ k)) _ (λ b. k) B family.blocks (equal_pairs k)
        ∙ sum_by-mul-one k B

    counted : 1 ≤ v → length B * (k * (k - 1)) ≡ l * (v - 1)
    counted some = squares k (length B) (omega (
      arith,
      all_differences,
      zero_differences,
      sum_below-but_const v 0 l (differences add B) some (λ d h ne. family.each d (omega arith) h),
      ap (λ n. n * l) (let e : v ≡ v - 1 + 1 = omega arith in e),
    ))
      where
        squares : (k b : ℕ) → k * k * b ≡ k * b + l * (v - 1) → b * (k * (k - 1)) ≡ l * (v - 1)
        squares zero b e = omega arith
        squares (suc k) b e = omega (arith, ap (λ n. b * (suc k * n)) (let e : suc k - 1 ≡ k = omega arith in e))

pub differences_counted : DifferencesLaw
differences_counted B add v k l group family some = counted v add group B k l family some
