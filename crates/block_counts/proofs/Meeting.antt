-- In how many points one block of a block design meets the others, and in how many pairs of points.
use Rattle.std.proofs.Common.{List, [], ap, ap₂, arith, get_or, length, refl, suc, sym, true, zero, ℕ, ◌&&◌, ◌*◌, ◌+◌, ◌-◌, ◌<◌, ◌∙◌, ◌≡◌, ◌≤◌}
use Rattle.std.proofs.lemmas.List.Sums.{sum_by-remove}
use Rattle.std.specs.List.{sum_by}
use Rattle.std.specs.Prelude.{All, remove}
use Rattle.counting.proofs.ButOne.{sum_by-but_const}
use Rattle.counting.proofs.Counts.{one-true}
use Rattle.counting.proofs.Lists.{each_all, one-and, sum_by-add, sum_by-agree, sum_by-mul-one, sum_by-product, sum_by-same, sum_by-turn}
use Rattle.counting.specs.Sums.{one}
use Rattle.design_base.proofs.Cover.{cover-is}
use Rattle.design_base.proofs.Points.{one-holds}
use Rattle.design_base.specs.Blocks.{IsBibd, IsBlock, cover, holds}
use Rattle.block_counts.specs.Counts.{meet, replication_number}
use Rattle.block_counts.specs.Laws.{MeetPairsLaw, MeetsLaw}
use Rattle.block_counts.proofs.Flags.{block_differs, block_points, cover-self, cover_of, replication-is}
use Rattle.block_counts.proofs.Replication.{replication_is}

pub meet-is : (a b : List ℕ) → meet a b ≡ sum_by (λ x. one (holds x b)) a
unfolding meet one
meet-is a b = refl

-- any k points, be they a block or not
module _ (B : List (List ℕ)) (v k l : ℕ) (design : IsBibd B v k l) (two : 2 ≤ k) (a : List ℕ) (set : IsBlock v (λ size. size ≡ k) a) where
  abbrev r : ℕ
  r = replication_number v k l

  points : All (λ x. (x < v) × (holds x a ≡ true)) a
  points = block_points v (λ size. size ≡ k) a set

  pub meet_self : meet a a ≡ k
  meet_self = meet-is a a
      ∙ sum_by-agree (λ x. (x < v) × (holds x a ≡ true)) (λ x. one (holds x a)) (λ x. 1) a points (λ x p. one-true (holds x a) p.1)
      ∙ sum_by-mul-one 1 a ∙ omega (arith, set.size)

  pub meets : sum_by (meet a) B ≡ k * r
  meets =
      sum_by-same (meet a) (λ b. sum_by (λ x. one (holds x b)) a) B (each_all _ (meet-is a) B)
      ∙ sum_by-turn (λ b x. one (holds x b)) B a
      ∙ sum_by-agree (λ x. x < v) (λ x. sum_by (λ b. one (holds x b)) B) (λ x. r) a set.below (λ x m. sym (replication-is B x) ∙ replication_is B v k l design two x m)
      ∙ sum_by-mul-one r a ∙ ap (λ n. r * n) set.size ∙ omega arith

  -- in how many blocks a point of a stands together with the points of a
  covers : (x : ℕ) → x < v → holds x a ≡ true → sum_by (cover B x) a ≡ r + l * (k - 1)
  covers x m h = omega (
    arith,
    sum_by-but_const (λ y. y < v) x l (cover B x) a set.below (sym (one-holds x a (block_differs v (λ size. size ≡ k) a set)) ∙ one-true (holds x a) h)
        (λ y n ne. cover_of B v (λ size. size ≡ k) (λ x y. l) (λ x y. refl) design x y m n ne),
    cover-self B x ∙ replication_is B v k l design two x m,
    ap (λ n. n * l) set.size,
    ap (λ n. l * n) (let e : k ≡ k - 1 + 1 = omega arith in e),
  )

  pub squares_of_meets : sum_by (λ b. meet a b * meet a b) B ≡ k * (r + l * (k - 1))
  squares_of_meets =
      sum_by-same (λ b. meet a b * meet a b) (λ b. sum_by (λ x. sum_by (λ y. one (holds x b) * one (holds y b)) a) a) B
      (each_all _ (λ b. ap₂ (λ m n. m * n) (meet-is a b) (meet-is a b) ∙ sum_by-product (λ x. one (holds x b)) (λ y. one (holds y b)) a a) B)
      ∙ sum_by-turn (λ b x. sum_by (λ y. one (holds x b) * one (holds y b)) a) B a
      ∙ sum_by-agree (λ x. (x < v) × (holds x a ≡ true)) _ (λ x. r + l * (k - 1)) a points (λ x p.
      sum_by-turn (λ b y. one (holds x b) * one (holds y b)) B a
      ∙ sum_by-same _ (cover B x) a (each_all _ (λ y. sum_by-same _ (λ b. one (holds x b && holds y b)) B (each_all _ (λ b. sym (one-and (holds x b) (holds y b))) B) ∙ sym (cover-is B x y)) a)
      ∙ covers x p.0 p.1)
      ∙ sum_by-mul-one (r + l * (k - 1)) a ∙ ap (λ n. (r + l * (k - 1)) * n) set.size ∙ omega arith

-- m points have m (m - 1) ordered pairs
pairs_of : (m : ℕ) → m * (m - 1) + m ≡ m * m
pairs_of zero = omega arith
pairs_of (suc m) = omega (arith, ap (λ n. suc m * n) (let e : suc m - 1 ≡ m = omega arith in e))

-- the block at a place, and the other blocks
module _ (B : List (List ℕ)) (v k l : ℕ) (design : IsBibd B v k l) (two : 2 ≤ k) (i : ℕ) (here : i < length B) where
  abbrev a : List ℕ
  a = get_or B i []

  abbrev rest : List (List ℕ)
  rest = remove B i

  pub meets_with_others : sum_by (meet a) rest + k ≡ k * replication_number v k l
  meets_with_others = omega (
    arith,
    sum_by-remove (meet a) B i [] here,
    meets B v k l design two a (design.blocks i [] here),
    meet_self B v k l design two a (design.blocks i [] here),
  )

  pub squares_with_others : sum_by (λ b. meet a b * meet a b) rest + k * k ≡ k * (replication_number v k l + l * (k - 1))
  squares_with_others = omega (
    arith,
    sum_by-remove (λ b. meet a b * meet a b) B i [] here,
    squares_of_meets B v k l design two a (design.blocks i [] here),
    ap (λ n. n * n) (meet_self B v k l design two a (design.blocks i [] here)),
  )

  pub pairs_and_meets : sum_by (λ b. meet a b * (meet a b - 1)) rest + sum_by (meet a) rest ≡ sum_by (λ b. meet a b * meet a b) rest
  pairs_and_meets = sym (sum_by-add (λ b. meet a b * (meet a b - 1)) (meet a) rest) ∙ sum_by-same _ (λ b. meet a b * meet a b) rest (each_all _ (λ b. pairs_of (meet a b)) rest)

-- the same two sums with differences
one_less : (k r s : ℕ) → s + k ≡ k * r → s ≡ k * (r - 1)
one_less k zero s e = omega arith
one_less k (suc r) s e = omega (arith, ap (λ n. k * n) (let e : suc r - 1 ≡ r = omega arith in e))

pub meets_of_others : MeetsLaw
meets_of_others B v k l design two i here = one_less k (replication_number v k l) _ (meets_with_others B v k l design two i here)

pub meet_pairs_of_others : MeetPairsLaw
meet_pairs_of_others B v k l design two i here = one_less (k * (k - 1)) l _ (omega (
  arith,
  pairs_and_meets B v k l design two i here,
  meets_with_others B v k l design two i here,
  squares_with_others B v k l design two i here,
  ap (λ n. k * n) (let e : k ≡ k - 1 + 1 = omega arith in e),
))
