-- A quadruple system on twice as many points, over any one-factorization.
use Rattle.std.proofs.Common.{List, ap₂, arith, inl, inr, map, subst, sym, ℕ, ◌&&◌, ◌++◌, ◌+◌, ◌<◌, ◌∙◌, ◌≡◌, ◌≤◌, ◌⊎◌}
use Rattle.std.proofs.Math.Nat.{le_dest}
use Rattle.std.proofs.lemmas.List.Elements.{All-append, All-weaker}
use Rattle.std.specs.Prelude.{All}
use Rattle.counting.proofs.Booleans.{cases_lt}
use Rattle.counting.proofs.Counts.{sum_below-same, sum_below-zero}
use Rattle.counting.proofs.Lists.{All-map_of, each_all, sum_by-map, sum_by-none, sum_by-same, sum_by-zero}
use Rattle.counting.proofs.Ranges.{All-join_below}
use Rattle.counting.specs.Sums.{join_below, one, sum_below}
use Rattle.design_base.specs.Blocks.{cover, holds, replication}
use Rattle.three_designs.specs.Quadruples.{crossed, doubled, moved}
use Rattle.three_designs.specs.StrengthThree.{cover_three}
use Rattle.three_designs.proofs.Crossed.{all_high, all_low, crossed_sets, first_fails, holds-moved, holds-moved_none, last_fails, moved_set, not_held, one_low, two_low, wider_set}
use Rattle.three_designs.proofs.Triples.{IsLooseSqs, IsSet, cover_three-append, cover_three-is, cover_three-join_below}

-- a one-factorization of w points: f factors, each a list of pairs in which each point stands once, and each two points
-- stand in a pair of exactly one factor
pub record IsOneFactorization (w f : ℕ) (factors : ℕ → List (List ℕ)) : Type 0 where
  pub sets : (i : ℕ) → i < f → All (IsSet w 2) (factors i)
  pub each : (i x : ℕ) → i < f → x < w → replication (factors i) x ≡ 1
  pub pairs : (x y : ℕ) → x < y → y < w → sum_below f (λ i. cover (factors i) x y) ≡ 1

module _ (w f : ℕ) (factors : ℕ → List (List ℕ)) (S : List (List ℕ)) (fs : IsOneFactorization w f factors) (sqs : IsLooseSqs S w) where
  parts : (x y z : ℕ) → cover_three (doubled w f factors S) x y z ≡ cover_three S x y z + cover_three (map (moved w) S) x y z + sum_below f (λ i. cover_three (crossed w (factors i)) x y z)
  unfolding doubled
  parts x y z = omega (
    arith,
    cover_three-append (S ++ map (moved w) S) (join_below f (λ i. crossed w (factors i))) x y z,
    cover_three-append S (map (moved w) S) x y z,
    cover_three-join_below f (λ i. crossed w (factors i)) x y z,
  )

  below_none : (x y z : ℕ) → w ≤ z → cover_three S x y z ≡ 0
  below_none x y z l = cover_three-is S x y z ∙ sum_by-none (IsSet w 4) _ S sqs.blocks (λ b s. last_fails (holds x b) (holds y b) (holds z b) (not_held w z b s.below l))

  above_none : (x y z : ℕ) → x < w → cover_three (map (moved w) S) x y z ≡ 0
  above_none x y z l = cover_three-is (map (moved w) S) x y z ∙ sum_by-map (λ b. one (holds x b && (holds y b && holds z b))) (moved w) S
      ∙ sum_by-zero _ S (each_all _ (λ b. first_fails (holds x (moved w b)) (holds y (moved w b) && holds z (moved w b)) (holds-moved_none w x b l)) S)

  above_same : (x y z : ℕ) → cover_three (map (moved w) S) (x + w) (y + w) (z + w) ≡ cover_three S x y z
  above_same x y z = cover_three-is (map (moved w) S) (x + w) (y + w) (z + w) ∙ sum_by-map (λ b. one (holds (x + w) b && (holds (y + w) b && holds (z + w) b))) (moved w) S
      ∙ sum_by-same _ (λ b. one (holds x b && (holds y b && holds z b))) S (each_all _ (λ b. ap₂ (λ p q. one (p && q)) (holds-moved w x b) (ap₂ ◌&&◌ (holds-moved w y b) (holds-moved w z b))) S)
      ∙ sym (cover_three-is S x y z)

  abbrev IsOnce : ℕ → ℕ → ℕ → Type 0
  IsOnce x y z = cover_three (doubled w f factors S) x y z ≡ 1

  -- three points by how many of them are below w
  three_below : (x y z : ℕ) → x < y → y < z → z < w → IsOnce x y z
  three_below x y z l m n = omega (
    arith,
    parts x y z,
    sqs.triples x y z l m n,
    above_none x y z (omega arith),
    sum_below-zero f _ (λ i h. all_low w (factors i) (fs.sets i h) x y z l m n),
  )

  two_below : (x y c : ℕ) → x < y → y < w → c < w → IsOnce x y (c + w)
  two_below x y c l m n = omega (
    arith,
    parts x y (c + w),
    below_none x y (c + w) (omega arith),
    above_none x y (c + w) (omega arith),
    sum_below-same f _ (λ i. cover (factors i) x y) (λ i h. two_low w (factors i) (fs.sets i h) x y c (omega arith) m (fs.each i c h n)),
    fs.pairs x y l m,
  )

  one_below : (x b c : ℕ) → x < w → b < c → c < w → IsOnce x (b + w) (c + w)
  one_below x b c l m n = omega (
    arith,
    parts x (b + w) (c + w),
    below_none x (b + w) (c + w) (omega arith),
    above_none x (b + w) (c + w) l,
    sum_below-same f _ (λ i. cover (factors i) b c) (λ i h. one_low w (factors i) (fs.sets i h) x b c l (fs.each i x h l)),
    fs.pairs b c m n,
  )

  none_below : (a b c : ℕ) → a < b → b < c → c < w → IsOnce (a + w) (b + w) (c + w)
  none_below a b c l m n = omega (
    arith,
    parts (a + w) (b + w) (c + w),
    below_none (a + w) (b + w) (c + w) (omega arith),
    above_same a b c,
    sqs.triples a b c l m n,
    sum_below-zero f _ (λ i h. all_high w (factors i) (fs.sets i h) a b c l m),
  )

  half : (x : ℕ) → (x < w) ⊎ ((a : ℕ) × (a + w ≡ x))
  half x = elim (cases_lt x w) [ inl l ↦ inl l | inr l ↦ inr ((le_dest l).0, omega (arith, (le_dest l).1)) ]

  triples : (x y z : ℕ) → x < y → y < z → z < w + w → IsOnce x y z
  triples x y z l m n = elim (half z) [
    | inl low ↦ three_below x y z l m low
    | inr c ↦ subst (λ z. IsOnce x y z) c.1 (elim (half y) [
      | inl low ↦ two_below x y c.0 l low (omega (arith, c.1))
      | inr b ↦ subst (λ y. IsOnce x y (c.0 + w)) b.1 (elim (half x) [
        | inl low ↦ one_below x b.0 c.0 low (omega (arith, b.1, c.1)) (omega (arith, c.1))
        | inr a ↦ subst (λ x. IsOnce x (b.0 + w) (c.0 + w)) a.1 (none_below a.0 b.0 c.0 (omega (arith, a.1, b.1)) (omega (arith, b.1, c.1)) (omega (arith, c.1)))
      ])
    ])
  ]

  pub doubled_loose : IsLooseSqs (doubled w f factors S) (w + w)
  unfolding doubled
  doubled_loose = record { blocks = sets; triples = triples }
    where
      sets : All (IsSet (w + w) 4) (doubled w f factors S)
      sets = All-append (IsSet (w + w) 4) (S ++ map (moved w) S) _
          (All-append (IsSet (w + w) 4) S _ (All-weaker (IsSet w 4) (IsSet (w + w) 4) (λ b s. wider_set w 4 b s) S sqs.blocks)
          (All-map_of (IsSet w 4) (IsSet (w + w) 4) (moved w) S sqs.blocks (λ b s. moved_set w 4 b s)))
          (All-join_below (IsSet (w + w) 4) f _ (λ i h. crossed_sets w (factors i) (fs.sets i h)))
