-- Pairs of a point and a block that holds it, counted by points and by blocks.
use Rattle.std.proofs.Common.{Bool, List, ap, arith, false, get_or, inl, inr, length, refl, sym, true, ℕ, ◌&&◌, ◌*◌, ◌+◌, ◌<◌, ◌==◌, ◌∙◌, ◌≡◌, ◌≢◌}
use Rattle.counting.proofs.Booleans.{cases_order, eq-eqb}
use Rattle.std.proofs.lemmas.List.Folds.{list_any_at}
use Rattle.std.specs.List.{sum_by}
use Rattle.std.specs.Prelude.{All}
use Rattle.counting.proofs.ButOne.{sum_below-but}
use Rattle.counting.proofs.Counts.{count_equal, sum_below-mul, sum_below-same}
use Rattle.counting.proofs.Lists.{each_all, one-and, sum_by-agree, sum_by-length, sum_by-mul, sum_by-mul-one, sum_by-same, sum_by-sum_below}
use Rattle.counting.specs.Sums.{one, sum_below}
use Rattle.design_base.proofs.Canonical.{Differs, differs_from_rises, rises_from_increasing}
use Rattle.design_base.proofs.Cover.{cover-is, cover-turn}
use Rattle.design_base.proofs.Points.{one-holds}
use Rattle.design_base.specs.Blocks.{IsBlock, IsDesign, cover, holds, replication}

pub replication-is : (B : List (List ℕ)) (x : ℕ) → replication B x ≡ sum_by (λ b. one (holds x b)) B
unfolding replication one
replication-is B x = refl

and_self : (p : Bool) → (p && p) ≡ p
and_self true = refl
and_self false = refl

-- a point stands together with itself wherever it stands
pub cover-self : (B : List (List ℕ)) (x : ℕ) → cover B x x ≡ replication B x
cover-self B x = cover-is B x x ∙ sum_by-same _ (λ b. one (holds x b)) B (each_all _ (λ b. ap one (and_self (holds x b))) B) ∙ sym (replication-is B x)

module _ (v : ℕ) (Size : ℕ → Type 0) where
  -- a block holds none of its points twice
  pub block_differs : (b : List ℕ) → IsBlock v Size b → Differs b
  block_differs b s = differs_from_rises b (rises_from_increasing b s.rises)

  -- what each of its points is
  pub block_points : (b : List ℕ) → IsBlock v Size b → All (λ x. (x < v) × (holds x b ≡ true)) b
  unfolding holds
  block_points b s m d h = (s.below m d h, list_any_at (λ z. z == get_or b m d) b m d h (eq-eqb (get_or b m d) (get_or b m d) refl))

  -- of the points below v a block holds as many as it is long
  pub points_of_block : (b : List ℕ) → IsBlock v Size b → sum_below v (λ y. one (holds y b)) ≡ length b
  points_of_block b s =
      sum_below-same v _ (λ y. sum_by (λ z. one (z == y)) b) (λ y l. one-holds y b (block_differs b s))
      ∙ sym (sum_by-sum_below (λ y z. one (z == y)) v b)
      ∙ sum_by-agree (λ z. z < v) _ (λ z. 1) b s.below (λ z l. count_equal v z l)
      ∙ sum_by-length b

module _ (B : List (List ℕ)) (v : ℕ) (Size : ℕ → Type 0) (blocks : All (IsBlock v Size) B) where
  -- the blocks through x, each as often as it has points
  pub covers_of_point : (x : ℕ) → sum_below v (λ y. cover B x y) ≡ sum_by (λ b. one (holds x b) * length b) B
  covers_of_point x =
      sum_below-same v _ (λ y. sum_by (λ b. one (holds x b && holds y b)) B) (λ y l. cover-is B x y)
      ∙ sym (sum_by-sum_below (λ y b. one (holds x b && holds y b)) v B)
      ∙ sum_by-agree (IsBlock v Size) _ (λ b. one (holds x b) * length b) B blocks (λ b s.
      sum_below-same v _ (λ y. one (holds x b) * one (holds y b)) (λ y l. one-and (holds x b) (holds y b))
      ∙ sum_below-mul v (one (holds x b)) (λ y. one (holds y b))
      ∙ ap (λ n. one (holds x b) * n) (points_of_block v Size b s))

  -- all blocks, each as often as it has points
  pub replications : sum_below v (replication B) ≡ sum_by length B
  replications =
      sum_below-same v _ (λ x. sum_by (λ b. one (holds x b)) B) (λ x l. replication-is B x)
      ∙ sym (sum_by-sum_below (λ x b. one (holds x b)) v B)
      ∙ sum_by-agree (IsBlock v Size) _ length B blocks (points_of_block v Size)

-- blocks of k points
module _ (B : List (List ℕ)) (v k : ℕ) (blocks : All (IsBlock v (λ size. size ≡ k)) B) where
  pub lengths_at : (x : ℕ) → sum_by (λ b. one (holds x b) * length b) B ≡ k * replication B x
  lengths_at x =
      sum_by-agree (IsBlock v (λ size. size ≡ k)) _ (λ b. k * one (holds x b)) B blocks (λ b s. ap (λ n. one (holds x b) * n) s.size ∙ omega arith)
      ∙ sum_by-mul k (λ b. one (holds x b)) B
      ∙ ap (λ n. k * n) (sym (replication-is B x))

  pub lengths : sum_by length B ≡ k * length B
  lengths = sum_by-agree (IsBlock v (λ size. size ≡ k)) length (λ b. k) B blocks (λ b s. s.size) ∙ sum_by-mul-one k B

module _ (B : List (List ℕ)) (v : ℕ) (Size : ℕ → Type 0) (want : ℕ → ℕ → ℕ) (turn : (x y : ℕ) → want x y ≡ want y x) (design : IsDesign B v Size want) where
  -- the cover of two points, in either order
  pub cover_of : (x y : ℕ) → x < v → y < v → y ≢ x → cover B x y ≡ want x y
  cover_of x y l m ne = elim (cases_order x y) [
    | inl e ↦ absurd (ne (sym e))
    | inr (inl w) ↦ design.pairs x y w m
    | inr (inr w) ↦ cover-turn B x y ∙ design.pairs y x w l ∙ turn y x
  ]

  -- the points with which x stands together, in all
  pub companions : (x : ℕ) → x < v → sum_by (λ b. one (holds x b) * length b) B + want x x ≡ sum_below v (want x) + replication B x
  companions x l = omega (
    arith,
    covers_of_point B v Size design.blocks x,
    sum_below-but v x (cover B x) (want x) l (λ y m ne. cover_of x y l m ne),
    cover-self B x,
  )
