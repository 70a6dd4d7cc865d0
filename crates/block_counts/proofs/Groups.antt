-- Group divisible designs: the replication number, the number of blocks, and how many groups a block needs.
use Rattle.std.proofs.Common.{Bool, List, [], ap, arith, cond, false, get_or, length, mul_comm, refl, suc, sym, true, zero, ℕ, ◌*◌, ◌+◌, ◌-◌, ◌/◌, ◌<◌, ◌==◌, ◌∙◌, ◌∷◌, ◌≡◌, ◌≢◌, ◌≤◌}
use Rattle.design_base.proofs.Groups.{across-same}
use Rattle.std.proofs.Math.Nat.{div-mul-le_self, div_self, zero-div, mul-le-mul_left}
use Rattle.counting.proofs.Booleans.{bool_same, eq-eqb, eqb-true}
use Rattle.std.proofs.lemmas.Nat.{div-mul-add, div_below, le-div}
use Rattle.counting.proofs.ButOne.{sum_below-groups}
use Rattle.counting.proofs.Counts.{count_equal, one-false, sum_below-add, sum_below-const, sum_below-mul, sum_below-same}
use Rattle.counting.specs.Sums.{one, sum_below}
use Rattle.design_base.proofs.Cover.{cover-none}
use Rattle.design_base.proofs.Points.{cover_positive, holds_element}
use Rattle.design_base.specs.Blocks.{IsBlock, IsGdd, across, replication}
use Rattle.block_counts.specs.Laws.{FewGroupsLaw, GroupCountLaw, GroupReplicationLaw}
use Rattle.block_counts.proofs.Flags.{companions, lengths, lengths_at, replications}

across-turn : (g x y : ℕ) → across g x y ≡ across g y x
unfolding across
across-turn g x y = ap (λ t. cond t 0 1) (bool_same _ _ (λ e. eq-eqb (y / g) (x / g) (sym (eqb-true (x / g) (y / g) e))) (λ e. eq-eqb (x / g) (y / g) (sym (eqb-true (y / g) (x / g) e))))

-- y is in another group, or in group x / g
across_or_in : (g x y : ℕ) → across g x y + one (x / g == y / g) ≡ 1
unfolding across one
across_or_in g x y = go (x / g == y / g)
  where
    go : (t : Bool) → cond t 0 1 + cond t 1 0 ≡ 1
    go true = refl
    go false = refl

-- a group has g points
group_size : (g u j : ℕ) → j < u → sum_below (g * u) (λ y. one (j == y / g)) ≡ g
group_size g u j l =
    ap (λ t. sum_below t (λ y. one (j == y / g))) (mul_comm g u)
    ∙ sum_below-groups u g (λ y. one (j == y / g))
    ∙ sum_below-same u _ (λ c. g * one (j == c)) (λ c m. sum_below-same g _ (λ a. one (j == c)) (λ a h. ap (λ t. one (j == t)) (div-mul-add c g a h)) ∙ sum_below-const g (one (j == c)))
    ∙ sum_below-mul u g (λ c. one (j == c))
    ∙ omega (arith, ap (λ t. g * t) (count_equal u j l))

-- the points of other groups
others_of : (g u x : ℕ) → x < g * u → sum_below (g * u) (across g x) + g ≡ g * u
others_of g u x l = omega (
  arith,
  group_size g u (x / g) (div_below x g u (positive g l) (omega (arith, mul_comm g u))),
  sum_below-add (g * u) (across g x) (λ y. one (x / g == y / g)),
  sum_below-same (g * u) (λ y. across g x y + one (x / g == y / g)) (λ y. 1) (λ y m. across_or_in g x y),
  sum_below-const (g * u) 1,
)
  where
    positive : (g : ℕ) → x < g * u → 0 < g
    positive zero h = absurd (omega arith)
    positive (suc g) h = omega arith

module _ (B : List (List ℕ)) (k g u : ℕ) (design : IsGdd B k g u) (two : 2 ≤ k) where
  replication_times : (x : ℕ) → x < g * u → replication B x * (k - 1) ≡ g * (u - 1)
  replication_times x l = omega (
    arith,
    companions B (g * u) (λ size. size ≡ k) (across g) (across-turn g) design x l,
    across-same g x x refl,
    others_of g u x l,
    lengths_at B (g * u) k design.blocks x,
    ap (λ n. n * replication B x) (let e : k ≡ k - 1 + 1 = omega arith in e),
    ap (λ n. g * n) (let e : u ≡ u - 1 + 1 = some u l in e),
  )
    where
      some : (u : ℕ) → x < g * u → u ≡ u - 1 + 1
      some zero h = absurd (omega arith)
      some (suc u) h = omega arith

  pairs : length B * (k * (k - 1)) ≡ g * g * u * (u - 1)
  pairs = omega (
    arith,
    ap (λ n. n * (k - 1)) (replications B (g * u) (λ size. size ≡ k) design.blocks),
    ap (λ n. n * (k - 1)) (lengths B (g * u) k design.blocks),
    sum_below-mul (g * u) (k - 1) (replication B),
    sum_below-same (g * u) (λ x. (k - 1) * replication B x) (λ x. g * (u - 1)) (λ x l. omega (arith, replication_times x l)),
    sum_below-const (g * u) (g * (u - 1)),
  )

pub group_replication : GroupReplicationLaw
group_replication B k g u design two = replication_times B k g u design two

pub group_count : GroupCountLaw
group_count B k g u design two = pairs B k g u design two

-- the points of a block stand in groups that rise
module _ (B : List (List ℕ)) (k g u : ℕ) (design : IsGdd B k g u) (some : 1 ≤ g) (m : ℕ) (here : m < length B) where
  abbrev point : ℕ → ℕ
  point i = get_or (get_or B m []) i 0

  block : IsBlock (g * u) (λ size. size ≡ k) (get_or B m [])
  block = design.blocks m [] here

  in_range : (i : ℕ) → i < k → point i < g * u
  in_range i h = block.below i 0 (omega (arith, block.size))

  rises : (i : ℕ) → suc i < k → point i < point (suc i)
  rises i h = omega (arith, next i, block.rises i (omega (arith, block.size)))
    where
      next : (i : ℕ) → point (i + 1) ≡ point (suc i)
      next i = ap point (let e : i + 1 ≡ suc i = omega arith in e)

  apart : (i : ℕ) → suc i < k → point i / g ≢ point (suc i) / g
  apart i h e = omega (
    arith,
    cover_positive B m (point i) (point (suc i)) here (holds_element (get_or B m []) i (omega (arith, block.size))) (holds_element (get_or B m []) (suc i) (omega (arith, block.size))),
    design.pairs (point i) (point (suc i)) (rises i h) (in_range (suc i) h),
    across-same g (point i) (point (suc i)) e,
  )

  -- so the i-th point is in group i or a later one
  in_later_group : (i : ℕ) → i < k → i ≤ point i / g
  in_later_group zero h = omega arith
  in_later_group (suc i) h = omega (
    arith,
    in_later_group i (omega arith),
    apart i h,
    le-div (point i / g) (point (suc i)) g some (omega (arith, div-mul-le_self (point i) g, rises i h)),
  )

  groups_enough : k ≤ u
  groups_enough = go k in_later_group in_range
    where
      go : (k : ℕ) → ((i : ℕ) → i < k → i ≤ point i / g) → ((i : ℕ) → i < k → point i < g * u) → k ≤ u
      go zero later below = omega arith
      go (suc j) later below = omega (arith, later j (omega arith), div_below (point j) g u some (omega (arith, mul_comm g u, below j (omega arith))))

-- points of the first two groups stand together, so there is a block
some_block : (B : List (List ℕ)) (k g u : ℕ) → IsGdd B k g u → 1 ≤ g → 2 ≤ u → 0 < length B
some_block [] k g u design some two = absurd (omega (
  arith,
  cover-none 0 g,
  design.pairs 0 g some (omega (arith, mul-le-mul_left g two)),
  across_or_in g 0 g,
  one-false (0 / g == g / g) (λ t. let e : 0 ≡ 1 = sym (zero-div g) ∙ eqb-true (0 / g) (g / g) t ∙ div_self some in omega arith),
))
some_block (b ∷ B) k g u design some two = omega arith

pub few_groups : FewGroupsLaw
few_groups B k g u design some two = groups_enough B k g u design some 0 (some_block B k g u design some two)
