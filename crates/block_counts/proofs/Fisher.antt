-- Fisher's inequality, by the meets of one block with the others.
use Rattle.std.proofs.Common.{List, [], ap, arith, get_or, inl, inr, length, subst, suc, zero, ℕ, ◌*◌, ◌+◌, ◌-◌, ◌<◌, ◌∷◌, ◌≡◌, ◌≤◌}
use Rattle.std.proofs.Math.Nat.{le_dest, le_of_mul-le-mul_left, mul-le-mul_left, mul-le-mul_right, mul-pos}
use Rattle.counting.proofs.Booleans.{cases_lt}
use Rattle.std.proofs.lemmas.List.Edits.{length-remove}
use Rattle.std.specs.List.{sum_by}
use Rattle.std.specs.Prelude.{remove}
use Rattle.counting.proofs.Squares.{square_of_sum}
use Rattle.design_base.proofs.Cover.{cover-none}
use Rattle.design_base.specs.Blocks.{IsBibd}
use Rattle.block_counts.specs.Counts.{meet, replication_number}
use Rattle.block_counts.specs.Laws.{FisherLaw}
use Rattle.block_counts.proofs.Meeting.{meets_with_others, squares_with_others}
use Rattle.block_counts.proofs.Replication.{block_count, number_times}

-- what the count gives: r blocks at each point, n other blocks, s and q the sums of the meets and of their squares
record IsCounted (l n s q r k v : ℕ) : Type 0 where
  replication : r * k + l ≡ r + v * l
  count : suc n * k ≡ v * r
  meets : s + k ≡ k * r
  squares : q + k * k + k * l ≡ k * r + k * (k * l)
  square_of_sum : s * s ≤ n * q

-- r = a + 1, k = a + 1 + d, v = a + 1 + d + w: the square is too large for the squares, by w * w * r * d
module _ (a d w l n q : ℕ) (replication : (a + 1) * (a + d) ≡ l * (a + d + w)) (count : (n + 1) * (a + d + 1) ≡ (a + d + w + 1) * (a + 1)) (squares : q + d ≡ l * (a + d)) where
  times_points : (a + d + w) * q + (a + d + w) * d ≡ (a + 1) * (a + d) * (a + d)
  times_points = omega (arith, ap (λ t. (a + d) * t) replication, ap (λ t. (a + d + w) * t) squares)

  times_blocks : (a + d + w) * (a + d + 1) * (n * q) + w * w * (a + 1) * d ≡ (a + d + w) * (a + d + 1) * ((a + d + 1) * (a * a))
  times_blocks = omega (
    arith,
    ap (λ t. t * (n * (a + d + 1))) times_points,
    ap (λ t. t * (a + d + 1)) times_points,
    ap (λ t. t * ((a + 1) * (a + d) * (a + d))) count,
    ap (λ t. t * ((a + d + w) * d)) count,
  )

  too_large : (a + d + 1) * (a * a) ≤ n * q → 0 < d → 0 < w → ⊥
  too_large room less more = omega (
    arith,
    times_blocks,
    mul-le-mul_left ((a + d + w) * (a + d + 1)) room,
    mul-pos (mul-pos (mul-pos more more) (let h : 0 < a + 1 = omega arith in h)) less,
  )

contradiction : (l n s q a d w : ℕ) → IsCounted l n s q (a + 1) (a + 1 + d) (a + 1 + d + w) → 0 < d → 0 < w → ⊥
contradiction l n s q a d w c less more =
    let k = a + 1 + d in
    let positive : 0 < k = omega arith in
    let below : k ≤ a + 1 + (a + d) * l = le_of_mul-le-mul_left (let h : k * k ≤ k * (a + 1 + (a + d) * l) = omega (arith, c.squares) in h) positive in
    let part = le_dest below in
    let whole : q ≡ k * part.0 = omega (arith, c.squares, ap (λ t. k * t) part.1) in
    let sum : s ≡ k * a = omega (arith, c.meets) in
    let room : k * ((a + d + 1) * (a * a)) ≤ k * (n * part.0) = omega (arith, c.square_of_sum, ap (λ t. t * s) sum, ap (λ t. (k * a) * t) sum, ap (λ t. n * t) whole) in
    too_large a d w l n part.0 (omega (arith, c.replication)) (omega (arith, c.count)) (omega (arith, part.1)) (le_of_mul-le-mul_left room positive) less more

-- three numbers in order, by their differences
by_differences : (P : ℕ → ℕ → ℕ → Type 0) → ((a d w : ℕ) → P (a + 1) (a + 1 + d) (a + 1 + d + w)) → (r k v : ℕ) → 1 ≤ r → r ≤ k → k ≤ v → P r k v
by_differences P h r k v some le more =
    let a = le_dest some in
    let d = le_dest le in
    let w = le_dest more in
    let er : a.0 + 1 ≡ r = omega (arith, a.1) in
    let ek : a.0 + 1 + d.0 ≡ k = omega (arith, a.1, d.1) in
    let ev : a.0 + 1 + d.0 + w.0 ≡ v = omega (arith, a.1, d.1, w.1) in
    subst (λ t. P t k v) er (subst (λ t. P (a.0 + 1) t v) ek (subst (λ t. P (a.0 + 1) (a.0 + 1 + d.0) t) ev (h a.0 d.0 w.0)))

some_block : (l n s q r k v : ℕ) → IsCounted l n s q r k v → 2 ≤ k → k < v → 1 ≤ l → 1 ≤ r
some_block l n s q zero k v c two less some = absurd (omega (arith, c.replication, mul-le-mul_right l (let h : 3 ≤ v = omega arith in h)))
some_block l n s q (suc r) k v c two less some = omega arith

many : (l n s q r k v : ℕ) → IsCounted l n s q r k v → 2 ≤ k → k < v → 1 ≤ l → k ≤ r
many l n s q r k v c two less some = elim (cases_lt r k) [
  | inl h ↦ absurd (by_differences (λ r k v. IsCounted l n s q r k v → r < k → k < v → ⊥) (λ a d w c h g. contradiction l n s q a d w c (omega arith) (omega arith)) r k v (some_block l n s q r k v c two less some) (omega arith) (omega arith) c h less)
  | inr h ↦ h
]

module _ (B : List (List ℕ)) (v k l : ℕ) (design : IsBibd B v k l) (two : 2 ≤ k) (less : k < v) (some : 1 ≤ l) where
  not_empty : 0 < length B
  not_empty = go B design
    where
      go : (B : List (List ℕ)) → IsBibd B v k l → 0 < length B
      go [] d = absurd (omega (arith, cover-none 0 1, d.pairs 0 1 (omega arith) (omega arith)))
      go (b ∷ B) d = omega arith

  abbrev first : List ℕ
  first = get_or B 0 []

  counted : IsCounted l (length (remove B 0)) (sum_by (meet first) (remove B 0)) (sum_by (λ b. meet first b * meet first b) (remove B 0)) (replication_number v k l) k v
  counted = record {
    replication = omega (
      arith,
      number_times B v k l design two 0 (omega arith),
      ap (λ n. replication_number v k l * n) (let e : k ≡ k - 1 + 1 = omega arith in e),
      ap (λ n. n * l) (let e : v ≡ v - 1 + 1 = omega arith in e),
    );
    count = omega (arith, block_count B v k l design two, ap (λ n. n * k) (length-remove B 0 not_empty));
    meets = meets_with_others B v k l design two 0 not_empty;
    squares = omega (arith, squares_with_others B v k l design two 0 not_empty, ap (λ n. k * (l * n)) (let e : k ≡ k - 1 + 1 = omega arith in e));
    square_of_sum = square_of_sum (meet first) (remove B 0);
  }

  replication_many : k ≤ replication_number v k l
  replication_many = many l _ _ _ (replication_number v k l) k v counted two less some

  blocks_many : v ≤ length B
  blocks_many = le_of_mul-le-mul_left (let h : k * v ≤ k * length B = omega (arith, block_count B v k l design two, mul-le-mul_left v replication_many) in h) (omega arith)

pub fisher : FisherLaw
fisher B v k l design two less some = (replication_many B v k l design two less some, blocks_many B v k l design two less some)
