-- The complements of the blocks of a BIBD, and all points but one.
use Rattle.std.proofs.Common.{Bool, List, ap, ap₂, arith, false, inl, inr, length, not, refl, subst, sym, true, ℕ, ◌%◌, ◌&&◌, ◌*◌, ◌+◌, ◌-◌, ◌/◌, ◌<◌, ◌==◌, ◌∙◌, ◌≡◌, ◌≤◌}
use Rattle.std.proofs.Math.Nat.{eq_of_mul-eq-mul_right, mul-pos}
use Rattle.counting.proofs.Booleans.{both_equal, cases_lt, eqb-turn}
use Rattle.std.proofs.lemmas.List.Elements.{All-from_recursion}
use Rattle.counting.proofs.Counts.{count_equal, one-false, sum_below-add, sum_below-const, sum_below-same}
use Rattle.counting.proofs.Division.{whole_times}
use Rattle.counting.proofs.Lists.{All-map_of, each_all, sum_by-add, sum_by-length, sum_by-map, sum_by-same}
use Rattle.counting.proofs.Ranges.{each_below}
use Rattle.counting.specs.Sums.{one}
use Rattle.design_base.proofs.Canonical.{IsLoose, IsPointSet, design_from_loose}
use Rattle.design_base.proofs.Cover.{cover-each, cover-is}
use Rattle.design_base.specs.Blocks.{IsBibd, IsBlock, cover, holds, replication}
use Rattle.design_base.specs.Canonical.{canonical}
use Rattle.block_counts.proofs.Flags.{companions, lengths, lengths_at, points_of_block, replication-is, replications}
use Rattle.gdd_pbd.proofs.Kept.{holds-kept, kept_set}
use Rattle.gdd_pbd.proofs.BasicDesigns.{design_same, loose_times}
use Rattle.gdd_pbd.specs.Basic.{all_but_one, complement, kept, missing, omit_blocks, omitted}

-- neither, one and the other count once more than both
neither : (p q : Bool) → one (not p && not q) + (one p + one q) ≡ 1 + one (p && q)
unfolding one
neither true true = refl
neither true false = refl
neither false true = refl
neither false false = refl

other : (p : Bool) → one (not p) + one p ≡ 1
unfolding one
other true = refl
other false = refl

holds-missing : (v x : ℕ) (b : List ℕ) → x < v → holds x (missing v b) ≡ not (holds x b)
unfolding missing
holds-missing v x b l = holds-kept v x (λ x. not (holds x b)) l

-- the complement of a block of m points has k, where v is k + m
missing_set : (v k m : ℕ) (b : List ℕ) → k + m ≡ v → IsBlock v (λ s. s ≡ m) b → IsPointSet v (λ s. s ≡ k) (missing v b)
unfolding missing
missing_set v k m b e s = kept_set v k (λ x. not (holds x b)) (omega (
  arith,
  sum_below-add v (λ x. one (not (holds x b))) (λ x. one (holds x b)),
  sum_below-same v (λ x. one (not (holds x b)) + one (holds x b)) (λ x. 1) (λ x l. other (holds x b)),
  sum_below-const v 1,
  points_of_block v (λ s. s ≡ m) b s,
  s.size,
))

-- how often two points stand together in the complements
pub cover-complement : (v : ℕ) (B : List (List ℕ)) (x y : ℕ) → x < v → y < v → cover (complement v B) x y + (replication B x + replication B y) ≡ length B + cover B x y
unfolding complement
cover-complement v B x y l h = omega (
  arith,
  cover-is (complement v B) x y,
  cover-is B x y,
  replication-is B x,
  replication-is B y,
  sum_by-map (λ b. one (holds x b && holds y b)) (missing v) B,
  sum_by-same (λ b. one (holds x (missing v b) && holds y (missing v b))) (λ b. one (not (holds x b) && not (holds y b))) B (each_all _ (λ b. ap₂ (λ p q. one (p && q)) (holds-missing v x b l) (holds-missing v y b h)) B),
  sum_by-same (λ b. one (not (holds x b) && not (holds y b)) + (one (holds x b) + one (holds y b))) (λ b. 1 + one (holds x b && holds y b)) B (each_all _ (λ b. neither (holds x b) (holds y b)) B),
  sum_by-add (λ b. one (not (holds x b) && not (holds y b))) (λ b. one (holds x b) + one (holds y b)) B,
  sum_by-add (λ b. one (holds x b)) (λ b. one (holds y b)) B,
  sum_by-add (λ b. 1) (λ b. one (holds x b && holds y b)) B,
  sum_by-length B,
)

-- a factor that is not 0 may be left out
cancel : (e x y : ℕ) → 0 < e → e * x ≡ e * y → x ≡ y
cancel e x y pos h = eq_of_mul-eq-mul_right e pos x y (omega (arith, h))

-- in a design of blocks of e + 1 among e + f + 2 points: each point lies in c blocks
replication_is : (e f c r j l d : ℕ) → 0 < e → r * f ≡ l * (e + f + 1) → (r + c) * (f + 1) ≡ (e + f + 2) * r → j + r ≡ c + l → (e + 1) * d + j ≡ d + (e + f + 2) * j → d ≡ c
replication_is e f c r j l d pos big blocks shift each = cancel e d c pos (omega (arith, big, blocks, each, ap (λ t. (e + f + 1) * t) shift))

-- and there are r + c blocks
count_is : (e f c r n : ℕ) → (r + c) * (f + 1) ≡ (e + f + 2) * r → n * (e + 1) ≡ (e + f + 2) * c → n ≡ r + c
count_is e f c r n blocks count = cancel (e + 1) n (r + c) (omega arith) (omega (arith, blocks, count))

module _ (D : List (List ℕ)) (e f c r j l : ℕ) (pos : 0 < e) (big : r * f ≡ l * (e + f + 1)) (blocks : (r + c) * (f + 1) ≡ (e + f + 2) * r) (shift : j + r ≡ c + l)
    (design : IsBibd D (e + f + 2) (e + 1) j) where
  each_replication : (x : ℕ) → x < e + f + 2 → replication D x ≡ c
  each_replication x m = replication_is e f c r j l (replication D x) pos big blocks shift (omega (
    arith,
    companions D (e + f + 2) (λ s. s ≡ e + 1) (λ x y. j) (λ x y. refl) design x m,
    lengths_at D (e + f + 2) (e + 1) design.blocks x,
    sum_below-const (e + f + 2) j,
  ))

  all_blocks : length D * (e + 1) ≡ (e + f + 2) * c
  all_blocks = omega (
    arith,
    replications D (e + f + 2) (λ s. s ≡ e + 1) design.blocks,
    lengths D (e + f + 2) (e + 1) design.blocks,
    sum_below-same (e + f + 2) (replication D) (λ x. c) each_replication,
    sum_below-const (e + f + 2) c,
  )

  complement_loose : IsLoose (complement (e + f + 2) D) (e + f + 2) (λ s. s ≡ f + 1) (λ x y. l)
  unfolding complement
  complement_loose = record {
    blocks = All-map_of (IsBlock (e + f + 2) (λ s. s ≡ e + 1)) (IsPointSet (e + f + 2) (λ s. s ≡ f + 1)) (missing (e + f + 2)) D design.blocks (λ b s. missing_set (e + f + 2) (f + 1) (e + 1) b (omega arith) s);
    pairs = λ x y a b. omega (
      arith,
      cover-complement (e + f + 2) D x y (omega arith) b,
      each_replication x (omega arith),
      each_replication y b,
      design.pairs x y a b,
      count_is e f c r (length D) blocks all_blocks,
      shift,
    );
  }

-- there are at least as many blocks as blocks through one point
enough : (v k r b : ℕ) → 0 < k → k ≤ v → b * k ≡ v * r → r ≤ b
enough v k r b pos few e = elim (cases_lt b r) [
  | inl w ↦ absurd (omega (arith, e, mul-pos {m = r - b} {n = k} (omega arith) pos, ap (λ s. s * k) (parts b r w), ap (λ s. s * r) (rest v k few)))
  | inr w ↦ w
]
  where
    parts : (b r : ℕ) → b < r → r ≡ b + (r - b)
    parts b r w = omega arith

    rest : (v k : ℕ) → k ≤ v → v ≡ k + (v - k)
    rest v k l = omega arith

-- the same over v, k and b
complement_parts : (D : List (List ℕ)) (e f c r j l v k b : ℕ) → 0 < e → v ≡ e + f + 2 → k ≡ f + 1 → b ≡ r + c → r * (k - 1) ≡ l * (v - 1) → b * k ≡ v * r → j + 2 * r ≡ b + l → IsBibd D v (v - k) j → IsBibd (canonical (complement v D)) v k l
complement_parts D e f c r j l v k b pos points size count big blocks shift design =
    subst (λ w. IsBibd (canonical (complement w D)) w k l) (sym points) (subst (λ m. IsBibd (canonical (complement (e + f + 2) D)) (e + f + 2) m l) (sym size)
    (design_from_loose (e + f + 2) (λ s. s ≡ f + 1) (complement (e + f + 2) D) (λ x y. l)
    (complement_loose D e f c r j l pos
    (ap (λ t. r * t) (one_less f k size) ∙ big ∙ ap (λ t. l * t) (sym (one_less (e + f + 1) v (omega arith))))
    (ap₂ (λ s t. s * t) (sym count) (sym size) ∙ blocks ∙ ap (λ w. w * r) points)
    (omega (arith, shift))
    (subst (λ w. IsBibd D w (e + 1) j) points (subst (λ m. IsBibd D v m j) (left e f v k points size) design)))))
  where
    one_less : (f k : ℕ) → k ≡ f + 1 → f ≡ k - 1
    one_less f k e = omega arith

    left : (e f v k : ℕ) → v ≡ e + f + 2 → k ≡ f + 1 → v - k ≡ e + 1
    left e f v k a b = omega arith

-- rule complement: r and b are the numbers of blocks that a BIBD(v,k,l) would have through a point and in all
pub complement_is_bibd : (D : List (List ℕ)) (v k l r b j : ℕ) → 2 ≤ k → k + 2 ≤ v → r * (k - 1) ≡ l * (v - 1) → b * k ≡ v * r → j + 2 * r ≡ b + l → IsBibd D v (v - k) j → IsBibd (canonical (complement v D)) v k l
complement_is_bibd D v k l r b j two few big blocks shift design =
    complement_parts D (v - k - 1) (k - 1) (b - r) r j l v k b (omega arith) (omega arith) (omega arith) (omega (arith, enough v k r b (omega arith) (omega arith) blocks)) big blocks shift design

pub complement_of : (D : List (List ℕ)) (v k l : ℕ) → 2 ≤ k → k + 2 ≤ v → l * (v - 1) % (k - 1) ≡ 0 → v * (l * (v - 1) / (k - 1)) % k ≡ 0 →
    (j : ℕ) → j + 2 * (l * (v - 1) / (k - 1)) ≡ v * (l * (v - 1) / (k - 1)) / k + l → IsBibd D v (v - k) j → IsBibd (canonical (complement v D)) v k l
complement_of D v k l two few first second j shift design = complement_is_bibd D v k l (l * (v - 1) / (k - 1)) (v * (l * (v - 1) / (k - 1)) / k) j two few (whole_times (l * (v - 1)) (k - 1) first) (whole_times (v * (l * (v - 1) / (k - 1))) k second) shift design

-- ---- all points but one
module _ (v : ℕ) (two : 2 ≤ v) where
  but_one_set : (z : ℕ) → z < v → IsPointSet v (λ s. s ≡ v - 1) (kept v (λ x. not (x == z)))
  but_one_set z l = kept_set v (v - 1) (λ x. not (x == z)) (omega (
    arith,
    sum_below-add v (λ x. one (not (x == z))) (λ x. one (x == z)),
    sum_below-same v (λ x. one (not (x == z)) + one (x == z)) (λ x. 1) (λ x m. other (x == z)),
    sum_below-const v 1,
    sum_below-same v (λ x. one (x == z)) (λ x. one (z == x)) (λ x m. ap one (eqb-turn x z)),
    count_equal v z l,
  ))

  but_one_loose : IsLoose (all_but_one v v) v (λ s. s ≡ v - 1) (λ x y. v - 2)
  unfolding all_but_one
  but_one_loose = record {
    blocks = All-from_recursion (IsPointSet v (λ s. s ≡ v - 1)) _ (each_below (IsPointSet v (λ s. s ≡ v - 1)) v (λ z. kept v (λ x. not (x == z))) but_one_set);
    pairs = λ x y l m. omega (
      arith,
      cover-each v (λ z. kept v (λ x. not (x == z))) x y,
      sum_below-same v (λ z. one (holds x (kept v (λ x. not (x == z))) && holds y (kept v (λ x. not (x == z))))) (λ z. one (not (x == z) && not (y == z))) (λ z h. ap₂ (λ p q. one (p && q)) (holds-kept v x (λ x. not (x == z)) (omega arith)) (holds-kept v y (λ x. not (x == z)) m)),
      sum_below-same v (λ z. one (not (x == z) && not (y == z)) + (one (x == z) + one (y == z))) (λ z. 1) (λ z h. neither (x == z) (y == z) ∙ ap (λ t. 1 + t) (one-false _ (λ t. never x y z l t))),
      sum_below-add v (λ z. one (not (x == z) && not (y == z))) (λ z. one (x == z) + one (y == z)),
      sum_below-add v (λ z. one (x == z)) (λ z. one (y == z)),
      sum_below-const v 1,
      count_equal v x (omega arith),
      count_equal v y m,
    );
  }
    where
      never : (x y z : ℕ) → x < y → ((x == z) && (y == z)) ≡ true → ⊥
      never x y z l t = let h = both_equal x y z z t in omega arith

-- rule omit
pub omit_is_bibd : (v l : ℕ) → 3 ≤ v → l % (v - 2) ≡ 0 → IsBibd (canonical (omit_blocks v l)) v (v - 1) l
unfolding omitted
omit_is_bibd v l three whole = design_same _ v (λ s. s ≡ v - 1) (λ s. s ≡ v - 1) (λ x y. l / (v - 2) * (v - 2)) (λ x y. l) (λ s e. e) (λ x y a b. whole_times l (v - 2) whole)
    (design_from_loose v (λ s. s ≡ v - 1) _ (λ x y. l / (v - 2) * (v - 2)) (loose_times (all_but_one v v) v (l / (v - 2)) (v - 2) (λ s. s ≡ v - 1) (but_one_loose v (omega arith))))
