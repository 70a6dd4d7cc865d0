-- The blocks through one point of a pairwise balanced design cut the other points into parts.
use Rattle.std.proofs.Common.{List, [], ap, arith, inl, inr, length, refl, ℕ, ◌*◌, ◌+◌, ◌-◌, ◌∷◌, ◌≡◌, ◌≤◌, ◌⊎◌}
use Rattle.std.proofs.lemmas.List.Elements.{recursion_from_All}
use Rattle.std.proofs.lemmas.List.Sums.{sum_by-cons}
use Rattle.std.specs.List.{AllByRecursion, sum_by}
use Rattle.counting.proofs.Counts.{sum_below-const}
use Rattle.counting.specs.Sums.{one}
use Rattle.design_base.specs.Blocks.{IsBlock, holds, replication}
use Rattle.block_counts.specs.Laws.{PartsLaw}
use Rattle.block_counts.proofs.Flags.{companions, replication-is}

abbrev Size : ℕ → ℕ → Type 0
Size s size = (size ≡ s) ⊎ (size ≡ s + 1)

-- the blocks through x, each as often as it has points, are between s and s + 1 times their number
lengths_between : (v s x : ℕ) (B : List (List ℕ)) → AllByRecursion (IsBlock v (Size s)) B →
    (s * replication B x ≤ sum_by (λ b. one (holds x b) * length b) B) × (sum_by (λ b. one (holds x b) * length b) B ≤ (s + 1) * replication B x)
lengths_between v s x [] all = let none : replication [] x ≡ 0 = replication-is [] x in (omega (arith, ap (λ n. s * n) none), omega (arith, none))
lengths_between v s x (b ∷ B) all =
    let rest = lengths_between v s x B all.1 in
    let more : replication (b ∷ B) x ≡ one (holds x b) + replication B x = omega (arith, replication-is (b ∷ B) x, replication-is B x, sum_by-cons (λ b. one (holds x b)) b B) in
    let low : s * replication (b ∷ B) x ≡ s * one (holds x b) + s * replication B x = omega (arith, ap (λ n. s * n) more) in
    let sum = sum_by-cons (λ b. one (holds x b) * length b) b B in
    elim (all.0.size) [
      | inl e ↦ (let f = ap (λ n. one (holds x b) * n) e in (omega (arith, low, sum, f, rest.0), omega (arith, low, more, sum, f, rest.1)))
      | inr e ↦ (let f = ap (λ n. one (holds x b) * n) e in (omega (arith, low, sum, f, rest.0), omega (arith, low, more, sum, f, rest.1)))
    ]

pub parts : PartsLaw
parts B v s design some x l =
    let all = companions B v (Size s) (λ x y. 1) (λ x y. refl) design x l in
    let between = lengths_between v s x B (recursion_from_All (IsBlock v (Size s)) B design.blocks) in
    let points = sum_below-const v 1 in (
      omega (arith, all, between.0, points, ap (λ n. n * replication B x) (let e : s ≡ s - 1 + 1 = omega arith in e)),
      omega (arith, all, between.1, points),
    )
