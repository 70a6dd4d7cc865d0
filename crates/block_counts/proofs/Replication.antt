-- The replication number of a block design, and how many blocks it has.
use Rattle.std.proofs.Common.{List, ap, arith, refl, sym, ℕ, ◌*◌, ◌+◌, ◌-◌, ◌/◌, ◌<◌, ◌∙◌, ◌≡◌, ◌≤◌}
use Rattle.std.proofs.Math.Nat.{mul-div_cancel}
use Rattle.counting.proofs.Counts.{sum_below-const, sum_below-same}
use Rattle.design_base.specs.Blocks.{IsBibd, replication}
use Rattle.block_counts.specs.Counts.{replication_number}
use Rattle.block_counts.specs.Laws.{CountLaw, ReplicationLaw}
use Rattle.block_counts.proofs.Flags.{companions, lengths, lengths_at, replications}

module _ (B : List (List ℕ)) (v k l : ℕ) (design : IsBibd B v k l) (two : 2 ≤ k) where
  pub replication_times : (x : ℕ) → x < v → replication B x * (k - 1) ≡ l * (v - 1)
  replication_times x m = omega (
    arith,
    companions B v (λ size. size ≡ k) (λ x y. l) (λ x y. refl) design x m,
    lengths_at B v k design.blocks x,
    sum_below-const v l,
    ap (λ n. n * replication B x) (let e : k ≡ k - 1 + 1 = omega arith in e),
    ap (λ n. n * l) (let e : v ≡ v - 1 + 1 = omega arith in e),
  )

  pub replication_is : (x : ℕ) → x < v → replication B x ≡ replication_number v k l
  replication_is x m = sym (mul-div_cancel (replication B x) (let e : 0 < k - 1 = omega arith in e)) ∙ ap (λ n. n / (k - 1)) (replication_times x m)

  pub number_times : (x : ℕ) → x < v → replication_number v k l * (k - 1) ≡ l * (v - 1)
  number_times x m = ap (λ r. r * (k - 1)) (sym (replication_is x m)) ∙ replication_times x m

pub replication_law : ReplicationLaw
replication_law B v k l design two x m = (replication_is B v k l design two x m, number_times B v k l design two x m)

pub block_count : CountLaw
block_count B v k l design two = omega (
  arith,
  replications B v (λ size. size ≡ k) design.blocks,
  lengths B v k design.blocks,
  sum_below-same v (replication B) (λ x. replication_number v k l) (replication_is B v k l design two),
  sum_below-const v (replication_number v k l),
)
