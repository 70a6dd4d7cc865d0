-- What the numbers of a design obey, as in Stinson's Combinatorial Designs. A block may stand in the list more than once.
use Rattle.std.specs.Prelude.{ℕ, List, [], ◌-◌, ◌*◌, ◌<◌, ◌≤◌, ◌≡◌, length, remove, slice_index_or, sum_by}
use Rattle.design_base.specs.Blocks.{IsBibd, IsGdd, IsPbd, IsDf, replication}
use Rattle.block_counts.specs.Counts.{meet, replication_number}

-- each point of a block design stands in r blocks, and r (k - 1) = l (v - 1)
abbrev pub ReplicationLaw : Type 0
ReplicationLaw = (B : List (List ℕ)) (v k l : ℕ) → IsBibd B v k l → 2 ≤ k → (x : ℕ) → x < v →
    (replication B x ≡ replication_number v k l) × (replication_number v k l * (k - 1) ≡ l * (v - 1))

-- v r = b k, where b is the number of blocks
abbrev pub CountLaw : Type 0
CountLaw = (B : List (List ℕ)) (v k l : ℕ) → IsBibd B v k l → 2 ≤ k → v * replication_number v k l ≡ length B * k

-- one block meets the other blocks in k (r - 1) points in all
abbrev pub MeetsLaw : Type 0
MeetsLaw = (B : List (List ℕ)) (v k l : ℕ) → IsBibd B v k l → 2 ≤ k → (i : ℕ) → i < length B →
    sum_by (meet (slice_index_or B i [])) (remove B i) ≡ k * (replication_number v k l - 1)

-- and in k (k - 1) (l - 1) ordered pairs of points: where it meets a block in a points, these are a (a - 1)
abbrev pub MeetPairsLaw : Type 0
MeetPairsLaw = (B : List (List ℕ)) (v k l : ℕ) → IsBibd B v k l → 2 ≤ k → (i : ℕ) → i < length B →
    sum_by (λ b. meet (slice_index_or B i []) b * (meet (slice_index_or B i []) b - 1)) (remove B i) ≡ k * (k - 1) * (l - 1)

-- Fisher's inequality: each point stands in k blocks or more, and there are as many blocks as points or more
abbrev pub FisherLaw : Type 0
FisherLaw = (B : List (List ℕ)) (v k l : ℕ) → IsBibd B v k l → 2 ≤ k → k < v → 1 ≤ l →
    (k ≤ replication_number v k l) × (v ≤ length B)

-- a point of a group divisible design stands in so many blocks that, taken k - 1 times, they are the points of the other groups
abbrev pub GroupReplicationLaw : Type 0
GroupReplicationLaw = (B : List (List ℕ)) (k g u : ℕ) → IsGdd B k g u → 2 ≤ k → (x : ℕ) → x < g * u → replication B x * (k - 1) ≡ g * (u - 1)

-- the ordered pairs of points of different groups are those of the blocks
abbrev pub GroupCountLaw : Type 0
GroupCountLaw = (B : List (List ℕ)) (k g u : ℕ) → IsGdd B k g u → 2 ≤ k → length B * (k * (k - 1)) ≡ g * g * u * (u - 1)

-- a block has no two points of one group
abbrev pub FewGroupsLaw : Type 0
FewGroupsLaw = (B : List (List ℕ)) (k g u : ℕ) → IsGdd B k g u → 1 ≤ g → 2 ≤ u → k ≤ u

-- the blocks through one point cut the other points into parts of s - 1 or s points
abbrev pub PartsLaw : Type 0
PartsLaw = (B : List (List ℕ)) (v s : ℕ) → IsPbd B v s → 1 ≤ s → (x : ℕ) → x < v →
    (replication B x * (s - 1) ≤ v - 1) × (v - 1 ≤ replication B x * s)

-- the sum of a group on the numbers below v: x plus a difference is y
pub record IsGroupSum (v : ℕ) (add : ℕ → ℕ → ℕ) : Type 0 where
  pub zero_neutral : (x : ℕ) → x < v → add x 0 ≡ x
  pub reaches : (x y : ℕ) → x < v → y < v → (d : ℕ) × (d < v) × (add x d ≡ y)
  pub cancels : (x d e : ℕ) → x < v → d < v → e < v → add x d ≡ add x e → d ≡ e

-- the ordered pairs of different elements of the base blocks of a difference family are l for each element but 0
abbrev pub DifferencesLaw : Type 0
DifferencesLaw = (B : List (List ℕ)) (add : ℕ → ℕ → ℕ) (v k l : ℕ) → IsGroupSum v add → IsDf B add v k l → 1 ≤ v → length B * (k * (k - 1)) ≡ l * (v - 1)
