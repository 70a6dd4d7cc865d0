-- The rows of three symbols and their sum modulo n are an array of strength three.
use Rattle.std.proofs.Common.{ap, ap₂, arith, suc, sym, zero, ℕ, ◌%◌, ◌+◌, ◌<◌, ◌∙◌, ◌≡◌, ◌≤◌}
use Rattle.std.proofs.Math.Nat.{mod-lt}
use Rattle.counting.proofs.Residues.{add_cancels}
use Rattle.three_designs.specs.Arrays.{cube_rows, sum_entry}
use Rattle.three_designs.specs.StrengthThree.{IsOa3}
use Rattle.three_designs.proofs.Cubes.{IsDetermined, cube_is_oa3}

module _ (n : ℕ) (pos : 0 < n) where
  -- the last of four numbers that have the same sum
  last_same : (x y z u v w : ℕ) → x ≡ u → y ≡ v → z < n → w < n → (x + y + z) % n ≡ (u + v + w) % n → z ≡ w
  last_same x y z u v w e f l m g = add_cancels n (x + y) z w l m (g ∙ ap₂ (λ s t. (s + t + w) % n) (sym e) (sym f))

  middle_same : (x y z u v w : ℕ) → x ≡ u → z ≡ w → y < n → v < n → (x + y + z) % n ≡ (u + v + w) % n → y ≡ v
  middle_same x y z u v w e f l m g = last_same x z y u w v e f l m (ap (λ t. t % n) (turned x z y) ∙ g ∙ ap (λ t. t % n) (sym (turned u w v)))
    where
      turned : (a b c : ℕ) → a + b + c ≡ a + c + b
      turned a b c = omega arith

  first_same : (x y z u v w : ℕ) → y ≡ v → z ≡ w → x < n → u < n → (x + y + z) % n ≡ (u + v + w) % n → x ≡ u
  first_same x y z u v w e f l m g = last_same y z x v w u e f l m (ap (λ t. t % n) (turned y z x) ∙ g ∙ ap (λ t. t % n) (sym (turned v w u)))
    where
      turned : (a b c : ℕ) → a + b + c ≡ c + a + b
      turned a b c = omega arith

  sums_determined : (k : ℕ) → k ≤ 4 → IsDetermined k n (sum_entry n)
  sums_determined k few = record { small = small; unique = unique }
    where
      small : (x y z j : ℕ) → x < n → y < n → z < n → j < k → sum_entry n x y z j < n
      small x y z zero lx ly lz l = lx
      small x y z (suc zero) lx ly lz l = ly
      small x y z (suc (suc zero)) lx ly lz l = lz
      small x y z (suc (suc (suc j))) lx ly lz l = mod-lt (x + y + z) pos

      unique : (h i j x y z u v w : ℕ) → h < i → i < j → j < k → x < n → y < n → z < n → u < n → v < n → w < n
          → sum_entry n x y z h ≡ sum_entry n u v w h → sum_entry n x y z i ≡ sum_entry n u v w i → sum_entry n x y z j ≡ sum_entry n u v w j → (x ≡ u) × (y ≡ v) × (z ≡ w)
      unique zero (suc zero) (suc (suc zero)) x y z u v w lh li lj lx ly lz lu lv lw e f g = (e, f, g)
      unique zero (suc zero) (suc (suc (suc j))) x y z u v w lh li lj lx ly lz lu lv lw e f g = (e, f, last_same x y z u v w e f lz lw g)
      unique zero (suc (suc zero)) (suc (suc (suc j))) x y z u v w lh li lj lx ly lz lu lv lw e f g = (e, middle_same x y z u v w e f ly lv g, f)
      unique (suc zero) (suc (suc zero)) (suc (suc (suc j))) x y z u v w lh li lj lx ly lz lu lv lw e f g = (first_same x y z u v w e f lx lu g, e, f)
      unique h i j x y z u v w lh li lj lx ly lz lu lv lw e f g = absurd (omega arith)

  pub sums_are_oa3 : (k : ℕ) → k ≤ 4 → IsOa3 (cube_rows k n (sum_entry n)) k n
  sums_are_oa3 k few = cube_is_oa3 k n (sum_entry n) (sums_determined k few)
