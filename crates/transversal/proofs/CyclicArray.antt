-- The array of the rows x, y, x + y modulo n.
use Rattle.std.proofs.Common.{[], ap, ap₂, arith, get_or, length, refl, suc, sym, take, zero, ℕ, ◌%◌, ◌*◌, ◌+◌, ◌<◌, ◌∙◌, ◌∷◌, ◌≡◌, ◌≤◌}
use Rattle.std.proofs.Math.Nat.{mod-lt}
use Rattle.std.proofs.lemmas.List.{get_or-take, length-take-le}
use Rattle.counting.proofs.Residues.{add_cancels, add_solves}
use Rattle.design_base.proofs.Solutions.{IsSolvable}
use Rattle.design_base.specs.Arrays.{IsOa, blocks_of_rows, place, row_block}
use Rattle.counting.specs.Sums.{join_below}
use Rattle.transversal.specs.Constructions.{cyclic_row, cyclic_rows}
use Rattle.transversal.proofs.Square.{square_is_oa}

-- the entry in column j
pub sum_entry : ℕ → ℕ → ℕ → ℕ → ℕ
sum_entry n x y zero = x
sum_entry n x y (suc zero) = y
sum_entry n x y (suc (suc j)) = (x + y) % n

swapped : (n x y : ℕ) → (x + y) % n ≡ (y + x) % n
swapped n x y = ap (λ s. s % n) (omega arith)

solvable : (n : ℕ) → 0 < n → IsSolvable 3 n (sum_entry n)
unfolding sum_entry
solvable n pos = record { small = small; solves = solves; unique = unique }
  where
    small : (x y j : ℕ) → x < n → y < n → j < 3 → sum_entry n x y j < n
    small x y zero l m h = l
    small x y (suc zero) l m h = m
    small x y (suc (suc j)) l m h = mod-lt (x + y) pos

    solves : (i j a b : ℕ) → i < j → j < 3 → a < n → b < n → (x : ℕ) × (y : ℕ) × (x < n) × (y < n) × (sum_entry n x y i ≡ a) × (sum_entry n x y j ≡ b)
    solves zero (suc zero) a b l h la lb = (a, b, la, lb, refl, refl)
    solves zero (suc (suc j)) a b l h la lb = let y = add_solves n a b la lb in (a, y.0, la, y.1, refl, y.2)
    solves (suc zero) (suc (suc j)) a b l h la lb = let x = add_solves n a b la lb in (x.0, a, x.1, la, refl, swapped n x.0 a ∙ x.2)
    solves (suc (suc i)) (suc (suc j)) a b l h la lb = absurd (omega arith)
    solves (suc i) (suc zero) a b l h la lb = absurd (omega arith)
    solves i zero a b l h la lb = absurd (omega arith)

    unique : (i j x y z w : ℕ) → i < j → j < 3 → x < n → y < n → z < n → w < n → sum_entry n x y i ≡ sum_entry n z w i → sum_entry n x y j ≡ sum_entry n z w j → (x ≡ z) × (y ≡ w)
    unique zero (suc zero) x y z w l h lx ly lz lw e f = (e, f)
    unique zero (suc (suc j)) x y z w l h lx ly lz lw e f = (e, add_cancels n x y w ly lw (f ∙ ap (λ k. (k + w) % n) (sym e)))
    unique (suc zero) (suc (suc j)) x y z w l h lx ly lz lw e f = (add_cancels n y x z lx lz (swapped n y x ∙ f ∙ swapped n z w ∙ ap (λ k. (k + z) % n) (sym e)), e)
    unique (suc (suc i)) (suc (suc j)) x y z w l h lx ly lz lw e f = absurd (omega arith)
    unique (suc i) (suc zero) x y z w l h lx ly lz lw e f = absurd (omega arith)
    unique i zero x y z w l h lx ly lz lw e f = absurd (omega arith)

three : (n x y j : ℕ) → j < 3 → get_or (x ∷ y ∷ (x + y) % n ∷ []) j 0 ≡ sum_entry n x y j
unfolding sum_entry
three n x y zero l = refl
three n x y (suc zero) l = refl
three n x y (suc (suc zero)) l = refl
three n x y (suc (suc (suc j))) l = absurd (omega arith)

module _ (k n x y : ℕ) (most : k ≤ 3) where
  size : length (cyclic_row k n x y) ≡ k
  unfolding cyclic_row
  size = length-take-le k (x ∷ y ∷ (x + y) % n ∷ []) most

  entry : (j : ℕ) → j < k → get_or (cyclic_row k n x y) j 0 ≡ sum_entry n x y j
  unfolding cyclic_row
  entry j l = get_or-take k (x ∷ y ∷ (x + y) % n ∷ []) j 0 l ∙ three n x y j (omega arith)

-- the block of a row, cut to k columns
pub block_of_sums : (k n x y : ℕ) → k ≤ 3 → blocks_of_rows k n (cyclic_row k n x y ∷ []) ≡ take k (x ∷ (n + y) ∷ (2 * n + (x + y) % n) ∷ []) ∷ []
unfolding cyclic_row blocks_of_rows row_block place join_below
block_of_sums zero n x y most = refl
block_of_sums (suc zero) n x y most = ap (λ a. (a ∷ []) ∷ []) (omega arith)
block_of_sums (suc (suc zero)) n x y most = ap₂ (λ a b. (a ∷ b ∷ []) ∷ []) (omega arith) (omega arith)
block_of_sums (suc (suc (suc zero))) n x y most = ap₂ (λ a b. (a ∷ b ∷ (2 * n + (x + y) % n) ∷ []) ∷ []) (omega arith) (omega arith)
block_of_sums (suc (suc (suc (suc k)))) n x y most = absurd (omega arith)

pub cyclic_is_oa : (k n : ℕ) → 2 ≤ k → k ≤ 3 → 0 < n → IsOa (cyclic_rows k n) k n
unfolding cyclic_rows
cyclic_is_oa k n two most pos =
    let s : IsSolvable 3 n (sum_entry n) = solvable n pos in
    square_is_oa k n (cyclic_row k n) (sum_entry n) (λ x y. size k n x y most) (λ x y j l. entry k n x y most j l)
    two (record {
      small = λ x y j lx ly l. s.small x y j lx ly (omega arith);
      solves = λ i j a b l m la lb. s.solves i j a b l (omega arith) la lb;
      unique = λ i j x y z w l m. s.unique i j x y z w l (omega arith);
    })
