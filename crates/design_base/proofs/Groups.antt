-- A transversal design holds one point of each group in each block, so it is an orthogonal array.
use Rattle.std.proofs.Common.{List, [], add-one, ap, arith, cond, get_or, length, map, suc, sym, zero, ℕ, ◌%◌, ◌*◌, ◌+◌, ◌-◌, ◌/◌, ◌<◌, ◌∙◌, ◌≡◌, ◌≢◌, ◌≤◌}
use Rattle.std.proofs.Math.Nat.{div-mul-le_self, mod-lt}
use Rattle.counting.proofs.Booleans.{eq-eqb}
use Rattle.std.proofs.lemmas.Grind.{same_number_lists}
use Rattle.std.proofs.lemmas.List.{ext_get_or, get_or-map, length-map}
use Rattle.std.proofs.lemmas.List.Elements.{All-map, All-weaker}
use Rattle.std.proofs.lemmas.Nat.{div_below, le-div}
use Rattle.std.specs.Prelude.{All}
use Rattle.counting.proofs.Ranges.{get_or-list_below, length-list_below}
use Rattle.design_base.proofs.Places.{across-apart, place-below, place-rises, place_of}
use Rattle.design_base.proofs.Points.{cover_positive, holds_element}
use Rattle.design_base.proofs.Rows.{cover-blocks_of_rows, oa_from_pairs}
use Rattle.design_base.specs.Arrays.{IsOa, IsRow, agree, blocks_of_rows, place, row_block, rows_of_blocks}
use Rattle.design_base.specs.Blocks.{IsBlock, IsTd, across, cover}

-- numbers below k that rise k times are 0, 1, .., k - 1
module _ (k : ℕ) (f : ℕ → ℕ) (rises : (i : ℕ) → suc i < k → f i < f (suc i)) (below : (i : ℕ) → i < k → f i < k) where
  climb : (i d j : ℕ) → i + d ≡ j → j < k → f i + d ≤ f j
  climb i zero j e l = omega (arith, ap f (the e))
    where
      the : i + 0 ≡ j → i ≡ j
      the e = omega arith
  climb i (suc d) zero e l = absurd (omega arith)
  climb i (suc d) (suc j) e l = omega (arith, climb i d j (omega arith) (omega arith), rises j l)

  pub rises_by_one : (j : ℕ) → j < k → f j ≡ j
  rises_by_one j l = omega (arith, climb 0 j j (omega arith) l, climb j (k - 1 - j) (k - 1) (omega arith) (omega arith), below (k - 1) (omega arith))

-- two points of one group
pub across-same : (n x y : ℕ) → x / n ≡ y / n → across n x y ≡ 0
unfolding across
across-same n x y e = ap (λ t. cond t 0 1) (eq-eqb (x / n) (y / n) e)

module _ (k n : ℕ) (B : List (List ℕ)) (pos : 0 < n) (td : IsTd B k n) where
  -- the j-th point of a block is in group j
  group_of : (m : ℕ) → m < length B → (j : ℕ) → j < k → get_or (get_or B m []) j 0 / n ≡ j
  group_of m l = rises_by_one k (λ j. get_or b j 0 / n) steps
      (λ i h. div_below (get_or b i 0) n k pos (omega (arith, s.below i 0 (omega (arith, s.size)))))
    where
      b : List ℕ
      b = get_or B m []

      s : IsBlock (n * k) (λ s. s ≡ k) b
      s = td.blocks m [] l

      up : (i : ℕ) → suc i < k → get_or b i 0 < get_or b (suc i) 0
      up i h = rw add-one at (s.rises i (omega (arith, s.size)))

      in_range : (i : ℕ) → i < k → get_or b i 0 < n * k
      in_range i h = s.below i 0 (omega (arith, s.size))

      apart : (i : ℕ) → suc i < k → get_or b i 0 / n ≢ get_or b (suc i) 0 / n
      apart i h e = omega (
        arith,
        cover_positive B m (get_or b i 0) (get_or b (suc i) 0) l (holds_element b i (omega (arith, s.size))) (holds_element b (suc i) (omega (arith, s.size))),
        td.pairs (get_or b i 0) (get_or b (suc i) 0) (up i h) (in_range (suc i) h),
        across-same n (get_or b i 0) (get_or b (suc i) 0) e,
      )

      steps : (i : ℕ) → suc i < k → get_or b i 0 / n < get_or b (suc i) 0 / n
      steps i h = omega (arith, apart i h, up i h, le-div (get_or b i 0 / n) (get_or b (suc i) 0) n pos (omega (arith, div-mul-le_self (get_or b i 0) n, up i h)))

  -- so a block is that of its row
  block_is_row : (m : ℕ) → m < length B → row_block k n (λ j. get_or (map (λ x. x % n) (get_or B m [])) j 0) ≡ get_or B m []
  unfolding row_block
  block_is_row m l = same_number_lists _ _ (length-list_below k _ ∙ sym s.size) (λ j h.
      let g : j < k = omega (arith, h, length-list_below k (λ j. place n j (get_or (map (λ x. x % n) b) j 0))) in
      get_or-list_below k (λ j. place n j (get_or (map (λ x. x % n) b) j 0)) j 0 g
      ∙ ap (place n j) (get_or-map (λ x. x % n) b j 0 0 (omega (arith, s.size)))
      ∙ ap (λ c. place n c (get_or b j 0 % n)) (sym (group_of m l j g))
      ∙ place_of n (get_or b j 0))
    where
      b : List ℕ
      b = get_or B m []

      s : IsBlock (n * k) (λ s. s ≡ k) b
      s = td.blocks m [] l

  pub blocks_of_rows_of_blocks : blocks_of_rows k n (rows_of_blocks n B) ≡ B
  unfolding blocks_of_rows rows_of_blocks
  blocks_of_rows_of_blocks = ext_get_or [] _ _ (length-map _ _ ∙ length-map _ _) (λ m h.
      let l : m < length B = omega (arith, h, length-map (map (map (λ x. x % n)) B) (λ r. row_block k n (λ j. get_or r j 0)), length-map B (map (λ x. x % n))) in
      get_or-map (λ r. row_block k n (λ j. get_or r j 0)) (map (map (λ x. x % n)) B) m [] [] (omega (arith, length-map B (map (λ x. x % n))))
      ∙ ap (λ r. row_block k n (λ j. get_or r j 0)) (get_or-map (map (λ x. x % n)) B m [] [] l)
      ∙ block_is_row m l)

  rows_of_td : All (IsRow k n) (rows_of_blocks n B)
  unfolding rows_of_blocks
  rows_of_td = All-map (IsRow k n) (map (λ x. x % n)) B (All-weaker (IsBlock (n * k) (λ s. s ≡ k)) (λ b. IsRow k n (map (λ x. x % n) b))
      (λ b s. record { size = length-map b (λ x. x % n) ∙ s.size; below = All-map (λ a. a < n) (λ x. x % n) b (λ i d h. mod-lt _ pos) }) B td.blocks)

  pub oa_from_td : 2 ≤ k → IsOa (rows_of_blocks n B) k n
  oa_from_td two = oa_from_pairs k n (rows_of_blocks n B) two rows_of_td pairs
    where
      pairs : (i j a b : ℕ) → i < j → j < k → a < n → b < n → agree (rows_of_blocks n B) i j a b ≡ 1
      pairs i j a b l m p q = sym (cover-blocks_of_rows k n (rows_of_blocks n B) rows_of_td i a j b (omega arith) m p q)
          ∙ ap (λ C. cover C (place n i a) (place n j b)) blocks_of_rows_of_blocks
          ∙ td.pairs (place n i a) (place n j b) (place-rises n i j a b l p) (omega (arith, place-below n k j b m q))
          ∙ across-apart n i a j b p q (omega arith)
