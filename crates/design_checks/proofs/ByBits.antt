-- Bits that say which points of different groups meet, and what follows where all of them are set.
use Rattle.std.proofs.Common.{List, [], ap, ap₂, arith, drop, get_or, inl, inr, length, length-drop, map, refl, replicate, set, subst, sym, take, ℕ, ◌*◌, ◌++◌, ◌+◌, ◌-◌, ◌/◌, ◌<◌, ◌^◌, ◌∙◌, ◌∷◌, ◌≡◌, ◌≢◌, ◌≤◌}
use Rattle.counting.proofs.Booleans.{and_from, cases_eq}
use Rattle.std.proofs.lemmas.Grind.{get_or-set_at, get_or_default_zero, same_number_lists}
use Rattle.std.proofs.lemmas.List.{get_or-drop, get_or-replicate, get_or-set_other, get_or-take, length-map, length-take-le}
use Rattle.std.proofs.lemmas.List.Elements.{All-map, All-weaker, recursion_from_All}
use Rattle.std.proofs.lemmas.Nat.{mul-add-lt, same_from_place}
use Rattle.std.proofs.lemmas.Nat.Bits.{bit_at-zero, bit_at_ones, ones_shr}
use Rattle.std.specs.Int.{bit_at}
use Rattle.std.specs.List.{AllByRecursion}
use Rattle.std.specs.Prelude.{All}
use Rattle.counting.proofs.Counts.{one-true, sum_below-const, sum_below-le}
use Rattle.counting.proofs.Ranges.{get_or-list_below, length-list_below}
use Rattle.counting.proofs.Totals.{each_least}
use Rattle.counting.specs.Sums.{list_below, sum_below}
use Rattle.design_base.proofs.Cover.{cover-append, cover-single}
use Rattle.design_base.proofs.Points.{holds_element}
use Rattle.design_base.proofs.Rows.{agree-all, cover-blocks_of_rows, oa_from_pairs, td_from_oa}
use Rattle.design_base.specs.Arrays.{IsRow, agree, blocks_of_rows, place, row_block}
use Rattle.design_base.specs.Blocks.{IsBlock, IsTd, across, cover, holds}
use Rattle.design_checks.specs.Bits.{IsAcross, MeetsLater, Tells}
use Rattle.design_checks.specs.declared.transversal.TheConstants.{GROUPS, WORD_BITS}

-- no bit is set
pub none_told : (m k n i : ℕ) → k ≤ GROUPS → n * GROUPS ≤ m → Tells (replicate m 0) k n i []
none_told m k n i few room a j b la lj lk lb e = absurd (omega (
  arith,
  sym e,
  ap (λ w. bit_at w b) (get_or-replicate m (a * GROUPS + j) 0 0 (omega (arith, mul-add-lt a GROUPS j n la (omega arith)))),
  bit_at-zero b,
))

-- what holds of a stretch of the words
pub word_within : (words : List ℕ) (from to word p : ℕ) → to ≤ length words → All (λ w. w ≡ word) (take (to - from) (drop from words)) → from ≤ p → p < to → get_or words p 0 ≡ word
word_within words from to word p room each l m =
    sym (get_or-take (to - from) (drop from words) (p - from) 0 (omega arith) ∙ get_or-drop from words (p - from) 0 ∙ ap (λ p. get_or words p 0) (omega arith))
    ∙ each (p - from) 0 (omega (arith, length-take-le (to - from) (drop from words) (omega (arith, length-drop from words))))

-- all bits of a word of n bits are set
pub full_word : (n b : ℕ) → n ≤ WORD_BITS → b < n → bit_at ((2 ^ WORD_BITS - 1) / 2 ^ (WORD_BITS - n)) b ≡ 1
full_word n b l m = ap (λ w. bit_at w b) (ones_shr WORD_BITS (WORD_BITS - n) (omega arith) ∙ ap (λ k. 2 ^ k - 1) (omega arith)) ∙ bit_at_ones n b m

module _ (k n i : ℕ) (B : List (List ℕ)) (block : List ℕ) where
  -- one block more takes nothing away
  pub tells_kept : (words : List ℕ) → Tells words k n i B → Tells words k n i (B ++ block ∷ [])
  tells_kept words told a j b la lj lk lb e = omega (arith, told a j b la lj lk lb e, cover-append B (block ∷ []) (i * n + a) (j * n + b))

  -- two points of the block meet
  met : IsAcross k n block → (j a b : ℕ) → i < j → j < k → i * n + a ≡ get_or block i 0 → j * n + b ≡ get_or block j 0 → 0 < cover (B ++ block ∷ []) (i * n + a) (j * n + b)
  met is j a b l m e f = omega (
    arith,
    cover-append B (block ∷ []) (i * n + a) (j * n + b),
    cover-single block (i * n + a) (j * n + b),
    one-true _ (and_from (holds (i * n + a) block) (holds (j * n + b) block)
        (ap (λ x. holds x block) e ∙ holds_element block i (omega (arith, is.size)))
        (ap (λ x. holds x block) f ∙ holds_element block j (omega (arith, is.size)))),
  )

  -- one bit more
  pub tells_more : IsAcross k n block → k ≤ GROUPS → (words : List ℕ) (j q w b : ℕ) → i < j → j < k → q ≡ (get_or block i 0 - i * n) * GROUPS + j → q < length words
      → b ≡ get_or block j 0 - j * n → ((x : ℕ) → x ≢ b → bit_at w x ≡ bit_at (get_or words q 0) x)
      → Tells words k n i (B ++ block ∷ []) → Tells (set words q w) k n i (B ++ block ∷ [])
  tells_more is few words j q w b l m place room bit others told c h d lc lh lk ld e = elim (cases_eq (c * GROUPS + h) q) [
    | inl s ↦ let here = same_from_place c h (get_or block i 0 - i * n) j GROUPS (omega arith) (omega arith) (s ∙ place) in
        let same : get_or (set words q w) (c * GROUPS + h) 0 ≡ w = get_or-set_at words q (c * GROUPS + h) w 0 s room in
        elim (cases_eq d b) [
          | inl t ↦ met is h c d lh lk (omega (arith, here.0, is.from i (omega arith))) (omega (arith, ap (λ j. get_or block j 0) here.1, ap (λ j. j * n) here.1, is.from h lk))
          | inr r ↦ told c h d lc lh lk ld (ap (λ p. bit_at (get_or words p 0) d) s ∙ sym (others d r) ∙ ap (λ w. bit_at w d) (sym same) ∙ e)
        ]
    | inr r ↦ told c h d lc lh lk ld (ap (λ w. bit_at w d) (sym (get_or-set_other words q (c * GROUPS + h) w 0 r)) ∙ e)
  ]

-- ---- where all points of different groups meet, as often as there are blocks
module _ (k n : ℕ) (B : List (List ℕ)) (blocks : All (IsAcross k n) B) (two : 2 ≤ k) (pos : 0 < n) where
  -- the places of a block's points in their groups
  abbrev row_of : List ℕ → List ℕ
  row_of block = list_below k (λ j. get_or block j 0 - j * n)

  symbol : (block : List ℕ) (j : ℕ) → j < k → get_or (row_of block) j 0 ≡ get_or block j 0 - j * n
  symbol block j l = get_or-list_below k (λ j. get_or block j 0 - j * n) j 0 l

  abbrev rows : List (List ℕ)
  rows = map row_of B

  block_of_row : (block : List ℕ) → IsAcross k n block → row_block k n (λ j. get_or (row_of block) j 0) ≡ block
  unfolding row_block place
  block_of_row block is = same_number_lists _ _ (length-list_below k _ ∙ sym is.size) (λ j h.
      let l : j < k = omega (arith, h, length-list_below k (λ j. j * n + get_or (row_of block) j 0)) in
      get_or-list_below k (λ j. j * n + get_or (row_of block) j 0) j 0 l ∙ omega (arith, symbol block j l, is.from j l))

  blocks_of : (C : List (List ℕ)) → AllByRecursion (IsAcross k n) C → blocks_of_rows k n (map row_of C) ≡ C
  unfolding blocks_of_rows
  blocks_of [] each = refl
  blocks_of (block ∷ C) each = ap₂ (λ x xs. x ∷ xs) (block_of_row block each.0) (blocks_of C each.1)

  same : blocks_of_rows k n rows ≡ B
  same = blocks_of B (recursion_from_All (IsAcross k n) B blocks)

  are_rows : All (IsRow k n) rows
  are_rows = All-map (IsRow k n) row_of B (All-weaker (IsAcross k n) (λ block. IsRow k n (row_of block)) (λ block is. record {
    size = length-list_below k _;
    below = λ j d h. let l : j < k = omega (arith, h, length-list_below k (λ j. get_or block j 0 - j * n)) in omega (arith, get_or-list_below k (λ j. get_or block j 0 - j * n) j d l, is.from j l, is.below j l);
  }) B blocks)

  are_blocks : All (IsBlock (n * k) (λ size. size ≡ k)) B
  are_blocks = All-weaker (IsAcross k n) (IsBlock (n * k) (λ size. size ≡ k)) (λ block is. record {
    rises = λ j h. omega (arith, is.below j (omega (arith, is.size)), is.from (j + 1) (omega (arith, is.size)));
    below = λ j d h. let l : j < k = omega (arith, is.size) in omega (arith, get_or_default_zero block j d h, is.from j l, is.below j l, mul-add-lt j n (get_or block j 0 - j * n) k l (omega (arith, is.from j l, is.below j l)));
    size = is.size;
  }) B blocks

  module _ (count : length B ≡ n * n) (meet : (i : ℕ) → i < k → MeetsLater k n i B) where
    met_once : (i j a b : ℕ) → i < j → j < k → a < n → b < n → agree rows i j a b ≡ 1
    unfolding place
    met_once i j a b l m la lb = each_least n 1 (agree rows i j a) (some a la) (omega (arith, each_least n n (λ a. sum_below n (agree rows i j a)) total (omega (arith, agree-all k n rows are_rows i j (omega arith) m, length-map B row_of, count)) a la)) b lb
      where
        some : (a : ℕ) → a < n → (b : ℕ) → b < n → 1 ≤ agree rows i j a b
        some a la b lb = omega (arith, meet i (omega arith) a j b la l m lb, ap (λ C. cover C (i * n + a) (j * n + b)) same, cover-blocks_of_rows k n rows are_rows i a j b (omega arith) m la lb)

        total : (a : ℕ) → a < n → n ≤ sum_below n (agree rows i j a)
        total a la = omega (arith, sum_below-const n 1, sum_below-le n (λ b. 1) (agree rows i j a) (some a la))

    pub td_from_bits : IsTd B k n
    td_from_bits = record {
      blocks = are_blocks;
      pairs = λ x y l m. subst (λ C. cover C x y ≡ across n x y) same ((td_from_oa k n rows pos (oa_from_pairs k n rows two are_rows met_once)).pairs x y l m);
    }
