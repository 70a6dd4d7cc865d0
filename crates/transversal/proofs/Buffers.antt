-- The block of a row, written over the front of a buffer.
use Rattle.std.proofs.Common.{List, [], ap, arith, get_or, length, slice_index, slice_set, subst, sym, take, ℕ, ◌*◌, ◌+◌, ◌<◌, ◌∙◌, ◌∷◌, ◌≡◌, ◌≤◌}
use Rattle.design_base.specs.Arrays.{blocks_of_rows, row_block}
use Rattle.incidence.proofs.RowsAndBlocks.{blocks_of_row, row_block_next}

-- a point more
pub written_next : (n j x : ℕ) (row block : List ℕ) → j < length block → take j block ≡ row_block j n (slice_index row) → x ≡ get_or row j 0 → take (j + 1) (slice_set block j (j * n + x)) ≡ row_block (j + 1) n (slice_index row)
written_next n j x row block l front is = ap (λ x. take (j + 1) (slice_set block j (j * n + x))) is ∙ row_block_next n (slice_index row) block j l front

-- when all are written
pub written_whole : (k n j : ℕ) (row block : List ℕ) → j ≤ k → k ≤ j → take j block ≡ row_block j n (slice_index row) → take k block ∷ [] ≡ blocks_of_rows k n (row ∷ [])
written_whole k n j row block low high front =
    let done : j ≡ k = omega arith in
    ap (λ block. block ∷ []) (subst (λ j. take j block ≡ row_block j n (slice_index row)) done front) ∙ sym (blocks_of_row k n row)
