-- The blocks of rows and the rows of blocks, written one after another.
use Rattle.std.proofs.Common.{List, [], ap, ap₂, arith, get_or, length, map, refl, slice_set, subst, sym, take, ℕ, ◌%◌, ◌*◌, ◌++◌, ◌+◌, ◌<◌, ◌∙◌, ◌∷◌, ◌≡◌, ◌≤◌}
use Rattle.std.proofs.Math.Seq.{take-length}
use Rattle.std.proofs.lemmas.List.{append-nil, append_assoc, get_or-map, length-map, map-append, take_more, take_more_set}
use Rattle.std.proofs.lemmas.List.Elements.{All-map, All-weaker, recursion_from_All}
use Rattle.std.specs.Prelude.{All}
use Rattle.counting.proofs.Counts.{join_below_more}
use Rattle.counting.proofs.Ranges.{get_or-list_below, length-list_below}
use Rattle.counting.specs.Sums.{join_below, list_below}
use Rattle.design_base.proofs.Groups.{blocks_of_rows_of_blocks, oa_from_td}
use Rattle.design_base.specs.Arrays.{IsOa, IsRow, blocks_of_rows, place, row_block, rows_of_blocks}
use Rattle.design_base.specs.Blocks.{IsBlock, IsTd}
use Rattle.incidence.proofs.Sizes.{size_of-append, size_of-cons, size_of-uniform}
use Rattle.incidence.specs.Packed.{size_of}

-- a buffer whose front is a list: the next entry is written
pub front_next : (f : ℕ → ℕ) (row : List ℕ) (j x : ℕ) → j < length row → take j row ≡ list_below j f → x ≡ f j → take (j + 1) (slice_set row j x) ≡ list_below (j + 1) f
front_next f row j x l e is = take_more_set row j x l ∙ ap₂ (λ front x. front ++ x ∷ []) e is ∙ sym (join_below_more j _)

-- the same where the list is the image of another
pub image_next : (f : ℕ → ℕ) (xs row : List ℕ) (j x : ℕ) → j < length row → j < length xs → take j row ≡ map f (take j xs) → x ≡ f (get_or xs j 0) → take (j + 1) (slice_set row j x) ≡ map f (take (j + 1) xs)
image_next f xs row j x l h e is = take_more_set row j x l ∙ ap₂ (λ front x. front ++ x ∷ []) e is
    ∙ sym (map-append f (take j xs) (get_or xs j 0 ∷ [])) ∙ ap (map f) (sym (take_more xs j 0 h))

-- ---- the points of a block
pub row_block_none : (n : ℕ) (f : ℕ → ℕ) → row_block 0 n f ≡ []
unfolding row_block join_below
row_block_none n f = refl

pub row_block_next : (n : ℕ) (f : ℕ → ℕ) (block : List ℕ) (j : ℕ) → j < length block → take j block ≡ row_block j n f → take (j + 1) (slice_set block j (j * n + f j)) ≡ row_block (j + 1) n f
unfolding row_block place
row_block_next n f block j l e = front_next (λ j. j * n + f j) block j (j * n + f j) l e refl

-- ---- the blocks of rows
pub blocks_of_row : (k n : ℕ) (row : List ℕ) → blocks_of_rows k n (row ∷ []) ≡ row_block k n (λ j. get_or row j 0) ∷ []
unfolding blocks_of_rows
blocks_of_row k n row = refl

pub blocks_of_no_rows : (k n : ℕ) → blocks_of_rows k n [] ≡ []
unfolding blocks_of_rows
blocks_of_no_rows k n = refl

pub blocks_of_rows_append : (k n : ℕ) (R S : List (List ℕ)) → blocks_of_rows k n (R ++ S) ≡ blocks_of_rows k n R ++ blocks_of_rows k n S
unfolding blocks_of_rows
blocks_of_rows_append k n R S = map-append _ R S

pub blocks_of_rows_next : (k n : ℕ) (row : List ℕ) (rest : List (List ℕ)) → blocks_of_rows k n (row ∷ rest) ≡ blocks_of_rows k n (row ∷ []) ++ blocks_of_rows k n rest
unfolding blocks_of_rows
blocks_of_rows_next k n row rest = refl

-- how much room they take
pub size_of_blocks : (k n : ℕ) (R : List (List ℕ)) → size_of (blocks_of_rows k n R) ≡ (k + 1) * length R
unfolding blocks_of_rows row_block
size_of_blocks k n R = size_of-uniform k (blocks_of_rows k n R) (recursion_from_All (λ block. length block ≡ k) (blocks_of_rows k n R)
    (All-map (λ block. length block ≡ k) (λ row. row_block k n (λ j. get_or row j 0)) R (λ i d l. length-list_below k _)))
    ∙ ap (λ m. (k + 1) * m) (length-map R (λ row. row_block k n (λ j. get_or row j 0)))

-- the next blocks have room where all have
pub room_next : (k n : ℕ) (now old here later all : List (List ℕ)) → now ++ (blocks_of_rows k n here ++ blocks_of_rows k n later) ≡ old ++ blocks_of_rows k n all →
    size_of now + (k + 1) * length here ≤ size_of old + (k + 1) * length all
room_next k n now old here later all is = omega (
  arith,
  ap size_of is,
  size_of-append now (blocks_of_rows k n here ++ blocks_of_rows k n later),
  size_of-append (blocks_of_rows k n here) (blocks_of_rows k n later),
  size_of-append old (blocks_of_rows k n all),
  size_of_blocks k n here,
  size_of_blocks k n all,
)

-- rows all of k symbols
pub size_of_rows : (k n : ℕ) (R : List (List ℕ)) → All (IsRow k n) R → size_of R ≡ (k + 1) * length R
size_of_rows k n R rows = size_of-uniform k R (recursion_from_All (λ row. length row ≡ k) R (All-weaker (IsRow k n) (λ row. length row ≡ k) (λ row s. s.size) R rows))

-- ---- the rows of blocks
pub row_of_block : (n : ℕ) (block : List ℕ) → rows_of_blocks n (block ∷ []) ≡ map (λ x. x % n) block ∷ []
unfolding rows_of_blocks
row_of_block n block = refl

-- when all its symbols are written
pub row_when_done : (n j : ℕ) (block row : List ℕ) → j ≤ length block → length block ≤ j → take j row ≡ map (λ x. x % n) (take j block) → take (length block) row ∷ [] ≡ rows_of_blocks n (block ∷ [])
row_when_done n j block row low high is =
    let done : j ≡ length block = omega arith in
    ap (λ xs. xs ∷ []) (subst (λ j. take j row ≡ map (λ x. x % n) (take j block)) done is ∙ ap (map (λ x. x % n)) (take-length block)) ∙ sym (row_of_block n block)

pub rows_of_no_blocks : (n : ℕ) → rows_of_blocks n [] ≡ []
unfolding rows_of_blocks
rows_of_no_blocks n = refl

pub rows_of_blocks_next : (n : ℕ) (block : List ℕ) (rest : List (List ℕ)) → rows_of_blocks n (block ∷ rest) ≡ rows_of_blocks n (block ∷ []) ++ rows_of_blocks n rest
unfolding rows_of_blocks
rows_of_blocks_next n block rest = refl

pub size_of_rows_of_blocks : (n : ℕ) (B : List (List ℕ)) → size_of (rows_of_blocks n B) ≡ size_of B
unfolding rows_of_blocks
size_of_rows_of_blocks n [] = refl
size_of_rows_of_blocks n (block ∷ B) = omega (
  arith,
  size_of-cons block B,
  size_of-cons (map (λ x. x % n) block) (map (map (λ x. x % n)) B),
  length-map block (λ x. x % n),
  size_of_rows_of_blocks n B,
)

-- the next row has room where the blocks have
pub row_room_next : (n : ℕ) (now all : List (List ℕ)) (block : List ℕ) (rest : List (List ℕ)) → now ++ rows_of_blocks n (block ∷ rest) ≡ rows_of_blocks n all → size_of now + length block + 1 ≤ size_of all
row_room_next n now all block rest is = omega (
  arith,
  ap size_of is,
  size_of-append now (rows_of_blocks n (block ∷ rest)),
  size_of_rows_of_blocks n (block ∷ rest),
  size_of-cons block rest,
  size_of_rows_of_blocks n all,
)

-- ---- the blocks of a transversal design
-- the j-th point is one of group j
abbrev pub HasPlaces : ℕ → List ℕ → Type 0
HasPlaces n block = (j : ℕ) → j < length block → get_or block j 0 ≡ j * n + get_or block j 0 % n

module _ (k n : ℕ) (B : List (List ℕ)) (td : IsTd B k n) where
  pub sizes_of_td : All (λ block. length block ≡ k) B
  sizes_of_td = All-weaker (IsBlock (n * k) (λ size. size ≡ k)) (λ block. length block ≡ k) (λ block s. s.size) B td.blocks

  pub points_of_td : 1 ≤ n → All (HasPlaces n) B
  unfolding blocks_of_rows rows_of_blocks row_block place
  points_of_td some m d l j h =
      let sizes : length (get_or B m d) ≡ k = sizes_of_td m d l in
      let row : length (map (map (λ x. x % n)) B) ≡ length B = length-map B (map (λ x. x % n)) in
      let same : get_or B m d ≡ list_below k (λ j. j * n + get_or (map (λ x. x % n) (get_or B m d)) j 0) =
      ap (λ C. get_or C m d) (sym (blocks_of_rows_of_blocks k n B (omega arith) td))
      ∙ get_or-map (λ row. list_below k (λ j. j * n + get_or row j 0)) (map (map (λ x. x % n)) B) m (map (λ x. x % n) d) d (omega (arith, l, row))
      ∙ ap (λ row. list_below k (λ j. j * n + get_or row j 0)) (get_or-map (map (λ x. x % n)) B m d (map (λ x. x % n) d) l) in
      ap (λ block. get_or block j 0) same
      ∙ get_or-list_below k (λ j. j * n + get_or (map (λ x. x % n) (get_or B m d)) j 0) j 0 (omega arith)
      ∙ ap (λ a. j * n + a) (get_or-map (λ x. x % n) (get_or B m d) j 0 0 h)

  pub length_of_td : 2 ≤ k → 1 ≤ n → length B ≡ n * n
  unfolding rows_of_blocks
  length_of_td two some = let oa : IsOa (rows_of_blocks n B) k n = oa_from_td k n B (omega arith) td two in sym (length-map B (map (λ x. x % n))) ∙ oa.count

pub ruleset steps = (append-nil, append_assoc, blocks_of_no_rows, blocks_of_rows_next, rows_of_no_blocks, rows_of_blocks_next)
