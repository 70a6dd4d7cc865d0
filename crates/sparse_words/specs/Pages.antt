-- A row of words in pages, of which only some are kept.
use Rattle.std.specs.Prelude.{ℕ, ◌+◌, ◌*◌, ◌/◌, ◌%◌, ◌^◌, ◌==◌, ◌≤◌, ◌<◌, ◌≡◌, ◌≢◌, List, [], ◌∷◌, cond, length, slice_index, vec_capacity}
use Rattle.std.specs.declared.alloc.Global.{Global}
use Rattle.std.specs.declared.vec.Vec.{Vec}
use Rattle.counting.specs.Sums.{list_below}
use Rattle.sparse_words.specs.declared.pages.TheConstants.{PAGE}

-- the word at place i, where `places` says which of the kept pages each page is
unfoldable pub word_at : List ℕ → List ℕ → ℕ → ℕ
word_at places kept i = slice_index kept (slice_index places (i / PAGE) * PAGE + i % PAGE)

-- the first so many words
abbrev pub row_of : ℕ → List ℕ → List ℕ → List ℕ
row_of count places kept = list_below count (word_at places kept)

-- how many pages are kept behind that of zeros
unfoldable pub kept_pages : List ℕ → ℕ
kept_pages [] = 0
kept_pages (p ∷ ps) = cond (p == 0) (kept_pages ps) (kept_pages ps + 1)

-- no two pages are kept as one, but for those that are all zeros, which are kept as the first
pub record ArePages (places kept : List ℕ) : Type 0 where
  pub size : length kept ≡ (kept_pages places + 1) * PAGE
  pub zeros : (j : ℕ) → j < PAGE → slice_index kept j ≡ 0
  pub inside : (p : ℕ) → slice_index places p ≤ kept_pages places
  pub apart : (p q : ℕ) → slice_index places p ≢ 0 → slice_index places p ≡ slice_index places q → p ≡ q

-- the same, with room for all pages
pub record IsRow (count : ℕ) (places : Vec ℕ Global) (kept : Vec ℕ Global) : Type 0 where
  pub few : count < 2 ^ 32
  pub size : length places.items ≡ count / PAGE + 1
  pub room : (length places.items + 1) * PAGE ≤ vec_capacity kept
  pub pages : ArePages places.items kept.items
