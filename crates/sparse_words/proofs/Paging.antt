-- Pages that are kept, and words that are written in them.
use Rattle.std.proofs.Common.{◌≡◌, ◌≢◌, ℕ, zero, suc, ◌+◌, ◌-◌, ◌*◌, ◌/◌, ◌%◌, ◌≤◌, ◌<◌, inl, inr, List, [], ◌∷◌, ◌++◌, cond, length, get_or, set, replicate, take, arith, refl, sym, ap, ◌∙◌, ◌^◌, subst}
use Rattle.std.specs.Prelude.{slice_index}
use Rattle.counting.proofs.Booleans.{cases_eq, eq-eqb, ne_eqb}
use Rattle.std.proofs.lemmas.List.{length-set, length-append, length-replicate, get_or_append_left, get_or-append_right, get_or-set_same, get_or-set_other, ext_get_or, take_all, get_or-take, length-take-le}
use Rattle.counting.specs.Sums.{list_below}
use Rattle.counting.proofs.Ranges.{length-list_below, get_or-list_below}
use Rattle.sparse_words.specs.declared.pages.TheConstants.{PAGE}
use Rattle.sparse_words.specs.Pages.{ArePages, word_at, row_of, kept_pages}

-- how many pages are kept
kept-zero : (p : ℕ) (ps : List ℕ) → p ≡ 0 → kept_pages (p ∷ ps) ≡ kept_pages ps
unfolding kept_pages
kept-zero p ps e = ap (λ b. cond b (kept_pages ps) (kept_pages ps + 1)) (eq-eqb p 0 e)

kept-other : (p : ℕ) (ps : List ℕ) → p ≢ 0 → kept_pages (p ∷ ps) ≡ kept_pages ps + 1
unfolding kept_pages
kept-other p ps n = ap (λ b. cond b (kept_pages ps) (kept_pages ps + 1)) (ne_eqb p 0 n)

kept-le : (p : ℕ) (ps : List ℕ) → kept_pages (p ∷ ps) ≤ kept_pages ps + 1
kept-le p ps = elim (cases_eq p 0) [ inl e ↦ omega (arith, kept-zero p ps e) | inr n ↦ omega (arith, kept-other p ps n) ]

kept_few : (ps : List ℕ) → kept_pages ps ≤ length ps
unfolding kept_pages
kept_few [] = omega arith
kept_few (p ∷ ps) = omega (arith, kept-le p ps, kept_few ps)

-- where a page is not kept yet, fewer are kept than there are
kept_fewer : (ps : List ℕ) (i : ℕ) → i < length ps → slice_index ps i ≡ 0 → kept_pages ps + 1 ≤ length ps
kept_fewer [] i h e = absurd (omega arith)
kept_fewer (p ∷ ps) zero h e = omega (arith, kept-zero p ps e, kept_few ps)
kept_fewer (p ∷ ps) (suc i) h e = omega (arith, kept-le p ps, kept_fewer ps i (omega arith) e)

kept_set : (ps : List ℕ) (i x : ℕ) → i < length ps → slice_index ps i ≡ 0 → x ≢ 0 → kept_pages (set ps i x) ≡ kept_pages ps + 1
kept_set [] i x h e n = absurd (omega arith)
kept_set (p ∷ ps) zero x h e n = omega (arith, kept-other x ps n, kept-zero p ps e)
kept_set (p ∷ ps) (suc i) x h e n = elim (cases_eq p 0) [
  | inl z ↦ omega (arith, kept-zero p (set ps i x) z, kept-zero p ps z, kept_set ps i x (omega arith) e n)
  | inr o ↦ omega (arith, kept-other p (set ps i x) o, kept-other p ps o, kept_set ps i x (omega arith) e n)
]

-- zeros
pub zeros_at : (n i : ℕ) → slice_index (replicate n 0) i ≡ 0
zeros_at zero i = refl
zeros_at (suc n) zero = refl
zeros_at (suc n) (suc i) = zeros_at n i

-- one page more is kept
module _ (places kept : List ℕ) (a : ArePages places kept) (page : ℕ) (within : page < length places) (free : slice_index places page ≡ 0) (place : ℕ)
    (next : place ≡ kept_pages places + 1) (more : List ℕ) (count : length more ≡ PAGE) (blank : (j : ℕ) → j < PAGE → slice_index more j ≡ 0) where
  abbrev places_now : List ℕ
  places_now = set places page place

  abbrev kept_now : List ℕ
  kept_now = kept ++ more

  pub kept_more : kept_pages places_now ≡ kept_pages places + 1
  kept_more = kept_set places page place within free (λ e. omega (arith, e, next))

  own_page : (p : ℕ) → p ≡ page → slice_index places_now p ≡ place
  own_page p e = ap (slice_index places_now) e ∙ get_or-set_same places page place 0 within

  other_page : (p : ℕ) → p ≢ page → slice_index places_now p ≡ slice_index places p
  other_page p n = get_or-set_other places page p place 0 n

  pub page_kept : ArePages places_now kept_now
  page_kept = record {
    size = omega (arith, length-append kept more, count, a.size, kept_more);
    zeros = λ j h. get_or_append_left kept more 0 j (omega (arith, a.size)) ∙ a.zeros j h;
    inside = λ p. elim (cases_eq p page) [
      | inl e ↦ omega (arith, own_page p e, next, kept_more)
      | inr n ↦ omega (arith, other_page p n, a.inside p, kept_more)
    ];
    apart = λ p q n e. elim (cases_eq p page) [
      | inl ep ↦ elim (cases_eq q page) [ inl eq ↦ ep ∙ sym eq | inr nq ↦ absurd (omega (arith, own_page p ep, other_page q nq, a.inside q, next, e)) ]
      | inr np ↦ elim (cases_eq q page) [
        | inl eq ↦ absurd (omega (arith, other_page p np, own_page q eq, a.inside p, next, e))
        | inr nq ↦ a.apart p q (λ z. n (other_page p np ∙ z)) (sym (other_page p np) ∙ e ∙ other_page q nq)
      ]
    ];
  }

  pub page_words : (i : ℕ) → word_at places_now kept_now i ≡ word_at places kept i
  unfolding word_at
  page_words i = elim (cases_eq (i / PAGE) page) [
    | inl e ↦
        let new : slice_index kept_now (slice_index places_now (i / PAGE) * PAGE + i % PAGE) ≡ slice_index more (i % PAGE)
        = get_or-append_right kept more (place * PAGE) (slice_index places_now (i / PAGE) * PAGE + i % PAGE) 0 (omega (arith, a.size, next)) (omega (arith, own_page (i / PAGE) e))
        ∙ ap (slice_index more) (let k : slice_index places_now (i / PAGE) * PAGE + i % PAGE - place * PAGE ≡ i % PAGE = omega (arith, own_page (i / PAGE) e) in k) in
        let old : slice_index kept (slice_index places (i / PAGE) * PAGE + i % PAGE) ≡ 0
        = ap (slice_index kept) (let k : slice_index places (i / PAGE) * PAGE + i % PAGE ≡ i % PAGE = omega (arith, ap (slice_index places) e, free) in k) ∙ a.zeros (i % PAGE) (omega arith) in
        new ∙ blank (i % PAGE) (omega arith) ∙ sym old
    | inr n ↦
        ap (λ p. slice_index kept_now (p * PAGE + i % PAGE)) (other_page (i / PAGE) n)
        ∙ get_or_append_left kept more 0 (slice_index places (i / PAGE) * PAGE + i % PAGE) (omega (arith, a.size, a.inside (i / PAGE)))
  ]

-- there is room for the page
pub room_left : (places kept : List ℕ) (page n room : ℕ) → ArePages places kept → page < length places → slice_index places page ≡ 0 → n ≡ length kept
    → (length places + 1) * PAGE ≤ room → n + PAGE ≤ room
room_left places kept page n room a within free e h = omega (arith, a.size, kept_fewer places page within free, e, h)

pub place_small : (places kept : List ℕ) (page n : ℕ) → ArePages places kept → page < length places → slice_index places page ≡ 0 → n ≡ length kept
    → length places < 2 ^ 32 → n / PAGE < 2 ^ 32
place_small places kept page n a within free e h = omega (arith, a.size, kept_fewer places page within free, e, h)

-- what stands behind the kept pages where room for one more was made
module _ (places kept new : List ℕ) (a : ArePages places kept) (page : ℕ) (within : page < length places) (free : slice_index places page ≡ 0) (n k : ℕ) (e : n ≡ length kept) (same : n ≡ k)
    (is : new ≡ take (n + PAGE) kept ++ replicate (n + PAGE - k) 0) where
  appended : new ≡ kept ++ replicate (n + PAGE - k) 0
  appended = is ∙ ap (λ xs. xs ++ replicate (n + PAGE - k) 0) (take_all (n + PAGE) kept (omega (arith, e)))

  next_place : n / PAGE ≡ kept_pages places + 1
  next_place = omega (arith, a.size, e)

  blank_page : (j : ℕ) → j < PAGE → slice_index (replicate (n + PAGE - k) 0) j ≡ 0
  blank_page j h = zeros_at (n + PAGE - k) j

  page_count : length {A = ℕ} (replicate (n + PAGE - k) 0) ≡ PAGE
  page_count = length-replicate (n + PAGE - k) 0 ∙ (let m : n + PAGE - k ≡ PAGE = omega (arith, same) in m)

  pub page_made : ArePages (set places page (n / PAGE)) new
  page_made = subst (ArePages (set places page (n / PAGE))) (sym appended) (page_kept places kept a page within free (n / PAGE) next_place (replicate (n + PAGE - k) 0) page_count blank_page)

  pub words_kept : (i : ℕ) → word_at (set places page (n / PAGE)) new i ≡ word_at places kept i
  words_kept i =
      ap (λ xs. word_at (set places page (n / PAGE)) xs i) appended
      ∙ page_words places kept a page within free (n / PAGE) next_place (replicate (n + PAGE - k) 0) page_count blank_page i

-- each word stands in a page that is kept
pub index_within : (places kept : List ℕ) → ArePages places kept → (i : ℕ) → slice_index places (i / PAGE) * PAGE + i % PAGE < length kept
index_within places kept a i = omega (arith, a.size, a.inside (i / PAGE))

-- a word is written in a page that is kept
module _ (places kept : List ℕ) (a : ArePages places kept) (i w : ℕ) (own : slice_index places (i / PAGE) ≢ 0) where
  abbrev index : ℕ
  index = slice_index places (i / PAGE) * PAGE + i % PAGE

  pub word_put : ArePages places (set kept index w)
  word_put = record {
    size = length-set kept index w ∙ a.size;
    zeros = λ j h. get_or-set_other kept index j w 0 (λ e. own (omega (arith, e, h))) ∙ a.zeros j h;
    inside = a.inside;
    apart = a.apart;
  }

  pub word_own : word_at places (set kept index w) i ≡ w
  unfolding word_at
  word_own = get_or-set_same kept index w 0 (index_within places kept a i)

  pub word_others : (j : ℕ) → j ≢ i → word_at places (set kept index w) j ≡ word_at places kept j
  unfolding word_at
  word_others j n = get_or-set_other kept index (slice_index places (j / PAGE) * PAGE + j % PAGE) w 0 apart
    where
      apart : slice_index places (j / PAGE) * PAGE + j % PAGE ≢ index
      apart e =
          let same : slice_index places (i / PAGE) ≡ slice_index places (j / PAGE) = omega (arith, e) in
          let page : i / PAGE ≡ j / PAGE = a.apart (i / PAGE) (j / PAGE) own same in
          n (omega (arith, e, same, page))

-- a row of zeros
kept_none : (n : ℕ) → kept_pages (replicate n 0) ≡ 0
unfolding kept_pages
kept_none zero = refl
kept_none (suc n) = kept_none n

module _ (n : ℕ) (places kept : List ℕ) (none : places ≡ replicate n 0) (count : length kept ≡ PAGE) (blank : (j : ℕ) → j < PAGE → slice_index kept j ≡ 0) where
  no_place : (p : ℕ) → slice_index places p ≡ 0
  no_place p = ap (λ (ps : List ℕ). slice_index ps p) none ∙ zeros_at n p

  no_kept : kept_pages places ≡ 0
  no_kept = ap kept_pages none ∙ kept_none n

  pub no_pages : ArePages places kept
  no_pages = record {
    size = omega (arith, count, no_kept);
    zeros = blank;
    inside = λ p. omega (arith, no_place p);
    apart = λ p q o e. absurd (o (no_place p));
  }

  no_word : (i : ℕ) → word_at places kept i ≡ 0
  unfolding word_at
  no_word i = ap (slice_index kept) (let k : slice_index places (i / PAGE) * PAGE + i % PAGE ≡ i % PAGE = omega (arith, no_place (i / PAGE)) in k) ∙ blank (i % PAGE) (omega arith)

  pub no_words : (total : ℕ) → row_of total places kept ≡ replicate total 0
  no_words total =
      ext_get_or 0 (row_of total places kept) (replicate total 0) (length-list_below total (word_at places kept) ∙ sym (length-replicate total 0))
      (λ i h. let l : i < total = omega (arith, h, length-list_below total (word_at places kept)) in get_or-list_below total (word_at places kept) i 0 l ∙ no_word i ∙ sym (zeros_at total i))

-- the page of zeros, where it is made
pub first_page : (new kept : List ℕ) (n k : ℕ) → new ≡ take n kept ++ replicate (n - k) 0 → kept ≡ [] → k ≡ 0 → n ≡ PAGE → (length new ≡ PAGE) × ((j : ℕ) → slice_index new j ≡ 0)
first_page new kept n k is none empty count =
    let e : new ≡ replicate (n - k) 0 = is ∙ ap (λ xs. take n xs ++ replicate (n - k) 0) none ∙ ap (λ xs. xs ++ replicate (n - k) 0) (take_all n [] (omega arith)) in
    (ap length e ∙ length-replicate (n - k) 0 ∙ (let m : n - k ≡ PAGE = omega (arith, empty, count) in m), λ j. ap (λ (xs : List ℕ). slice_index xs j) e ∙ zeros_at (n - k) j)

-- and where it is left
pub page_left : (places kept new : List ℕ) (n : ℕ) → ArePages places kept → new ≡ take n kept → n ≡ PAGE → (length new ≡ PAGE) × ((j : ℕ) → j < PAGE → slice_index new j ≡ 0)
page_left places kept new n a is count = (
  ap length is ∙ length-take-le n kept (omega (arith, count, a.size)) ∙ count,
  λ j h. ap (λ (xs : List ℕ). slice_index xs j) is ∙ get_or-take n kept j 0 (omega (arith, h, count)) ∙ a.zeros j h,
)

-- a row with one word written
pub row_set : (total : ℕ) (f g : ℕ → ℕ) (i w : ℕ) → i < total → g i ≡ w → ((j : ℕ) → j ≢ i → g j ≡ f j) → list_below total g ≡ set (list_below total f) i w
row_set total f g i w within own others =
    ext_get_or 0 (list_below total g) (set (list_below total f) i w)
    (length-list_below total g ∙ sym (length-set (list_below total f) i w ∙ length-list_below total f)) at
  where
    at : (j : ℕ) → j < length (list_below total g) → get_or (list_below total g) j 0 ≡ get_or (set (list_below total f) i w) j 0
    at j h =
        let l : j < total = omega (arith, h, length-list_below total g) in
        let m : i < length (list_below total f) = omega (arith, within, length-list_below total f) in
        elim (cases_eq j i) [
          | inl e ↦ get_or-list_below total g j 0 l ∙ ap g e ∙ own ∙ sym (ap (λ k. get_or (set (list_below total f) i w) k 0) e ∙ get_or-set_same (list_below total f) i w 0 m)
          | inr n ↦ get_or-list_below total g j 0 l ∙ others j n ∙ sym (get_or-set_other (list_below total f) i j w 0 n ∙ get_or-list_below total f j 0 l)
        ]

-- the word that a row reads
pub row_get : (total : ℕ) (places kept : List ℕ) (i : ℕ) → i < total → slice_index (row_of total places kept) i ≡ word_at places kept i
row_get total places kept i h = get_or-list_below total (word_at places kept) i 0 h

pub row_length : (total : ℕ) (places kept : List ℕ) → length (row_of total places kept) ≡ total
row_length total places kept = length-list_below total (word_at places kept)
