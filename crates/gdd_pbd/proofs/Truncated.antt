-- A transversal design with one truncated group, its groups filled, is a pairwise balanced design.
use Rattle.std.proofs.Common.{None, Option, Some, ◌≡◌, ℕ, ◌+◌, ◌*◌, ◌<◌, ◌≤◌, ◌≢◌, List, ◌⊎◌, refl, ap, subst, sym, ◌∙◌, arith, inl, inr, length, map, get_or, add-one}
use Rattle.std.specs.Prelude.{All, filter, nat_lt}
use Rattle.counting.proofs.Booleans.{cases_eq, cases_lt, lt-ltb, ltb-true}
use Rattle.std.proofs.lemmas.List.Elements.{All-append, All-nil}
use Rattle.std.proofs.lemmas.List.Sums.{length-filter}
use Rattle.counting.specs.Sums.{one, sum_below, join_below, list_below}
use Rattle.design_base.specs.Blocks.{cover, IsTd, IsPbd}
use Rattle.design_base.specs.Canonical.{canonical}
use Rattle.design_base.specs.Arrays.{place, row_block, blocks_of_rows, rows_of_blocks, IsRow, IsOa}
use Rattle.gdd_pbd.specs.Filling.{rename}
use Rattle.gdd_pbd.specs.Conditions.{FitsLast}
use Rattle.gdd_pbd.specs.Deleting.{below_point}
use Rattle.gdd_pbd.specs.Truncating.{last_group, truncated}
use Rattle.counting.proofs.Counts.{sum_below-suc, sum_below-same, sum_below-const, sum_below-at, sum_below-zero, one-true, one-false}
use Rattle.counting.proofs.Lists.{sum_by-join_below, sum_by-single, each_all, All-map_of}
use Rattle.design_base.proofs.Cover.{cover-append, cover-join_below, cover-turn, cover-none}
use Rattle.design_base.proofs.Canonical.{IsLoose, IsPointSet, KeepsApart, design_from_loose, differs_below, loose_from_design}
use Rattle.counting.proofs.Ranges.{All-join_below}
use Rattle.design_base.proofs.Places.{same_place, place-below, place-rises, place-rises_inside, by_places, across-apart, across-inside}
use Rattle.gdd_pbd.proofs.Dropped.{cover-below_point}
use Rattle.gdd_pbd.proofs.Renamed.{cover-rename, cover-rename_none, sets-rename}
use Rattle.counting.proofs.Lists.{all_filter}
use Rattle.design_base.proofs.Points.{differs_filter}
use Rattle.design_base.proofs.Groups.{blocks_of_rows_of_blocks, oa_from_td}

place-is : (n i x : ℕ) → place n i x ≡ i * n + x
unfolding place
place-is n i x = refl

-- ---- a block without the points from v on
-- the block of a row misses at most its last point
module _ (s t v : ℕ) (f : ℕ → ℕ) (small : (j : ℕ) → j < s + 1 → f j < t) (low : s * t ≤ v) where
  kept_length : length (filter (λ x. nat_lt x v) (row_block (s + 1) t f)) ≡ s + one (nat_lt (place t s (f s)) v)
  unfolding row_block one
  kept_length = length-filter (λ x. nat_lt x v) (list_below (s + 1) (λ j. place t j (f j)))
      ∙ sum_by-join_below (λ x. one (nat_lt x v)) (s + 1) _
      ∙ sum_below-same (s + 1) _ (λ j. one (nat_lt (place t j (f j)) v)) (λ j l. sum_by-single (λ x. one (nat_lt x v)) (place t j (f j)))
      ∙ ap (λ n. sum_below n (λ j. one (nat_lt (place t j (f j)) v))) (add-one s) ∙ sum_below-suc s (λ j. one (nat_lt (place t j (f j)) v))
      ∙ ap (λ n. n + one (nat_lt (place t s (f s)) v)) (sum_below-same s _ (λ j. 1) (λ j l. one-true _ (lt-ltb (place t j (f j)) v (omega (arith, place-below t s j (f j) l (small j (omega arith)))))) ∙ sum_below-const s 1 ∙ omega arith)

  kept_set : IsPointSet v (λ z. (z ≡ s) ⊎ (z ≡ s + 1)) (filter (λ x. nat_lt x v) (row_block (s + 1) t f))
  unfolding row_block
  kept_set = record {
    differs = differs_filter (λ x. nat_lt x v) (list_below (s + 1) (λ j. place t j (f j)))
        (differs_below (s + 1) (λ j. place t j (f j)) (λ i j l m e. let h = same_place t i j (f i) (f j) (small i (omega arith)) (small j m) e in omega arith));
    below = all_filter (λ x. Unit {0}) (λ x. x < v) (λ x. nat_lt x v) (λ x h e. ltb-true x v e) _ (each_all (λ x. Unit {0}) (λ x. tt) _);
    size = elim (cases_lt (place t s (f s)) v) [
      | inl l ↦ inr (kept_length ∙ ap (λ n. s + n) (one-true _ (lt-ltb (place t s (f s)) v l)))
      | inr l ↦ inl (kept_length ∙ ap (λ n. s + n) (one-false (nat_lt (place t s (f s)) v) (λ e. omega (arith, ltb-true (place t s (f s)) v e))) ∙ omega arith)
    ];
  }

-- ---- what stands on the last group
keeps : (t j w : ℕ) → w ≤ t → KeepsApart w (place t j)
keeps t j w le x y l m e = (same_place t j j x y (omega arith) (omega arith) e).1

last_loose : (s u : ℕ) (Q : List (List ℕ)) → FitsLast u s (Some Q) → IsLoose Q u (λ z. (z ≡ s) ⊎ (z ≡ s + 1)) (λ x y. 1)
last_loose s u Q small = loose_from_design u (λ z. (z ≡ s) ⊎ (z ≡ s + 1)) Q (λ x y. 1) small.1

-- no point of another group
last_away : (s t u : ℕ) (rest : Option (List (List ℕ))) → u ≤ t → FitsLast u s rest → (c x q : ℕ) → x < t → c ≢ s → cover (last_group t s rest) (place t c x) q ≡ 0
last_away s t u None fits small c x q l ne = cover-none (place t c x) q
last_away s t u (Some Q) fits small c x q l ne = cover-rename_none u (s * t + u) (λ z. (z ≡ s) ⊎ (z ≡ s + 1)) (place t s) Q (last_loose s u Q small).blocks (place t c x) q
    (λ z m f. ne (sym (same_place t s c z x (omega arith) l f).0))

-- two points of the last group, once
last_inside : (s t u : ℕ) (rest : Option (List (List ℕ))) → u ≤ t → FitsLast u s rest → (x y : ℕ) → x < y → y < u → cover (last_group t s rest) (place t s x) (place t s y) ≡ 1
last_inside s t u None fits small x y l m = absurd (omega (arith, small))
last_inside s t u (Some Q) fits small x y l m = let d = last_loose s u Q small in
    cover-rename u (s * t + u) (λ z. (z ≡ s) ⊎ (z ≡ s + 1)) (place t s) Q d.blocks (keeps t s u fits) x y (omega arith) m ∙ d.pairs x y l m

last_sets : (s t u : ℕ) (rest : Option (List (List ℕ))) → u ≤ t → FitsLast u s rest → All (IsPointSet (s * t + u) (λ z. (z ≡ s) ⊎ (z ≡ s + 1))) (last_group t s rest)
last_sets s t u None fits small = All-nil (IsPointSet (s * t + u) (λ z. (z ≡ s) ⊎ (z ≡ s + 1)))
last_sets s t u (Some Q) fits small = sets-rename u (s * t + u) (λ z. (z ≡ s) ⊎ (z ≡ s + 1)) (place t s) Q (last_loose s u Q small).blocks (keeps t s u fits) (λ x l. omega (arith, place-is t s x))

-- ---- the whole list
module _ (s t u : ℕ) (T P : List (List ℕ)) (rest : Option (List (List ℕ))) (pos : 0 < t) (some : 0 < s) (fits : u ≤ t) (td : IsTd T (s + 1) t)
    (filler : IsLoose P t (λ z. (z ≡ s) ⊎ (z ≡ s + 1)) (λ x y. 1)) (small : FitsLast u s rest) where
  kept : List (List ℕ)
  kept = map (filter (λ x. nat_lt x (s * t + u))) T

  kept_sets : All (IsPointSet (s * t + u) (λ z. (z ≡ s) ⊎ (z ≡ s + 1))) kept
  unfolding kept blocks_of_rows
  kept_sets = subst (λ T. All (IsPointSet (s * t + u) (λ z. (z ≡ s) ⊎ (z ≡ s + 1))) (map (filter (λ x. nat_lt x (s * t + u))) T)) (blocks_of_rows_of_blocks (s + 1) t T pos td) (of_rows (rows_of_blocks t T) (oa_from_td (s + 1) t T pos td (omega arith)))
    where
      of_rows : (R : List (List ℕ)) → IsOa R (s + 1) t → All (IsPointSet (s * t + u) (λ z. (z ≡ s) ⊎ (z ≡ s + 1))) (map (filter (λ x. nat_lt x (s * t + u))) (blocks_of_rows (s + 1) t R))
      of_rows R oa = All-map_of (λ b. IsPointSet (s * t + u) (λ z. (z ≡ s) ⊎ (z ≡ s + 1)) (filter (λ x. nat_lt x (s * t + u)) b)) (IsPointSet (s * t + u) (λ z. (z ≡ s) ⊎ (z ≡ s + 1))) (filter (λ x. nat_lt x (s * t + u))) (blocks_of_rows (s + 1) t R)
          (All-map_of (IsRow (s + 1) t) (λ b. IsPointSet (s * t + u) (λ z. (z ≡ s) ⊎ (z ≡ s + 1)) (filter (λ x. nat_lt x (s * t + u)) b)) (λ r. row_block (s + 1) t (λ j. get_or r j 0)) R oa.rows
          (λ r v. kept_set s t (s * t + u) (λ j. get_or r j 0) (λ j l. v.below j 0 (omega (arith, v.size))) (omega arith)))
          (λ b h. h)

  kept_cover : (p q : ℕ) → p < s * t + u → q < s * t + u → cover kept p q ≡ cover T p q
  unfolding kept below_point
  kept_cover p q l m = cover-below_point (s * t + u) T p q l m

  -- ---- the fillers
  copies : ℕ → ℕ → ℕ → ℕ
  copies p q j = cover (rename (place t j) P) p q

  abbrev last : List (List ℕ)
  last = last_group t s rest

  away : (j c x q : ℕ) → x < t → j ≢ c → copies (place t c x) q j ≡ 0
  unfolding copies
  away j c x q l ne = cover-rename_none t (s * t + u) (λ z. (z ≡ s) ⊎ (z ≡ s + 1)) (place t j) P filler.blocks (place t c x) q (λ z m e. ne (same_place t j c z x m l e).0)

  whole : (p q : ℕ) → cover (truncated s t u T P rest) p q ≡ cover kept p q + (sum_below s (copies p q) + cover last p q)
  unfolding truncated kept copies below_point
  whole p q = cover-append _ _ p q ∙ ap (λ n. cover kept p q + n) (cover-append _ _ p q ∙ ap (λ n. n + cover last p q) (cover-join_below s (λ j. rename (place t j) P) p q))

  apart : (c d x y : ℕ) → c < d → d < s + 1 → x < t → y < t → place t d y < s * t + u → cover (truncated s t u T P rest) (place t c x) (place t d y) ≡ 1
  unfolding copies
  apart c d x y l m lx ly h = omega (
    arith,
    whole (place t c x) (place t d y),
    kept_cover (place t c x) (place t d y) (omega (arith, place-rises t c d x y l lx)) h,
    td.pairs (place t c x) (place t d y) (place-rises t c d x y l lx) (omega (arith, place-below t (s + 1) d y m ly)),
    across-apart t c x d y lx ly (omega arith),
    sum_below-zero s (copies (place t c x) (place t d y)) (λ j k. elim (cases_eq j c) [
      | inl e ↦ cover-turn (rename (place t j) P) (place t c x) (place t d y) ∙ away j d y (place t c x) ly (omega arith)
      | inr ne ↦ away j c x (place t d y) lx ne
    ]),
    last_away s t u rest fits small c x (place t d y) lx (omega arith),
  )

  inside : (c x y : ℕ) → c < s + 1 → x < y → y < t → place t c y < s * t + u → cover (truncated s t u T P rest) (place t c x) (place t c y) ≡ 1
  unfolding copies
  inside c x y m l ly h = elim (cases_eq c s) [
    | inr ne ↦ omega (
      arith,
      basis,
      sum_below-at s c (copies (place t c x) (place t c y)) (omega arith) (λ j k other. away j c x (place t c y) (omega arith) other),
      cover-rename t (s * t + u) (λ z. (z ≡ s) ⊎ (z ≡ s + 1)) (place t c) P filler.blocks (keeps t c t (omega arith)) x y (omega arith) ly,
      filler.pairs x y l ly,
      last_away s t u rest fits small c x (place t c y) (omega arith) ne,
    )
    | inl e ↦ omega (
      arith,
      basis,
      sum_below-zero s (copies (place t c x) (place t c y)) (λ j k. away j c x (place t c y) (omega arith) (omega arith)),
      ap (λ c. cover last (place t c x) (place t c y)) e,
      last_inside s t u rest fits small x y l (omega (arith, place-is t c y, ap (λ c. c * t) e)),
    )
  ]
    where
      basis : cover (truncated s t u T P rest) (place t c x) (place t c y) ≡ sum_below s (copies (place t c x) (place t c y)) + cover last (place t c x) (place t c y)
      basis = omega (
        arith,
        whole (place t c x) (place t c y),
        kept_cover (place t c x) (place t c y) (omega (arith, place-rises_inside t c x y l)) h,
        td.pairs (place t c x) (place t c y) (place-rises_inside t c x y l) (omega (arith, place-below t (s + 1) c y m ly)),
        across-inside t c x y (omega arith) ly,
      )

  pub truncate_is_loose : IsLoose (truncated s t u T P rest) (s * t + u) (λ z. (z ≡ s) ⊎ (z ≡ s + 1)) (λ x y. 1)
  unfolding truncated kept below_point
  truncate_is_loose = record {
    blocks = All-append (IsPointSet (s * t + u) (λ z. (z ≡ s) ⊎ (z ≡ s + 1))) kept _ kept_sets (All-append (IsPointSet (s * t + u) (λ z. (z ≡ s) ⊎ (z ≡ s + 1))) (join_below s (λ j. rename (place t j) P)) last
        (All-join_below (IsPointSet (s * t + u) (λ z. (z ≡ s) ⊎ (z ≡ s + 1))) s (λ j. rename (place t j) P) (λ j l. sets-rename t (s * t + u) (λ z. (z ≡ s) ⊎ (z ≡ s + 1)) (place t j) P filler.blocks (keeps t j t (omega arith)) (λ x m. omega (arith, place-below t s j x l m)))) (last_sets s t u rest fits small));
    pairs = λ p q l m. by_places (λ p q. q < s * t + u → cover (truncated s t u T P rest) p q ≡ 1) t (s + 1) pos apart inside p q l (omega arith) m;
  }

-- rule truncate
pub truncate_is_pbd : (s t u : ℕ) (T P : List (List ℕ)) (rest : Option (List (List ℕ))) → 0 < t → 0 < s → u ≤ t → IsTd T (s + 1) t → IsPbd P t s → FitsLast u s rest → IsPbd (canonical (truncated s t u T P rest)) (s * t + u) s
truncate_is_pbd s t u T P rest pos some fits td filler small = design_from_loose (s * t + u) (λ z. (z ≡ s) ⊎ (z ≡ s + 1)) (truncated s t u T P rest) (λ x y. 1)
    (truncate_is_loose s t u T P rest pos some fits td (loose_from_design t (λ z. (z ≡ s) ⊎ (z ≡ s + 1)) P (λ x y. 1) filler) small)
