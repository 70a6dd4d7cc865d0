-- Points of a projective geometry over a field that pass a test: where the line of any two of them holds k, what the lines leave on
-- them is a design.
use Rattle.std.proofs.Common.{Bool, List, [], ◌∷◌, ap, arith, get_or, inl, inr, length, subst, suc, sym, true, zero, ℕ, ◌&&◌, ◌*◌, ◌+◌, ◌<◌, ◌^◌, ◌∙◌, ◌≡◌, ◌≤◌, ◌⊎◌}
use Rattle.std.proofs.Math.Nat.{one-le-pow}
use Rattle.std.proofs.Math.Path.{fun_ext}
use Rattle.counting.proofs.Booleans.{bool_same, both, cases_Bool, false≢true}
use Rattle.std.proofs.lemmas.List.Elements.{All-from_recursion, recursion_from_All}
use Rattle.std.proofs.lemmas.List.Kept.{AllPairs-from_increasing, IsStrictlyIncreasing-filter}
use Rattle.std.proofs.lemmas.List.Sums.{sum_by-cons}
use Rattle.std.specs.List.{sum_by}
use Rattle.std.specs.List.Sorted.{IsStrictlyIncreasing}
use Rattle.std.specs.Prelude.{All, filter, nat_le}
use Rattle.counting.proofs.Counts.{one-false, one-true, sum_below-none, sum_below-same, sum_below-suc, sum_below-zero}
use Rattle.counting.proofs.Lists.{all_filter, each_map, one-and}
use Rattle.counting.proofs.OnePlace.{filter_sum}
use Rattle.counting.proofs.Ranges.{All-join_below, each_below, get_or-list_below, length-list_below}
use Rattle.counting.proofs.Sorting.{each-sort_by}
use Rattle.counting.specs.Sorting.{sort_by}
use Rattle.counting.specs.Sums.{join_below, list_below, one, sum_below}
use Rattle.design_base.proofs.Canonical.{holds-sort_by}
use Rattle.design_base.proofs.Cover.{holds_below, holds_below-from}
use Rattle.design_base.proofs.Sorted.{lex_le-order}
use Rattle.design_base.specs.Blocks.{IsBibd, cover, holds}
use Rattle.design_base.specs.Canonical.{canonical, lex_le}
use Rattle.design_base.specs.Rings.{IsField}
use Rattle.counting.proofs.ButOne.{sum_below-plus}
use Rattle.counting.proofs.Totals.{length_filtered, sum_below-single, sum_by-list_below}
use Rattle.spaces.proofs.Leads.{each_point, is_lead, points_apart}
use Rattle.spaces.proofs.LinearSpaces.{least_below}
use Rattle.spaces.proofs.Once.{each-dedup}
use Rattle.spaces.proofs.Projective.{holds_join_below, holds_join_below-from}
use Rattle.spaces.proofs.Space.{IsSpace}
use Rattle.spaces.proofs.Span.{InSpan, IsPoint, same_span}
use Rattle.spaces.proofs.VectorSpaces.{space}
use Rattle.spaces.specs.Lines.{each_once, points_in, projective_lines_over, subspace}
use Rattle.spaces.specs.Points.{lead, points}
use Rattle.spaces.specs.Vectors.{combination, multiple, vector_sum}
use Rattle.plane_curves.specs.Traces.{points_on, trace}
use Rattle.plane_curves.proofs.Traces.{IsCut, trace_design}
use Rattle.design_base.proofs.Points.{holds_filtered}

-- two numbers below n that pass a test, or no two
pub two_pass : (n : ℕ) (p : ℕ → Bool) → (sum_below n (λ i. one (p i)) ≤ 1) ⊎ ((i : ℕ) × (j : ℕ) × (i < j) × (j < n) × (p i ≡ true) × (p j ≡ true))
two_pass zero p = inl (omega (arith, sum_below-none (λ i. one (p i))))
two_pass (suc n) p = elim (two_pass n p) [
  | inr t ↦ inr (t.0, t.1, t.2, omega (arith, t.3), t.4, t.5)
  | inl few ↦ elim (cases_Bool (p n)) [
    | inr last_fails ↦ inl (omega (arith, sum_below-suc n (λ i. one (p i)), one-false (p n) (λ e. false≢true (sym last_fails ∙ e)), few))
    | inl last_passes ↦ elim (least_below p n) [
      | inl none ↦ inl (omega (arith, sum_below-suc n (λ i. one (p i)), one-true (p n) last_passes, sum_below-zero n (λ i. one (p i)) (λ i l. one-false (p i) (none i l))))
      | inr m ↦ inr (m.0, n, m.1, omega arith, m.2, last_passes)
    ]
  ]
]

-- a sum over the places of a list
pub sum_places : (f : ℕ → ℕ) (xs : List ℕ) → sum_below (length xs) (λ m. f (get_or xs m 0)) ≡ sum_by f xs
sum_places f [] = sum_below-none (λ m. f (get_or [] m 0))
sum_places f (x ∷ xs) =
    ap (λ n. sum_below n (λ m. f (get_or (x ∷ xs) m 0))) (let e : suc (length xs) ≡ 1 + length xs = omega arith in e)
    ∙ sum_below-plus 1 (length xs) (λ m. f (get_or (x ∷ xs) m 0))
    ∙ omega (
      arith,
      sum_below-single (λ m. f (get_or (x ∷ xs) m 0)),
      sum_below-same (length xs) (λ m. f (get_or (x ∷ xs) (1 + m) 0)) (λ m. f (get_or xs m 0)) (λ m l. ap (λ t. f (get_or (x ∷ xs) t 0)) (let e : 1 + m ≡ suc m = omega arith in e)),
      sum_places f xs,
      sum_by-cons f x xs,
    )

module _ (q : ℕ) (add mul : ℕ → ℕ → ℕ) (field : IsField q add mul) (n : ℕ) where
  abbrev v : ℕ
  v = q ^ n

  abbrev sum : ℕ → ℕ → ℕ
  sum = vector_sum add q n

  abbrev scale : ℕ → ℕ → ℕ
  scale = multiple mul q n

  pub vectors : IsSpace q v add mul sum scale
  vectors = record { field = field; vectors = space q add mul field.ring n; some = one-le-pow n q (let h : 1 < q = field.ring.one_below in omega arith) }

  abbrev P : List ℕ
  P = points q n

  abbrev N : ℕ
  N = length P

  abbrev at : ℕ → ℕ
  at i = get_or P i 0

  abbrev plane : ℕ → ℕ → List ℕ
  plane x y = subspace add mul q n x y

  abbrev pub In : ℕ → ℕ → ℕ → Type 0
  In x y z = InSpan q v add mul sum scale vectors (lead q n) (is_lead q add mul field n) x y z

  abbrev pub Is : ℕ → Type 0
  Is x = IsPoint q v add mul sum scale vectors (lead q n) (is_lead q add mul field n) x

  pub in_plane : (x y z : ℕ) → holds z (plane x y) ≡ true → In x y z
  unfolding subspace combination
  in_plane x y z h =
      let c = holds_join_below q z (λ c. list_below q (λ k. combination add mul q n c x k y)) h in
      let k = holds_below q z (λ k. combination add mul q n c.0 x k y) c.2 in
      (c.0, k.0, record { first = c.1; second = k.1; made = k.2 })

  pub plane_holds : (x y z : ℕ) → In x y z → holds z (plane x y) ≡ true
  unfolding subspace combination
  plane_holds x y z h = holds_join_below-from q z (λ c. list_below q (λ k. combination add mul q n c x k y)) h.0 h.2.first
      (holds_below-from q z (λ k. combination add mul q n h.0 x k y) h.1 h.2.second h.2.made)

  pub point_at : (i : ℕ) → i < N → Is (at i)
  point_at i l = let p = All-from_recursion (λ x. (x < q ^ n) × (lead q n x ≡ 1)) P (each_point q n) i 0 l in record { small = p.0; one = p.1 }

  module _ (curve : ℕ → Bool) (k : ℕ)
      (sections : (i j : ℕ) → i < j → j < N → curve (at i) ≡ true → curve (at j) ≡ true → sum_below N (λ u. one (curve (at u) && holds (at u) (plane (at i) (at j)))) ≡ k) where
    abbrev S : List ℕ
    S = points_on curve P

    -- how many of the points are in a plane
    pub part_size : (W : List ℕ) → length (points_in S (points_in P W)) ≡ sum_below N (λ u. one (curve (at u) && holds (at u) W))
    unfolding points_in points_on
    part_size W =
        length_filtered (λ m. holds (get_or S m 0) (points_in P W)) (length S)
        ∙ sum_places (λ u. one (holds u (points_in P W))) S
        ∙ filter_sum (λ i. curve (at i)) (λ u. one (holds u (points_in P W))) (list_below N (λ i. i))
        ∙ sum_by-list_below (λ u. one (curve (at u)) * one (holds u (points_in P W))) N (λ i. i)
        ∙ sum_below-same N _ _ (λ u l. ap (λ t. one (curve (at u)) * one t) (holds_filtered (λ i. holds (at i) W) N u l) ∙ sym (one-and (curve (at u)) (holds (at u) W)))

    cut : (x y : ℕ) → x < y → y < N → IsCut S k (points_in P (plane (at x) (at y)))
    cut x y l m = elim (two_pass N (λ u. curve (at u) && holds (at u) (plane (at x) (at y)))) [
      | inl few ↦ inl (omega (arith, part_size (plane (at x) (at y)), few))
      | inr t ↦
          let hi = both (curve (at t.0)) (holds (at t.0) (plane (at x) (at y))) t.4 in
          let hj = both (curve (at t.1)) (holds (at t.1) (plane (at x) (at y))) t.5 in
          let alike = same_span q v add mul sum scale vectors (lead q n) (is_lead q add mul field n) (at x) (at y) (at t.0) (at t.1) (point_at y m) (point_at t.0 (omega (arith, t.2, t.3))) (point_at t.1 t.3)
          (λ e. absurd (omega (arith, t.2, points_apart q n t.0 t.1 (omega (arith, t.2, t.3)) t.3 e))) (in_plane (at x) (at y) (at t.0) hi.1) (in_plane (at x) (at y) (at t.1) hj.1) in
          inr (part_size (plane (at x) (at y)) ∙ sum_below-same N _ _ (λ u h. ap (λ b. one (curve (at u) && b)) (bool_same _ _
          (λ e. plane_holds (at t.0) (at t.1) (at u) ((alike (at u)).0 (in_plane (at x) (at y) (at u) e)))
          (λ e. plane_holds (at x) (at y) (at u) ((alike (at u)).1 (in_plane (at t.0) (at t.1) (at u) e)))))
          ∙ sections t.0 t.1 t.2 t.3 hi.0 hj.0)
    ]

    cut_sorted : (b : List ℕ) → IsCut S k b → IsCut S k (sort_by nat_le b)
    unfolding points_in
    cut_sorted b h = subst (λ f. (length (filter f (list_below (length S) (λ i. i))) ≤ 1) ⊎ (length (filter f (list_below (length S) (λ i. i))) ≡ k))
        (fun_ext (λ i. sym (holds-sort_by nat_le (get_or S i 0) b))) h

    cuts : All (IsCut S k) (projective_lines_over add mul q n)
    unfolding projective_lines_over each_once canonical
    cuts =
        let each : (j : ℕ) → List (List ℕ) = λ j. list_below j (λ i. points_in P (plane (at i) (at j))) in
        All-from_recursion (IsCut S k) _ (each-dedup lex_le lex_le-order (IsCut S k) _ (each-sort_by lex_le (IsCut S k) _ (each_map (sort_by nat_le) (IsCut S k) (IsCut S k) cut_sorted (join_below N each)
        (recursion_from_All (IsCut S k) (join_below N each) (All-join_below (IsCut S k) N each (λ j l. All-from_recursion (IsCut S k) _ (each_below (IsCut S k) j (λ i. points_in P (plane (at i) (at j))) (λ i m. cut i j m l))))))))

    pub rises : (i j : ℕ) → i < j → j < length S → get_or S i 0 < get_or S j 0
    unfolding points_on
    rises i j l m = AllPairs-from_increasing S (IsStrictlyIncreasing-filter (λ i. curve (at i)) (list_below N (λ i. i)) increasing) i j 0 l m
      where
        increasing : IsStrictlyIncreasing (list_below N (λ i. i))
        increasing m l =
            let short : m + 1 < N = omega (arith, length-list_below N (λ (i : ℕ). i)) in
            omega (arith, get_or-list_below N (λ i. i) m 0 (omega arith), get_or-list_below N (λ i. i) (m + 1) 0 short)

    pub below : (i : ℕ) → i < length S → get_or S i 0 < N
    unfolding points_on
    below i l = All-from_recursion (λ z. z < N) S (all_filter (λ z. z < N) (λ z. z < N) (λ i. curve (at i)) (λ z l e. l) (list_below N (λ i. i)) (each_below (λ z. z < N) N (λ i. i) (λ i l. l))) i 0 l

    pub curve_design : ((x y : ℕ) → x < y → y < N → cover (projective_lines_over add mul q n) x y ≡ 1) → IsBibd (canonical (trace S (projective_lines_over add mul q n))) (length S) k 1
    curve_design one_line = trace_design S N k (projective_lines_over add mul q n) one_line rises below cuts
