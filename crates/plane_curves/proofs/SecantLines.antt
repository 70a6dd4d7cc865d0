-- The lines that hold two points of a curve are listed once each, where a line holds k of the points or at most one.
use Rattle.std.proofs.Common.{Bool, List, [], ◌∷◌, ap, ap₂, arith, cond, get_or, inl, inr, length, refl, subst, sym, true, ℕ, ◌&&◌, ◌<◌, ◌^◌, ◌∙◌, ◌≡◌, ◌≢◌, ◌≤◌}
use Rattle.counting.proofs.Booleans.{and_from, bool_same, cond_both, le-leb, leb-true}
use Rattle.std.proofs.lemmas.List.Elements.{All-from_recursion, recursion_from_All}
use Rattle.std.specs.Cmp.Lexicographic.{pointwise, same_text}
use Rattle.std.specs.List.{AllByRecursion, dedup, dedup_from}
use Rattle.std.specs.Prelude.{filter, map, nat_eq, nat_le}
use Rattle.counting.proofs.Counts.{one-true}
use Rattle.counting.proofs.Lists.{all_filter, each_map}
use Rattle.counting.proofs.Ranges.{All-join_below, each_below}
use Rattle.counting.proofs.Sorting.{each-sort_by}
use Rattle.counting.specs.Search.{◌<=◌}
use Rattle.counting.specs.Sorting.{sort_by}
use Rattle.counting.specs.Sums.{join_below, list_below, one, sum_below}
use Rattle.design_base.proofs.Canonical.{differs_below, holds-sort_by}
use Rattle.design_base.proofs.Cover.{cover-cons}
use Rattle.design_base.proofs.Points.{differs_filter, holds_filtered}
use Rattle.design_base.proofs.Sorted.{lex_le-order}
use Rattle.design_base.specs.Blocks.{IsBibd, cover, holds}
use Rattle.design_base.specs.Canonical.{canonical, lex_le}
use Rattle.design_base.specs.Rings.{IsField}
use Rattle.spaces.proofs.EachLine.{HoldsEachLine, IsSomeLine, among-join_below, among-list_below, each_line_once}
use Rattle.spaces.proofs.Leads.{is_lead, points_apart}
use Rattle.spaces.proofs.LinearSpaces.{IsLinearSpace}
use Rattle.spaces.proofs.Once.{Among, among-dedup, among-sort_by, among_map, each-dedup}
use Rattle.spaces.proofs.Span.{first_in, last_in, same_span}
use Rattle.spaces.specs.Least.{least_lines}
use Rattle.spaces.specs.Lines.{each_once, points_in, projective_lines_over, subspace}
use Rattle.spaces.specs.Points.{lead, points}
use Rattle.spaces.specs.Vectors.{multiple, vector_sum}
use Rattle.plane_curves.specs.Traces.{points_on, trace}
use Rattle.plane_curves.proofs.Sections.{Is, below, in_plane, part_size, plane_holds, point_at, rises, two_pass, vectors}
use Rattle.counting.proofs.Totals.{length_filtered}
use Rattle.plane_curves.proofs.Traces.{holds_part, part_differs, two_held}

-- what is kept of a list by a test
pub filter-same : (p t : ℕ → Bool) (xs : List ℕ) → AllByRecursion (λ x. p x ≡ t x) xs → filter p xs ≡ filter t xs
filter-same p t [] h = refl
filter-same p t (x ∷ xs) h = ap₂ (λ b ys. cond b (x ∷ ys) ys) h.0 (filter-same p t xs h.1)

among-filter : (p : List ℕ → Bool) (b : List ℕ) (C : List (List ℕ)) → Among b C → p b ≡ true → Among b (filter p C)
among-filter p b [] a e = a
among-filter p b (c ∷ C) (inl same) e = subst (λ t. Among b (cond t (c ∷ filter p C) (filter p C))) (sym (ap p (sym same) ∙ e)) (inl same)
among-filter p b (c ∷ C) (inr a) e = cond_both (p c) _ _ (Among b) (λ f. inr (among-filter p b C a e)) (λ f. among-filter p b C a e)

-- ---- no block stands twice where each holds two points, and two points are in one block
abbrev HoldsTwo : ℕ → List ℕ → Type 0
HoldsTwo v b = (x : ℕ) × (y : ℕ) × (x < y) × (y < v) × (holds x b ≡ true) × (holds y b ≡ true)

kept_from : (v : ℕ) (k : List ℕ) (B : List (List ℕ)) → HoldsTwo v k → AllByRecursion (HoldsTwo v) B → ((x y : ℕ) → x < y → y < v → cover (k ∷ B) x y ≤ 1) → dedup_from (pointwise nat_eq) k B ≡ k ∷ B
kept_from v k [] two h c = refl
kept_from v k (b ∷ B) two h c = cond_both (pointwise nat_eq b k) _ _ (λ C. C ≡ k ∷ (b ∷ B))
    (λ e. let same : b ≡ k = same_text b k (sym e) in absurd (omega (
      arith,
      c two.0 two.1 two.2 two.3,
      cover-cons k (b ∷ B) two.0 two.1,
      cover-cons b B two.0 two.1,
      one-true (holds two.0 k && holds two.1 k) (and_from _ _ two.4 two.5),
      one-true (holds two.0 b && holds two.1 b) (subst (λ d. (holds two.0 d && holds two.1 d) ≡ true) (sym same) (and_from _ _ two.4 two.5)),
    )))
    (λ e. ap (λ C. k ∷ C) (kept_from v b B h.0 h.1 (λ x y l m. omega (arith, c x y l m, cover-cons k (b ∷ B) x y))))

kept_whole : (v : ℕ) (B : List (List ℕ)) → AllByRecursion (HoldsTwo v) B → ((x y : ℕ) → x < y → y < v → cover B x y ≤ 1) → dedup (pointwise nat_eq) B ≡ B
kept_whole v [] h c = refl
kept_whole v (b ∷ B) h c = kept_from v b B h.0 h.1 c

module _ (q : ℕ) (add mul : ℕ → ℕ → ℕ) (field : IsField q add mul) (n : ℕ) where
  abbrev P : List ℕ
  P = points q n

  abbrev N : ℕ
  N = length P

  abbrev at : ℕ → ℕ
  at i = get_or P i 0

  abbrev plane : ℕ → ℕ → List ℕ
  plane x y = subspace add mul q n x y

  module _ (curve : ℕ → Bool) (k : ℕ)
      (sections : (i j : ℕ) → i < j → j < N → curve (at i) ≡ true → curve (at j) ≡ true → sum_below N (λ u. one (curve (at u) && holds (at u) (plane (at i) (at j)))) ≡ k) where
    abbrev S : List ℕ
    S = points_on curve P

    abbrev v : ℕ
    v = length S

    -- the vector of a point of the curve
    abbrev pub vector : ℕ → ℕ
    vector i = at (get_or S i 0)

    place_below : (i : ℕ) → i < v → get_or S i 0 < N
    place_below = below q add mul field n curve k sections

    places_rise : (i j : ℕ) → i < j → j < v → get_or S i 0 < get_or S j 0
    places_rise = rises q add mul field n curve k sections

    pub is_point : (i : ℕ) → i < v → Is q add mul field n (vector i)
    is_point i l = point_at q add mul field n (get_or S i 0) (place_below i l)

    pub vectors_differ : (i j : ℕ) → i < j → j < v → vector i ≢ vector j
    vectors_differ i j l m e =
        let less = places_rise i j l m in
        absurd (omega (arith, less, points_apart q n (get_or S i 0) (get_or S j 0) (place_below i (omega arith)) (place_below j m) e))

    -- ---- a line by a test of the places
    module _ (on : ℕ → ℕ → ℕ → Bool) (tells : (i j u : ℕ) → i < j → j < v → u < v → on i j u ≡ holds (vector u) (plane (vector i) (vector j))) where
      unfoldable pub line : ℕ → ℕ → List ℕ
      line i j = filter (on i j) (list_below v (λ u. u))

      holds_line : (i j u : ℕ) → u < v → holds u (line i j) ≡ on i j u
      unfolding line
      holds_line i j u l = holds_filtered (on i j) v u l

      on_curve : (i : ℕ) → i < v → curve (vector i) ≡ true
      unfolding points_on
      on_curve i l = All-from_recursion (λ z. curve (at z) ≡ true) S
          (all_filter (λ z. z < N) (λ z. curve (at z) ≡ true) (λ i. curve (at i)) (λ z l e. e) (list_below N (λ i. i)) (each_below (λ z. z < N) N (λ i. i) (λ i l. l))) i 0 l

      -- the plane of two vectors is that of any two points of the curve in it
      one_plane : (a b z w t : ℕ) → Is q add mul field n b → z < w → w < v → holds (vector z) (plane a b) ≡ true → holds (vector w) (plane a b) ≡ true → holds t (plane a b) ≡ holds t (plane (vector z) (vector w))
      one_plane a b z w t hb l m hz hw =
          let same = same_span q (q ^ n) add mul (vector_sum add q n) (multiple mul q n) (vectors q add mul field n) (lead q n) (is_lead q add mul field n) a b (vector z) (vector w) hb
          (is_point z (omega arith)) (is_point w m) (vectors_differ z w l m) (in_plane q add mul field n a b (vector z) hz) (in_plane q add mul field n a b (vector w) hw) in
          bool_same _ _
          (λ e. plane_holds q add mul field n (vector z) (vector w) t ((same t).0 (in_plane q add mul field n a b t e)))
          (λ e. plane_holds q add mul field n a b t ((same t).1 (in_plane q add mul field n (vector z) (vector w) t e)))

      alike : (x y z w : ℕ) → x < y → y < v → z < w → w < v → holds z (line x y) ≡ true → holds w (line x y) ≡ true → line x y ≡ line z w
      unfolding line
      alike x y z w l m h g hz hw = filter-same (on x y) (on z w) (list_below v (λ u. u)) (each_below (λ u. on x y u ≡ on z w u) v (λ u. u) (λ u hu.
          tells x y u l m hu
          ∙ one_plane (vector x) (vector y) z w (vector u) (is_point y m) h g
          (sym (tells x y z l m (omega arith)) ∙ sym (holds_line x y z (omega arith)) ∙ hz) (sym (tells x y w l m g) ∙ sym (holds_line x y w g) ∙ hw)
          ∙ sym (tells z w u h g hu)))

      first_on : (x y : ℕ) → x < y → y < v → holds x (line x y) ≡ true
      first_on x y l m = holds_line x y x (omega arith) ∙ tells x y x l m (omega arith) ∙ plane_holds q add mul field n (vector x) (vector y) (vector x)
          (first_in q (q ^ n) add mul (vector_sum add q n) (multiple mul q n) (vectors q add mul field n) (lead q n) (is_lead q add mul field n) (vector x) (vector y) (is_point x (omega arith)).small)

      second_on : (x y : ℕ) → x < y → y < v → holds y (line x y) ≡ true
      second_on x y l m = holds_line x y y m ∙ tells x y y l m m ∙ plane_holds q add mul field n (vector x) (vector y) (vector y)
          (last_in q (q ^ n) add mul (vector_sum add q n) (multiple mul q n) (vectors q add mul field n) (lead q n) (is_lead q add mul field n) (vector x) (vector y) (is_point y m).small)

      -- what a block of the plane leaves on the curve is a line, where the block has the points of a plane
      same_part : (b : List ℕ) (a c i j : ℕ) → ((z : ℕ) → holds z b ≡ holds z (points_in P (plane a c))) → Is q add mul field n c → i < j → j < v →
          holds (vector i) (plane a c) ≡ true → holds (vector j) (plane a c) ≡ true → points_in S b ≡ line i j
      unfolding line points_in
      same_part b a c i j e hc l m hi hj = filter-same (λ u. holds (get_or S u 0) b) (on i j) (list_below v (λ u. u)) (each_below (λ u. holds (get_or S u 0) b ≡ on i j u) v (λ u. u) (λ u hu.
          e (get_or S u 0) ∙ holds_part P (plane a c) (get_or S u 0) (place_below u hu) ∙ one_plane a c i j (vector u) hc l m hi hj ∙ sym (tells i j u l m hu)))

      line_size : (x y : ℕ) → x < y → y < v → length (line x y) ≡ k
      line_size x y l m =
          let X = vector x in
          let Y = vector y in
          let mine = λ (u : ℕ) (hu : u < v) (h : holds u (line x y) ≡ true). sym (tells x y u l m hu) ∙ sym (holds_line x y u hu) ∙ h in
          ap length (sym (same_part (points_in P (plane X Y)) X Y x y (λ z. refl) (is_point y m) l m (mine x (omega arith) (first_on x y l m)) (mine y m (second_on x y l m))))
          ∙ part_size q add mul field n curve k sections (plane X Y)
          ∙ sections (get_or S x 0) (get_or S y 0) (places_rise x y l m) (place_below y m) (on_curve x (omega arith)) (on_curve y m)

      pub linear : IsLinearSpace v k line
      unfolding line
      linear = record {
        set = λ x y l m. record {
          differs = differs_filter (on x y) (list_below v (λ u. u)) (differs_below v (λ u. u) (λ i j h g e. absurd (omega arith)));
          below = all_filter (λ u. u < v) (λ u. u < v) (on x y) (λ u l e. l) (list_below v (λ u. u)) (each_below (λ u. u < v) v (λ u. u) (λ u l. l));
          size = line_size x y l m;
        };
        first = first_on;
        second = second_on;
        joins = λ x y z w u l m h g hz hw. ap (holds u) (alike x y z w l m h g hz hw);
      }

      -- ---- the blocks of the plane
      abbrev B : List (List ℕ)
      B = projective_lines_over add mul q n

      abbrev IsPlaneLine : List ℕ → Type 0
      IsPlaneLine b = (x : ℕ) × (y : ℕ) × (x < y) × (y < N) × ((z : ℕ) → holds z b ≡ holds z (points_in P (plane (at x) (at y))))

      abbrev lines_of : ℕ → List (List ℕ)
      lines_of j = list_below j (λ i. points_in P (plane (at i) (at j)))

      plane_lines : AllByRecursion IsPlaneLine B
      unfolding projective_lines_over each_once canonical
      plane_lines = each-dedup lex_le lex_le-order IsPlaneLine _ (each-sort_by lex_le IsPlaneLine _ (each_map (sort_by nat_le) IsPlaneLine IsPlaneLine
          (λ b h. (h.0, h.1, h.2, h.3, λ z. holds-sort_by nat_le z b ∙ h.4 z)) (join_below N lines_of)
          (recursion_from_All IsPlaneLine (join_below N lines_of) (All-join_below IsPlaneLine N lines_of (λ j l. All-from_recursion IsPlaneLine _
          (each_below IsPlaneLine j (λ i. points_in P (plane (at i) (at j))) (λ i m. (i, j, m, l, λ z. refl))))))))

      -- a block that leaves two points leaves a line
      large_part : (b : List ℕ) → IsPlaneLine b → (2 <= length (points_in S b)) ≡ true → IsSomeLine v k line linear (points_in S b)
      unfolding points_in
      large_part b h large = elim (two_pass v (λ u. holds (get_or S u 0) b)) [
        | inl few ↦ absurd (omega (arith, few, length_filtered (λ u. holds (get_or S u 0) b) v, leb-true 2 (length (points_in S b)) large))
        | inr t ↦
            let seen = λ (u : ℕ) (hu : u < v) (e : holds (get_or S u 0) b ≡ true). sym (holds_part P (plane (at h.0) (at h.1)) (get_or S u 0) (place_below u hu)) ∙ sym (h.4 (get_or S u 0)) ∙ e in
            let e : points_in S b ≡ line t.0 t.1 =
            same_part b (at h.0) (at h.1) t.0 t.1 h.4 (point_at q add mul field n h.1 h.3) t.2 t.3 (seen t.0 (omega (arith, t.2, t.3)) t.4) (seen t.1 t.3 t.5) in
            (t.0, t.1, t.2, t.3, record { differs = part_differs S b; same = λ z. ap (holds z) e })
      ]

      large_parts : (C : List (List ℕ)) → AllByRecursion IsPlaneLine C → AllByRecursion (IsSomeLine v k line linear) (trace S C)
      unfolding trace
      large_parts C h = filter_each (map (points_in S) C) (each_map (points_in S) IsPlaneLine (λ b. (2 <= length b) ≡ true → IsSomeLine v k line linear b) large_part C h)
        where
          filter_each : (C : List (List ℕ)) → AllByRecursion (λ b. (2 <= length b) ≡ true → IsSomeLine v k line linear b) C → AllByRecursion (IsSomeLine v k line linear) (filter (λ b. 2 <= length b) C)
          filter_each C h = all_filter (λ b. (2 <= length b) ≡ true → IsSomeLine v k line linear b) (IsSomeLine v k line linear) (λ b. 2 <= length b) (λ b f e. f e) C h

      -- the block of the plane through two points of the curve
      block_of : ℕ → ℕ → List ℕ
      block_of i j = sort_by nat_le (points_in P (plane (vector i) (vector j)))

      block_holds : (i j z : ℕ) → holds z (block_of i j) ≡ holds z (points_in P (plane (vector i) (vector j)))
      unfolding block_of
      block_holds i j z = holds-sort_by nat_le z (points_in P (plane (vector i) (vector j)))

      block_among : (i j : ℕ) → i < j → j < v → Among (block_of i j) B
      unfolding block_of projective_lines_over each_once canonical
      block_among i j l m =
          let a = get_or S i 0 in
          let c = get_or S j 0 in
          among-dedup lex_le lex_le-order _ _ (among-sort_by lex_le _ _ (among_map (sort_by nat_le) (points_in P (plane (at a) (at c))) (join_below N lines_of)
          (among-join_below (points_in P (plane (at a) (at c))) N c lines_of (place_below j m)
          (among-list_below (points_in P (plane (at a) (at c))) c a (λ i. points_in P (plane (at i) (at c))) (places_rise i j l m) refl))))

      block_part : (i j : ℕ) → i < j → j < v → points_in S (block_of i j) ≡ line i j
      block_part i j l m = same_part (block_of i j) (vector i) (vector j) i j (block_holds i j) (is_point j m) l m
          (sym (tells i j i l m (omega arith)) ∙ sym (holds_line i j i (omega arith)) ∙ first_on i j l m) (sym (tells i j j l m m) ∙ sym (holds_line i j j m) ∙ second_on i j l m)

      part_among : (i j : ℕ) → i < j → j < v → Among (points_in S (block_of i j)) (trace S B)
      unfolding trace
      part_among i j l m = among-filter (λ b. 2 <= length b) (points_in S (block_of i j)) (map (points_in S) B) (among_map (points_in S) (block_of i j) B (block_among i j l m))
          (subst (λ b. (2 <= length b) ≡ true) (sym (block_part i j l m)) (le-leb 2 (length (line i j)) (two_held (line i j) i j (linear.set i j l m).differs (λ e. absurd (omega arith)) (first_on i j l m) (second_on i j l m))))

      each : HoldsEachLine v k line linear (trace S B)
      each = record {
        lines = large_parts B plane_lines;
        found = λ i j l m. (
          points_in S (block_of i j),
          part_among i j l m,
          record { differs = part_differs S (block_of i j); same = λ z. ap (holds z) (block_part i j l m) },
        );
      }

      hold_two : AllByRecursion (HoldsTwo v) (canonical (trace S B))
      unfolding canonical
      hold_two = each-sort_by lex_le (HoldsTwo v) _ (each_map (sort_by nat_le) (IsSomeLine v k line linear) (HoldsTwo v) (λ b h. (
        h.0,
        h.1,
        h.2,
        h.3,
        holds-sort_by nat_le h.0 b ∙ h.4.same h.0 ∙ first_on h.0 h.1 h.2 h.3,
        holds-sort_by nat_le h.1 b ∙ h.4.same h.1 ∙ second_on h.0 h.1 h.2 h.3,
      )) (trace S B) (large_parts B plane_lines))

      pub listed : IsBibd (canonical (trace S B)) v k 1 → canonical (least_lines line v) ≡ canonical (trace S B)
      unfolding each_once
      listed design = each_line_once v k line linear (trace S B) each ∙ kept_whole v (canonical (trace S B)) hold_two (λ x y l m. omega (arith, design.pairs x y l m))
