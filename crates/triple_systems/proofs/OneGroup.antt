-- The blocks x, y, op x y of points that are in no groups: above all pairs x < y, and above all ordered pairs.
use Rattle.std.proofs.Common.{Bool, List, [], ap, ap₂, arith, false, inl, inr, not, refl, subst, sym, true, ℕ, ◌%◌, ◌&&◌, ◌*◌, ◌+◌, ◌/◌, ◌<◌, ◌==◌, ◌||◌, ◌∙◌, ◌∷◌, ◌≡◌, ◌≢◌, ◌≤◌, ◌⊎◌}
use Rattle.counting.proofs.Booleans.{both_equal, both_equal-from, cases_eq, cases_order, cond_both, eq-eqb, eqb-false, false≢true, ne_eqb}
use Rattle.std.proofs.lemmas.Bool.Decides.{nat_tests}
use Rattle.std.proofs.lemmas.List.Elements.{All-cons, All-from_recursion, All-nil}
use Rattle.std.specs.Prelude.{All}
use Rattle.counting.proofs.Counts.{count_pairs, grid_one, one-false, pairs_one, sum_below-add, sum_below-same}
use Rattle.counting.proofs.Grids.{grid, grid_add, grid_same}
use Rattle.counting.proofs.Ranges.{All-join_below, each_below}
use Rattle.counting.specs.Sums.{one, sum_below}
use Rattle.design_base.proofs.Canonical.{IsLoose, IsPointSet, design_from_loose, three_set}
use Rattle.design_base.proofs.Cover.{cover-pairs}
use Rattle.design_base.specs.Arrays.{place}
use Rattle.design_base.specs.Blocks.{IsBibd, cover, holds}
use Rattle.design_base.specs.Canonical.{canonical}
use Rattle.triple_systems.proofs.IdempotentSquare.{idempotent-self, idempotent_latin}
use Rattle.triple_systems.proofs.HalfSums.{half_sum-self, half_sum_square}
use Rattle.triple_systems.proofs.OrderedPairs.{cover-ordered_pairs}
use Rattle.triple_systems.proofs.Pairs.{unordered_triples}
use Rattle.triple_systems.specs.Squares.{IsIdempotent, IsLatin, IsSymmetric, half_sum, idempotent}
use Rattle.triple_systems.specs.OneGroup.{middle_blocks, ordered_blocks}
use Rattle.triple_systems.specs.declared.triples.Pairs.TheVariants.{Ordered, Unordered}
use Rattle.triple_systems.specs.Triples.{triple, triples_above, triples_with}

-- in the group 0 a point is its number
in_group : (n p q r : ℕ) → triple n 0 0 p q r ≡ p ∷ q ∷ r ∷ []
unfolding place
in_group n p q r = ap₂ (λ a b. a ∷ b) (first p) (ap₂ (λ a b. a ∷ b) (first q) (ap (λ a. a ∷ []) (first r)))
  where
    first : (p : ℕ) → 0 * n + p ≡ p
    first p = omega arith

-- x and y stand in a block of three different points in one of three ways, or in one of six where the order is told apart
three_ways : (x y p q r : ℕ) → x ≢ y → p ≢ q → p ≢ r → q ≢ r →
    one (holds x (p ∷ q ∷ r ∷ []) && holds y (p ∷ q ∷ r ∷ []))
    ≡ one ((p == x || q == x) && (p == y || q == y)) + (one ((p == x || q == x) && (r == y)) + one ((p == y || q == y) && (r == x)))
unfolding one holds
three_ways x y p q r a b c d = grind (arith, nat_tests)

six_ways : (x y p q r : ℕ) → x ≢ y → p ≢ q → p ≢ r → q ≢ r →
    one (holds x (p ∷ q ∷ r ∷ []) && holds y (p ∷ q ∷ r ∷ []))
    ≡ one ((q == y) && (p == x)) + (one ((q == x) && (p == y)) + (one ((p == x) && (r == y)) + (one ((p == y) && (r == x)) + (one ((q == x) && (r == y)) + one ((q == y) && (r == x))))))
unfolding one holds
six_ways x y p q r a b c d = grind (arith, nat_tests)

-- where all three are equal there is none of the six
no_way : (x y p q r : ℕ) → x ≢ y → p ≡ q → p ≡ r →
    0 ≡ one ((q == y) && (p == x)) + (one ((q == x) && (p == y)) + (one ((p == x) && (r == y)) + (one ((p == y) && (r == x)) + (one ((q == x) && (r == y)) + one ((q == y) && (r == x))))))
unfolding one
no_way x y p q r a b c = grind (arith, nat_tests)

-- ---- above ordered pairs
module _ (n : ℕ) (op : ℕ → ℕ → ℕ) (square : IsLatin n op) (self : IsIdempotent n op) where
  different : (p q : ℕ) → p < n → q < n → p ≢ q → (p ≢ op p q) × (q ≢ op p q)
  different p q k h ne = (
    (λ e. ne (square.row_cancels p p q k k h (self p k ∙ e))),
    (λ e. ne (sym (square.column_cancels q q p h h k (self q h ∙ e)))),
  )

  abbrev Both : ℕ → ℕ → ℕ → ℕ → Bool
  Both x y q p = not (p == q) && (holds x (triple n 0 0 p q (op p q)) && holds y (triple n 0 0 p q (op p q)))

  abbrev Six : ℕ → ℕ → ℕ → ℕ → ℕ
  Six x y q p = one ((q == y) && (p == x)) + (one ((q == x) && (p == y)) + (one ((p == x) && (op p q == y)) + (one ((p == y) && (op p q == x)) + (one ((q == x) && (op p q == y)) + one ((q == y) && (op p q == x))))))

  ways : (x y q p : ℕ) → x ≢ y → q < n → p < n → one (Both x y q p) ≡ Six x y q p
  ways x y q p ne h k = elim (cases_eq p q) [
    | inl e ↦ one-false (Both x y q p) (λ t. apart p q e (holds x (triple n 0 0 p q (op p q)) && holds y (triple n 0 0 p q (op p q))) t) ∙ no_way x y p q (op p q) ne e (sym (ap (op p) (sym e) ∙ self p k))
    | inr d ↦ let f = different p q k h d in
        ap one (passed p q d _) ∙ ap (λ b. one (holds x b && holds y b)) (in_group n p q (op p q)) ∙ six_ways x y p q (op p q) ne d f.0 f.1
  ]
    where
      apart : (p q : ℕ) → p ≡ q → (u : Bool) → (not (p == q) && u) ≡ true → ⊥
      apart p q e u t = fails (p == q) u (eq-eqb p q e) t
        where
          fails : (s u : Bool) → s ≡ true → (not s && u) ≡ true → ⊥
          fails true u e t = absurd (false≢true t)
          fails false u e t = absurd (false≢true e)

      passed : (p q : ℕ) → p ≢ q → (u : Bool) → (not (p == q) && u) ≡ u
      passed p q ne u = ap (λ s. not s && u) (ne_eqb p q ne)

  -- a point and a product give the other point, on either side
  right_one : (x y : ℕ) → x < n → y < n → grid n n (λ q p. one ((p == x) && (op p q == y))) ≡ 1
  right_one x y l m = let w = square.row_solves x y l m in grid_one n n w.0 x (λ q p. (p == x) && (op p q == y)) w.1 l (both_equal-from x (op x w.0) x y refl w.2)
      (λ q p i j t. let h = both_equal p (op p q) x y t in (square.row_cancels x q w.0 l i w.1 (ap (λ z. op z q) (sym h.0) ∙ h.1 ∙ sym w.2), h.0))

  left_one : (x y : ℕ) → x < n → y < n → grid n n (λ q p. one ((q == x) && (op p q == y))) ≡ 1
  left_one x y l m = let w = square.column_solves x y l m in grid_one n n x w.0 (λ q p. (q == x) && (op p q == y)) l w.1 (both_equal-from x (op w.0 x) x y refl w.2)
      (λ q p i j t. let h = both_equal q (op p q) x y t in (h.0, square.column_cancels x p w.0 l j w.1 (ap (op p) (sym h.0) ∙ h.1 ∙ sym w.2)))

  pair_one : (x y : ℕ) → x < n → y < n → grid n n (λ q p. one ((q == x) && (p == y))) ≡ 1
  pair_one x y l m = grid_one n n x y (λ q p. (q == x) && (p == y)) l m (both_equal-from x y x y refl refl) (λ q p i j t. both_equal q p x y t)

  six_covers : (x y : ℕ) → x < n → y < n → x ≢ y → cover (triples_above Ordered n op 0 0 n) x y ≡ 6
  unfolding triples_above triples_with
  six_covers x y l m ne = cover-ordered_pairs n (λ p q. triple n 0 0 p q (op p q)) x y
      ∙ grid_same n n (λ q p. one (Both x y q p)) (λ q p. one (a q p) + (one (b q p) + (one (c q p) + (one (d q p) + (one (e q p) + one (f q p)))))) (λ q p i j. ways x y q p ne i j)
      ∙ grid_add n n (λ q p. one (a q p)) (λ q p. one (b q p) + (one (c q p) + (one (d q p) + (one (e q p) + one (f q p)))))
      ∙ ap₂ (λ s t. s + t) (pair_one y x m l) (grid_add n n (λ q p. one (b q p)) (λ q p. one (c q p) + (one (d q p) + (one (e q p) + one (f q p))))
      ∙ ap₂ (λ s t. s + t) (pair_one x y l m) (grid_add n n (λ q p. one (c q p)) (λ q p. one (d q p) + (one (e q p) + one (f q p)))
      ∙ ap₂ (λ s t. s + t) (right_one x y l m) (grid_add n n (λ q p. one (d q p)) (λ q p. one (e q p) + one (f q p))
      ∙ ap₂ (λ s t. s + t) (right_one y x m l) (grid_add n n (λ q p. one (e q p)) (λ q p. one (f q p))
      ∙ ap₂ (λ s t. s + t) (left_one x y l m) (left_one y x m l)))))
    where
      a : ℕ → ℕ → Bool
      a q p = (q == y) && (p == x)

      b : ℕ → ℕ → Bool
      b q p = (q == x) && (p == y)

      c : ℕ → ℕ → Bool
      c q p = (p == x) && (op p q == y)

      d : ℕ → ℕ → Bool
      d q p = (p == y) && (op p q == x)

      e : ℕ → ℕ → Bool
      e q p = (q == x) && (op p q == y)

      f : ℕ → ℕ → Bool
      f q p = (q == y) && (op p q == x)

  ordered_loose : IsLoose (triples_above Ordered n op 0 0 n) n (λ s. s ≡ 3) (λ x y. 6)
  unfolding triples_above triples_with
  ordered_loose = record {
    blocks = All-join_below S n _ (λ q h. All-join_below S n _ (λ p k. cond_both (p == q) _ _ (All S) (λ e. All-nil S) (λ e. All-cons S (triple n 0 0 p q (op p q)) [] (set_of p q k h (eqb-false p q e)) (All-nil S))));
    pairs = λ x y l m. six_covers x y (omega arith) m (omega arith);
  }
    where
      S : List ℕ → Type 0
      S = IsPointSet n (λ s. s ≡ 3)

      set_of : (p q : ℕ) → p < n → q < n → p ≢ q → S (triple n 0 0 p q (op p q))
      set_of p q k h ne = let f = different p q k h ne in subst S (sym (in_group n p q (op p q))) (three_set n p q (op p q) ne f.0 f.1 k h (square.small p q k h))

pub ordered_design : (v : ℕ) → 3 ≤ v → IsBibd (canonical (ordered_blocks v)) v 3 6
unfolding ordered_blocks
ordered_design v three = design_from_loose v (λ s. s ≡ 3) _ (λ x y. 6) (ordered_loose v (idempotent v) (idempotent_latin v (omega arith) (omega arith)) (idempotent-self v (omega arith)))

-- ---- above pairs x < y, over a symmetric square
module _ (n : ℕ) (op : ℕ → ℕ → ℕ) (square : IsSymmetric n op) (self : IsIdempotent n op) where
  -- the pair p, q is x and y
  abbrev Pair : ℕ → ℕ → ℕ → ℕ → Bool
  Pair x y p q = (p == x || q == x) && (p == y || q == y)

  -- the pair p, q has x, and its product is z
  abbrev Through : ℕ → ℕ → ℕ → ℕ → Bool
  Through x z p q = (p == x || q == x) && (op p q == z)

  pair_tells : (x y p q : ℕ) → Pair x y p q ≡ true → ((p ≡ x) ⊎ (q ≡ x)) × ((p ≡ y) ⊎ (q ≡ y))
  pair_tells x y p q h = grind (arith, nat_tests)

  pair_from : (x y p q : ℕ) → ((p ≡ x) ⊎ (q ≡ x)) × ((p ≡ y) ⊎ (q ≡ y)) → Pair x y p q ≡ true
  pair_from x y p q h = grind (arith, nat_tests)

  through_tells : (x z p q : ℕ) → Through x z p q ≡ true → ((p ≡ x) ⊎ (q ≡ x)) × (op p q ≡ z)
  through_tells x z p q h = grind (arith, nat_tests)

  through_from : (x z p q : ℕ) → ((p ≡ x) ⊎ (q ≡ x)) × (op p q ≡ z) → Through x z p q ≡ true
  through_from x z p q h = grind (arith, nat_tests)

  -- one pair is x and y
  one_pair : (x y : ℕ) → x < y → y < n → count_pairs n (Pair x y) ≡ 1
  one_pair x y l m = pairs_one n x y (Pair x y) l m (pair_from x y x y (inl refl, inr refl)) (λ p q k z h. let t = pair_tells x y p q h in omega (arith, t))

  -- one pair has x and gives z, where another number than x with x gives z
  through_of : (x w z : ℕ) → x < n → w < n → x ≢ w → op x w ≡ z → count_pairs n (Through x z) ≡ 1
  through_of x w z l m ne e = elim (cases_order x w) [
    | inl s ↦ absurd (ne s)
    | inr (inl s) ↦ pairs_one n x w (Through x z) s m (through_from x z x w (inl refl, e)) (λ p q k t h. let o = only p q k t h in omega arith)
    | inr (inr s) ↦ pairs_one n w x (Through x z) s l (through_from x z w x (inr refl, square.turns w x m l ∙ e)) (λ p q k t h. let o = only p q k t h in omega arith)
  ]
    where
      only : (p q : ℕ) → p < q → q < n → Through x z p q ≡ true → ((p ≡ x) × (q ≡ w)) ⊎ ((p ≡ w) × (q ≡ x))
      only p q k t h = let u = through_tells x z p q h in grind (arith, square.latin.row_cancels x q w, square.latin.row_cancels x p w, square.turns p x)

  one_through : (x y : ℕ) → x < n → y < n → x ≢ y → count_pairs n (Through x y) ≡ 1
  one_through x y l m ne = let w = square.latin.row_solves x y l m in through_of x w.0 y l w.1 (λ e. ne (sym (self x l) ∙ ap (op x) e ∙ w.2)) w.2

  apart : (p q : ℕ) → p < q → q < n → (p ≢ op p q) × (q ≢ op p q)
  apart p q k h = (
    (λ e. omega (arith, square.latin.row_cancels p p q (omega arith) (omega arith) h (self p (omega arith) ∙ e))),
    (λ e. omega (arith, square.latin.row_cancels q q p h h (omega arith) (self q h ∙ e ∙ square.turns p q (omega arith) h))),
  )

  abbrev ways_of : (ℕ → ℕ → Bool) → ℕ → ℕ
  ways_of p q = sum_below q (λ x. one (p x q))

  three_covers : (x y : ℕ) → x < y → y < n → cover (triples_above Unordered n op 0 0 n) x y ≡ 3
  three_covers x y l m = ap (λ B. cover B x y) (unordered_triples n op 0 0 n)
      ∙ cover-pairs n (λ p q. triple n 0 0 p q (op p q)) x y
      ∙ sum_below-same n _ (λ q. ways_of (Pair x y) q + (ways_of (Through x y) q + ways_of (Through y x) q)) (λ q h.
      sum_below-same q _ (λ p. one (Pair x y p q) + (one (Through x y p q) + one (Through y x p q))) (λ p k. let d = apart p q k h in
      ap (λ b. one (holds x b && holds y b)) (in_group n p q (op p q)) ∙ three_ways x y p q (op p q) (omega arith) (omega arith) d.0 d.1)
      ∙ sum_below-add q (λ p. one (Pair x y p q)) (λ p. one (Through x y p q) + one (Through y x p q))
      ∙ ap (λ s. ways_of (Pair x y) q + s) (sum_below-add q (λ p. one (Through x y p q)) (λ p. one (Through y x p q))))
      ∙ sum_below-add n (ways_of (Pair x y)) (λ q. ways_of (Through x y) q + ways_of (Through y x) q)
      ∙ ap₂ (λ s t. s + t) (one_pair x y l m) (sum_below-add n (ways_of (Through x y)) (ways_of (Through y x)) ∙ ap₂ (λ s t. s + t) (one_through x y (omega arith) m (omega arith)) (one_through y x m (omega arith) (omega arith)))

  middle_loose : IsLoose (triples_above Unordered n op 0 0 n) n (λ s. s ≡ 3) (λ x y. 3)
  middle_loose = record {
    blocks = subst (All S) (sym (unordered_triples n op 0 0 n)) (All-join_below S n _ (λ q h. All-from_recursion S _ (each_below S q (λ p. triple n 0 0 p q (op p q)) (λ p k. let d = apart p q k h in
        subst S (sym (in_group n p q (op p q))) (three_set n p q (op p q) (omega arith) d.0 d.1 (omega arith) h (square.latin.small p q (omega arith) h))))));
    pairs = three_covers;
  }
    where
      S : List ℕ → Type 0
      S = IsPointSet n (λ s. s ≡ 3)

pub middle_design : (v : ℕ) → v % 2 ≡ 1 → IsBibd (canonical (middle_blocks v)) v 3 3
unfolding middle_blocks
middle_design v shape = subst (λ w. IsBibd (canonical (triples_above Unordered w (half_sum w) 0 0 w)) w 3 3) (sym (parts v shape)) (design_from_loose _ (λ s. s ≡ 3) _ (λ x y. 3) (middle_loose (2 * (v / 2) + 1) (half_sum (2 * (v / 2) + 1)) (half_sum_square (v / 2)) (half_sum-self (v / 2))))
  where
    parts : (v : ℕ) → v % 2 ≡ 1 → v ≡ 2 * (v / 2) + 1
    parts v shape = omega arith
