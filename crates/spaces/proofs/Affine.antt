-- The lines of an affine geometry: two points have one line.
use Rattle.std.proofs.Common.{List, ap, arith, inl, inr, map, subst, sym, true, ℕ, ◌+◌, ◌-◌, ◌<◌, ◌∙◌, ◌≡◌, ◌≢◌}
use Rattle.counting.proofs.Booleans.{cases_order}
use Rattle.std.proofs.lemmas.List.Elements.{All-from_recursion, recursion_from_All}
use Rattle.counting.proofs.Lists.{each_map}
use Rattle.counting.proofs.Ranges.{All-join_below, each_below}
use Rattle.counting.specs.Search.{upward}
use Rattle.counting.specs.Sums.{join_below}
use Rattle.design_base.specs.Blocks.{holds}
use Rattle.spaces.proofs.Once.{among_map}
use Rattle.spaces.proofs.LinearSpaces.{IsLinearSpace}
use Rattle.spaces.proofs.EachLine.{HoldsEachLine, IsSomeLine, among-join_below, among-list_below}
use Rattle.spaces.proofs.Space.{IsOn, IsSpace, line, line_below, line_differs, line_size, on_line, on_line-from, same_line, start_on, step, step_on, step_positive, sum_cancel}

module _ (q v : ℕ) (add mul sum scale : ℕ → ℕ → ℕ) (space : IsSpace q v add mul sum scale) where
  abbrev L : ℕ → ℕ → List ℕ
  L = line q v add mul sum scale space

  -- the line of two points
  module _ (pair : ℕ → ℕ → List ℕ) (is_pair : (x y w : ℕ) → x < v → y < v → w < v → sum x w ≡ y → pair x y ≡ L x w) where
    from_to : (x y : ℕ) → y < v → (w : ℕ) × (w < v) × (sum x w ≡ y)
    from_to x y l = step q v add mul sum scale space x y l

    pair_of : (x y : ℕ) → x < v → (l : y < v) → pair x y ≡ L x (from_to x y l).0
    pair_of x y lx l = is_pair x y (from_to x y l).0 lx l (from_to x y l).1 (from_to x y l).2

    turned : (p e x y z : ℕ) → x < v → y < v → x ≢ y → holds x (L p e) ≡ true → holds y (L p e) ≡ true → holds z (L p e) ≡ holds z (pair x y)
    turned p e x y z lx l ne hx hy =
        let w = from_to x y l in
        same_line q v add mul sum scale space p e x y w.0 (on_line q v add mul sum scale space p e x hx) (on_line q v add mul sum scale space p e y hy) ne w.1 w.2 z
        ∙ ap (holds z) (sym (pair_of x y lx l))

    pub linear : IsLinearSpace v q pair
    linear = record {
      set = λ x y l m. let w = from_to x y m in rw (pair_of x y (omega arith) m) (record {
        differs = line_differs q v add mul sum scale space x w.0 (step_positive q v add mul sum scale space x y w.0 (omega arith) (λ e. absurd (omega arith)) w.2) w.1;
        below = line_below q v add mul sum scale space x w.0;
        size = line_size q v add mul sum scale space x w.0;
      });
      first = λ x y l m. rw (pair_of x y (omega arith) m) (on_line-from q v add mul sum scale space x (from_to x y m).0 x (start_on q v add mul sum scale space x (from_to x y m).0 (omega arith)));
      second = λ x y l m. let w = from_to x y m in rw (pair_of x y (omega arith) m)
          (on_line-from q v add mul sum scale space x w.0 y (subst (IsOn q v add mul sum scale space x w.0) w.2 (step_on q v add mul sum scale space x w.0 w.1)));
      joins = λ x y z w u l m a b hz hw. ap (holds u) (pair_of x y (omega arith) m)
          ∙ turned x (from_to x y m).0 z w u (omega arith) b (λ e. absurd (omega arith)) (ap (holds z) (sym (pair_of x y (omega arith) m)) ∙ hz) (ap (holds w) (sym (pair_of x y (omega arith) m)) ∙ hw);
    }

    -- the lines p + t * e for each p and each e but 0
    unfoldable pub every : List (List ℕ)
    every = join_below v (λ p. map (L p) (upward 1 (v - 1)))

    line_of : (p e : ℕ) → p < v → 0 < e → e < v → IsSomeLine v q pair linear (L p e)
    line_of p e lp pos le =
        let z = sum p e in
        let small : z < v = space.vectors.sums_below p e in
        let hp : holds p (L p e) ≡ true = on_line-from q v add mul sum scale space p e p (start_on q v add mul sum scale space p e lp) in
        let hz : holds z (L p e) ≡ true = on_line-from q v add mul sum scale space p e z (step_on q v add mul sum scale space p e le) in
        let differs = line_differs q v add mul sum scale space p e pos le in
        elim (cases_order p z) [
          | inl same ↦ absurd (apart p e lp pos le (sym same))
          | inr (inl l) ↦ (p, z, l, small, record { differs = differs; same = λ u. turned p e p z u lp small (λ f. absurd (omega arith)) hp hz })
          | inr (inr l) ↦ (z, p, l, lp, record { differs = differs; same = λ u. turned p e z p u small lp (λ f. absurd (omega arith)) hz hp })
        ]
      where
        apart : (p e : ℕ) → p < v → 0 < e → e < v → sum p e ≢ p
        apart p e lp pos le f = let g : e ≡ 0 = sum_cancel q v add mul sum scale space p e 0 le space.some (f ∙ sym (space.vectors.zero_neutral p lp)) in absurd (omega arith)

    pub each : HoldsEachLine v q pair linear every
    unfolding every
    each = record {
      lines = recursion_from_All (IsSomeLine v q pair linear) every (All-join_below (IsSomeLine v q pair linear) v _ (λ p lp. All-from_recursion (IsSomeLine v q pair linear) _
          (each_map (L p) (λ e. (0 < e) × (e < v)) (IsSomeLine v q pair linear) (λ e h. line_of p e lp h.0 h.1) (upward 1 (v - 1)) (each_below (λ e. (0 < e) × (e < v)) (v - 1 + 1 - 1) (λ i. 1 + i) (λ i l. (omega arith, omega arith))))));
      found = λ x y l m.
          let w = from_to x y m in
          let pos : 0 < w.0 = step_positive q v add mul sum scale space x y w.0 (omega arith) (λ e. absurd (omega arith)) w.2 in (
            L x w.0,
            among-join_below (L x w.0) v x (λ p. map (L p) (upward 1 (v - 1))) (omega arith)
                (among_map (L x) w.0 (upward 1 (v - 1)) (among-list_below w.0 (v - 1 + 1 - 1) (w.0 - 1) (λ i. 1 + i) (omega (arith, w.1)) (omega arith))),
            record { differs = line_differs q v add mul sum scale space x w.0 pos w.1; same = λ z. ap (holds z) (sym (pair_of x y (omega arith) m)) },
          );
    }
