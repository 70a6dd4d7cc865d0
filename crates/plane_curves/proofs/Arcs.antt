-- The points of a plane over a field of 2 ^ s elements at which a form without roots has a value below M: a line holds M of them or none.
use Rattle.std.proofs.Common.{Bool, List, ap, ap₂, arith, cond, get_or, inl, inr, length, refl, suc, sym, true, ℕ, ◌%◌, ◌&&◌, ◌*◌, ◌+◌, ◌-◌, ◌/◌, ◌<◌, ◌==◌, ◌^◌, ◌∙◌, ◌≡◌, ◌≢◌, ◌≤◌}
use Rattle.std.proofs.Math.Nat.{add-mul-div_left, add-mul-mod_self_left, div-eq_of_lt, mod-eq_of_lt, mod-lt, pow-suc, pow-zero}
use Rattle.counting.proofs.Booleans.{bool_same, both, cases_Bool, eq-eqb, eqb-true, false≢true, ltb-true}
use Rattle.std.specs.List.{sum_by}
use Rattle.std.specs.Prelude.{nat_lt}
use Rattle.counting.proofs.Counts.{one-false, one-true, sum_below-at, sum_below-same, sum_below-turn}
use Rattle.counting.proofs.Lists.{one-and}
use Rattle.counting.proofs.OnePlace.{filter_sum}
use Rattle.counting.specs.Sums.{list_below, one, sum_below}
use Rattle.design_base.proofs.Points.{sum_set}
use Rattle.design_base.specs.Blocks.{IsBibd, cover, holds}
use Rattle.design_base.specs.Canonical.{canonical}
use Rattle.design_base.specs.Digits.{digits}
use Rattle.design_base.specs.Rings.{IsCommutativeRing, IsField}
use Rattle.counting.proofs.Totals.{length_filtered, sum_below-grid, sum_by-list_below}
use Rattle.field_tables.proofs.AnyField.{add_cancel, difference, mul-zero}
use Rattle.field_tables.proofs.Numbers.{number-digits}
use Rattle.spaces.proofs.Leads.{points_apart}
use Rattle.spaces.proofs.Space.{line, line_below, line_differs, on_line, on_line-from, step, step_positive}
use Rattle.spaces.proofs.VectorSpaces.{IsVectorSpace, combination-suc}
use Rattle.spaces.specs.Lines.{projective_lines_over, subspace}
use Rattle.spaces.specs.Points.{first_nonzero, lead, points, points_below}
use Rattle.spaces.specs.Vectors.{combination, multiple, vector_sum}
use Rattle.plane_curves.specs.Curves.{is_on_arc, quadratic}
use Rattle.plane_curves.specs.Traces.{points_on, trace}
use Rattle.plane_curves.proofs.Forms.{line_count, point_total}
use Rattle.plane_curves.proofs.Sections.{curve_design, in_plane, plane_holds, point_at, sum_places, vectors}

-- a test that only points pass
pub over_vectors : (q n : ℕ) (test : ℕ → Bool) → ((z : ℕ) → test z ≡ true → lead q n z ≡ 1) → sum_below (length (points q n)) (λ u. one (test (get_or (points q n) u 0))) ≡ sum_below (q ^ n) (λ z. one (test z))
unfolding points points_below
over_vectors q n test leads =
    sum_places (λ z. one (test z)) (points q n)
    ∙ filter_sum (λ z. lead q n z == 1) (λ z. one (test z)) (list_below (q ^ n) (λ z. z))
    ∙ sum_by-list_below (λ z. one (lead q n z == 1) * one (test z)) (q ^ n) (λ z. z)
    ∙ sum_below-same (q ^ n) _ _ (λ z l. by_test z)
  where
    by_test : (z : ℕ) → one (lead q n z == 1) * one (test z) ≡ one (test z)
    by_test z = elim (cases_Bool (test z)) [
      | inl e ↦ ap (λ t. t * one (test z)) (one-true (lead q n z == 1) (eq-eqb _ _ (leads z e))) ∙ omega arith
      | inr e ↦ (let none : one (test z) ≡ 0 = one-false (test z) (λ f. false≢true (sym e ∙ f)) in ap (λ t. one (lead q n z == 1) * t) none ∙ omega (arith, none))
    ]

pub and_same : (p b c : Bool) → (p ≡ true → b ≡ c) → (p && b) ≡ (p && c)
and_same true b c h = h refl
and_same _ b c h = refl

-- a vector whose first entry is 1 is a point, and so are those of an arc
pub lead_first : (q z : ℕ) → z % q ≡ 1 → lead q 3 z ≡ 1
unfolding lead
lead_first q z e = ap (λ t. cond (t == 0) (first_nonzero (digits q 2 (z / q))) t) e

pub on_arc_first : (add mul : ℕ → ℕ → ℕ) (q c M z : ℕ) → is_on_arc add mul q c M z ≡ true → z % q ≡ 1
unfolding is_on_arc
on_arc_first add mul q c M z h = eqb-true (z % q) 1 (both (z % q == 1) (nat_lt (quadratic add mul c (z / q % q) (z / q / q % q)) M) h).0

module _ (q : ℕ) (add mul : ℕ → ℕ → ℕ) (field : IsField q add mul) where
  abbrev r : IsCommutativeRing q add mul
  r = field.ring

  abbrev sum : ℕ → ℕ → ℕ
  sum = vector_sum add q 3

  abbrev scale : ℕ → ℕ → ℕ
  scale = multiple mul q 3

  abbrev s : IsVectorSpace q (q ^ 3) add mul sum scale
  s = (vectors q add mul field 3).vectors

  abbrev plane_of : ℕ → ℕ → List ℕ
  plane_of x y = subspace add mul q 3 x y

  positive : 0 < q
  positive = omega (arith, r.one_below)

  -- ---- entries of a combination
  pub entry_first : (n a x b y : ℕ) → combination add mul q (suc n) a x b y % q ≡ add (mul a (x % q)) (mul b (y % q))
  entry_first n a x b y =
      ap (λ t. t % q) (combination-suc q add mul r n a x b y) ∙ add-mul-mod_self_left (add (mul a (x % q)) (mul b (y % q))) q (combination add mul q n a (x / q) b (y / q))
      ∙ mod-eq_of_lt (r.sums_below (mul a (x % q)) (mul b (y % q)))

  pub entry_rest : (n a x b y : ℕ) → combination add mul q (suc n) a x b y / q ≡ combination add mul q n a (x / q) b (y / q)
  entry_rest n a x b y =
      ap (λ t. t / q) (combination-suc q add mul r n a x b y) ∙ add-mul-div_left (add (mul a (x % q)) (mul b (y % q))) (combination add mul q n a (x / q) b (y / q)) positive
      ∙ ap (λ t. t + combination add mul q n a (x / q) b (y / q)) (div-eq_of_lt (r.sums_below (mul a (x % q)) (mul b (y % q)))) ∙ omega arith

  -- ---- the vectors with first entry 1 in the plane of two of them are on their line
  module _ (x y w : ℕ) (lx : x < q ^ 3) (ly : y < q ^ 3) (lw : w < q ^ 3) (first_x : x % q ≡ 1) (first_y : y % q ≡ 1) (to_y : sum x w ≡ y) where
    abbrev points_of_line : List ℕ
    points_of_line = line q (q ^ 3) add mul sum scale (vectors q add mul field 3) x w

    straight : (m n : ℕ) → sum (scale m x) (scale n y) ≡ sum (scale (add m n) x) (scale n w)
    straight m n = ap (λ z. sum (scale m x) (scale n z)) (sym to_y) ∙ ap (sum (scale m x)) (s.scale-sum n x w) ∙ sym (s.sums_associate (scale m x) (scale n x) (scale n w))
        ∙ ap (λ z. sum z (scale n w)) (sym (s.add-scale m n x))

    from_x : (m n : ℕ) → add m n ≡ 1 → sum (scale m x) (scale n y) ≡ sum x (scale n w)
    from_x m n e = straight m n ∙ ap (λ z. sum z (scale n w)) (ap (λ t. scale t x) e ∙ s.one-scale x lx)

    weights : (m n : ℕ) → m < q → n < q → sum (scale m x) (scale n y) % q ≡ add m n
    unfolding combination
    weights m n lm ln = entry_first 2 m x n y ∙ ap₂ add (ap (mul m) first_x ∙ r.one_neutral m lm) (ap (mul n) first_y ∙ r.one_neutral n ln)

    on_their_line : (z : ℕ) → z % q ≡ 1 → holds z (plane_of x y) ≡ holds z points_of_line
    on_their_line z first_z = bool_same _ _
        (λ h. let i = in_plane q add mul field 3 x y z h in
        on_line-from q (q ^ 3) add mul sum scale (vectors q add mul field 3) x w z (i.1, i.2.second, sym (from_x i.0 i.1 (sym (weights i.0 i.1 i.2.first i.2.second) ∙ ap (λ t. t % q) i.2.made ∙ first_z)) ∙ i.2.made))
        (λ h. let t = on_line q (q ^ 3) add mul sum scale (vectors q add mul field 3) x w z h in
        let m = difference q add mul r t.0 1 r.one_below in
        plane_holds q add mul field 3 x y z (m.0, t.0, record { first = m.1; second = t.1; made = from_x m.0 t.0 (r.sums_commute m.0 t.0 ∙ m.2) ∙ t.2 }))

    -- the entries of a point of the line
    abbrev point : ℕ → ℕ
    point t = sum x (scale t w)

    point_is : (t : ℕ) → point t ≡ combination add mul q 3 1 x t w
    unfolding combination
    point_is t = ap (λ z. sum z (scale t w)) (sym (s.one-scale x lx))

    unit : (a : ℕ) → mul 1 (a % q) ≡ a % q
    unit a = r.products_commute 1 (a % q) ∙ r.one_neutral (a % q) (mod-lt a positive)

    flat : w % q ≡ 0
    flat = add_cancel q add mul r 1 (w % q) 0 (mod-lt w positive) positive
        (sym (ap₂ add (r.one_neutral 1 r.one_below) (unit w)) ∙ ap (λ t. add (mul 1 t) (mul 1 (w % q))) (sym first_x)
        ∙ sym (entry_first 2 1 x 1 w) ∙ ap (λ t. t % q) (sym (point_is 1) ∙ ap (sum x) (s.one-scale w lw) ∙ to_y) ∙ first_y ∙ sym (r.zero_neutral 1 r.one_below))

    point_first : (t : ℕ) → point t % q ≡ 1
    point_first t = ap (λ z. z % q) (point_is t) ∙ entry_first 2 1 x t w ∙ ap₂ add (unit x ∙ first_x) (ap (mul t) flat ∙ mul-zero q add mul r t) ∙ r.zero_neutral 1 r.one_below

    point_second : (t : ℕ) → point t / q % q ≡ add (x / q % q) (mul t (w / q % q))
    point_second t = ap (λ z. z / q % q) (point_is t) ∙ ap (λ z. z % q) (entry_rest 2 1 x t w) ∙ entry_first 1 1 (x / q) t (w / q) ∙ ap (λ z. add z (mul t (w / q % q))) (unit (x / q))

    point_third : (t : ℕ) → point t / q / q % q ≡ add (x / q / q % q) (mul t (w / q / q % q))
    point_third t = ap (λ z. z / q / q % q) (point_is t) ∙ ap (λ z. z / q % q) (entry_rest 2 1 x t w) ∙ ap (λ z. z % q) (entry_rest 1 1 (x / q) t (w / q))
        ∙ entry_first 0 1 (x / q / q) t (w / q / q) ∙ ap (λ z. add z (mul t (w / q / q % q))) (unit (x / q / q))

    turning : x ≢ y → (w / q % q ≡ 0) × (w / q / q % q ≡ 0) → ⊥
    turning ne e =
        let zero_w : w ≡ 0 = sym (number-digits q positive 3 w lw) ∙ omega (arith, flat, e.0, e.1, ap (λ t. q * t) e.0, ap (λ t. q * (w / q % q + q * t)) e.1) in
        absurd (omega (arith, step_positive q (q ^ 3) add mul sum scale (vectors q add mul field 3) x y w lx ne to_y))

  -- ---- arcs
  module _ (two : add 1 1 ≡ 0) (c M : ℕ) (small : M ≤ q) (closed : (x y : ℕ) → x < M → y < M → add x y < M) (hc : c < q) (no_root : (x : ℕ) → x < q → add (mul x x) (add x c) ≢ 0) where
    abbrev curve : ℕ → Bool
    curve = is_on_arc add mul q c M

    abbrev P : List ℕ
    P = points q 3

    abbrev at : ℕ → ℕ
    at i = get_or P i 0

    first_one : (z : ℕ) → curve z ≡ true → z % q ≡ 1
    first_one = on_arc_first add mul q c M

    value : (z : ℕ) → curve z ≡ true → quadratic add mul c (z / q % q) (z / q / q % q) < M
    unfolding is_on_arc
    value z h = ltb-true _ M (both (z % q == 1) (nat_lt (quadratic add mul c (z / q % q) (z / q / q % q)) M) h).1

    lead_one : (z : ℕ) → curve z ≡ true → lead q 3 z ≡ 1
    lead_one z h = lead_first q z (first_one z h)

    module _ (x y : ℕ) (lx : x < q ^ 3) (ly : y < q ^ 3) (ne : x ≢ y) (hx : curve x ≡ true) (hy : curve y ≡ true) where
      w : (d : ℕ) × (d < q ^ 3) × (sum x d ≡ y)
      w = step q (q ^ 3) add mul sum scale (vectors q add mul field 3) x y ly

      abbrev their_line : List ℕ
      their_line = line q (q ^ 3) add mul sum scale (vectors q add mul field 3) x w.0

      curve_point : (t : ℕ) → one (curve (sum x (scale t w.0))) ≡ one (nat_lt (quadratic add mul c (add (x / q % q) (mul t (w.0 / q % q))) (add (x / q / q % q) (mul t (w.0 / q / q % q)))) M)
      unfolding is_on_arc
      curve_point t = ap₂ (λ p v. one (p && nat_lt v M))
          (eq-eqb _ _ (point_first x y w.0 lx ly w.1 (first_one x hx) (first_one y hy) w.2 t))
          (ap₂ (quadratic add mul c) (point_second x y w.0 lx ly w.1 (first_one x hx) (first_one y hy) w.2 t) (point_third x y w.0 lx ly w.1 (first_one x hx) (first_one y hy) w.2 t))

      on_line_count : sum_by (λ z. one (curve z)) their_line ≡ M
      unfolding line
      on_line_count =
          sum_by-list_below (λ z. one (curve z)) q (λ t. sum x (scale t w.0))
          ∙ sum_below-same q _ _ (λ t l. curve_point t)
          ∙ line_count q add mul field two c M small closed hc no_root (x / q % q) (x / q / q % q) (w.0 / q % q) (w.0 / q / q % q)
          (mod-lt (x / q) positive) (mod-lt (x / q / q) positive) (mod-lt (w.0 / q) positive) (mod-lt (w.0 / q / q) positive)
          (turning x y w.0 lx ly w.1 (first_one x hx) (first_one y hy) w.2 ne) (value x hx)

      section : sum_below (q ^ 3) (λ z. one (curve z && holds z (plane_of x y))) ≡ M
      section =
          sum_below-same (q ^ 3) _ (λ z. one (curve z) * one (holds z their_line)) (λ z l.
          ap one (and_same (curve z) _ _ (λ e. on_their_line x y w.0 lx ly w.1 (first_one x hx) (first_one y hy) w.2 z (first_one z e))) ∙ one-and (curve z) (holds z their_line))
          ∙ sym (sum_set (q ^ 3) (λ z. one (curve z)) their_line
          (line_differs q (q ^ 3) add mul sum scale (vectors q add mul field 3) x w.0 (step_positive q (q ^ 3) add mul sum scale (vectors q add mul field 3) x y w.0 lx ne w.2) w.1)
          (line_below q (q ^ 3) add mul sum scale (vectors q add mul field 3) x w.0))
          ∙ on_line_count

    pub sections : (i j : ℕ) → i < j → j < length P → curve (at i) ≡ true → curve (at j) ≡ true → sum_below (length P) (λ u. one (curve (at u) && holds (at u) (plane_of (at i) (at j)))) ≡ M
    sections i j l m hi hj =
        over_vectors q 3 (λ z. curve z && holds z (plane_of (at i) (at j))) (λ z e. lead_one z (both _ _ e).0)
        ∙ section (at i) (at j) (point_at q add mul field 3 i (omega arith)).small (point_at q add mul field 3 j m).small
        (λ e. absurd (omega (arith, points_apart q 3 i j (omega arith) m e))) hi hj

    -- ---- how many points there are
    place_first : (a j : ℕ) → a < q → (a + q * j) % q ≡ a
    place_first a j l = add-mul-mod_self_left a q j ∙ mod-eq_of_lt l

    place_rest : (a j : ℕ) → a < q → (a + q * j) / q ≡ j
    place_rest a j l = add-mul-div_left a j positive ∙ ap (λ t. t + j) (div-eq_of_lt l) ∙ omega arith

    abbrev inside : ℕ → ℕ → ℕ
    inside x y = one (nat_lt (quadratic add mul c x y) M)

    first_only : (j : ℕ) → sum_below q (λ a. one (curve (a + q * j))) ≡ inside (j % q) (j / q % q)
    unfolding is_on_arc
    first_only j =
        sum_below-at q 1 (λ a. one (curve (a + q * j))) r.one_below (λ a l ne. one-false _ (λ e. ne (sym (place_first a j l) ∙ first_one (a + q * j) e)))
        ∙ ap₂ (λ p k. one (p && nat_lt (quadratic add mul c (k % q) (k / q % q)) M)) (eq-eqb _ _ (place_first 1 j r.one_below)) (place_rest 1 j r.one_below)

    cube : q ^ 3 ≡ q * (q * q)
    cube = omega (arith, pow-suc q 2, pow-suc q 1, pow-suc q 0, pow-zero q, ap (λ t. q * t) (pow-suc q 1), ap (λ t. q * t) (pow-suc q 0), ap (λ t. q * (q * t)) (pow-suc q 0), ap (λ t. q * (q * (q * t))) (pow-zero q))

    pub arc_points : 0 < M → length (points_on curve P) ≡ M + q * (M - 1)
    unfolding points_on
    arc_points some =
        length_filtered (λ i. curve (at i)) (length P)
        ∙ over_vectors q 3 curve lead_one
        ∙ ap (λ n. sum_below n (λ z. one (curve z))) cube
        ∙ sym (sum_below-grid q (q * q) (λ z. one (curve z)))
        ∙ sum_below-turn q (q * q) (λ a j. one (curve (a + q * j)))
        ∙ sum_below-same (q * q) _ (λ j. inside (j % q) (j / q % q)) (λ j l. first_only j)
        ∙ sym (sum_below-grid q q (λ j. inside (j % q) (j / q % q)))
        ∙ sum_below-same q _ (λ x. sum_below q (λ y. inside x y)) (λ x lx. sum_below-same q _ _ (λ y ly.
        ap₂ inside (place_first x y lx) (ap (λ t. t % q) (place_rest x y lx) ∙ mod-eq_of_lt ly)))
        ∙ point_total q add mul field two c M small closed hc no_root some

    pub arc_design : ((x y : ℕ) → x < y → y < length P → cover (projective_lines_over add mul q 3) x y ≡ 1) → IsBibd (canonical (trace (points_on curve P) (projective_lines_over add mul q 3))) (length (points_on curve P)) M 1
    arc_design = curve_design q add mul field 3 curve M sections
