-- Over a field the values of the polynomials of degree below 3, with the leading coefficient, are an array of strength three.
use Rattle.std.proofs.Common.{Bool, ap, ap₂, arith, cond, false, inl, inr, sym, true, ℕ, ◌+◌, ◌<◌, ◌==◌, ◌∙◌, ◌≡◌, ◌≢◌, ◌≤◌}
use Rattle.std.proofs.Math.Nat.{pos_of_ne-zero}
use Rattle.counting.proofs.Booleans.{cases_eq, eq-eqb, ne_eqb}
use Rattle.design_base.specs.Rings.{IsField}
use Rattle.field_tables.proofs.AnyField.{field_laws, lines_meet_once}
use Rattle.three_designs.specs.Arrays.{polynomial_entry}
use Rattle.three_designs.specs.Laws.{PolynomialsLaw}
use Rattle.three_designs.proofs.Cubes.{IsDetermined, cube_is_oa3}

module _ (n : ℕ) (add mul : ℕ → ℕ → ℕ) (field : IsField n add mul) where
  open field use {ring as r}
  open field_laws n add mul field use {add_cancel, difference, distribute_right, mul_cancel, products_left, sums_left}

  line : ℕ → ℕ → ℕ → ℕ
  line b c s = add (mul c s) b

  quadratic : ℕ → ℕ → ℕ → ℕ → ℕ
  quadratic a b c x = add (add a (mul b x)) (mul c (mul x x))

  -- f (h + d) = f h + d (b + c (h + (h + d)))
  step : (a b c h d : ℕ) → quadratic a b c (add h d) ≡ add (quadratic a b c h) (mul d (line b c (add h (add h d))))
  unfolding quadratic line
  step a b c h d = simp (r.products_distribute, distribute_right, r.sums_associate, r.sums_commute, sums_left, r.products_commute, products_left)

  constant_last : (a b c h : ℕ) → quadratic a b c h ≡ add (add (mul b h) (mul c (mul h h))) a
  unfolding quadratic
  constant_last a b c h = ap (λ t. add t (mul c (mul h h))) (r.sums_commute a (mul b h)) ∙ r.sums_associate (mul b h) a (mul c (mul h h)) ∙ ap (add (mul b h)) (r.sums_commute a (mul c (mul h h))) ∙ sym (r.sums_associate (mul b h) (mul c (mul h h)) a)

  module _ (a b c u v w : ℕ) (la : a < n) (lb : b < n) (lc : c < n) (lu : u < n) (lv : v < n) (lw : w < n) where
    -- two polynomials that agree at h and at i have one chord
    chord : (h i : ℕ) → h < n → i < n → h ≢ i → quadratic a b c h ≡ quadratic u v w h → quadratic a b c i ≡ quadratic u v w i → line b c (add h i) ≡ line v w (add h i)
    unfolding line
    chord h i lh li ne e f =
        let d = difference h i li in
        let pos : 0 < d.0 = pos_of_ne-zero (λ z. ne (sym (r.zero_neutral h lh) ∙ ap (add h) (sym z) ∙ d.2)) in
        let at : (a b c : ℕ) → quadratic a b c i ≡ add (quadratic a b c h) (mul d.0 (line b c (add h i))) = λ a b c. ap (quadratic a b c) (sym d.2) ∙ step a b c h d.0 ∙ ap (λ t. add (quadratic a b c h) (mul d.0 (line b c (add h t)))) d.2 in
        mul_cancel d.0 (line b c (add h i)) (line v w (add h i)) pos d.1 (r.sums_below _ _) (r.sums_below _ _)
        (add_cancel (quadratic a b c h) _ _ (r.products_below _ _) (r.products_below _ _) (sym (at a b c) ∙ f ∙ at u v w ∙ ap (λ t. add t (mul d.0 (line v w (add h i)))) (sym e)))

    -- the coefficients one after another
    rest_same : (h i : ℕ) → h < n → i < n → h ≢ i → quadratic a b c h ≡ quadratic u v w h → quadratic a b c i ≡ quadratic u v w i → c ≡ w → (a ≡ u) × (b ≡ v) × (c ≡ w)
    unfolding line
    rest_same h i lh li ne e f same =
        let second : b ≡ v = add_cancel (mul c (add h i)) b v lb lv (chord h i lh li ne e f ∙ ap (λ t. add (mul t (add h i)) v) (sym same)) in
        (add_cancel (add (mul b h) (mul c (mul h h))) a u la lu (sym (constant_last a b c h) ∙ e ∙ constant_last u v w h ∙ ap₂ (λ s t. add (add (mul s h) (mul t (mul h h))) u) (sym second) (sym same)), second, same)

    three_places : (h i j : ℕ) → h < n → i < n → j < n → h ≢ i → h ≢ j → i ≢ j → quadratic a b c h ≡ quadratic u v w h → quadratic a b c i ≡ quadratic u v w i → quadratic a b c j ≡ quadratic u v w j → (a ≡ u) × (b ≡ v) × (c ≡ w)
    unfolding line
    three_places h i j lh li lj hi hj ij e f g = elim (cases_eq c w) [
      | inl same ↦ rest_same h i lh li hi e f same
      | inr ne ↦ absurd (ij (add_cancel h i j li lj
          (lines_meet_once n add mul r field.inverses c w b v lc lw lb lv ne (add h i) (add h j) (r.sums_below h i) (r.sums_below h j) (chord h i lh li hi e f) (chord h j lh lj hj e g))))
    ]

  entry_at : (a b c j : ℕ) → j < n → polynomial_entry n add mul a b c j ≡ quadratic a b c j
  unfolding quadratic
  entry_at a b c j l = ap (λ t. cond t c (add (add a (mul b j)) (mul c (mul j j)))) (ne_eqb j n (omega arith))

  entry_last : (a b c j : ℕ) → j ≡ n → polynomial_entry n add mul a b c j ≡ c
  entry_last a b c j e = ap (λ t. cond t c (add (add a (mul b j)) (mul c (mul j j)))) (eq-eqb j n e)

  polynomials_determined : (k : ℕ) → k ≤ n + 1 → IsDetermined k n (polynomial_entry n add mul)
  polynomials_determined k few = record { small = small; unique = unique }
    where
      small : (x y z j : ℕ) → x < n → y < n → z < n → j < k → polynomial_entry n add mul x y z j < n
      small x y z j lx ly lz l = pick (j == n) lz (r.sums_below _ _)
        where
          pick : (t : Bool) {p q : ℕ} → p < n → q < n → cond t p q < n
          pick true l m = l
          pick false l m = m

      unique : (h i j x y z u v w : ℕ) → h < i → i < j → j < k → x < n → y < n → z < n → u < n → v < n → w < n
          → polynomial_entry n add mul x y z h ≡ polynomial_entry n add mul u v w h → polynomial_entry n add mul x y z i ≡ polynomial_entry n add mul u v w i
          → polynomial_entry n add mul x y z j ≡ polynomial_entry n add mul u v w j → (x ≡ u) × (y ≡ v) × (z ≡ w)
      unique h i j x y z u v w lh li lj lx ly lz lu lv lw e f g =
          let hh : h < n = omega arith in let ii : i < n = omega arith in
          let e' : quadratic x y z h ≡ quadratic u v w h = sym (entry_at x y z h hh) ∙ e ∙ entry_at u v w h hh in
          let f' : quadratic x y z i ≡ quadratic u v w i = sym (entry_at x y z i ii) ∙ f ∙ entry_at u v w i ii in
          elim (cases_eq j n) [
            | inl last ↦ rest_same x y z u v w lx ly lz lu lv lw h i hh ii (omega arith) e' f' (sym (entry_last x y z j last) ∙ g ∙ entry_last u v w j last)
            | inr ne ↦ let jj : j < n = omega arith in three_places x y z u v w lx ly lz lu lv lw h i j hh ii jj (omega arith) (omega arith) (omega arith) e' f' (sym (entry_at x y z j jj) ∙ g ∙ entry_at u v w j jj)
          ]

pub polynomials_are_oa3 : PolynomialsLaw
polynomials_are_oa3 k n add mul field few = cube_is_oa3 k n (polynomial_entry n add mul) (polynomials_determined n add mul field k few)
