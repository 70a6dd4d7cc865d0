-- The form x_0 * conj y_0 + x_1 * conj y_1 + x_2 * conj y_2 over a field with a conjugation.
use Rattle.std.proofs.Common.{ap, ap₂, arith, inl, inr, sym, ℕ, ◌<◌, ◌==◌, ◌∙◌, ◌≡◌, ◌≢◌}
use Rattle.std.proofs.Math.Nat.{pos_of_ne-zero}
use Rattle.counting.proofs.Booleans.{cases_eq}
use Rattle.counting.proofs.Counts.{sum_below-same}
use Rattle.counting.specs.Sums.{one, sum_below}
use Rattle.design_base.specs.Rings.{IsField}
use Rattle.field_tables.proofs.AnyField.{field_laws}
use Rattle.counting.proofs.Totals.{sum_below-moved}
use Rattle.plane_curves.specs.Secants.{IsOver}
use Rattle.plane_curves.specs.declared.vectors.Vector.{Vector}

-- m * x + n * y
unfoldable pub mixed : (ℕ → ℕ → ℕ) → (ℕ → ℕ → ℕ) → ℕ → Vector → ℕ → Vector → Vector
mixed add mul m x n y = record { a = add (mul m x.a) (mul n y.a); b = add (mul m x.b) (mul n y.b); c = add (mul m x.c) (mul n y.c) }

unfoldable pub hermitian : (ℕ → ℕ → ℕ) → (ℕ → ℕ → ℕ) → (ℕ → ℕ) → Vector → Vector → ℕ
hermitian add mul conj x y = add (mul x.a (conj y.a)) (add (mul x.b (conj y.b)) (mul x.c (conj y.c)))

-- a mix that is 0 has the weights 0 and 0
abbrev pub IsIndependent : ℕ → (ℕ → ℕ → ℕ) → (ℕ → ℕ → ℕ) → Vector → Vector → Type 0
IsIndependent q add mul x y = (m n : ℕ) → m < q → n < q → (mixed add mul m x n y).a ≡ 0 → (mixed add mul m x n y).b ≡ 0 → (mixed add mul m x n y).c ≡ 0 → (m ≡ 0) × (n ≡ 0)

pub record IsConjugation (q : ℕ) (add mul : ℕ → ℕ → ℕ) (conj : ℕ → ℕ) : Type 0 where
  pub below : (x : ℕ) → conj x < q
  pub sums : (x y : ℕ) → x < q → y < q → conj (add x y) ≡ add (conj x) (conj y)
  pub products : (x y : ℕ) → conj (mul x y) ≡ mul (conj x) (conj y)
  pub twice : (x : ℕ) → x < q → conj (conj x) ≡ x

module _ (q : ℕ) (add mul : ℕ → ℕ → ℕ) (field : IsField q add mul) (conj : ℕ → ℕ) (conjugation : IsConjugation q add mul conj) where
  open field use {ring as r}
  open field_laws q add mul field use {add_cancel, distribute_right, mul-zero, mul_cancel, no_zero_divisors, products_left, sums_left, zero-mul, zero_below, zero_sum}

  conj_zero : conj 0 ≡ 0
  conj_zero = add_cancel (conj 0) (conj 0) 0 (conjugation.below 0) zero_below
      (sym (conjugation.sums 0 0 zero_below zero_below) ∙ ap conj (r.zero_neutral 0 zero_below) ∙ sym (r.zero_neutral (conj 0) (conjugation.below 0)))

  zero_conj : (x : ℕ) → x < q → conj x ≡ 0 → x ≡ 0
  zero_conj x l e = sym (conjugation.twice x l) ∙ ap conj e ∙ conj_zero

  pub norm_zero : (x : ℕ) → x < q → mul x (conj x) ≡ 0 → x ≡ 0
  norm_zero x l e = elim (no_zero_divisors x (conj x) l (conjugation.below x) e) [ inl f ↦ f | inr f ↦ zero_conj x l f ]

  abbrev Below : Vector → Type 0
  Below x = IsOver q x

  abbrev mix : ℕ → Vector → ℕ → Vector → Vector
  mix = mixed add mul

  mix_below : (m : ℕ) (x : Vector) (n : ℕ) (y : Vector) → Below (mix m x n y)
  unfolding mixed
  mix_below m x n y = record { a = r.sums_below (mul m x.a) (mul n y.a); b = r.sums_below (mul m x.b) (mul n y.b); c = r.sums_below (mul m x.c) (mul n y.c) }

  abbrev form : Vector → Vector → ℕ
  form = hermitian add mul conj

  form_below : (x y : Vector) → form x y < q
  unfolding hermitian
  form_below x y = r.sums_below (mul x.a (conj y.a)) (add (mul x.b (conj y.b)) (mul x.c (conj y.c)))

  form-mix : (m : ℕ) (x : Vector) (n : ℕ) (y z : Vector) → form (mix m x n y) z ≡ add (mul m (form x z)) (mul n (form y z))
  unfolding hermitian mixed
  form-mix m x n y z = simp (r.products_distribute, distribute_right, r.products_associate, r.products_commute, products_left, r.sums_associate, r.sums_commute, sums_left)

  form-turn : (x y : Vector) → Below y → form y x ≡ conj (form x y)
  unfolding hermitian
  form-turn x y l =
      sym (conjugation.sums (mul x.a (conj y.a)) (add (mul x.b (conj y.b)) (mul x.c (conj y.c))) (r.products_below x.a (conj y.a)) (r.sums_below (mul x.b (conj y.b)) (mul x.c (conj y.c)))
      ∙ ap₂ add (part x.a y.a l.a) (conjugation.sums (mul x.b (conj y.b)) (mul x.c (conj y.c)) (r.products_below x.b (conj y.b)) (r.products_below x.c (conj y.c)) ∙ ap₂ add (part x.b y.b l.b) (part x.c y.c l.c)))
    where
      part : (s t : ℕ) → t < q → conj (mul s (conj t)) ≡ mul t (conj s)
      part s t l = conjugation.products s (conj t) ∙ ap (mul (conj s)) (conjugation.twice t l) ∙ r.products_commute (conj s) t

  -- where the form has the value 0 at two vectors and between them, it has it between all their mixes
  none : (m n : ℕ) → add (mul m 0) (mul n 0) ≡ 0
  none m n = ap₂ add (mul-zero m) (mul-zero n) ∙ zero_sum

  turned_zero : (x y : Vector) → Below y → form x y ≡ 0 → form y x ≡ 0
  turned_zero x y l e = form-turn x y l ∙ ap conj e ∙ conj_zero

  mixed_zero : (m : ℕ) (x : Vector) (n : ℕ) (y z : Vector) → form x z ≡ 0 → form y z ≡ 0 → form (mix m x n y) z ≡ 0
  mixed_zero m x n y z e f = form-mix m x n y z ∙ ap₂ (λ s t. add (mul m s) (mul n t)) e f ∙ none m n

  flat : (m : ℕ) (x : Vector) (n : ℕ) (y : Vector) → Below x → Below y → form x x ≡ 0 → form y y ≡ 0 → form x y ≡ 0 → form (mix m x n y) (mix m x n y) ≡ 0
  flat m x n y lx ly xx yy xy =
      let yx : form y x ≡ 0 = turned_zero x y ly xy in
      let z = mix m x n y in
      mixed_zero m x n y z (turned_zero z x lx (mixed_zero m x n y x xx yx)) (turned_zero z y ly (mixed_zero m x n y y xy yy))

  -- a sum with one term alone
  first_alone : (s t u : ℕ) → s < q → t ≡ 0 → u ≡ 0 → add s (add t u) ≡ s
  first_alone s t u l e f = ap (add s) (ap₂ add e f ∙ zero_sum) ∙ r.zero_neutral s l

  second_alone : (s t u : ℕ) → t < q → s ≡ 0 → u ≡ 0 → add s (add t u) ≡ t
  second_alone s t u l e f = sums_left s t u ∙ first_alone t s u l e f

  third_alone : (s t u : ℕ) → u < q → s ≡ 0 → t ≡ 0 → add s (add t u) ≡ u
  third_alone s t u l e f = ap (add s) (r.sums_commute t u) ∙ second_alone s u t l e f

  times_none : (s t : ℕ) → s ≡ 0 → mul s t ≡ 0
  times_none s t e = ap (λ w. mul w t) e ∙ zero-mul t

  times_conj : (s t : ℕ) → t ≡ 0 → mul s (conj t) ≡ 0
  times_conj s t e = ap (λ w. mul s (conj w)) e ∙ ap (mul s) conj_zero ∙ mul-zero s

  only_a : (u : Vector) → Below u → u.b ≡ 0 → u.c ≡ 0 → form u u ≡ 0 → u.a ≡ 0
  unfolding hermitian
  only_a u l b c e = norm_zero u.a l.a (sym (first_alone _ _ _ (r.products_below u.a (conj u.a)) (times_none u.b (conj u.b) b) (times_none u.c (conj u.c) c)) ∙ e)

  only_b : (u : Vector) → Below u → u.a ≡ 0 → u.c ≡ 0 → form u u ≡ 0 → u.b ≡ 0
  unfolding hermitian
  only_b u l a c e = norm_zero u.b l.b (sym (second_alone _ _ _ (r.products_below u.b (conj u.b)) (times_none u.a (conj u.a) a) (times_none u.c (conj u.c) c)) ∙ e)

  only_c : (u : Vector) → Below u → u.a ≡ 0 → u.b ≡ 0 → form u u ≡ 0 → u.c ≡ 0
  unfolding hermitian
  only_c u l a b e = norm_zero u.c l.c (sym (third_alone _ _ _ (r.products_below u.c (conj u.c)) (times_none u.a (conj u.a) a) (times_none u.b (conj u.b) b)) ∙ e)

  -- a multiple c * x, where c is not 0
  module _ (c : ℕ) (x o : Vector) (hc : c < q) (lx : Below x) where
    form-multiple : form (mix c x 0 o) (mix c x 0 o) ≡ mul c (mul (conj c) (conj (form x x)))
    form-multiple =
        let u = mix c x 0 o in
        let alone : (z : Vector) → form u z ≡ mul c (form x z) = λ z. form-mix c x 0 o z ∙ ap (add (mul c (form x z))) (zero-mul (form o z)) ∙ r.zero_neutral (mul c (form x z)) (r.products_below c (form x z)) in
        alone u ∙ ap (mul c) (form-turn u x lx ∙ ap conj (alone x) ∙ conjugation.products c (form x x))

    pub multiple_zero : form x x ≡ 0 → form (mix c x 0 o) (mix c x 0 o) ≡ 0
    multiple_zero e = form-multiple ∙ ap (λ w. mul c (mul (conj c) (conj w))) e ∙ ap (λ w. mul c (mul (conj c) w)) conj_zero ∙ ap (mul c) (mul-zero (conj c)) ∙ mul-zero c

    pub multiple_zero-from : c ≢ 0 → form (mix c x 0 o) (mix c x 0 o) ≡ 0 → form x x ≡ 0
    multiple_zero-from ne e = elim (no_zero_divisors c (mul (conj c) (conj (form x x))) hc (r.products_below (conj c) (conj (form x x))) (sym form-multiple ∙ e)) [
      | inl f ↦ absurd (ne f)
      | inr f ↦ elim (no_zero_divisors (conj c) (conj (form x x)) (conjugation.below c) (conjugation.below (form x x)) f) [
        | inl g ↦ absurd (ne (zero_conj c hc g))
        | inr g ↦ zero_conj (form x x) (form_below x x) g
      ]
    ]

  negative : ℕ → ℕ
  negative x = (r.negatives x).0

  negative_below : (x : ℕ) → negative x < q
  unfolding negative
  negative_below x = (r.negatives x).1

  negative_zero : (x : ℕ) → x < q → negative x ≡ 0 → x ≡ 0
  unfolding negative
  negative_zero x l e = sym (r.zero_neutral x l) ∙ ap (add x) (sym e) ∙ (r.negatives x).2

  crossed : (s t : ℕ) → add (mul t s) (mul (negative s) t) ≡ 0
  unfolding negative
  crossed s t = ap (add (mul t s)) (r.products_commute (r.negatives s).0 t) ∙ sym (r.products_distribute t s (r.negatives s).0) ∙ ap (mul t) (r.negatives s).2 ∙ mul-zero t

  steep : (p z : Vector) → Below p → Below z → p.a ≢ 0 → z.a ≡ 0 → z.b ≢ 0 → form p p ≡ 0 → form z z ≡ 0 → form p z ≡ 0 → ⊥
  unfolding mixed hermitian negative
  steep p z lp lz pa za zb pp zz pz =
      elim (no_zero_divisors w.c (conj z.c) lw.c (conjugation.below z.c) (sym last ∙ mixed_zero z.b p (negative p.b) z z pz zz)) [
        | inl e ↦ elim (no_zero_divisors z.b p.a lz.b lp.a (sym w_first ∙ only_a w lw (crossed p.b z.b) e (flat z.b p (negative p.b) z lp lz pp zz pz))) [ inl f ↦ zb f | inr f ↦ pa f ]
        | inr e ↦ zb (only_b z lz za (zero_conj z.c lz.c e) zz)
      ]
    where
      w : Vector
      w = mix z.b p (negative p.b) z

      lw : Below w
      lw = mix_below z.b p (negative p.b) z

      w_first : w.a ≡ mul z.b p.a
      w_first = ap (λ t. add (mul z.b p.a) (mul (negative p.b) t)) za ∙ ap (add (mul z.b p.a)) (mul-zero (negative p.b)) ∙ r.zero_neutral (mul z.b p.a) (r.products_below z.b p.a)

      last : form w z ≡ mul w.c (conj z.c)
      last = third_alone (mul w.a (conj z.a)) (mul w.b (conj z.b)) (mul w.c (conj z.c)) (r.products_below w.c (conj z.c)) (times_conj w.a z.a za) (times_none w.b (conj z.b) (crossed p.b z.b))

  module _ (x y : Vector) (lx : Below x) (ly : Below y) (independent : IsIndependent q add mul x y) (xx : form x x ≡ 0) (yy : form y y ≡ 0) where
    module _ (xy : form x y ≡ 0) where
      lone : (m n : ℕ) → m < q → n < q → (mix m x n y).a ≡ 0 → (mix m x n y).b ≡ 0 → (m ≡ 0) × (n ≡ 0)
      lone m n lm ln a b = independent m n lm ln a b (only_c (mix m x n y) (mix_below m x n y) a b (flat m x n y lx ly xx yy xy))

      level : x.a ≡ 0 → y.a ≡ 0 → ⊥
      unfolding mixed
      level xa ya =
          let cross = lone y.b (negative x.b) ly.b (negative_below x.b) (ap₂ (λ s t. add (mul y.b s) (mul (negative x.b) t)) xa ya ∙ none y.b (negative x.b)) (crossed x.b y.b) in
          let xb : x.b ≡ 0 = negative_zero x.b lx.b cross.1 in
          let one_none : ◌≡◌ {A = ℕ} 1 0 = (lone 1 0 r.one_below zero_below (ap₂ (λ s t. add (mul 1 s) (mul 0 t)) xa ya ∙ none 1 0) (ap₂ (λ s t. add (mul 1 s) (mul 0 t)) xb cross.0 ∙ none 1 0)).0 in
          absurd (omega arith)

      z : Vector
      z = mix y.a x (negative x.a) y

      lz : Below z
      unfolding z
      lz = mix_below y.a x (negative x.a) y

      z_first : z.a ≡ 0
      unfolding z mixed
      z_first = crossed x.a y.a

      z_second : z.b ≡ 0 → ⊥
      unfolding z
      z_second e =
          let both = lone y.a (negative x.a) ly.a (negative_below x.a) z_first e in
          level (negative_zero x.a lx.a both.1) both.0

      zz : form z z ≡ 0
      unfolding z
      zz = flat y.a x (negative x.a) y lx ly xx yy xy

      yx : form y x ≡ 0
      yx = turned_zero x y ly xy

      pub not_flat : ⊥
      unfolding z
      not_flat = elim (cases_eq x.a 0) [
        | inr ne ↦ steep x z lx lz ne z_first z_second xx zz (turned_zero z x lx (mixed_zero y.a x (negative x.a) y x xx yx))
        | inl xa ↦ elim (cases_eq y.a 0) [
          | inr ne ↦ steep y z ly lz ne z_first z_second yy zz (turned_zero z y ly (mixed_zero y.a x (negative x.a) y y xy yy))
          | inl ya ↦ level xa ya
        ]
      ]

    between : ℕ
    between = form x y

    between_below : between < q
    unfolding between
    between_below = form_below x y

    not_zero : between ≢ 0
    unfolding between
    not_zero e = not_flat e

    -- the form's value at x + t * y
    along : (t : ℕ) → t < q → form (mix 1 x t y) (mix 1 x t y) ≡ add (mul (conj t) between) (conj (mul (conj t) between))
    unfolding between
    along t l =
        let u = mix 1 x t y in
        let lu = mix_below 1 x t y in
        let ux : form u x ≡ mul t (conj (form x y)) =
        form-mix 1 x t y x ∙ ap₂ add (ap (mul 1) xx ∙ mul-zero 1) (ap (mul t) (form-turn x y ly)) ∙ left_zero (mul t (conj (form x y))) (r.products_below t (conj (form x y))) in
        let uy : form u y ≡ form x y =
        form-mix 1 x t y y ∙ ap₂ add (left_one (form x y) (form_below x y)) (ap (mul t) yy ∙ mul-zero t) ∙ r.zero_neutral (form x y) (form_below x y) in
        form-mix 1 x t y u
        ∙ ap₂ add
        (left_one (form x u) (form_below x u) ∙ form-turn u x lx ∙ ap conj ux ∙ conjugation.products t (conj (form x y)) ∙ ap (mul (conj t)) (conjugation.twice (form x y) (form_below x y)))
        (ap (mul t) (form-turn u y ly ∙ ap conj uy) ∙ ap (λ w. mul w (conj (form x y))) (sym (conjugation.twice t l)) ∙ sym (conjugation.products (conj t) (form x y)))
      where
        left_one : (w : ℕ) → w < q → mul 1 w ≡ w
        left_one w m = r.products_commute 1 w ∙ r.one_neutral w m

        left_zero : (w : ℕ) → w < q → add 0 w ≡ w
        left_zero w m = r.sums_commute 0 w ∙ r.zero_neutral w m

    -- as many of those are 0 as w with w + conj w equal to 0
    pub line_zeros : sum_below q (λ t. one (form (mix 1 x t y) (mix 1 x t y) == 0)) ≡ sum_below q (λ w. one (add w (conj w) == 0))
    line_zeros =
        sum_below-same q _ (λ t. one (add (mul (conj t) between) (conj (mul (conj t) between)) == 0)) (λ t l. ap (λ v. one (v == 0)) (along t l))
        ∙ sum_below-moved q (λ t. mul (conj t) between) (λ w. one (add w (conj w) == 0)) (λ t l. r.products_below (conj t) between)
        (λ t u l m e. sym (conjugation.twice t l) ∙ ap conj (mul_cancel between (conj t) (conj u) (pos_of_ne-zero not_zero) between_below (conjugation.below t) (conjugation.below u)
        (r.products_commute between (conj t) ∙ e ∙ r.products_commute (conj u) between)) ∙ conjugation.twice u m)
