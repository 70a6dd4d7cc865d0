-- Lines in a space over a field: the points p + t * e.
use Rattle.std.proofs.Common.{List, ap, arith, inl, inr, length, sym, true, ℕ, ◌<◌, ◌∙◌, ◌≡◌, ◌≢◌}
use Rattle.std.proofs.Math.Nat.{pos_of_ne-zero}
use Rattle.counting.proofs.Booleans.{bool_same, cases_eq}
use Rattle.std.specs.List.{AllByRecursion}
use Rattle.counting.proofs.Ranges.{each_below, length-list_below}
use Rattle.counting.specs.Sums.{list_below}
use Rattle.design_base.proofs.Canonical.{Differs, differs_below}
use Rattle.design_base.proofs.Cover.{holds_below, holds_below-from}
use Rattle.design_base.specs.Blocks.{holds}
use Rattle.design_base.specs.Rings.{IsCommutativeRing, IsField}
use Rattle.field_tables.proofs.AnyField.{difference, divide}
use Rattle.spaces.proofs.VectorSpaces.{IsVectorSpace}

-- a space over a field, with the vector 0
pub record IsSpace (q v : ℕ) (add mul sum scale : ℕ → ℕ → ℕ) : Type 0 where
  pub field : IsField q add mul
  pub vectors : IsVectorSpace q v add mul sum scale
  pub some : 0 < v

module _ (q v : ℕ) (add mul sum scale : ℕ → ℕ → ℕ) (space : IsSpace q v add mul sum scale) where
  abbrev r : IsCommutativeRing q add mul
  r = space.field.ring

  abbrev s : IsVectorSpace q v add mul sum scale
  s = space.vectors

  pub positive : 0 < q
  positive = let h : 1 < q = space.field.ring.one_below in omega arith

  undo : (x y : ℕ) → y < v → sum (sum x y) (s.negatives x).0 ≡ y
  undo x y h = ap (λ t. sum t (s.negatives x).0) (s.sums_commute x y) ∙ s.sums_associate y x (s.negatives x).0 ∙ ap (sum y) (s.negatives x).2 ∙ s.zero_neutral y h

  pub sum_cancel : (x y z : ℕ) → y < v → z < v → sum x y ≡ sum x z → y ≡ z
  sum_cancel x y z hy hz e = sym (undo x y hy) ∙ ap (λ t. sum t (s.negatives x).0) e ∙ undo x z hz

  -- from x to z
  pub step : (x z : ℕ) → z < v → (d : ℕ) × (d < v) × (sum x d ≡ z)
  step x z h = (
    sum z (s.negatives x).0,
    s.sums_below z (s.negatives x).0,
    sym (s.sums_associate x z (s.negatives x).0) ∙ undo x z h,
  )

  pub step_positive : (x z d : ℕ) → x < v → x ≢ z → sum x d ≡ z → 0 < d
  step_positive x z d hx ne e = pos_of_ne-zero (λ f. ne (sym (s.zero_neutral x hx) ∙ ap (sum x) (sym f) ∙ e))

  -- 0 times a vector, and a number times the vector 0
  pub zero-scale : (x : ℕ) → scale 0 x ≡ 0
  zero-scale x = sum_cancel (scale 0 x) (scale 0 x) 0 (s.multiples_below 0 x) space.some
      (sym (s.add-scale 0 0 x) ∙ ap (λ t. scale t x) (r.zero_neutral 0 positive) ∙ sym (s.zero_neutral (scale 0 x) (s.multiples_below 0 x)))

  pub scale-zero : (t : ℕ) → scale t 0 ≡ 0
  scale-zero t = sum_cancel (scale t 0) (scale t 0) 0 (s.multiples_below t 0) space.some
      (sym (s.scale-sum t 0 0) ∙ ap (scale t) (s.zero_neutral 0 space.some) ∙ sym (s.zero_neutral (scale t 0) (s.multiples_below t 0)))

  -- a product that is 0 has a factor that is 0
  pub scale_nonzero : (c x : ℕ) → c < q → x < v → c ≢ 0 → scale c x ≡ 0 → x ≡ 0
  scale_nonzero c x hc hx ne e =
      let i = space.field.inverses c (pos_of_ne-zero ne) hc in
      sym (s.one-scale x hx) ∙ ap (λ t. scale t x) (sym i.2 ∙ r.products_commute c i.0) ∙ s.mul-scale i.0 c x ∙ ap (scale i.0) e ∙ scale-zero i.0

  -- different multiples of a vector but 0
  pub scale_cancel : (x a b : ℕ) → x < v → x ≢ 0 → a < q → b < q → scale a x ≡ scale b x → a ≡ b
  scale_cancel x a b hx ne ha hb same =
      let c = difference q add mul r a b hb in
      let none : scale c.0 x ≡ 0 = sum_cancel (scale a x) (scale c.0 x) 0 (s.multiples_below c.0 x) space.some
      (sym (s.add-scale a c.0 x) ∙ ap (λ t. scale t x) c.2 ∙ sym same ∙ sym (s.zero_neutral (scale a x) (s.multiples_below a x))) in
      elim (cases_eq c.0 0) [
        | inl z ↦ sym (r.zero_neutral a ha) ∙ ap (add a) (sym z) ∙ c.2
        | inr nz ↦ absurd (ne (scale_nonzero c.0 x c.1 hx nz none))
      ]

  -- ---- lines
  unfoldable pub line : ℕ → ℕ → List ℕ
  line p e = list_below q (λ t. sum p (scale t e))

  abbrev pub IsOn : ℕ → ℕ → ℕ → Type 0
  IsOn p e z = (t : ℕ) × (t < q) × (sum p (scale t e) ≡ z)

  pub on_line : (p e z : ℕ) → holds z (line p e) ≡ true → IsOn p e z
  unfolding line
  on_line p e z h = holds_below q z (λ t. sum p (scale t e)) h

  pub on_line-from : (p e z : ℕ) → IsOn p e z → holds z (line p e) ≡ true
  unfolding line
  on_line-from p e z on = holds_below-from q z (λ t. sum p (scale t e)) on.0 on.1 on.2

  pub line_size : (p e : ℕ) → length (line p e) ≡ q
  unfolding line
  line_size p e = length-list_below q (λ t. sum p (scale t e))

  pub line_below : (p e : ℕ) → AllByRecursion (λ z. z < v) (line p e)
  unfolding line
  line_below p e = each_below (λ z. z < v) q (λ t. sum p (scale t e)) (λ t l. s.sums_below p (scale t e))

  pub line_differs : (p e : ℕ) → 0 < e → e < v → Differs (line p e)
  unfolding line
  line_differs p e pos le = differs_below q (λ t. sum p (scale t e)) (λ a b l m f.
      let g : a ≡ b = scale_cancel e a b le (λ z. absurd (omega arith)) (omega arith) m (sum_cancel p (scale a e) (scale b e) (s.multiples_below a e) (s.multiples_below b e) f) in
      absurd (omega arith))

  pub start_on : (p e : ℕ) → p < v → IsOn p e p
  start_on p e lp = (0, positive, ap (sum p) (zero-scale e) ∙ s.zero_neutral p lp)

  pub step_on : (p e : ℕ) → e < v → IsOn p e (sum p e)
  step_on p e le = (1, r.one_below, ap (sum p) (s.one-scale e le))

  -- moving along a line
  along : (p e a c : ℕ) → sum p (scale (add a c) e) ≡ sum (sum p (scale a e)) (scale c e)
  along p e a c = ap (sum p) (s.add-scale a c e) ∙ sym (s.sums_associate p (scale a e) (scale c e))

  -- the line through p in the direction e is the line from x to y, where both are on it
  module _ (p e x y w : ℕ) (hx : IsOn p e x) (hy : IsOn p e y) (ne : x ≢ y) (hw : w < v) (to_y : sum x w ≡ y) where
    gap : (c : ℕ) × (c < q) × (add hx.0 c ≡ hy.0)
    gap = difference q add mul r hx.0 hy.0 hy.1

    from_x : (c : ℕ) → sum p (scale (add hx.0 c) e) ≡ sum x (scale c e)
    from_x c = along p e hx.0 c ∙ ap (λ t. sum t (scale c e)) hx.2

    gap_positive : 0 < gap.0
    gap_positive = pos_of_ne-zero (λ z. ne (sym hx.2 ∙ ap (λ t. sum p (scale t e)) (sym (r.zero_neutral hx.0 hx.1) ∙ ap (add hx.0) (sym z) ∙ gap.2) ∙ hy.2))

    direction : w ≡ scale gap.0 e
    direction = sum_cancel x w (scale gap.0 e) hw (s.multiples_below gap.0 e) (to_y ∙ sym hy.2 ∙ ap (λ t. sum p (scale t e)) (sym gap.2) ∙ from_x gap.0)

    times_direction : (m : ℕ) → sum x (scale m w) ≡ sum p (scale (add hx.0 (mul m gap.0)) e)
    times_direction m = ap (λ t. sum x (scale m t)) direction ∙ ap (sum x) (sym (s.mul-scale m gap.0 e)) ∙ sym (from_x (mul m gap.0))

    to_pair : (z : ℕ) → IsOn p e z → IsOn x w z
    to_pair z on =
        let rest = difference q add mul r hx.0 on.0 on.1 in
        let m = divide q add mul r space.field.inverses gap.0 rest.0 gap_positive gap.1 rest.1 in
        (m.0, m.1, times_direction m.0 ∙ ap (λ t. sum p (scale (add hx.0 t) e)) (r.products_commute m.0 gap.0 ∙ m.2) ∙ ap (λ t. sum p (scale t e)) rest.2 ∙ on.2)

    to_line : (z : ℕ) → IsOn x w z → IsOn p e z
    to_line z on = (add hx.0 (mul on.0 gap.0), r.sums_below hx.0 (mul on.0 gap.0), sym (times_direction on.0) ∙ on.2)

    pub same_line : (z : ℕ) → holds z (line p e) ≡ holds z (line x w)
    same_line z = bool_same _ _ (λ h. on_line-from x w z (to_pair z (on_line p e z h))) (λ h. on_line-from p e z (to_line z (on_line x w z h)))
