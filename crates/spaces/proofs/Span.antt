-- The plane of two vectors, and the vectors in it that are points.
use Rattle.std.proofs.Common.{ap, ap₂, arith, inl, inr, subst, sym, ℕ, ◌<◌, ◌∙◌, ◌≡◌, ◌≢◌}
use Rattle.std.proofs.Math.Nat.{pos_of_ne-zero}
use Rattle.counting.proofs.Booleans.{cases_eq}
use Rattle.design_base.specs.Rings.{HasInverses, IsCommutativeRing}
use Rattle.field_tables.proofs.AnyField.{difference, divide}
use Rattle.spaces.proofs.Space.{IsSpace, positive, scale_nonzero, sum_cancel, zero-scale}
use Rattle.spaces.proofs.VectorSpaces.{IsVectorSpace}

-- the first entry of a vector that is not 0
pub record IsLead (q v : ℕ) (mul scale : ℕ → ℕ → ℕ) (lead : ℕ → ℕ) : Type 0 where
  pub lead_below : (z : ℕ) → lead z < q
  pub lead-scale : (c z : ℕ) → c < q → lead (scale c z) ≡ mul c (lead z)
  pub lead_zero : lead 0 ≡ 0
  pub zero_from_lead : (z : ℕ) → z < v → lead z ≡ 0 → z ≡ 0

module _ (q v : ℕ) (add mul sum scale : ℕ → ℕ → ℕ) (space : IsSpace q v add mul sum scale) (lead : ℕ → ℕ) (l : IsLead q v mul scale lead) where
  abbrev r : IsCommutativeRing q add mul
  r = space.field.ring

  abbrev s : IsVectorSpace q v add mul sum scale
  s = space.vectors

  abbrev inverses : HasInverses q mul
  inverses = space.field.inverses

  -- z is m * x + n * y
  pub record IsMix (x y z m n : ℕ) : Type 0 where
    pub first : m < q
    pub second : n < q
    pub made : sum (scale m x) (scale n y) ≡ z

  abbrev pub InSpan : ℕ → ℕ → ℕ → Type 0
  InSpan x y z = (m : ℕ) × (n : ℕ) × IsMix x y z m n

  -- a vector whose first nonzero entry is 1
  pub record IsPoint (x : ℕ) : Type 0 where
    pub small : x < v
    pub one : lead x ≡ 1

  pub not_zero : (x : ℕ) → IsPoint x → x ≢ 0
  not_zero x p e = let f : lead x ≡ 0 = ap lead e ∙ l.lead_zero in absurd (omega (arith, p.one))

  -- points that are multiples of one another are one
  pub multiple_same : (x y n : ℕ) → IsPoint x → IsPoint y → n < q → scale n x ≡ y → x ≡ y
  multiple_same x y n px py hn e =
      let one : 1 ≡ n = sym py.one ∙ ap lead (sym e) ∙ l.lead-scale n x hn ∙ ap (mul n) px.one ∙ r.one_neutral n hn in
      sym (s.one-scale x px.small) ∙ ap (λ t. scale t x) one ∙ e

  pub unscale : (c z : ℕ) → c < q → c ≢ 0 → z < v → (i : ℕ) × (i < q) × (scale i (scale c z) ≡ z)
  unscale c z hc ne hz =
      let i = inverses c (pos_of_ne-zero ne) hc in
      (i.0, i.1, sym (s.mul-scale i.0 c z) ∙ ap (λ t. scale t z) (r.products_commute i.0 c ∙ i.2) ∙ s.one-scale z hz)

  -- points that are multiples of one vector are one
  pub multiples_same : (x y z c k : ℕ) → IsPoint x → IsPoint y → z < v → c < q → k < q → scale c z ≡ x → scale k z ≡ y → x ≡ y
  multiples_same x y z c k px py hz hc hk e f =
      let i = unscale c z hc (λ g. not_zero x px (sym e ∙ ap (λ t. scale t z) g ∙ zero-scale q v add mul sum scale space z)) hz in
      multiple_same x y (mul k i.0) px py (r.products_below k i.0) (s.mul-scale k i.0 x ∙ ap (scale k) (ap (scale i.0) (sym e) ∙ i.2) ∙ f)

  -- a multiple of a sum of multiples
  pub expand : (c m n x y : ℕ) → scale c (sum (scale m x) (scale n y)) ≡ sum (scale (mul c m) x) (scale (mul c n) y)
  expand c m n x y = s.scale-sum c (scale m x) (scale n y) ∙ ap₂ sum (sym (s.mul-scale c m x)) (sym (s.mul-scale c n y))

  pub turn : (x y z : ℕ) → InSpan x y z → InSpan y x z
  turn x y z h = (h.1, h.0, record { first = h.2.second; second = h.2.first; made = s.sums_commute (scale h.1 y) (scale h.0 x) ∙ h.2.made })

  -- ---- two points of a plane span it
  -- x takes the place of a
  module _ (a b x m n : ℕ) (mix : IsMix a b x m n) (ne : m ≢ 0) where
    grown : (c d : ℕ) → sum (scale c x) (scale d b) ≡ sum (scale (mul c m) a) (scale (add (mul c n) d) b)
    grown c d = ap (λ t. sum (scale c t) (scale d b)) (sym mix.made) ∙ ap (λ t. sum t (scale d b)) (expand c m n a b)
        ∙ s.sums_associate (scale (mul c m) a) (scale (mul c n) b) (scale d b) ∙ ap (sum (scale (mul c m) a)) (sym (s.add-scale (mul c n) d b))

    exchanged : (z : ℕ) → InSpan a b z → InSpan x b z
    exchanged z h =
        let c = divide q add mul r inverses m h.0 (pos_of_ne-zero ne) mix.first h.2.first in
        let d = difference q add mul r (mul c.0 n) h.1 h.2.second in (
          c.0,
          d.0,
          record {
            first = c.1;
            second = d.1;
            made = grown c.0 d.0 ∙ ap₂ (λ t u. sum (scale t a) (scale u b)) (r.products_commute c.0 m ∙ c.2) d.2 ∙ h.2.made;
          },
        )

    exchanged_back : (z : ℕ) → InSpan x b z → InSpan a b z
    exchanged_back z h = (
      mul h.0 m,
      add (mul h.0 n) h.1,
      record {
        first = r.products_below h.0 m;
        second = r.sums_below (mul h.0 n) h.1;
        made = sym (grown h.0 h.1) ∙ h.2.made;
      },
    )

  -- a mix without its first vector
  only_second : (a x y m n : ℕ) → IsMix a x y m n → m ≡ 0 → scale n x ≡ y
  only_second a x y m n mix e =
      sym (s.zero_neutral (scale n x) (s.multiples_below n x)) ∙ s.sums_commute (scale n x) 0
      ∙ ap (λ t. sum t (scale n x)) (sym (zero-scale q v add mul sum scale space a) ∙ ap (λ t. scale t a) (sym e)) ∙ mix.made

  abbrev Alike : ℕ → ℕ → ℕ → ℕ → Type 0
  Alike a b x y = (z : ℕ) → (InSpan a b z → InSpan x y z) × (InSpan x y z → InSpan a b z)

  -- y of the plane of a and x takes the place of a
  second_in : (a x y : ℕ) → IsPoint x → IsPoint y → x ≢ y → InSpan a x y → Alike a x x y
  second_in a x y px py ne h z =
      let nonzero : h.0 ≢ 0 = λ e. ne (multiple_same x y h.1 px py h.2.second (only_second a x y h.0 h.1 h.2 e)) in (
        (λ g. turn y x z (exchanged a x y h.0 h.1 h.2 nonzero z g)),
        (λ g. exchanged_back a x y h.0 h.1 h.2 nonzero z (turn x y z g)),
      )

  pub same_span : (a b x y : ℕ) → IsPoint b → IsPoint x → IsPoint y → x ≢ y → InSpan a b x → InSpan a b y → Alike a b x y
  same_span a b x y pb px py ne ix iy z = elim (cases_eq ix.0 0) [
    | inl e ↦ (let same : b ≡ x = multiple_same b x ix.1 pb px ix.2.second (only_second a b x ix.0 ix.1 ix.2 e) in
        let way = second_in a x y px py ne (subst (λ t. InSpan a t y) same iy) z in
        ((λ g. way.0 (subst (λ t. InSpan a t z) same g)), (λ g. subst (λ t. InSpan a t z) (sym same) (way.1 g))))
    | inr nonzero ↦ (
        let to : (w : ℕ) → InSpan a b w → InSpan x b w = exchanged a b x ix.0 ix.1 ix.2 nonzero in
        let fro : (w : ℕ) → InSpan x b w → InSpan a b w = exchanged_back a b x ix.0 ix.1 ix.2 nonzero in
        let way = second_in b x y px py ne (turn x b y (to y iy)) z in
        ((λ g. way.0 (turn x b z (to z g))), (λ g. fro z (turn b x z (way.1 g)))))
  ]

  pub first_in : (a b : ℕ) → a < v → InSpan a b a
  first_in a b ha = (
    1,
    0,
    record {
      first = r.one_below;
      second = positive q v add mul sum scale space;
      made = ap₂ sum (s.one-scale a ha) (zero-scale q v add mul sum scale space b) ∙ s.zero_neutral a ha;
    },
  )

  pub last_in : (a b : ℕ) → b < v → InSpan a b b
  last_in a b hb = turn b a b (first_in b a hb)

  pub multiple_in : (a b c z m n : ℕ) → IsMix a b z m n → IsMix a b (scale c z) (mul c m) (mul c n)
  multiple_in a b c z m n h = record { first = r.products_below c m; second = r.products_below c n; made = sym (expand c m n a b) ∙ ap (scale c) h.made }

  -- two points are independent: a vector is a mix of them in one way
  module _ (x y : ℕ) (px : IsPoint x) (py : IsPoint y) (ne : x ≢ y) where
    pub one_mix : (z m n i j : ℕ) → IsMix x y z m n → IsMix x y z i j → (m ≡ i) × (n ≡ j)
    one_mix z m n i j f g =
        let c = difference q add mul r m i g.first in
        let k = difference q add mul r j n f.second in
        -- c * x + j * y is n * y, which is j * y + k * y
        let left : sum (scale c.0 x) (scale j y) ≡ scale n y =
        sum_cancel q v add mul sum scale space (scale m x) (sum (scale c.0 x) (scale j y)) (scale n y) (s.sums_below (scale c.0 x) (scale j y)) (s.multiples_below n y)
        (sym (s.sums_associate (scale m x) (scale c.0 x) (scale j y)) ∙ ap (λ t. sum t (scale j y)) (sym (s.add-scale m c.0 x) ∙ ap (λ t. scale t x) c.2) ∙ g.made ∙ sym f.made) in
        let even : scale c.0 x ≡ scale k.0 y =
        sum_cancel q v add mul sum scale space (scale j y) (scale c.0 x) (scale k.0 y) (s.multiples_below c.0 x) (s.multiples_below k.0 y)
        (s.sums_commute (scale j y) (scale c.0 x) ∙ left ∙ ap (λ t. scale t y) (sym k.2) ∙ s.add-scale j k.0 y) in
        elim (cases_eq c.0 0) [
          | inl none ↦ elim (cases_eq k.0 0) [
            | inl gone ↦ (sym (r.zero_neutral m f.first) ∙ ap (add m) (sym none) ∙ c.2, sym (sym (r.zero_neutral j g.second) ∙ ap (add j) (sym gone) ∙ k.2))
            | inr some ↦ absurd (not_zero y py (scale_nonzero q v add mul sum scale space k.0 y k.1 py.small some (sym even ∙ ap (λ t. scale t x) none ∙ zero-scale q v add mul sum scale space x)))
          ]
          | inr some ↦ (
              let i = unscale c.0 x c.1 some px.small in
              absurd (ne (sym (multiple_same y x (mul i.0 k.0) py px (r.products_below i.0 k.0) (s.mul-scale i.0 k.0 y ∙ ap (scale i.0) (sym even) ∙ i.2)))))
        ]
