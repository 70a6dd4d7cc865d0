-- The vectors on the line of two points are those with which the determinant of the three is 0.
use Rattle.std.proofs.Common.{ap, ap₂, arith, inl, inr, subst, sym, true, ℕ, ◌<◌, ◌^◌, ◌∙◌, ◌≡◌, ◌≢◌}
use Rattle.std.proofs.Math.Nat.{pos_of_ne-zero}
use Rattle.counting.proofs.Booleans.{bool_same, cases_eq, eq-eqb, eqb-true}
use Rattle.design_base.specs.Blocks.{holds}
use Rattle.design_base.specs.Rings.{IsField}
use Rattle.field_tables.proofs.AnyField.{field_laws}
use Rattle.spaces.proofs.VectorSpaces.{combination_below}
use Rattle.spaces.specs.Lines.{subspace}
use Rattle.spaces.specs.Vectors.{combination}
use Rattle.plane_curves.specs.Secants.{dot, entries, half_cross, is_on_line}
use Rattle.plane_curves.specs.declared.vectors.Vector.{Vector}
use Rattle.plane_curves.proofs.Hermitian.{mixed}
use Rattle.plane_curves.proofs.Planes.{entries-mix, entries_below, entries_once, independent, same_entries}
use Rattle.plane_curves.proofs.Sections.{Is, in_plane, plane_holds}

-- a field, by numbers alone
module _ (q : ℕ) (add mul : ℕ → ℕ → ℕ) (field : IsField q add mul) where
  open field use {ring as r}
  open field_laws q add mul field use {add_cancel, difference, distribute_right, divide, mul-zero, mul_cancel, products_left, sums_left}

  -- half of the terms of the determinant of (a, b, c), (d, e, f) and (u, v, w)
  half : (a b c d e f u v w : ℕ) → ℕ
  half a b c d e f u v w = add (mul (mul b f) u) (add (mul (mul c d) v) (mul (mul a e) w))

  -- the other half is that with the first two exchanged; both are linear in the third
  half-mix : (a b c d e f u v w x y z m n : ℕ) →
      half a b c d e f (add (mul m u) (mul n x)) (add (mul m v) (mul n y)) (add (mul m w) (mul n z)) ≡ add (mul m (half a b c d e f u v w)) (mul n (half a b c d e f x y z))
  unfolding half
  half-mix a b c d e f u v w x y z m n = simp (r.products_distribute, distribute_right, r.products_associate, r.products_commute, products_left, r.sums_associate, r.sums_commute, sums_left)

  half-first : (a b c d e f : ℕ) → half a b c d e f a b c ≡ half d e f a b c a b c
  unfolding half
  half-first a b c d e f = simp (r.products_associate, r.products_commute, products_left, r.sums_associate, r.sums_commute, sums_left)

  half-second : (a b c d e f : ℕ) → half a b c d e f d e f ≡ half d e f a b c d e f
  unfolding half
  half-second a b c d e f = simp (r.products_associate, r.products_commute, products_left, r.sums_associate, r.sums_commute, sums_left)

  half-turn : (a b c d e f u v w : ℕ) → half a b c d e f u v w ≡ half b c a e f d v w u
  unfolding half
  half-turn a b c d e f u v w = simp (r.sums_associate, r.sums_commute, sums_left)

  mix_halves : (a b c d e f m n : ℕ) →
      half a b c d e f (add (mul m a) (mul n d)) (add (mul m b) (mul n e)) (add (mul m c) (mul n f)) ≡ half d e f a b c (add (mul m a) (mul n d)) (add (mul m b) (mul n e)) (add (mul m c) (mul n f))
  mix_halves a b c d e f m n =
      half-mix a b c d e f a b c d e f m n ∙ ap₂ (λ s t. add (mul m s) (mul n t)) (half-first a b c d e f) (half-second a b c d e f) ∙ sym (half-mix d e f a b c a b c d e f m n)

  record IsMixOf (a b c d e f u v w m n : ℕ) : Type 0 where
    first : m < q
    second : n < q
    one : add (mul m a) (mul n d) ≡ u
    two : add (mul m b) (mul n e) ≡ v
    three : add (mul m c) (mul n f) ≡ w

  -- Cramer's rule, where a * e differs from d * b
  module _ (a b c d e f u v w : ℕ) (hu : u < q) (hv : v < q) (hw : w < q) (ne : mul a e ≢ mul d b)
      (flat : half a b c d e f u v w ≡ half d e f a b c u v w) where
    det : (t : ℕ) × (t < q) × (add (mul d b) t ≡ mul a e)
    det = difference (mul d b) (mul a e) (r.products_below a e)

    det_positive : 0 < det.0
    unfolding det
    det_positive = pos_of_ne-zero (λ z. ne (sym (difference (mul d b) (mul a e) (r.products_below a e)).2 ∙ ap (add (mul d b)) z ∙ r.zero_neutral (mul d b) (r.products_below d b)))

    -- the two minors
    left : (t : ℕ) × (t < q) × (add (mul v d) t ≡ mul u e)
    left = difference (mul v d) (mul u e) (r.products_below u e)

    right : (t : ℕ) × (t < q) × (add (mul b u) t ≡ mul a v)
    right = difference (mul b u) (mul a v) (r.products_below a v)

    abbrev R : ℕ
    R = right.0

    -- left * s + right * t is the determinant times y
    minors : (s t y rest : ℕ) → add (mul (mul u e) s) (mul (mul a v) t) ≡ add rest (mul (mul a e) y) → add rest (mul (mul d b) y) ≡ add (mul (mul v d) s) (mul (mul b u) t) →
        add (mul left.0 s) (mul right.0 t) ≡ mul det.0 y
    minors s t y rest between lowered = add_cancel (add (mul (mul v d) s) (mul (mul b u) t)) (add (mul left.0 s) (mul right.0 t)) (mul det.0 y) (r.sums_below (mul left.0 s) (mul right.0 t)) (r.products_below det.0 y)
        (raised left.0 right.0
        ∙ ap₂ (λ l m. add (mul l s) (mul m t)) left.2 right.2
        ∙ between
        ∙ ap (λ w. add rest (mul w y)) (sym det.2)
        ∙ ap (add rest) (distribute_right (mul d b) det.0 y)
        ∙ sym (r.sums_associate rest (mul (mul d b) y) (mul det.0 y))
        ∙ ap (λ w. add w (mul det.0 y)) lowered)
      where
        raised : (l m : ℕ) → add (add (mul (mul v d) s) (mul (mul b u) t)) (add (mul l s) (mul m t)) ≡ add (mul (add (mul v d) l) s) (mul (add (mul b u) m) t)
        raised l m = simp (distribute_right, r.sums_associate, r.sums_commute, sums_left)

    minors_first : add (mul left.0 a) (mul right.0 d) ≡ mul det.0 u
    minors_first = minors a d u (mul (mul v d) a) between lowered
      where
        between : add (mul (mul u e) a) (mul (mul a v) d) ≡ add (mul (mul v d) a) (mul (mul a e) u)
        between = simp (r.products_associate, r.products_commute, products_left, r.sums_commute)

        lowered : add (mul (mul v d) a) (mul (mul d b) u) ≡ add (mul (mul v d) a) (mul (mul b u) d)
        lowered = simp (r.products_associate, r.products_commute, products_left)

    minors_second : add (mul left.0 b) (mul right.0 e) ≡ mul det.0 v
    minors_second = minors b e v (mul (mul b u) e) between lowered
      where
        between : add (mul (mul u e) b) (mul (mul a v) e) ≡ add (mul (mul b u) e) (mul (mul a e) v)
        between = simp (r.products_associate, r.products_commute, products_left, r.sums_commute)

        lowered : add (mul (mul b u) e) (mul (mul d b) v) ≡ add (mul (mul v d) b) (mul (mul b u) e)
        lowered = simp (r.products_associate, r.products_commute, products_left, r.sums_commute)

    m : (t : ℕ) × (t < q) × (mul det.0 t ≡ left.0)
    m = divide det.0 left.0 det_positive det.1 left.1

    n : (t : ℕ) × (t < q) × (mul det.0 t ≡ right.0)
    n = divide det.0 right.0 det_positive det.1 right.1

    divided : (s t y : ℕ) → y < q → add (mul left.0 s) (mul right.0 t) ≡ mul det.0 y → add (mul m.0 s) (mul n.0 t) ≡ y
    divided s t y l e = mul_cancel det.0 (add (mul m.0 s) (mul n.0 t)) y det_positive det.1 (r.sums_below (mul m.0 s) (mul n.0 t)) l
        (r.products_distribute det.0 (mul m.0 s) (mul n.0 t) ∙ ap₂ add (sym (r.products_associate det.0 m.0 s) ∙ ap (λ x. mul x s) m.2) (sym (r.products_associate det.0 n.0 t) ∙ ap (λ x. mul x t) n.2) ∙ e)

    -- what the determinant says of the third entry
    third : (y : ℕ) → half a b c d e f u v y ≡ half d e f a b c u v y → add (add (mul (mul b f) u) (mul (mul c d) v)) (mul det.0 y) ≡ add (mul (mul e c) u) (mul (mul f a) v)
    unfolding half
    third y h = add_cancel (mul (mul d b) y) _ _ (r.sums_below _ _) (r.sums_below _ _)
        (raised det.0 ∙ ap (λ t. add (mul (mul b f) u) (add (mul (mul c d) v) (mul t y))) det.2 ∙ h ∙ lowered)
      where
        raised : (t : ℕ) → add (mul (mul d b) y) (add (add (mul (mul b f) u) (mul (mul c d) v)) (mul t y)) ≡ add (mul (mul b f) u) (add (mul (mul c d) v) (mul (add (mul d b) t) y))
        raised t = simp (distribute_right, r.sums_associate, r.sums_commute, sums_left)

        lowered : add (mul (mul e c) u) (add (mul (mul f a) v) (mul (mul d b) y)) ≡ add (mul (mul d b) y) (add (mul (mul e c) u) (mul (mul f a) v))
        lowered = simp (r.sums_associate, r.sums_commute, sums_left)

    last : add (mul m.0 c) (mul n.0 f) ≡ w
    last =
        let x = add (mul m.0 c) (mul n.0 f) in
        let alike : half a b c d e f u v x ≡ half d e f a b c u v x =
        subst (λ s. half a b c d e f s v x ≡ half d e f a b c s v x) (divided a d u hu minors_first)
        (subst (λ t. half a b c d e f (add (mul m.0 a) (mul n.0 d)) t x ≡ half d e f a b c (add (mul m.0 a) (mul n.0 d)) t x) (divided b e v hv minors_second) (mix_halves a b c d e f m.0 n.0)) in
        mul_cancel det.0 x w det_positive det.1 (r.sums_below (mul m.0 c) (mul n.0 f)) hw
        (add_cancel (add (mul (mul b f) u) (mul (mul c d) v)) (mul det.0 x) (mul det.0 w) (r.products_below det.0 x) (r.products_below det.0 w) (third x alike ∙ sym (third w flat)))

    solved : (m : ℕ) × (n : ℕ) × IsMixOf a b c d e f u v w m n
    solved = (m.0, n.0, record { first = m.1; second = n.1; one = divided a d u hu minors_first; two = divided b e v hv minors_second; three = last })

  negative : ℕ → ℕ
  negative x = (r.negatives x).0

  cancels : (a e x : ℕ) → x ≡ mul a e → add x (mul (negative a) e) ≡ 0
  unfolding negative
  cancels a e x h = ap (λ t. add t (mul (r.negatives a).0 e)) h ∙ sym (distribute_right a (r.negatives a).0 e) ∙ ap (λ t. mul t e) (r.negatives a).2 ∙ r.products_commute 0 e ∙ mul-zero e

  abbrev AreApart : (a b c d e f : ℕ) → Type 0
  AreApart a b c d e f = (m n : ℕ) → m < q → n < q → add (mul m a) (mul n d) ≡ 0 → add (mul m b) (mul n e) ≡ 0 → add (mul m c) (mul n f) ≡ 0 → (m ≡ 0) × (n ≡ 0)

  module _ (a b c d e f : ℕ) (hd : d < q) (he : e < q) (hf : f < q) (apart : AreApart a b c d e f) where
    not_all : mul a e ≡ mul d b → mul b f ≡ mul e c → mul c d ≡ mul f a → ⊥
    unfolding negative
    not_all p s t =
        let below = λ (x : ℕ). (r.negatives x).1 in
        let zero_d : d ≡ 0 = (apart d (negative a) hd (below a) (cancels a d (mul d a) (r.products_commute d a)) (cancels a e (mul d b) (sym p)) (cancels a f (mul d c) (r.products_commute d c ∙ t ∙ r.products_commute f a))).0 in
        let zero_e : e ≡ 0 = (apart e (negative b) he (below b) (cancels b d (mul e a) (r.products_commute e a ∙ p ∙ r.products_commute d b)) (cancels b e (mul e b) (r.products_commute e b)) (cancels b f (mul e c) (sym s))).0 in
        let zero_f : f ≡ 0 = (apart f (negative c) hf (below c) (cancels c d (mul f a) (sym t)) (cancels c e (mul f b) (r.products_commute f b ∙ s ∙ r.products_commute e c)) (cancels c f (mul f c) (r.products_commute f c))).0 in
        let none : (x y : ℕ) → y ≡ 0 → add (mul 0 x) (mul 1 y) ≡ 0 = λ x y z. ap₂ add (r.products_commute 0 x ∙ mul-zero x) (ap (mul 1) z ∙ mul-zero 1) ∙ r.zero_neutral 0 (omega (arith, r.one_below)) in
        let h : ◌≡◌ {A = ℕ} 1 0 = (apart 0 1 (omega (arith, r.one_below)) r.one_below (none a d zero_d) (none b e zero_e) (none c f zero_f)).1 in
        absurd (omega arith)

    abbrev Mixes : ℕ → ℕ → ℕ → Type 0
    Mixes u v w = (m : ℕ) × (n : ℕ) × IsMixOf a b c d e f u v w m n

    mix_from : (u v w : ℕ) → u < q → v < q → w < q → half a b c d e f u v w ≡ half d e f a b c u v w → Mixes u v w
    mix_from u v w hu hv hw flat = elim (cases_eq (mul a e) (mul d b)) [
      | inr ne ↦ solved a b c d e f u v w hu hv hw ne flat
      | inl p ↦ elim (cases_eq (mul b f) (mul e c)) [
        | inr ne ↦
            let t = solved b c a e f d v w u hv hw hu ne (sym (half-turn a b c d e f u v w) ∙ flat ∙ half-turn d e f a b c u v w) in
            (t.0, t.1, record { first = t.2.first; second = t.2.second; one = t.2.three; two = t.2.one; three = t.2.two })
        | inl s ↦ elim (cases_eq (mul c d) (mul f a)) [
          | inr ne ↦
              let t = solved c a b f d e w u v hw hu hv ne (half-turn c a b f d e w u v ∙ flat ∙ sym (half-turn f d e c a b w u v)) in
              (t.0, t.1, record { first = t.2.first; second = t.2.second; one = t.2.two; two = t.2.three; three = t.2.one })
          | inl t ↦ absurd (not_all p s t)
        ]
      ]
    ]

  -- ---- the same of the points of a plane
  module _ (x y : ℕ) (hx : Is q add mul field 3 x) (hy : Is q add mul field 3 y) (ne : x ≢ y) where
    abbrev X : Vector
    X = entries q x

    abbrev Y : Vector
    Y = entries q y

    to_plane : (z : ℕ) → z < q ^ 3 → is_on_line add mul X Y (entries q z) ≡ true → holds z (subspace add mul q 3 x y) ≡ true
    unfolding is_on_line dot half_cross half mixed combination
    to_plane z l h =
        let Z = entries q z in
        let below = entries_below q add mul field z in
        let over = entries_below q add mul field y in
        let t = mix_from X.a X.b X.c Y.a Y.b Y.c over.a over.b over.c (independent q add mul field x y hx hy ne) Z.a Z.b Z.c below.a below.b below.c (eqb-true _ _ h) in
        plane_holds q add mul field 3 x y z (
          t.0,
          t.1,
          record {
            first = t.2.first;
            second = t.2.second;
            made = entries_once q add mul field (combination add mul q 3 t.0 x t.1 y) z (combination_below q add mul r 3 t.0 x t.1 y) l
                (entries-mix q add mul field t.0 x t.1 y ∙ same_entries _ Z.a _ Z.b _ Z.c t.2.one t.2.two t.2.three);
          },
        )

    from_plane : (z : ℕ) → holds z (subspace add mul q 3 x y) ≡ true → is_on_line add mul X Y (entries q z) ≡ true
    unfolding is_on_line dot half_cross half mixed combination
    from_plane z h =
        let i = in_plane q add mul field 3 x y z h in
        subst (λ Z. is_on_line add mul X Y Z ≡ true) (sym (entries-mix q add mul field i.0 x i.1 y) ∙ ap (entries q) i.2.made)
        (eq-eqb _ _ (mix_halves X.a X.b X.c Y.a Y.b Y.c i.0 i.1))

    pub on_line : (z : ℕ) → z < q ^ 3 → is_on_line add mul X Y (entries q z) ≡ holds z (subspace add mul q 3 x y)
    on_line z l = bool_same _ _ (to_plane z l) (from_plane z)
