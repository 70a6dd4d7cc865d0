-- The vectors of a plane by their three entries.
use Rattle.std.proofs.Common.{ap, ap₂, arith, sym, ℕ, ◌%◌, ◌*◌, ◌+◌, ◌/◌, ◌<◌, ◌^◌, ◌∙◌, ◌≡◌, ◌≢◌}
use Rattle.std.proofs.Math.Nat.{mod-lt}
use Rattle.design_base.specs.Rings.{IsCommutativeRing, IsField}
use Rattle.field_tables.proofs.Numbers.{number-digits}
use Rattle.spaces.proofs.Leads.{is_lead}
use Rattle.spaces.proofs.Space.{IsSpace, zero-scale}
use Rattle.spaces.proofs.Span.{IsPoint, one_mix}
use Rattle.spaces.proofs.VectorSpaces.{IsVectorSpace, combination_below}
use Rattle.spaces.specs.Points.{lead}
use Rattle.spaces.specs.Vectors.{combination, multiple, vector_sum}
use Rattle.plane_curves.specs.Secants.{IsOver, entries}
use Rattle.plane_curves.specs.declared.vectors.Vector.{Vector}
use Rattle.plane_curves.proofs.Arcs.{entry_first, entry_rest}
use Rattle.plane_curves.proofs.Hermitian.{IsIndependent, mixed}
use Rattle.plane_curves.proofs.Sections.{vectors}

abbrev made : ℕ → ℕ → ℕ → Vector
made a b c = record { a = a; b = b; c = c }

pub same_entries : (a d b e c f : ℕ) → a ≡ d → b ≡ e → c ≡ f → made a b c ≡ made d e f
same_entries a d b e c f p q r = ap (λ t. made t b c) p ∙ ap (λ t. made d t c) q ∙ ap (made d e) r

module _ (q : ℕ) (add mul : ℕ → ℕ → ℕ) (field : IsField q add mul) where
  abbrev r : IsCommutativeRing q add mul
  r = field.ring

  abbrev sum : ℕ → ℕ → ℕ
  sum = vector_sum add q 3

  abbrev scale : ℕ → ℕ → ℕ
  scale = multiple mul q 3

  abbrev space : IsSpace q (q ^ 3) add mul sum scale
  space = vectors q add mul field 3

  abbrev s : IsVectorSpace q (q ^ 3) add mul sum scale
  s = space.vectors

  positive : 0 < q
  positive = omega (arith, r.one_below)

  pub entries_below : (z : ℕ) → IsOver q (entries q z)
  unfolding entries
  entries_below z = record { a = mod-lt z positive; b = mod-lt (z / q) positive; c = mod-lt (z / q / q) positive }

  pub entries-mix : (m x n y : ℕ) → entries q (combination add mul q 3 m x n y) ≡ mixed add mul m (entries q x) n (entries q y)
  unfolding entries mixed
  entries-mix m x n y = same_entries _ _ _ _ _ _
      (entry_first q add mul field 2 m x n y)
      (ap (λ t. t % q) (entry_rest q add mul field 2 m x n y) ∙ entry_first q add mul field 1 m (x / q) n (y / q))
      (ap (λ t. t / q % q) (entry_rest q add mul field 2 m x n y) ∙ ap (λ t. t % q) (entry_rest q add mul field 1 m (x / q) n (y / q)) ∙ entry_first q add mul field 0 m (x / q / q) n (y / q / q))

  abbrev number_of : Vector → ℕ
  number_of x = x.a + q * (x.b + q * (x.c + q * 0))

  -- the entries tell the vector
  pub entries_once : (y z : ℕ) → y < q ^ 3 → z < q ^ 3 → entries q y ≡ entries q z → y ≡ z
  unfolding entries
  entries_once y z l m e = sym (number-digits q positive 3 y l) ∙ ap number_of e ∙ number-digits q positive 3 z m

  zero_entries : (z : ℕ) → z < q ^ 3 → (entries q z).a ≡ 0 → (entries q z).b ≡ 0 → (entries q z).c ≡ 0 → z ≡ 0
  unfolding entries
  zero_entries z l a b c = sym (number-digits q positive 3 z l) ∙ omega (arith, a, b, c, ap (λ t. q * t) b, ap (λ t. q * (z / q % q + q * t)) c)

  abbrev Is : ℕ → Type 0
  Is x = IsPoint q (q ^ 3) add mul sum scale space (lead q 3) (is_lead q add mul field 3) x

  module _ (x y : ℕ) (hx : Is x) (hy : Is y) (apart : x ≢ y) where
    -- the weights of the vector 0
    pub no_weights : (m n : ℕ) → m < q → n < q → combination add mul q 3 m x n y ≡ 0 → (m ≡ 0) × (n ≡ 0)
    unfolding combination
    no_weights m n lm ln e = one_mix q (q ^ 3) add mul sum scale space (lead q 3) (is_lead q add mul field 3) x y hx hy apart 0 m n 0 0
        (record { first = lm; second = ln; made = e })
        (record {
          first = positive;
          second = positive;
          made = ap₂ sum (zero-scale q (q ^ 3) add mul sum scale space x) (zero-scale q (q ^ 3) add mul sum scale space y) ∙ s.zero_neutral 0 space.some;
        })

    pub independent : IsIndependent q add mul (entries q x) (entries q y)
    independent m n lm ln a b c =
        let same = entries-mix m x n y in
        no_weights m n lm ln (zero_entries (combination add mul q 3 m x n y) (combination_below q add mul r 3 m x n y) (ap (λ (e : Vector). e.a) same ∙ a) (ap (λ (e : Vector). e.b) same ∙ b) (ap (λ (e : Vector). e.c) same ∙ c))
