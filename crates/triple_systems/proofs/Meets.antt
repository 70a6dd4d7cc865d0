-- Which points the triple above two numbers holds.
use Rattle.std.proofs.Common.{inl, inr, sym, true, ℕ, ◌<◌, ◌≡◌, ◌⊎◌}
use Rattle.design_base.proofs.Places.{stands, stands-from}
use Rattle.design_base.specs.Arrays.{place}
use Rattle.design_base.specs.Blocks.{holds}
use Rattle.triple_systems.specs.Triples.{triple}

module _ (n : ℕ) (op : ℕ → ℕ → ℕ) (i j : ℕ) where
  -- the triple above p and q, with its product in group j, holds the point (x,c)
  abbrev pub Meets : ℕ → ℕ → ℕ → ℕ → Type 0
  Meets c x p q = ((c ≡ i) × ((p ≡ x) ⊎ (q ≡ x))) ⊎ ((c ≡ j) × (op p q ≡ x))

  pub meets : (c x p q : ℕ) → x < n → p < n → q < n → op p q < n → holds (place n c x) (triple n i j p q (op p q)) ≡ true → Meets c x p q
  meets c x p q l a b small h = elim (stands n i p i q j (op p q) c x a b small l h) [
    | inl e ↦ inl (sym e.0, inl e.1)
    | inr (inl e) ↦ inl (sym e.0, inr e.1)
    | inr (inr e) ↦ inr (sym e.0, e.1)
  ]

  pub meets-from : (c x p q : ℕ) → Meets c x p q → holds (place n c x) (triple n i j p q (op p q)) ≡ true
  meets-from c x p q (inl (e, inl f)) = stands-from n i p i q j (op p q) c x (inl (sym e, f))
  meets-from c x p q (inl (e, inr f)) = stands-from n i p i q j (op p q) c x (inr (inl (sym e, f)))
  meets-from c x p q (inr (e, f)) = stands-from n i p i q j (op p q) c x (inr (inr (sym e, f)))
