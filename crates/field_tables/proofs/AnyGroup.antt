-- What follows in any commutative group of the numbers below q.
use Rattle.std.proofs.Common.{◌≡◌, ℕ, ◌<◌, ap, sym, ◌∙◌}
use Rattle.design_base.specs.Rings.{IsCommutativeRing}
use Rattle.field_tables.specs.Laws.{IsCommutativeGroup}

module _ (q : ℕ) (add : ℕ → ℕ → ℕ) (g : IsCommutativeGroup q add) where
  -- the first two change places
  pub group_left : (x y z : ℕ) → add x (add y z) ≡ add y (add x z)
  group_left x y z = sym (g.sums_associate x y z) ∙ ap (λ t. add t z) (g.sums_commute x y) ∙ g.sums_associate y x z

  -- the negative takes a sum back
  undo : (x y : ℕ) → y < q → add (add x y) (g.negatives x).0 ≡ y
  undo x y h = ap (λ t. add t (g.negatives x).0) (g.sums_commute x y) ∙ g.sums_associate y x (g.negatives x).0 ∙ ap (add y) (g.negatives x).2 ∙ g.zero_neutral y h

  -- a sum by one element tells the other
  pub group_cancel : (x y z : ℕ) → y < q → z < q → add x y ≡ add x z → y ≡ z
  group_cancel x y z hy hz e = sym (undo x y hy) ∙ ap (λ t. add t (g.negatives x).0) e ∙ undo x z hz

  -- x and the difference make z
  pub group_difference : (x z : ℕ) → z < q → (d : ℕ) × (d < q) × (add x d ≡ z)
  group_difference x z h = (
    add z (g.negatives x).0,
    g.sums_below z (g.negatives x).0,
    group_left x z (g.negatives x).0 ∙ ap (add z) (g.negatives x).2 ∙ g.zero_neutral z h,
  )

-- the sums of a ring
pub ring_sums : (q : ℕ) (add mul : ℕ → ℕ → ℕ) → IsCommutativeRing q add mul → IsCommutativeGroup q add
ring_sums q add mul r = record {
  sums_below = r.sums_below;
  sums_commute = r.sums_commute;
  sums_associate = r.sums_associate;
  zero_neutral = r.zero_neutral;
  negatives = r.negatives;
}
