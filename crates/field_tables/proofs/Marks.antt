-- Powers that are marked, one after another.
use Rattle.std.proofs.Common.{◌≡◌, ℕ, ◌<◌, suc, Bool, true, false, List, length, slice_index_or, slice_set, replicate, arith, ap, sym, ◌∙◌, inl, inr}
use Rattle.std.specs.Prelude.{◌||◌}
use Rattle.counting.proofs.Booleans.{cases_eq, cases_lt, eq-eqb, ne_eqb, or_false, or_true}
use Rattle.std.proofs.lemmas.List.{get_or-set_other, get_or-replicate, length-replicate}
use Rattle.std.proofs.Math.ListN.{get_or-eq_default}
use Rattle.std.proofs.lemmas.Grind.{get_or-set_at}
use Rattle.counting.specs.Search.{is_among}
use Rattle.design_base.specs.Fields.{powers_from}

-- y is marked, or comes among the next n powers
abbrev pub comes : (ℕ → ℕ → ℕ) → ℕ → ℕ → ℕ → List Bool → ℕ → Bool
comes mul g power n seen y = slice_index_or seen y false || is_among y (powers_from mul g power n)

-- once there are no more powers
pub comes_last : (mul : ℕ → ℕ → ℕ) (g power : ℕ) (seen : List Bool) (y : ℕ) → comes mul g power 0 seen y ≡ slice_index_or seen y false
unfolding powers_from is_among
comes_last mul g power seen y = or_false (slice_index_or seen y false)

-- the next power is marked
pub comes_step : (mul : ℕ → ℕ → ℕ) (g power n : ℕ) (seen : List Bool) (y : ℕ) → power < length seen →
    comes mul g power (suc n) seen y ≡ comes mul g (mul power g) n (slice_set seen power true) y
unfolding powers_from is_among
comes_step mul g power n seen y hp =
    let rest : Bool = is_among y (powers_from mul g (mul power g) n) in
    elim (cases_eq y power) [
      | inl same ↦
          ap (λ b. slice_index_or seen y false || elim b [ true ↦ true | false ↦ rest ]) (eq-eqb y power same)
          ∙ or_true (slice_index_or seen y false)
          ∙ sym (ap (λ b. b || rest) (get_or-set_at seen power y true false same hp))
      | inr other ↦
          ap (λ b. slice_index_or seen y false || elim b [ true ↦ true | false ↦ rest ]) (ne_eqb y power other)
          ∙ sym (ap (λ b. b || rest) (get_or-set_other seen power y true false other))
    ]

-- where none is marked
pub comes_first : (mul : ℕ → ℕ → ℕ) (g power n q : ℕ) (y : ℕ) → comes mul g power n (replicate q false) y ≡ is_among y (powers_from mul g power n)
comes_first mul g power n q y = ap (λ b. b || is_among y (powers_from mul g power n)) (unmarked q y)
  where
    unmarked : (q y : ℕ) → slice_index_or (replicate q false) y false ≡ false
    unmarked q y = elim (cases_lt y q) [
      | inl inside ↦ get_or-replicate q y false false inside
      | inr past ↦ get_or-eq_default (replicate q false) false (omega (arith, length-replicate {A = Bool} q false))
    ]
