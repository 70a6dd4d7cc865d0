-- The numbers of a range, and a search through them, one after another.
use Rattle.std.proofs.Common.{◌≡◌, ℕ, ◌+◌, ◌-◌, ◌<◌, ◌≤◌, suc, zero, Bool, true, false, Some, [], ◌∷◌, ◌++◌, arith, ap, ◌∙◌}
use Rattle.std.specs.List.{AllByRecursion}
use Rattle.std.specs.Prelude.{Contains}
use Rattle.counting.proofs.Ranges.{each_below, get_or-list_below, length-list_below}
use Rattle.counting.specs.Sums.{join_below, list_below}
use Rattle.counting.specs.Search.{each_passes, first_in, upward}

-- the least number of a range comes first
from_low : (n low : ℕ) → list_below (suc n) (λ i. low + i) ≡ low ∷ list_below n (λ i. (low + 1) + i)
unfolding join_below
from_low zero low = ap (λ t. t ∷ []) (let e : low + 0 ≡ low = omega arith in e)
from_low (suc n) low =
    ap (λ t. t ++ ((low + suc n) ∷ [])) (from_low n low)
    ∙ ap (λ t. low ∷ (list_below n (λ i. (low + 1) + i) ++ (t ∷ []))) (let e : low + suc n ≡ (low + 1) + n = omega arith in e)

pub upward-cons : (low high : ℕ) → low ≤ high → upward low high ≡ low ∷ upward (low + 1) high
upward-cons low high h =
    ap (λ n. list_below n (λ i. low + i)) (let e : high + 1 - low ≡ suc (high + 1 - (low + 1)) = omega arith in e) ∙ from_low (high + 1 - (low + 1)) low

pub upward-none : (low high : ℕ) → high < low → upward low high ≡ []
unfolding join_below
upward-none low high h = ap (λ n. list_below n (λ i. low + i)) (let e : high + 1 - low ≡ 0 = omega arith in e)

pub each-upward : (P : ℕ → Type 0) (low high : ℕ) → ((x : ℕ) → low ≤ x → x ≤ high → P x) → AllByRecursion P (upward low high)
each-upward P low high h = each_below P (high + 1 - low) (λ i. low + i) (λ i l. h (low + i) (omega arith) (omega arith))

pub Contains-upward : (low high x : ℕ) → low ≤ x → x ≤ high → Contains (upward low high) x
Contains-upward low high x l h = (
  x - low,
  omega (arith, length-list_below (high + 1 - low) (λ i. low + i)),
  get_or-list_below (high + 1 - low) (λ i. low + i) (x - low) x (omega arith) ∙ (let e : low + (x - low) ≡ x = omega arith in e),
)

module _ (p : ℕ → Bool) (low high : ℕ) (inside : low ≤ high) where
  pub first_upward_here : p low ≡ true → first_in p (upward low high) ≡ Some low
  unfolding first_in
  first_upward_here e = ap (first_in p) (upward-cons low high inside) ∙ ap (λ b. elim b [ true ↦ Some low | false ↦ first_in p (upward (low + 1) high) ]) e

  pub first_upward_later : p low ≡ false → first_in p (upward low high) ≡ first_in p (upward (low + 1) high)
  unfolding first_in
  first_upward_later e = ap (first_in p) (upward-cons low high inside) ∙ ap (λ b. elim b [ true ↦ Some low | false ↦ first_in p (upward (low + 1) high) ]) e

  pub each_upward_here : p low ≡ false → each_passes p (upward low high) ≡ false
  unfolding each_passes
  each_upward_here e = ap (each_passes p) (upward-cons low high inside) ∙ ap (λ b. elim b [ true ↦ each_passes p (upward (low + 1) high) | false ↦ false ]) e

  pub each_upward_later : p low ≡ true → each_passes p (upward low high) ≡ each_passes p (upward (low + 1) high)
  unfolding each_passes
  each_upward_later e = ap (each_passes p) (upward-cons low high inside) ∙ ap (λ b. elim b [ true ↦ each_passes p (upward (low + 1) high) | false ↦ false ]) e
